-- What ACCEPTED means, from the chain of the work: no formula is open, so each holds, and so the specification is secure.
use Rattle.std.proofs.Common.{◌≡◌, ◌∙◌, ℕ, zero, suc, List, [], ◌∷◌, Option, None, Result, Ok, Err, ap, inl, inr, refl, sym, subst}
use Rattle.std.specs.List.{All}
use Rattle.std.proofs.lemmas.List.Elements.{All-cons, All-head, All-nil, All-tail, All-weaker}
use Rattle.sp_text.specs.declared.fault.SpecFault.{SpecFault}
use Rattle.sp_text.specs.declared.fault.TextFault.{TextFault}
use Rattle.sp_text.specs.declared.fault.TextFault.TheVariants as fault
use Rattle.sp_outside.specs.Files.{Files}
use Rattle.sp_tree.specs.declared.instance.InstanceTree.{InstanceTree}
use Rattle.sp_core.specs.Instances.{IsAdmissible, IsSecure, InstanceParts, filling_of, machine_of}
use Rattle.sp_core.specs.Parts.{Parts}
use Rattle.sp_core.specs.WellFormed.{IsWellFormed}
use Rattle.sp_scopes.specs.declared.scopes.Scopes.{Scopes}
use Rattle.sp_claims.specs.Laws.{ClosedClaimsHold}
use Rattle.sp_claims.specs.Models.{ClaimHolds, HoldsIn}
use Rattle.sp_formulas.specs.Formulas.{Formula, formulas}
use Rattle.sp_formulas.specs.Limits.{first_fault}
use Rattle.sp_formulas.specs.Typed.{AreTypedFormulas, IsTypedFormula}
use Rattle.sp_formula_laws.specs.Laws.{FormulasAreTyped}
use Rattle.sp_hold.specs.Holding.{claim}
use Rattle.sp_hold.specs.Laws.{UnwindingLaw}
use Rattle.sp_instance.specs.Instances.{instance_broken, instance_of}
use Rattle.sp_instance.proofs.Made.{made}
use Rattle.sp_frame.specs.declared.refusal.Refusal.{Refusal}
use Rattle.sp_frame.specs.declared.refusal.Verdict.TheVariants as verdict
use Rattle.sp_frame.specs.Endings.{printed, verdict_of}
use Rattle.sp_frame.specs.Steps.{IsNamed, Judged, Onward}
use Rattle.sp_system.specs.Instances.{Admitted, InstanceJudged, InstanceMade}
use Rattle.sp_system.specs.Interfaces.{Elaborates, InterfaceJudged, IsFaulty, IsFiled, IsOnlySpec, file_of}
use Rattle.sp_system.specs.System.{SampleJudged, SystemJudged, SystemRead, sample_file}
use Rattle.sp_system.specs.declared.interface.Elaborated.{Elaborated}
use Rattle.sp_system.specs.declared.system.System.{System}
use Rattle.sp_formula_list.specs.Listed.{FormulasListed}
use Rattle.sp_formula_list.proofs.Given.{listing_is}
use Rattle.sp_deciding.specs.Decided.{AllDecided, open_count}
use Rattle.sp_deciding.specs.Laws.{IsClosed}
use Rattle.sp_deciding.specs.Verdicts.{verdict_by}
use Rattle.sp_deciding.specs.declared.deciding.Decision.{Decision}
use Rattle.sp_deciding.proofs.Closed.{all_closed}
use Rattle.sp_check_command.specs.Check.{CheckAnswered, CheckDone, CheckWork, check_answer}
use Rattle.sp_check_command.specs.Secure.{AcceptedAreSecure, AnsweredAreProved, ClosedAreSecure, IsProved, IsSecureInterface}

module _ (p : Parts) where
  none_open : (n : ℕ) → verdict_by n ≡ verdict.Ok → n ≡ 0
  none_open zero e = refl
  none_open (suc n) e = absurd cc

  module _ (closed_hold : ClosedClaimsHold) (wf : IsWellFormed p) where
    all_hold : (os : List Formula) → AreTypedFormulas p os → All (IsClosed p) os → All (λ o. ClaimHolds p (claim o)) os
    all_hold [] typed closed = All-nil (λ o. ClaimHolds p (claim o))
    all_hold (o ∷ os) typed closed =
        let own = All-head (IsTypedFormula p) o os typed in
        All-cons (λ o. ClaimHolds p (claim o)) o os
        (closed_hold p (claim o) wf (record { hypotheses = own.hypotheses; goal = own.goal }) (All-head (IsClosed p) o os closed))
        (all_hold os (All-tail (IsTypedFormula p) o os typed) (All-tail (IsClosed p) o os closed))

    module _ (unwinding : UnwindingLaw) (typed : FormulasAreTyped) where
      proved : All (IsClosed p) (formulas p) → IsProved p
      proved closed =
          let hold = all_hold (formulas p) (typed p wf) closed in
          record {
            closed = closed;
            hold = hold;
            secure = unwinding p wf (λ i inst admits. All-weaker (λ o. ClaimHolds p (claim o)) (λ o. HoldsIn (machine_of p i) (claim o)) (λ o h. h i inst) (formulas p) hold);
          }

      -- ---- the answer

      by_decisions : (owner : Option (List ℕ)) (bytes : List ℕ) (os : List Formula) → os ≡ formulas p → (second : Result (List Decision) Refusal) → AllDecided owner p 1 os second
          → Onward (λ ds out. out ≡ Ok (check_answer p os ds)) second (Ok (printed bytes verdict.Ok)) → IsProved p
      by_decisions owner bytes os is (Err r) h e = absurd cc
      by_decisions owner bytes os is (Ok ds) h e =
          let same : printed bytes verdict.Ok ≡ check_answer p os ds = cc in
          let none = none_open (open_count ds) (sym (ap verdict_of same)) in
          proved (subst (All (IsClosed p)) is (all_closed owner p 1 os ds h none))

      by_formulas : (owner : Option (List ℕ)) (bytes : List ℕ) (first : Result (List Formula) Refusal) → FormulasListed owner p first
          → Onward (λ os. λ out. (second : Result (List Decision) Refusal) × AllDecided owner p 1 os second × Onward (λ ds out. out ≡ Ok (check_answer p os ds)) second out) first (Ok (printed bytes verdict.Ok)) → IsProved p
      by_formulas owner bytes (Err r) h e = absurd cc
      by_formulas owner bytes (Ok os) h e = by_decisions owner bytes os (listing_is owner (formulas p) os (first_fault p 1 (formulas p)) h) e.0 e.1 e.2

-- ---- the texts

-- the trees stand for one specification, and the sample is an admissible instance
pub record IsJudged (x : System) (p : Parts) : Type 0 where
  pub meant : IsOnlySpec x.interface x.modules p
  pub unbroken : instance_broken p x.sample ≡ []
  pub admissible : IsAdmissible p (filling_of (instance_of p x.sample))

module _ (file : List ℕ) (x : System) where
  never_faulty : (name : List ℕ) (t : TextFault) (e : Elaborated) → IsFaulty x.interface name t (Ok e) → ⊥
  never_faulty name (fault.Malformed m) e h = absurd cc
  never_faulty name (fault.Limit l) e h = absurd cc
  never_faulty name fault.Memory e h = h

  pub meant_by : (e : Elaborated) (answer : Result (Parts × Scopes) SpecFault) → Elaborates x.interface x.modules answer → IsFiled file x.interface answer (Ok e) → IsOnlySpec x.interface x.modules e.spec
  meant_by e (Ok r) h f =
      let same : e ≡ record { spec = r.0; scopes = r.1 } = cc in
      subst (IsOnlySpec x.interface x.modules) (sym (ap (λ (y : Elaborated). y.spec) same)) h.judges.1.spec
  meant_by e (Err g) h f = absurd (never_faulty (file_of file x.interface g.file) g.fault e f)

module _ (p : Parts) (file : List ℕ) (t : InstanceTree) where
  -- the instance that was made
  made_by : (i : InstanceParts) (answer : Result InstanceParts TextFault) → InstanceMade p t answer → IsNamed file answer (Ok i) → (instance_broken p t ≡ []) × (i ≡ instance_of p t)
  made_by i (Ok j) h e = let same : i ≡ j = cc in (h.0, same ∙ h.1)
  made_by i (Err (fault.Malformed m)) h e = absurd cc
  made_by i (Err (fault.Limit l)) h e = absurd cc
  made_by i (Err fault.Memory) h e = absurd e

  admitted_by : (i : InstanceParts) (second : Result (Unit {0}) Refusal) (out : InstanceParts) → Admitted p file i second → Onward (λ u. λ last. last ≡ Ok i) second (Ok out) → IsAdmissible p (filling_of i)
  admitted_by i (Err r) out h e = absurd cc
  admitted_by i (Ok u) out (inl h) e = h.0
  admitted_by i (Ok u) out (inr h) e = absurd cc

  instance_by : (out : InstanceParts) (first : Result InstanceParts Refusal) → Judged file (InstanceMade p t) first
      → Onward (λ i. λ last. (second : Result (Unit {0}) Refusal) × Admitted p file i second × Onward (λ u. λ end. end ≡ Ok i) second last) first (Ok out)
      → (instance_broken p t ≡ []) × IsAdmissible p (filling_of (instance_of p t))
  instance_by out (Err r) j e = absurd cc
  instance_by out (Ok i) j e =
      let is = made_by i j.0 j.1 j.2 in
      (is.0, subst (λ k. IsAdmissible p (filling_of k)) is.1 (admitted_by i e.0 out e.1 e.2))

module _ (interface : List ℕ) (x : System) where
  sample_by : (p : Parts) (first : Result (Unit {0}) Refusal) (out : InstanceParts) → Onward (λ u. InstanceJudged p (sample_file x) x.sample) first (Ok out)
      → (instance_broken p x.sample ≡ []) × IsAdmissible p (filling_of (instance_of p x.sample))
  sample_by p (Err r) out e = absurd cc
  sample_by p (Ok u) out e = instance_by p (sample_file x) x.sample out e.0 e.1 e.2

  pub judged_by : (e : Elaborated) (first : Result Elaborated Refusal) → InterfaceJudged interface x.interface x.modules first
      → Onward (λ d. λ last. (second : Result InstanceParts Refusal) × SampleJudged d.spec x second × Onward (λ i. λ end. end ≡ Ok d) second last) first (Ok e) → IsJudged x e.spec
  judged_by e (Err r) j h = absurd cc
  judged_by e (Ok d) j h = by h.0 h.1 h.2
    where
      by : (second : Result InstanceParts Refusal) → SampleJudged d.spec x second → Onward (λ i. λ end. end ≡ Ok d) second (Ok e) → IsJudged x e.spec
      by (Err r) s k = absurd cc
      by (Ok i) s k =
          let same : e ≡ d = cc in
          let sample = sample_by d.spec s.0 i s.2 in
          subst (λ (y : Elaborated). IsJudged x y.spec) (sym same) record {
            meant = meant_by interface x d j.0 j.1 j.2;
            unbroken = sample.0;
            admissible = sample.1;
          }

module _ (closed_hold : ClosedClaimsHold) (unwinding : UnwindingLaw) (typed : FormulasAreTyped) where
  pub answered_proved : AnsweredAreProved
  answered_proved owner p bytes wf h = by_formulas p closed_hold wf unwinding typed owner bytes h.0 h.1 h.2

  -- an interface whose flow formulas have no open branch
  pub closed_secure : ClosedAreSecure
  closed_secure files interface x e read j closed =
      let judged = judged_by interface x e j.0 j.1 j.2 in
      record {
        system = x;
        spec = e.spec;
        read = read;
        meant = judged.meant;
        sample = made e.spec judged.meant.well_formed x.sample judged.unbroken;
        admissible = judged.admissible;
        secure = (proved e.spec closed_hold judged.meant.well_formed unwinding typed closed).secure;
      }

  module _ (files : Files) (interface bytes : List ℕ) where
    by_spec : (x : System) → SystemRead interface files (Ok x) → (first : Result Elaborated Refusal) → SystemJudged interface x first
        → Onward (λ e. CheckAnswered None e.spec) first (Ok (printed bytes verdict.Ok)) → IsSecureInterface interface files
    by_spec x read (Err r) j h = absurd cc
    by_spec x read (Ok e) j h =
        let judged = judged_by interface x e j.0 j.1 j.2 in
        closed_secure files interface x e read j (by_formulas e.spec closed_hold judged.meant.well_formed unwinding typed None bytes h.0 h.1 h.2).closed

    by_system : (first : Result System Refusal) → SystemRead interface files first → Onward (CheckWork interface) first (Ok (printed bytes verdict.Ok)) → IsSecureInterface interface files
    by_system (Err r) read h = absurd cc
    by_system (Ok x) read h = by_spec x read h.0 h.1 h.2

  pub accepted_secure : AcceptedAreSecure
  unfolding CheckDone
  accepted_secure files interface bytes h = by_system files interface bytes h.0 h.1 h.2
