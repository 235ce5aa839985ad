-- The steps on systems and instances come to one outcome at most, and their refusals hold of the files.
use Rattle.std.proofs.Common.{◌≡◌, ◌≢◌, ◌∙◌, ℕ, zero, suc, ◌+◌, ◌<◌, List, [], ◌∷◌, Option, None, Some, Result, Ok, Err, ap, inl, inr, refl, sym, subst, arith, slice_get}
use Rattle.std.specs.List.{All}
use Rattle.std.proofs.lemmas.List.Elements.{All-head, All-tail}
use Rattle.sp_text.specs.declared.fault.Malformed.{Malformed}
use Rattle.sp_text.specs.declared.fault.SpecFault.{SpecFault}
use Rattle.sp_text.specs.declared.fault.TextFault.{TextFault}
use Rattle.sp_text.specs.declared.fault.TextFault.TheVariants as fault
use Rattle.sp_text.specs.declared.violation.FileViolation.{FileViolation}
use Rattle.sp_text.specs.declared.violation.Violation.{Violation}
use Rattle.sp_text.specs.Violations.{Judges, JudgesFiles, Names, NamesInFile, fault_of, first, first_in_files, spec_fault_of}
use Rattle.sp_outside.specs.Files.{Files}
use Rattle.sp_tree.specs.declared.instance.InstanceTree.{InstanceTree}
use Rattle.sp_tree.specs.declared.interface.InterfaceTree.{InterfaceTree}
use Rattle.sp_tree.specs.declared.interface.LatticeTree.{LatticeTree}
use Rattle.sp_tree.specs.declared.module.Module.{Module}
use Rattle.sp_tree.specs.declared.names.Ident.{Ident}
use Rattle.sp_scopes.specs.declared.scopes.Scopes.{Scopes}
use Rattle.sp_core.specs.Instances.{Filling, InstanceParts, IsAdmissible, IsAsserted, filling_of, world_of}
use Rattle.sp_core.specs.Parts.{Parts}
use Rattle.sp_eval.specs.Admissible.{IsFalseAt, IsFirstFalse}
use Rattle.sp_frame.specs.declared.refusal.Refusal.{Refusal}
use Rattle.sp_frame.specs.declared.refusal.Refusal.TheVariants as refusal
use Rattle.sp_frame.specs.Laws.{IsDue, IsLawful, IsOnce}
use Rattle.sp_frame.specs.Steps.{Step}
use Rattle.sp_frame.proofs.Lawful.{demand_lawful, each_lawful, file_lawful, gives_lawful, judged_lawful, then_lawful}
use Rattle.sp_frame.proofs.Told.{told_lawful}
use Rattle.sp_sorts.specs.Sorts.{instance_file, instances, interfaces, module_file, modules}
use Rattle.sp_sorts.specs.Texts.{Answered, Grammar, Read, TreeRead}
use Rattle.sp_sorts.proofs.Definite.{answered_by}
use Rattle.sp_sorts.proofs.Exact.{instance_once, interface_once, module_once}
use Rattle.sp_system.specs.Instances.{Admitted, InstanceJudged}
use Rattle.sp_system.specs.Interfaces.{Elaborates, InterfaceJudged, IsOnlyElaborated, IsFaulty, IsFiled, broken_at, broken_in, file_of, level_pair}
use Rattle.sp_system.specs.System.{ModulesRead, SampleJudged, SystemJudged, SystemRead}
use Rattle.sp_system.specs.declared.interface.Elaborated.{Elaborated}
use Rattle.sp_system.specs.declared.system.System.{System}

-- ---- the first of what is broken is one

-- the fault of the first violation, where there is one
abbrev fault_in : Option Violation → TextFault
fault_in None = fault.Memory
fault_in (Some v) = fault_of v

abbrev fault_in_files : Option FileViolation → SpecFault
fault_in_files None = record { file = 0; fault = fault.Memory }
fault_in_files (Some v) = spec_fault_of v

named : (vs : List Violation) (f : TextFault) → f ≢ fault.Memory → Names vs f → fault_in (first vs) ≡ f
named vs (fault.Malformed m) is h = ap fault_in h
named vs (fault.Limit l) is h = ap fault_in h
named vs fault.Memory is h = absurd (is refl)

named_in_files : (vs : List FileViolation) (n : ℕ) (f : TextFault) → f ≢ fault.Memory → NamesInFile vs n f → fault_in_files (first_in_files vs) ≡ record { file = n; fault = f }
named_in_files vs n (fault.Malformed m) is h = ap fault_in_files h
named_in_files vs n (fault.Limit l) is h = ap fault_in_files h
named_in_files vs n fault.Memory is h = absurd (is refl)

module _ {T : Type 0} (vs : List Violation) (P : T → Type 0) (one : (x y : T) → P x → P y → x ≡ y) where
  judges_once : (a b : Result T TextFault) → a ≢ Err fault.Memory → b ≢ Err fault.Memory → Judges vs P a → Judges vs P b → a ≡ b
  judges_once (Ok x) (Ok y) m k p q = ap Ok (one x y p.1 q.1)
  judges_once (Ok x) (Err f) m k p q = absurd (k (ap Err (sym (named vs f (λ e. k (ap Err e)) q) ∙ ap (λ ws. fault_in (first ws)) p.0)))
  judges_once (Err f) (Ok y) m k p q = absurd (m (ap Err (sym (named vs f (λ e. m (ap Err e)) p) ∙ ap (λ ws. fault_in (first ws)) q.0)))
  judges_once (Err f) (Err g) m k p q = ap Err (sym (named vs f (λ e. m (ap Err e)) p) ∙ named vs g (λ e. k (ap Err e)) q)

  -- what judging a text answers, want of memory apart, is one
  pub judged_once : IsOnce (Answered (Judges vs P))
  judged_once = answered_by _ judges_once

-- ---- interfaces

module _ (i : InterfaceTree) (ms : List Module) where
  elaborated_once : (x y : Parts × Scopes) → IsOnlyElaborated i ms x → IsOnlyElaborated i ms y → x ≡ y
  elaborated_once x y p q =
      let spec : x.0 ≡ y.0 = q.spec.only x.0 p.spec.meant p.spec.well_formed in
      let scopes : x.1 ≡ y.1 = p.scopes ∙ sym q.scopes in
      ap (λ s. (s, x.1)) spec ∙ ap (λ s. (y.0, s)) scopes

  module _ (vs : List FileViolation) where
    filed_once : (a b : Result (Parts × Scopes) SpecFault) → ((f : SpecFault) → a ≡ Err f → f.fault ≢ fault.Memory) → ((f : SpecFault) → b ≡ Err f → f.fault ≢ fault.Memory)
        → JudgesFiles vs (IsOnlyElaborated i ms) a → JudgesFiles vs (IsOnlyElaborated i ms) b → a ≡ b
    filed_once (Ok x) (Ok y) m k p q = ap Ok (elaborated_once x y p.1 q.1)
    filed_once (Ok x) (Err f) m k p q =
        absurd (k f refl (ap (λ (g : SpecFault). g.fault) (sym (named_in_files vs f.file f.fault (k f refl) q) ∙ ap (λ ws. fault_in_files (first_in_files ws)) p.0)))
    filed_once (Err f) (Ok y) m k p q =
        absurd (m f refl (ap (λ (g : SpecFault). g.fault) (sym (named_in_files vs f.file f.fault (m f refl) p) ∙ ap (λ ws. fault_in_files (first_in_files ws)) q.0)))
    filed_once (Err f) (Err g) m k p q = ap Err (sym (named_in_files vs f.file f.fault (m f refl) p) ∙ named_in_files vs g.file g.fault (k g refl) q)

  elaborates_once : IsOnce (Elaborates i ms)
  elaborates_once a b p q =
      filed_once p.all a b p.definite q.definite p.judges
      (subst (λ ws. JudgesFiles ws (IsOnlyElaborated i ms) b) (p.broken.only q.all q.broken.broken) q.judges)

module _ (files : Files) where
  broken_due : (l : LatticeTree) (name : List ℕ) (m : Malformed) (o : Option (ℕ × ℕ)) → IsDue files (broken_at l name m o)
  broken_due l name m None = tt
  broken_due l name m (Some p) = tt

  faulty_lawful : (i : InterfaceTree) (name : List ℕ) (t : TextFault) → IsLawful files (IsFaulty i name t)
  faulty_lawful i name (fault.Malformed m) = record {
    once = λ a b p q. p ∙ sym q;
    due = λ r p. let same : r ≡ broken_in i.lattice name m = cc in subst (IsDue files) (sym same) (broken_due i.lattice name m (level_pair m.rule));
  }
  faulty_lawful i name (fault.Limit l) = record {
    once = λ a b p q. p ∙ sym q;
    due = λ r p. let same : r ≡ refusal.Exceeded name l = cc in subst (IsDue files) (sym same) tt;
  }
  faulty_lawful i name fault.Memory = record { once = λ a b p q. absurd p; due = λ r p. absurd p }

  filed_lawful : (file : List ℕ) (i : InterfaceTree) (answer : Result (Parts × Scopes) SpecFault) → IsLawful files (IsFiled file i answer)
  filed_lawful file i (Ok x) = record { once = λ a b p q. p ∙ sym q; due = λ r p. absurd cc }
  filed_lawful file i (Err f) = faulty_lawful i (file_of file i f.file) f.fault

  pub interface_lawful : (file : List ℕ) (i : InterfaceTree) (ms : List Module) → IsLawful files (InterfaceJudged file i ms)
  interface_lawful file i ms = told_lawful files (IsFiled file i) (Elaborates i ms) (elaborates_once i ms) (filed_lawful file i)

-- ---- instances

at_index : {X : Type 0} (P : X → Type 0) (xs : List X) (k : ℕ) (v : X) → All P xs → slice_get xs k ≡ Some v → P v
at_index P [] k v a e = cc
at_index P (u ∷ xs) zero v a e = let q : u ≡ v = cc in subst P q (All-head P u xs a)
at_index P (u ∷ xs) (suc k) v a e = at_index P xs k v (All-tail P u xs a) e

module _ (p : Parts) (i : Filling) where
  not_false : IsAdmissible p i → (n : ℕ) → IsFirstFalse p i n → ⊥
  not_false all n (k, a, f) = f.is_false (at_index (IsAsserted (world_of p i)) p.assertions k a all f.there)

  first_once : (n m : ℕ) → IsFirstFalse p i n → IsFirstFalse p i m → n ≡ m
  first_once n m (k, a, f) (j, b, g) =
      let above : k < j → ⊥ = λ h. f.is_false (g.earlier k a h f.there) in
      let below : j < k → ⊥ = λ h. g.is_false (f.earlier j b h g.there) in
      let e = f.number in
      let d = g.number in
      omega arith

module _ (files : Files) where
  admitted_lawful : (p : Parts) (file : List ℕ) (i : InstanceParts) → IsLawful files (Admitted p file i)
  admitted_lawful p file i = record { once = once; due = due }
    where
      once : (a b : Result (Unit {0}) Refusal) → Admitted p file i a → Admitted p file i b → a ≡ b
      once a b (inl s) (inl t) = s.1 ∙ sym t.1
      once a b (inl s) (inr t) = absurd (not_false p (filling_of i) s.0 t.0 t.1)
      once a b (inr s) (inl t) = absurd (not_false p (filling_of i) t.0 s.0 s.1)
      once a b (inr s) (inr t) = s.2 ∙ ap (λ n. Err (refusal.NotAdmissible file n)) (first_once p (filling_of i) s.0 t.0 s.1 t.1) ∙ sym t.2

      due : (r : Refusal) → Admitted p file i (Err r) → IsDue files r
      due r (inl s) = absurd cc
      due r (inr s) = let same : r ≡ refusal.NotAdmissible file s.0 = cc in subst (IsDue files) (sym same) tt

  pub instance_lawful : (p : Parts) (file : List ℕ) (t : InstanceTree) → IsLawful files (InstanceJudged p file t)
  instance_lawful p file t =
      then_lawful files _ _ (judged_lawful files file _ (judged_once _ _ (λ x y h k. h ∙ sym k))) (λ i.
      then_lawful files _ _ (admitted_lawful p file i) (λ _. gives_lawful files _))

  -- ---- systems

  pub tree_lawful : {T : Type 0} (grammar : Grammar T) (name : List ℕ) → ((text : List ℕ) → IsOnce (Read grammar text)) → IsLawful files (TreeRead grammar name files)
  tree_lawful grammar name once = then_lawful files _ _ (file_lawful files _ name once) (λ x. gives_lawful files _)

  modules_lawful : (names : List Ident) → IsLawful files (ModulesRead names files)
  unfolding ModulesRead
  modules_lawful names = each_lawful files _ names (λ m. tree_lawful modules (module_file m.name) module_once)

  pub read_lawful : (name : List ℕ) → IsLawful files (SystemRead name files)
  read_lawful name =
      then_lawful files _ _ (tree_lawful interfaces name interface_once) (λ i.
      then_lawful files _ _ (modules_lawful i.modules) (λ ms.
      then_lawful files _ _ (tree_lawful instances (instance_file i.sample.name) instance_once) (λ s. gives_lawful files (record { interface = i; modules = ms; sample = s }))))

  sample_lawful : (p : Parts) (x : System) → IsLawful files (SampleJudged p x)
  sample_lawful p x = then_lawful files _ _ (demand_lawful files _ _ tt) (λ _. instance_lawful p _ x.sample)

  pub judged_system_lawful : (file : List ℕ) (x : System) → IsLawful files (SystemJudged file x)
  judged_system_lawful file x =
      then_lawful files _ _ (interface_lawful files file x.interface x.modules) (λ e.
      then_lawful files _ _ (sample_lawful e.spec x) (λ _. gives_lawful files _))
