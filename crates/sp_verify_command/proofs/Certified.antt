-- A file is accepted where it has one certificate for each formula, each of which checks; then no formula has an open branch.
use Rattle.std.proofs.Common.{◌≡◌, ◌∙◌, ℕ, zero, suc, ◌+◌, List, [], ◌∷◌, Option, None, Some, ap, arith, refl}
use Rattle.std.specs.List.{All}
use Rattle.std.proofs.lemmas.List.Elements.{All-cons, All-head, All-nil, All-tail}
use Rattle.sp_core.specs.Parts.{Parts}
use Rattle.sp_rules.specs.Facts.{is_one_of}
use Rattle.sp_sequent.specs.Claims.{question_of}
use Rattle.sp_cert.specs.Tree.{Tree}
use Rattle.sp_cert.specs.Within.{AreTrees}
use Rattle.sp_cert.specs.declared.cert.CertFault.{CertFault}
use Rattle.sp_checker.specs.Accepting.{fault_for}
use Rattle.sp_checker.specs.Known.{judge}
use Rattle.sp_checker.specs.Lifts.{LiftedIsSpelled}
use Rattle.sp_checker.specs.Migration.{IsPlain, LiftedChecks}
use Rattle.sp_formulas.specs.Formulas.{Formula}
use Rattle.sp_hold.specs.Holding.{claim}
use Rattle.sp_verdicts.specs.Laws.{CertifiedAreClosed}
use Rattle.sp_deciding.specs.Laws.{IsClosed}
use Rattle.sp_frame.specs.declared.refusal.Verdict.TheVariants as verdict
use Rattle.sp_verify_command.specs.declared.judging.Judgement.{Judgement}
use Rattle.sp_verify_command.specs.Judged.{extra_count, file_verdict, judged_by, judgements, refused_count, verdict_by}
use Rattle.sp_verify_command.specs.Laws.{AreCertified}
use Rattle.sp_verify_command.specs.Migrate.{lifted_trees}

pub none_refused : (k x : ℕ) → verdict_by k x ≡ verdict.Ok → (k ≡ 0) × (x ≡ 0)
none_refused zero zero e = (refl, refl)
none_refused zero (suc x) e = absurd cc
none_refused (suc k) x e = absurd cc

module _ (p : Parts) where
  one_checked : (f : Option CertFault) (js : List Judgement) → refused_count (judged_by f ∷ js) ≡ 0 → (f ≡ None) × (refused_count js ≡ 0)
  one_checked None js e = (refl, e)
  one_checked (Some f) js e = absurd (omega (arith, e))

  certified_by : (os : List Formula) (ts : List Tree) → refused_count (judgements p os ts) ≡ 0 → extra_count os ts ≡ 0 → AreCertified p os ts
  certified_by [] [] none extra = tt
  certified_by [] (t ∷ ts) none extra = absurd (omega (arith, extra))
  certified_by (o ∷ os) [] none extra = absurd (omega (arith, none))
  certified_by (o ∷ os) (t ∷ ts) none extra =
      let one = one_checked (fault_for (question_of p (claim o)) t) (judgements p os ts) none in
      (one.0, certified_by os ts one.1 (omega (arith, extra)))

  -- a file that is accepted has a certificate for each formula
  pub certified : (os : List Formula) (ts : List Tree) → file_verdict p os ts ≡ verdict.Ok → AreCertified p os ts
  certified os ts e =
      let none = none_refused (refused_count (judgements p os ts)) (extra_count os ts) e in
      certified_by os ts none.0 none.1

  all_checked : (os : List Formula) (ts : List Tree) → AreCertified p os ts → (refused_count (judgements p os ts) ≡ 0) × (extra_count os ts ≡ 0)
  all_checked [] [] h = (refl, omega arith)
  all_checked [] (t ∷ ts) h = absurd h
  all_checked (o ∷ os) [] h = absurd h
  all_checked (o ∷ os) (t ∷ ts) h =
      let rest = all_checked os ts h.1 in
      (ap (λ f. refused_count (judged_by f ∷ judgements p os ts)) h.0 ∙ rest.0, omega (arith, rest.1))

  -- and one that has them is accepted
  pub accepted : (os : List Formula) (ts : List Tree) → AreCertified p os ts → file_verdict p os ts ≡ verdict.Ok
  accepted os ts h =
      let none = all_checked os ts h in
      ap (λ k. verdict_by k (extra_count os ts)) none.0 ∙ ap (verdict_by 0) none.1

  -- a formula whose certificate checks has no open branch
  pub closed : CertifiedAreClosed → (os : List Formula) (ts : List Tree) → AreCertified p os ts → All (IsClosed p) os
  closed law [] [] h = All-nil (IsClosed p)
  closed law [] (t ∷ ts) h = absurd h
  closed law (o ∷ os) [] h = absurd h
  closed law (o ∷ os) (t ∷ ts) h = All-cons (IsClosed p) o os (law p (claim o) t h.0) (closed law os ts h.1)

  -- ---- what is migrated

  pub lifted_certified : LiftedChecks → (os : List Formula) (ts : List Tree) → All IsPlain ts → AreCertified p os ts → AreCertified p os (lifted_trees p os ts)
  lifted_certified law [] [] plain h = tt
  lifted_certified law [] (t ∷ ts) plain h = absurd h
  lifted_certified law (o ∷ os) [] plain h = absurd h
  lifted_certified law (o ∷ os) (t ∷ ts) plain h =
      let q = question_of p (claim o) in
      (law (judge q.terms q.atoms) (is_one_of q.given) t (All-head IsPlain t ts plain) h.0, lifted_certified law os ts (All-tail IsPlain t ts plain) h.1)

  pub lifted_spelled : LiftedIsSpelled → (n : ℕ) (os : List Formula) (ts : List Tree) → AreTrees 1 64 n ts → AreCertified p os ts → AreTrees 2 64 n (lifted_trees p os ts)
  lifted_spelled law n [] [] good h = tt
  lifted_spelled law n [] (t ∷ ts) good h = absurd h
  lifted_spelled law n (o ∷ os) [] good h = absurd h
  lifted_spelled law n (o ∷ os) (t ∷ ts) good h =
      (good.0, law (question_of p (claim o)) 64 t good.1 h.0, lifted_spelled law (n + 1) os ts good.2 h.1)
