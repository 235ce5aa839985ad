-- Certificates kept by a loop, and what they are where no formula is open.
use Rattle.std.proofs.Common.{◌≡◌, ◌∙◌, ℕ, ◌+◌, ◌<◌, ◌≤◌, List, [], ◌∷◌, ◌++◌, append_assoc, append-nil, ap, arith, drop, get_or, inr, length, map, refl, subst, sym}
use Rattle.std.specs.List.{All}
use Rattle.std.proofs.lemmas.List.Elements.{All-cons, All-nil}
use Rattle.sp_cert.specs.Tree.{Tree}
use Rattle.sp_cert.specs.Within.{AreTrees, IsFile}
use Rattle.sp_core.specs.Parts.{Parts}
use Rattle.sp_sequent.specs.declared.formula.Formula.{Formula as Made}
use Rattle.sp_sequent.specs.Claims.{claim_of, question_of}
use Rattle.sp_claims.specs.Laws.{HasNoOpenBranch}
use Rattle.sp_formulas.specs.Formulas.{Formula, formula_as}
use Rattle.sp_hold.specs.Holding.{claim}
use Rattle.sp_deciding.specs.Decided.{open_count}
use Rattle.sp_deciding.specs.declared.deciding.Decision.{Decision}
use Rattle.sp_deciding.specs.declared.deciding.Decision.TheVariants as decision
use Rattle.sp_prove_command.specs.Certificates.{AreCertified, second_format}
use Rattle.sp_prove_command.specs.Kept.{AreKept, IsFound, decision_found, trees_found}
use Rattle.sp_prove_command.specs.declared.proving.Found.{Found}
use Rattle.sp_prove_command.specs.declared.proving.Found.TheVariants as found
use Rattle.sp_prove_command.proofs.Progress.{at_end, at_index}

-- those of the first formulas are kept: those of the rest stand behind them
abbrev pub KeptFirst : Parts → List Formula → List Formula → List Decision → List Tree → Type 0
KeptFirst p all rest ds ts = (es : List Decision) (us : List Tree) → AreKept p rest es us → AreKept p all (ds ++ es) (ts ++ us)

module _ (p : Parts) where
  kept_before : (o : Formula) (os : List Formula) (f : Found) (ds : List Decision) (ts : List Tree) → IsFound (question_of p (claim o)) f → AreKept p os ds ts → AreKept p (o ∷ os) (decision_found f ∷ ds) (trees_found f ++ ts)
  kept_before o os (found.Proved c) ds ts h rest = (h, rest)
  kept_before o os (found.Open vs) ds ts h rest = rest

  pub none_kept : (all : List Formula) → KeptFirst p all all [] []
  none_kept all = λ es us h. h

  next_first : (all rest more : List Formula) (o : Formula) (f : Found) (ds : List Decision) (ts : List Tree) → rest ≡ o ∷ more → IsFound (question_of p (claim o)) f → KeptFirst p all rest ds ts
      → KeptFirst p all more (ds ++ decision_found f ∷ []) (ts ++ trees_found f)
  next_first all rest more o f ds ts is h first = λ es us k.
      subst (λ xs. AreKept p all xs ((ts ++ trees_found f) ++ us)) (sym (append_assoc ds (decision_found f ∷ []) es))
      (subst (AreKept p all (ds ++ (decision_found f ∷ es))) (sym (append_assoc ts (trees_found f) us))
      (first (decision_found f ∷ es) (trees_found f ++ us) (subst (λ os. AreKept p os (decision_found f ∷ es) (trees_found f ++ us)) (sym is) (kept_before o more f es us h k))))

  module _ (fs : List Made) where
    pub next_kept : (k : ℕ) (ds : List Decision) (ts : List Tree) (f : Made) (found : Found) → k < length fs → f ≡ get_or fs k f → IsFound (question_of p (claim_of f)) found
        → KeptFirst p (map formula_as fs) (map formula_as (drop k fs)) ds ts → KeptFirst p (map formula_as fs) (map formula_as (drop (k + 1) fs)) (ds ++ decision_found found ∷ []) (ts ++ trees_found found)
    next_kept k ds ts f found h e kept first = next_first (map formula_as fs) _ _ (formula_as f) found ds ts (at_index p fs k f h e) kept first

    pub all_kept : (k : ℕ) (ds : List Decision) (ts : List Tree) → length fs ≤ k → KeptFirst p (map formula_as fs) (map formula_as (drop k fs)) ds ts → AreKept p (map formula_as fs) ds ts
    all_kept k ds ts h first =
        let none : map formula_as (drop k fs) ≡ [] = ap (map formula_as) (at_end p fs k h) in
        subst (λ xs. AreKept p (map formula_as fs) xs ts) (append-nil ds)
        (subst (AreKept p (map formula_as fs) (ds ++ [])) (append-nil ts) (first [] [] (subst (λ os. AreKept p os [] []) (sym none) tt)))

  -- where no formula is open, each has its certificate, and a text can spell these
  pub all_certified : (n : ℕ) (os : List Formula) (ds : List Decision) (ts : List Tree) → AreKept p os ds ts → open_count ds ≡ 0 → n + length os ≤ 4294967295
      → AreCertified p os ts × AreTrees 2 64 n ts
  all_certified n [] [] [] h e l = (tt, tt)
  all_certified n [] [] (t ∷ ts) h e l = absurd h
  all_certified n [] (d ∷ ds) ts h e l = absurd h
  all_certified n (o ∷ os) [] ts h e l = absurd h
  all_certified n (o ∷ os) (decision.Proved ∷ ds) [] h e l = absurd h
  all_certified n (o ∷ os) (decision.Proved ∷ ds) (t ∷ ts) h e l =
      let rest = all_certified (n + 1) os ds ts h.1 e (omega (arith, l)) in
      let number : n ≤ 4294967295 = omega (arith, l) in
      ((h.0.checks, rest.0), (number, h.0.spelled 2, rest.1))
  all_certified n (o ∷ os) (decision.Open vs ∷ ds) ts h e l = absurd cc

  pub spelled : (os : List Formula) (ds : List Decision) (ts : List Tree) → AreKept p os ds ts → open_count ds ≡ 0 → length os ≤ 4096 → IsFile 64 (second_format ts)
  spelled os ds ts h e l = record { format = inr refl; trees = (all_certified 1 os ds ts h e (omega (arith, l))).1 }

  -- and no formula has an open branch
  pub none_open : (fs : List Made) (ds : List Decision) (ts : List Tree) → AreKept p (map formula_as fs) ds ts → open_count ds ≡ 0 → All (λ f. HasNoOpenBranch (question_of p (claim_of f))) fs
  none_open [] ds ts h e = All-nil (λ f. HasNoOpenBranch (question_of p (claim_of f)))
  none_open (f ∷ fs) [] ts h e = absurd h
  none_open (f ∷ fs) (decision.Proved ∷ ds) [] h e = absurd h
  none_open (f ∷ fs) (decision.Proved ∷ ds) (t ∷ ts) h e = All-cons (λ f. HasNoOpenBranch (question_of p (claim_of f))) f fs h.0.closed (none_open fs ds ts h.1 e)
  none_open (f ∷ fs) (decision.Open vs ∷ ds) ts h e = absurd cc
