-- Formulas decided by a loop: what holds when the first of them are, and how it goes on.
use Rattle.std.proofs.Common.{◌≡◌, ◌∙◌, ℕ, ◌+◌, ◌<◌, ◌≤◌, List, [], ◌∷◌, ◌++◌, append_assoc, append-nil, drop, get_or, length, map, Option, Result, Ok, Err, ap, refl, sym, subst, arith}
use Rattle.std.proofs.lemmas.Grind.{common_steps}
use Rattle.std.proofs.lemmas.List.{drop_more}
use Rattle.sp_core.specs.Parts.{Parts}
use Rattle.sp_sequent.specs.declared.formula.Formula.{Formula as Made}
use Rattle.sp_formulas.specs.Formulas.{Formula, formula_as}
use Rattle.sp_frame.specs.declared.refusal.Refusal.{Refusal}
use Rattle.sp_frame.specs.declared.refusal.Stop.{Stop}
use Rattle.sp_frame.specs.declared.refusal.Stop.TheVariants as stop
use Rattle.sp_frame.specs.Steps.{Does}
use Rattle.sp_frame.proofs.Lists.{after}
use Rattle.sp_deciding.specs.Decided.{AllDecided, FormulaDecided}
use Rattle.sp_deciding.specs.declared.deciding.Decision.{Decision}

-- the first of all are decided so: what comes of the rest, of which the first has number n, comes of all
abbrev pub First : Option (List ℕ) → Parts → List Formula → ℕ → List Formula → List Decision → Type 0
First owner p os n rest done = (r : Result (List Decision) Refusal) → AllDecided owner p n rest r → AllDecided owner p 1 os (after done r)

after_more : (done : List Decision) (d : Decision) (r : Result (List Decision) Refusal) → after done (after (d ∷ []) r) ≡ after (done ++ d ∷ []) r
after_more done d (Ok rest) = ap Ok (sym (append_assoc done (d ∷ []) rest))
after_more done d (Err e) = refl

module _ (owner : Option (List ℕ)) (p : Parts) where
  each_next : (n : ℕ) (o : Formula) (d : Decision) (os : List Formula) (r : Result (List Decision) Refusal) → FormulaDecided owner p n o (Ok d) → AllDecided owner p (n + 1) os r
      → AllDecided owner p n (o ∷ os) (after (d ∷ []) r)
  each_next n o d os (Ok ds) first rest = (Ok d, first, (Ok ds, rest, refl))
  each_next n o d os (Err e) first rest = (Ok d, first, (Err e, rest, refl))

  module _ (fs : List Made) where
    at_index : (k : ℕ) (f : Made) → k < length fs → f ≡ get_or fs k f → map formula_as (drop k fs) ≡ formula_as f ∷ map formula_as (drop (k + 1) fs)
    at_index k f h e = ap (map formula_as) (drop_more fs k f h ∙ ap (λ g. g ∷ drop (k + 1) fs) (sym e))

    at_end : (k : ℕ) → length fs ≤ k → drop k fs ≡ []
    at_end k h = grind (arith, common_steps)

    pub none_decided : First owner p (map formula_as fs) 1 (map formula_as fs) []
    none_decided (Ok ds) h = h
    none_decided (Err e) h = h

    pub next_decided : (k : ℕ) (done : List Decision) (f : Made) (d : Decision) → k < length fs → f ≡ get_or fs k f → First owner p (map formula_as fs) (k + 1) (map formula_as (drop k fs)) done
        → FormulaDecided owner p (k + 1) (formula_as f) (Ok d) → First owner p (map formula_as fs) (k + 1 + 1) (map formula_as (drop (k + 1) fs)) (done ++ d ∷ [])
    next_decided k done f d h e first now = λ r rest.
        subst (AllDecided owner p 1 (map formula_as fs)) (after_more done d r)
        (first (after (d ∷ []) r) (subst (λ os. AllDecided owner p (k + 1) os (after (d ∷ []) r)) (sym (at_index k f h e)) (each_next (k + 1) (formula_as f) d (map formula_as (drop (k + 1) fs)) r now rest)))

    pub next_stops : (k : ℕ) (done : List Decision) (f : Made) (s : Stop) → k < length fs → f ≡ get_or fs k f → First owner p (map formula_as fs) (k + 1) (map formula_as (drop k fs)) done
        → Does (FormulaDecided owner p (k + 1) (formula_as f)) (Err s) → Does (AllDecided owner p 1 (map formula_as fs)) (Err s)
    next_stops k done f (stop.Refused r) h e first now =
        first (Err r) (subst (λ os. AllDecided owner p (k + 1) os (Err r)) (sym (at_index k f h e)) (Err r, now, refl))
    next_stops k done f stop.Memory h e first now = tt

    pub all_decided : (k : ℕ) (done : List Decision) → length fs ≤ k → First owner p (map formula_as fs) (k + 1) (map formula_as (drop k fs)) done → AllDecided owner p 1 (map formula_as fs) (Ok done)
    all_decided k done h first =
        subst (λ ds. AllDecided owner p 1 (map formula_as fs) (Ok ds)) (append-nil done)
        (first (Ok []) (subst (λ gs. AllDecided owner p (k + 1) (map formula_as gs) (Ok [])) (sym (at_end k h)) refl))
