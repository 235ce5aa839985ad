-- Formulas decided by a loop: what holds when the first of them are, and how it goes on.
use Rattle.std.proofs.Common.{◌≡◌, ◌∙◌, ℕ, zero, suc, ◌+◌, ◌<◌, ◌≤◌, List, [], ◌∷◌, ◌++◌, append_assoc, append-nil, drop, get_or, length, map, None, Result, Ok, Err, ap, refl, sym, subst, arith}
use Rattle.std.specs.Prelude.{All}
use Rattle.std.proofs.lemmas.List.Elements.{All-head, All-tail}
use Rattle.std.proofs.lemmas.Grind.{common_steps}
use Rattle.std.proofs.lemmas.List.{drop_more}
use Rattle.sp_core.specs.Parts.{Parts}
use Rattle.sp_sequent.specs.declared.formula.Formula.{Formula as Made}
use Rattle.sp_formulas.specs.Formulas.{Formula, formula_as}
use Rattle.sp_frame.specs.declared.refusal.Refusal.{Refusal}
use Rattle.sp_frame.specs.declared.refusal.Stop.{Stop}
use Rattle.sp_frame.specs.declared.refusal.Stop.TheVariants as stop
use Rattle.sp_frame.specs.Steps.{Does}
use Rattle.sp_frame.proofs.Lists.{after}
use Rattle.sp_deciding.specs.Decided.{AllDecided, FormulaDecided}
use Rattle.sp_deciding.specs.declared.deciding.Decision.{Decision}

-- the first of all are decided so: what comes of the rest, of which the first has number n, comes of all
abbrev pub First : Parts → List Formula → ℕ → List Formula → List Decision → Type 0
First p os n rest done = (r : Result (List Decision) Refusal) → AllDecided None p n rest r → AllDecided None p 1 os (after done r)

after_more : (done : List Decision) (d : Decision) (r : Result (List Decision) Refusal) → after done (after (d ∷ []) r) ≡ after (done ++ d ∷ []) r
after_more done d (Ok rest) = ap Ok (sym (append_assoc done (d ∷ []) rest))
after_more done d (Err e) = refl

module _ (p : Parts) where
  each_next : (n : ℕ) (o : Formula) (d : Decision) (os : List Formula) (r : Result (List Decision) Refusal) → FormulaDecided None p n o (Ok d) → AllDecided None p (n + 1) os r
      → AllDecided None p n (o ∷ os) (after (d ∷ []) r)
  each_next n o d os (Ok ds) first rest = (Ok d, first, (Ok ds, rest, refl))
  each_next n o d os (Err e) first rest = (Ok d, first, (Err e, rest, refl))

  module _ (fs : List Made) where
    pub at_index : (k : ℕ) (f : Made) → k < length fs → f ≡ get_or fs k f → map formula_as (drop k fs) ≡ formula_as f ∷ map formula_as (drop (k + 1) fs)
    at_index k f h e = ap (map formula_as) (drop_more fs k f h ∙ ap (λ g. g ∷ drop (k + 1) fs) (sym e))

    pub at_end : (k : ℕ) → length fs ≤ k → drop k fs ≡ []
    at_end k h = grind (arith, common_steps)

    pub none_decided : First p (map formula_as fs) 1 (map formula_as fs) []
    none_decided (Ok ds) h = h
    none_decided (Err e) h = h

    pub next_decided : (k : ℕ) (done : List Decision) (f : Made) (d : Decision) → k < length fs → f ≡ get_or fs k f → First p (map formula_as fs) (k + 1) (map formula_as (drop k fs)) done
        → FormulaDecided None p (k + 1) (formula_as f) (Ok d) → First p (map formula_as fs) (k + 1 + 1) (map formula_as (drop (k + 1) fs)) (done ++ d ∷ [])
    next_decided k done f d h e first now = λ r rest.
        subst (AllDecided None p 1 (map formula_as fs)) (after_more done d r)
        (first (after (d ∷ []) r) (subst (λ os. AllDecided None p (k + 1) os (after (d ∷ []) r)) (sym (at_index k f h e)) (each_next (k + 1) (formula_as f) d (map formula_as (drop (k + 1) fs)) r now rest)))

    pub next_stops : (k : ℕ) (done : List Decision) (f : Made) (s : Stop) → k < length fs → f ≡ get_or fs k f → First p (map formula_as fs) (k + 1) (map formula_as (drop k fs)) done
        → Does (FormulaDecided None p (k + 1) (formula_as f)) (Err s) → Does (AllDecided None p 1 (map formula_as fs)) (Err s)
    next_stops k done f (stop.Refused r) h e first now =
        first (Err r) (subst (λ os. AllDecided None p (k + 1) os (Err r)) (sym (at_index k f h e)) (Err r, now, refl))
    next_stops k done f stop.Memory h e first now = tt

    pub all_decided : (k : ℕ) (done : List Decision) → length fs ≤ k → First p (map formula_as fs) (k + 1) (map formula_as (drop k fs)) done → AllDecided None p 1 (map formula_as fs) (Ok done)
    all_decided k done h first =
        subst (λ ds. AllDecided None p 1 (map formula_as fs) (Ok ds)) (append-nil done)
        (first (Ok []) (subst (λ gs. AllDecided None p (k + 1) (map formula_as gs) (Ok [])) (sym (at_end k h)) refl))

  -- what holds of each formula holds of the one in a place
  pub holds_at : (P : Formula → Type 0) (gs : List Made) (k : ℕ) (f : Made) → All P (map formula_as gs) → k < length gs → f ≡ get_or gs k f → P (formula_as f)
  holds_at P [] k f all h e = absurd (omega (arith, h))
  holds_at P (x ∷ gs) zero f all h e = subst (λ y. P (formula_as y)) (sym e) (All-head P (formula_as x) (map formula_as gs) all)
  holds_at P (x ∷ gs) (suc k) f all h e = holds_at P gs k f (All-tail P (formula_as x) (map formula_as gs) all) (omega (arith, h)) e
