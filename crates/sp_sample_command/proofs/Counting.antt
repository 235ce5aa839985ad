-- How many subterms formulas have, as a loop counts them.
use Rattle.std.proofs.Common.{◌≡◌, ◌∙◌, ℕ, zero, suc, ◌+◌, ◌<◌, ◌≤◌, List, [], ◌∷◌, arith, drop, length, map, ap, get_or, refl, sym, subst}
use Rattle.std.specs.Prelude.{All}
use Rattle.std.proofs.lemmas.List.{drop_more, length-map}
use Rattle.std.proofs.lemmas.List.Elements.{All-head, All-tail}
use Rattle.sp_core.specs.Tree.{Tree}
use Rattle.sp_sequent.specs.declared.formula.Formula.{Formula as Made}
use Rattle.sp_sequent.specs.Claims.{terms_in}
use Rattle.sp_sequent.specs.Numbers.{nodes_of}
use Rattle.sp_formulas.specs.Formulas.{Formula, formula_as}
use Rattle.sp_hold.specs.Holding.{claim}
use Rattle.sp_sample_command.specs.Summary.{term_count}

pub as_many : (ts : List Tree) → length (nodes_of ts) ≡ length ts
as_many ts = length-map ts _

-- what holds of each formula holds of the one in a place
pub typed_at : (P : Formula → Type 0) (fs : List Made) (k : ℕ) (f : Made) → All P (map formula_as fs) → k < length fs → f ≡ get_or fs k f → P (formula_as f)
typed_at P [] k f all h e = absurd (omega (arith, h))
typed_at P (x ∷ fs) zero f all h e = subst (λ y. P (formula_as y)) (sym e) (All-head P (formula_as x) (map formula_as fs) all)
typed_at P (x ∷ fs) (suc k) f all h e = typed_at P fs k f (All-tail P (formula_as x) (map formula_as fs) all) (omega (arith, h)) e

module _ (fs : List Made) where
  -- those of the formulas from a place on
  abbrev pub left : ℕ → ℕ
  left k = term_count (map formula_as (drop k fs))

  pub next_left : (k : ℕ) (f : Made) (count : ℕ) → k < length fs → f ≡ get_or fs k f → count ≡ length (terms_in (claim (formula_as f))) → left k ≡ count + left (k + 1)
  next_left k f count h e is =
      let at : drop k fs ≡ f ∷ drop (k + 1) fs = drop_more fs k f h ∙ ap (λ y. y ∷ drop (k + 1) fs) (sym e) in
      ap (λ gs. term_count (map formula_as gs)) at ∙ ap (λ n. n + left (k + 1)) (sym is)

  none : (k : ℕ) (gs : List Made) → length gs ≤ k → drop k gs ≡ []
  none zero [] h = refl
  none (suc k) [] h = refl
  none zero (g ∷ gs) h = absurd (omega (arith, h))
  none (suc k) (g ∷ gs) h = none k gs (omega (arith, h))

  pub none_left : (k : ℕ) → length fs ≤ k → left k ≡ 0
  none_left k h = ap (λ gs. term_count (map formula_as gs)) (none k fs h)
