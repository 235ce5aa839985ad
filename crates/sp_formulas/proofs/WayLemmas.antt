-- A list of formulas that is added in turns.
use Rattle.std.proofs.Common.{◌≡◌, refl, sym, ◌∙◌, ap, subst, ℕ, zero, suc, ◌+◌, ◌<◌, List, [], ◌∷◌, ◌++◌, map, length, drop, append_assoc, get_or, arith}
use Rattle.std.specs.Prelude.{slice_get, Some}
use Rattle.std.proofs.lemmas.List.{append-nil, drop_all, length-map, map-append}
use Rattle.std.proofs.lemmas.Option.{none-some, same_Some, slice_get-map, slice_get_read}
use Rattle.std.specs.Option.{option_map}
use Rattle.sp_core.specs.Parts.{Parts}
use Rattle.sp_core.specs.Tree.{Tree, Not, trees_of}
use Rattle.sp_sequent.specs.declared.formula.Formula.{Formula as Made}
use Rattle.sp_formulas.specs.Formulas.{Formula, Spot, exception_formulas, guard_formulas, reference_formula, reference_formulas}
use Rattle.sp_formulas.specs.Generated.{IsAdded, IsRefused, IsUnderWay}
use Rattle.sp_formulas.specs.Typed.{AreTypedFormulas, IsTypedFormula}
use Rattle.sp_formulas.proofs.Alls.{All-back, All-front}
use Rattle.sp_formulas.specs.References.{references, references_in}
use Rattle.sp_formulas.specs.declared.fault.FormulaFault.{FormulaFault}
use Rattle.sp_formulas.proofs.GeneratedLemmas.{added_none, added_then, refused_first, refused_later}

module _ (p : Parts) (old : List Made) (all : List Formula) where
  pub way_start : IsUnderWay p old old all all
  way_start = ([], added_none p old, refl)

  pub way_step : (now new : List Made) (todo rest gs : List Formula) → IsUnderWay p old now todo all → todo ≡ gs ++ rest → IsAdded p now new gs → IsUnderWay p old new rest all
  way_step now new todo rest gs w split a = (w.0 ++ gs, added_then p old now new w.0 gs w.1 a, append_assoc w.0 gs rest ∙ ap (λ x. w.0 ++ x) (sym split) ∙ w.2)

  pub way_end : (now : List Made) (todo : List Formula) → todo ≡ [] → IsUnderWay p old now todo all → IsAdded p old now all
  way_end now todo none w = subst (IsAdded p old now) (sym (append-nil w.0) ∙ ap (λ x. w.0 ++ x) (sym none) ∙ w.2) w.1

  pub way_typed : (now : List Made) (todo rest gs : List Formula) → IsUnderWay p old now todo all → todo ≡ gs ++ rest → AreTypedFormulas p all → AreTypedFormulas p gs
  way_typed now todo rest gs w split h = All-front (IsTypedFormula p) gs rest (subst (AreTypedFormulas p) split (All-back (IsTypedFormula p) w.0 todo (subst (AreTypedFormulas p) (sym w.2) h)))

  pub way_refused : (now : List Made) (todo rest gs : List Formula) (e : FormulaFault) → IsUnderWay p old now todo all → todo ≡ gs ++ rest → IsRefused p (length now) gs e → IsRefused p (length old) all e
  way_refused now todo rest gs e w split r =
      subst (λ fs. IsRefused p (length old) fs e) (ap (λ x. w.0 ++ x) (sym split) ∙ w.2) (refused_later p old now w.0 (gs ++ rest) e w.1 (refused_first p (length now) gs rest e r))

-- exceptions: one from the front
drop_next : {X : Type 0} (xs : List X) (k : ℕ) (x : X) → slice_get xs k ≡ Some x → drop k xs ≡ x ∷ drop (suc k) xs
drop_next [] k x q = absurd (none-some x q)
drop_next (y ∷ xs) zero x q = ap (λ z. z ∷ xs) (same_Some y x q)
drop_next (y ∷ xs) (suc k) x q = drop_next xs k x q

pub exceptions_next : {X : Type 0} (p : Parts) (o : Spot) (before more : List Tree) (f : X → Tree) (xs ys : List X) (k : ℕ) (x : X) → ys ≡ xs → k < length ys → x ≡ get_or ys k x → more ≡ before ++ Not (f x) ∷ []
    → exception_formulas p o before (drop k (map f xs)) ≡ reference_formulas p o before (references (f x)) ++ exception_formulas p o more (drop (k + 1) (map f xs))
exceptions_next p o before more f xs ys k x same below is up =
    let there : slice_get (map f xs) k ≡ Some (f x) = ap (λ zs. slice_get (map f zs) k) (sym same) ∙ slice_get-map f ys k ∙ ap (option_map f) (slice_get_read ys (length ys) k x refl below is) in
    let e : suc k ≡ k + 1 = omega arith in
    ap (exception_formulas p o before) (drop_next (map f xs) k (f x) there)
    ∙ ap (λ b. reference_formulas p o before (references (f x)) ++ exception_formulas p o b (drop (suc k) (map f xs))) (sym up)
    ∙ ap (λ n. reference_formulas p o before (references (f x)) ++ exception_formulas p o more (drop n (map f xs))) e

pub exceptions_end : {X : Type 0} (p : Parts) (o : Spot) (before : List Tree) (f : X → Tree) (xs : List X) (k : ℕ) → length xs < k + 1 → exception_formulas p o before (drop k (map f xs)) ≡ []
exceptions_end p o before f xs k h = ap (exception_formulas p o before) (drop_all k (map f xs) (omega (arith, h, length-map xs f)))

-- guards: the same
pub guards_next : {X : Type 0} (p : Parts) (o : Spot) (before more : List Tree) (f : X → Tree) (xs : List X) (k : ℕ) (x : X) → k < length xs → x ≡ get_or xs k x → more ≡ before ++ f x ∷ []
    → guard_formulas p o before (drop k (map f xs)) ≡ reference_formulas p o before (references (f x)) ++ guard_formulas p o more (drop (k + 1) (map f xs))
guards_next p o before more f xs k x below is up =
    let there : slice_get (map f xs) k ≡ Some (f x) = slice_get-map f xs k ∙ ap (option_map f) (slice_get_read xs (length xs) k x refl below is) in
    let e : suc k ≡ k + 1 = omega arith in
    ap (guard_formulas p o before) (drop_next (map f xs) k (f x) there)
    ∙ ap (λ b. reference_formulas p o before (references (f x)) ++ guard_formulas p o b (drop (suc k) (map f xs))) (sym up)
    ∙ ap (λ n. reference_formulas p o before (references (f x)) ++ guard_formulas p o more (drop n (map f xs))) e

-- references of expressions, one after the other
pub targets_next : {X : Type 0} (p : Parts) (o : Spot) (hyps : List Tree) (f : X → Tree) (xs : List X) (k : ℕ) (x : X) → k < length xs → x ≡ get_or xs k x
    → reference_formulas p o hyps (references_in (trees_of (drop k (map f xs)))) ≡ reference_formulas p o hyps (references (f x)) ++ reference_formulas p o hyps (references_in (trees_of (drop (k + 1) (map f xs))))
targets_next p o hyps f xs k x below is =
    let there : slice_get (map f xs) k ≡ Some (f x) = slice_get-map f xs k ∙ ap (option_map f) (slice_get_read xs (length xs) k x refl below is) in
    let e : suc k ≡ k + 1 = omega arith in
    ap (λ ts. reference_formulas p o hyps (references_in (trees_of ts))) (drop_next (map f xs) k (f x) there)
    ∙ map-append (reference_formula p o hyps) (references (f x)) (references_in (trees_of (drop (suc k) (map f xs))))
    ∙ ap (λ n. reference_formulas p o hyps (references (f x)) ++ reference_formulas p o hyps (references_in (trees_of (drop n (map f xs))))) e
