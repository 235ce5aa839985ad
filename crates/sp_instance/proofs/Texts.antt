-- Steps of loops over types, formals and texts of values.
use Rattle.std.proofs.Common.{◌≡◌, refl, sym, ◌∙◌, ap, subst, arith, ℕ, zero, suc, ◌+◌, ◌<◌, ◌≤◌, List, [], ◌∷◌, ◌++◌, Bool, Some, None, take, length, length-take, get_or, append_assoc}
use Rattle.std.specs.Prelude.{slice_get, slice_index_or}
use Rattle.std.specs.List.{All}
use Rattle.std.proofs.lemmas.List.{append-nil}
use Rattle.std.proofs.lemmas.Option.{none-some, same_Some}
use Rattle.sp_tree.specs.declared.instance.ValueTree.{ValueTree}
use Rattle.sp_core.specs.declared.function.Formal.{Formal}
use Rattle.sp_core.specs.Machine.{types_of}
use Rattle.sp_naming.proofs.Gathering.{next_item}
use Rattle.sp_instance.specs.Words.{Words}
use Rattle.sp_instance.specs.Meanings.{value_broken, value_in, values_broken, values_in}

got_next : {X : Type 0} (xs : List X) (k : ℕ) (x : X) → slice_get xs k ≡ Some x → take k xs ++ x ∷ [] ≡ take (suc k) xs
got_next [] k x e = absurd (none-some x e)
got_next (y ∷ ys) zero x e = λ i. sym (same_Some y x e) i ∷ []
got_next (y ∷ ys) (suc k) x e = ap (λ zs. y ∷ zs) (got_next ys k x e)

-- the items up to a place, and the one there
pub next_got : {X : Type 0} (xs : List X) (k : ℕ) (x : X) → slice_get xs k ≡ Some x → take k xs ++ x ∷ [] ≡ take (k + 1) xs
next_got xs k x e =
    let more : suc k ≡ k + 1 = omega arith in
    got_next xs k x e ∙ ap (λ n. take n xs) more

made-more : (w : Words) (p : Bool) (fs : List Formal) (vs : List ValueTree) (f : Formal) (v : ValueTree) → length vs ≡ length fs →
    values_in w p (types_of fs) vs ++ value_in w p f.ty v ∷ [] ≡ values_in w p (types_of (fs ++ f ∷ [])) (vs ++ v ∷ [])
made-more w p [] [] f v h = refl
made-more w p [] (u ∷ vs) f v h = absurd (omega (arith, h))
made-more w p (g ∷ fs) [] f v h = absurd (omega (arith, h))
made-more w p (g ∷ fs) (u ∷ vs) f v h = ap (λ z. value_in w p g.ty u ∷ z) (made-more w p fs vs f v (omega (arith, h)))

broken-more : (w : Words) (p : Bool) (fs : List Formal) (vs : List ValueTree) (f : Formal) (v : ValueTree) → length vs ≡ length fs →
    values_broken w p (types_of fs) vs ++ value_broken w p f.ty v ≡ values_broken w p (types_of (fs ++ f ∷ [])) (vs ++ v ∷ [])
broken-more w p [] [] f v h = sym (append-nil (value_broken w p f.ty v))
broken-more w p [] (u ∷ vs) f v h = absurd (omega (arith, h))
broken-more w p (g ∷ fs) [] f v h = absurd (omega (arith, h))
broken-more w p (g ∷ fs) (u ∷ vs) f v h =
    append_assoc (value_broken w p g.ty u) (values_broken w p (types_of fs) vs) (value_broken w p f.ty v)
    ∙ ap (λ z. value_broken w p g.ty u ++ z) (broken-more w p fs vs f v (omega (arith, h)))

-- one more value
pub next_made : (w : Words) (p : Bool) (fs : List Formal) (vs : List ValueTree) (k : ℕ) (f : Formal) (v : ValueTree) → length vs ≡ length fs →
    k < length fs → f ≡ get_or fs k f → v ≡ get_or vs k v →
    values_in w p (types_of (take k fs)) (take k vs) ++ value_in w p f.ty v ∷ [] ≡ values_in w p (types_of (take (k + 1) fs)) (take (k + 1) vs)
next_made w p fs vs k f v h lt e d =
    let same : length (take k vs) ≡ length (take k fs) = omega (arith, length-take k vs, length-take k fs, h) in
    made-more w p (take k fs) (take k vs) f v same
    ∙ (λ i. values_in w p (types_of (next_item fs k f lt e i)) (next_item vs k v (omega (arith, lt, h)) d i))

-- and what it breaks
pub next_broken : (w : Words) (p : Bool) (fs : List Formal) (vs : List ValueTree) (k : ℕ) (f : Formal) (v : ValueTree) → length vs ≡ length fs →
    k < length fs → f ≡ get_or fs k f → v ≡ get_or vs k v →
    values_broken w p (types_of (take k fs)) (take k vs) ++ value_broken w p f.ty v ≡ values_broken w p (types_of (take (k + 1) fs)) (take (k + 1) vs)
next_broken w p fs vs k f v h lt e d =
    let same : length (take k vs) ≡ length (take k fs) = omega (arith, length-take k vs, length-take k fs, h) in
    broken-more w p (take k fs) (take k vs) f v same
    ∙ (λ i. values_broken w p (types_of (next_item fs k f lt e i)) (next_item vs k v (omega (arith, lt, h)) d i))

-- at most as many values as formals
made_few : (w : Words) (p : Bool) (fs : List Formal) (vs : List ValueTree) → length (values_in w p (types_of fs) vs) ≤ length fs
made_few w p [] vs = omega arith
made_few w p (f ∷ fs) [] = omega arith
made_few w p (f ∷ fs) (v ∷ vs) = omega (arith, made_few w p fs vs)

pub room : (w : Words) (p : Bool) (fs : List Formal) (vs : List ValueTree) (k : ℕ) → k < length fs → length fs ≤ 8 → length (values_in w p (types_of (take k fs)) (take k vs)) < 8
room w p fs vs k lt h = omega (arith, made_few w p (take k fs) (take k vs), length-take k fs, lt, h)

-- what a list has at a place
pub got_none : {X : Type 0} (xs : List X) (k : ℕ) (d : X) → slice_get xs k ≡ None → d ≡ slice_index_or xs k d
got_none [] k d e = refl
got_none (x ∷ xs) zero d e = absurd cc
got_none (x ∷ xs) (suc k) d e = got_none xs k d e

pub all_got : {X : Type 0} (P : X → Type 0) (xs : List X) (k : ℕ) (x : X) → All P xs → slice_get xs k ≡ Some x → P x
all_got P [] k x a e = absurd (none-some x e)
all_got P (y ∷ ys) zero x a e = subst P (same_Some y x e) (a 0 y (omega arith))
all_got P (y ∷ ys) (suc k) x a e = all_got P ys k x (λ j b lt. a (suc j) b (omega (arith, lt))) e
