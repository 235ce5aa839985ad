-- The formulas of functions, of items and of pairs, one after the other.
use Rattle.std.proofs.Common.{◌≡◌, sym, ◌∙◌, ap, subst, arith, ℕ, ◌+◌, ◌-◌, ◌<◌, List, ◌++◌, map, length, take, drop, get_or, length-drop}
use Rattle.std.specs.Prelude.{All, Some, slice_get}
use Rattle.std.specs.List.{flat_map}
use Rattle.std.proofs.lemmas.List.{drop-map, take_all}
use Rattle.sp_core.specs.declared.function.Function.{Function}
use Rattle.sp_values.specs.declared.value.Ty.{Ty}
use Rattle.sp_core.specs.declared.expr.Expr.{Expr}
use Rattle.sp_core.specs.Tree.{tree}
use Rattle.sp_core.specs.Effects.{effect_trees}
use Rattle.sp_core.specs.Parts.{Parts}
use Rattle.sp_core.specs.WellFormed.{IsWellFormed}
use Rattle.sp_formulas.specs.Formulas.{agreement_of, agreements, agreements_with, deed_formulas, formulas_from, function_formulas, guards_of, item_formulas}
use Rattle.sp_formulas.specs.Items.{Item, Deed, items_in}
use Rattle.sp_generator.specs.declared.items.Item.{Item as CollectedItem}
use Rattle.sp_generator.specs.Collected.{deed_as, item_as}
use Rattle.sp_generator.specs.Listed.{effects_at}
use Rattle.sp_generator.specs.Room.{HasRoom}
use Rattle.sp_generator.proofs.Nexts.{next_from, next_here}
use Rattle.sp_generator.proofs.Rooms.{All-of_map, items_room}

pub effects_are : (p : Parts) (g : ℕ) (f : Function) (xs ys : List Item) → xs ≡ items_in (effect_trees f.kind) → ys ≡ items_in (effect_trees f.kind)
    → effects_at p g f ≡ flat_map (item_formulas p g f) xs ++ agreements p g f ys
effects_are p g f xs ys a b = λ i. flat_map (item_formulas p g f) (sym a i) ++ agreements p g f (sym b i)

-- the collected items of a function have room
pub collected_room : (p : Parts) → IsWellFormed p → (g : ℕ) (f : Function) → slice_get p.functions g ≡ Some f → (is' : List CollectedItem) → map item_as is' ≡ items_in (effect_trees f.kind) → All (λ i. HasRoom f (item_as i)) is'
collected_room p fine g f at is' same = All-of_map (HasRoom f) item_as is' (subst (All (HasRoom f)) (sym same) (items_room p fine g f at))

-- an item's formulas are those of what it does
pub item_is : (p : Parts) (g : ℕ) (f : Function) (i : CollectedItem) (vars : List Ty) (guards : List Expr) (d : Deed) → vars ≡ i.vars.items → map tree guards ≡ guards_of f (item_as i) → deed_as i.deed ≡ d
    → deed_formulas p g f vars (map tree guards) d ≡ item_formulas p g f (item_as i)
item_is p g f i vars guards d v gs e = λ n. deed_formulas p g f (v n) (gs n) (sym e n)

-- one more
pub functions_next : (p : Parts) (fs : List Function) (k : ℕ) (f : Function) → k < length fs → f ≡ get_or fs k f → formulas_from p k (drop k fs) ≡ function_formulas p k f ++ formulas_from p (k + 1) (drop (k + 1) fs)
functions_next p fs k f l e = ap (formulas_from p k) (next_here fs k f l e)

pub items_next : (p : Parts) (g : ℕ) (f : Function) (is' : List CollectedItem) (k : ℕ) (i : CollectedItem) → k < length is' → i ≡ get_or is' k i
    → flat_map (item_formulas p g f) (drop k (map item_as is')) ≡ item_formulas p g f (item_as i) ++ flat_map (item_formulas p g f) (drop (k + 1) (map item_as is'))
items_next p g f is' k i l e = ap (flat_map (item_formulas p g f)) (next_from item_as is' k i l e)

pub later_next : (p : Parts) (g : ℕ) (f : Function) (i : Item) (js : List CollectedItem) (k : ℕ) (j : CollectedItem) → k < length js → j ≡ get_or js k j
    → agreements_with p g f i (drop k (map item_as js)) ≡ agreement_of p g f i (item_as j) i.deed (item_as j).deed ++ agreements_with p g f i (drop (k + 1) (map item_as js))
later_next p g f i js k j l e = ap (agreements_with p g f i) (next_from item_as js k j l e)

pub agreements_next : (p : Parts) (g : ℕ) (f : Function) (is' : List CollectedItem) (k : ℕ) (i : CollectedItem) → k < length is' → i ≡ get_or is' k i
    → agreements p g f (drop k (map item_as is')) ≡ agreements_with p g f (item_as i) (map item_as (take (length is' - (k + 1)) (drop (k + 1) is'))) ++ agreements p g f (drop (k + 1) (map item_as is'))
agreements_next p g f is' k i l e =
    let rest = take_all (length is' - (k + 1)) (drop (k + 1) is') (omega (arith, length-drop (k + 1) is')) in
    ap (agreements p g f) (next_from item_as is' k i l e)
    ∙ ap (λ x. agreements_with p g f (item_as i) x ++ agreements p g f (drop (k + 1) (map item_as is'))) (drop-map item_as (k + 1) is' ∙ ap (map item_as) (sym rest))
