-- The items of effects, within more variables and guards.
use Rattle.std.proofs.Common.{◌≡◌, refl, sym, ◌∙◌, ap, ℕ, List, [], ◌∷◌, ◌++◌, map, append_assoc}
use Rattle.std.proofs.lemmas.List.{append-nil, map-append}
use Rattle.sp_values.specs.declared.value.Ty.{Ty}
use Rattle.sp_core.specs.declared.expr.Expr.{Expr}
use Rattle.sp_core.specs.declared.function.Effect.{Effect}
use Rattle.sp_core.specs.declared.function.Effect.TheVariants as effect
use Rattle.sp_core.specs.Effects.{effect_tree, effect_trees_of}
use Rattle.sp_core.specs.Tree.{Tree, Not, tree, trees_of}
use Rattle.sp_core.proofs.TreeLemmas.{effect_tree-Answer, effect_tree-Change, effect_tree-Every, effect_tree-If}
use Rattle.sp_formulas.specs.Items.{Item, Deed, Change, Answer, item_under, item_within, items, items_in}
use Rattle.sp_generator.specs.Collected.{inside}

pub inside_none : (is' : List Item) → map (inside [] []) is' ≡ is'
inside_none [] = refl
inside_none (i ∷ is') = ap (λ xs. i ∷ xs) (inside_none is')

inside_under : (ts : List Ty) (cs : List Tree) (c : Tree) (is' : List Item) → map (inside ts cs) (map (item_under c) is') ≡ map (inside ts (cs ++ c ∷ [])) is'
inside_under ts cs c [] = refl
inside_under ts cs c (i ∷ is') =
    let first = append_assoc cs (c ∷ []) i.guards in
    let rest = inside_under ts cs c is' in
    λ n. record { vars = ts ++ i.vars; guards = sym first n; deed = i.deed } ∷ rest n

inside_within : (ts : List Ty) (cs : List Tree) (t : Ty) (is' : List Item) → map (inside ts cs) (map (item_within t) is') ≡ map (inside (ts ++ t ∷ []) cs) is'
inside_within ts cs t [] = refl
inside_within ts cs t (i ∷ is') =
    let first = append_assoc ts (t ∷ []) i.vars in
    let rest = inside_within ts cs t is' in
    λ n. record { vars = sym first n; guards = cs ++ i.guards; deed = i.deed } ∷ rest n

inside_one : (ts : List Ty) (cs : List Tree) (d : Deed) → map (inside ts cs) (record { vars = []; guards = []; deed = d } ∷ []) ≡ record { vars = ts; guards = cs; deed = d } ∷ []
inside_one ts cs d =
    let v = append-nil ts in
    let g = append-nil cs in
    λ n. record { vars = v n; guards = g n; deed = d } ∷ []

-- the items of each form of effects
pub inside_Change : (ts : List Ty) (cs : List Tree) (w : Effect) (g : ℕ) (ds xs : List Expr) (e : Expr) → w ≡ effect.Change g ds e → xs ≡ ds
    → map (inside ts cs) (items (effect_tree w)) ≡ record { vars = ts; guards = cs; deed = Change g (trees_of (map tree xs)) (tree e) } ∷ []
inside_Change ts cs w g ds xs e is' same =
    ap (λ w. map (inside ts cs) (items (effect_tree w))) is' ∙ ap (λ w. map (inside ts cs) (items w)) (effect_tree-Change g ds e)
    ∙ inside_one ts cs (Change g (trees_of (map tree ds)) (tree e)) ∙ ap (λ ds. record { vars = ts; guards = cs; deed = Change g (trees_of (map tree ds)) (tree e) } ∷ []) (sym same)

pub inside_Answer : (ts : List Ty) (cs : List Tree) (w : Effect) (e : Expr) → w ≡ effect.Answer e
    → map (inside ts cs) (items (effect_tree w)) ≡ record { vars = ts; guards = cs; deed = Answer (tree e) } ∷ []
inside_Answer ts cs w e is' =
    ap (λ w. map (inside ts cs) (items (effect_tree w))) is' ∙ ap (λ w. map (inside ts cs) (items w)) (effect_tree-Answer e) ∙ inside_one ts cs (Answer (tree e))

-- those of effects, behind each other
abbrev pub insides : List Ty → List Tree → List Effect → List Item
insides ts cs ws = map (inside ts cs) (items_in (effect_trees_of (map effect_tree ws)))

pub inside_If : (ts : List Ty) (cs : List Tree) (w : Effect) (c : Expr) (as' bs xs ys : List Effect) → w ≡ effect.If c as' bs → xs ≡ as' → ys ≡ bs
    → map (inside ts cs) (items (effect_tree w)) ≡ insides ts (cs ++ tree c ∷ []) xs ++ insides ts (cs ++ Not (tree c) ∷ []) ys
inside_If ts cs w c as' bs xs ys is' j k =
    let A = items_in (effect_trees_of (map effect_tree as')) in
    let B = items_in (effect_trees_of (map effect_tree bs)) in
    ap (λ w. map (inside ts cs) (items (effect_tree w))) is' ∙ ap (λ w. map (inside ts cs) (items w)) (effect_tree-If c as' bs)
    ∙ map-append (inside ts cs) (map (item_under (tree c)) A) (map (item_under (Not (tree c))) B)
    ∙ (λ n. inside_under ts cs (tree c) A n ++ inside_under ts cs (Not (tree c)) B n)
    ∙ (λ n. insides ts (cs ++ tree c ∷ []) (sym j n) ++ insides ts (cs ++ Not (tree c) ∷ []) (sym k n))

pub inside_Every : (ts : List Ty) (cs : List Tree) (w : Effect) (k : ℕ) (t : Ty) (ws xs : List Effect) → w ≡ effect.Every k t ws → xs ≡ ws
    → map (inside ts cs) (items (effect_tree w)) ≡ insides (ts ++ t ∷ []) cs xs
inside_Every ts cs w k t ws xs is' j =
    ap (λ w. map (inside ts cs) (items (effect_tree w))) is' ∙ ap (λ w. map (inside ts cs) (items w)) (effect_tree-Every k t ws)
    ∙ inside_within ts cs t (items_in (effect_trees_of (map effect_tree ws))) ∙ ap (insides (ts ++ t ∷ []) cs) (sym j)

-- one effect more
pub insides_next : (ts : List Ty) (cs : List Tree) (w : Effect) (ws : List Effect) → insides ts cs (w ∷ ws) ≡ map (inside ts cs) (items (effect_tree w)) ++ insides ts cs ws
insides_next ts cs w ws = map-append (inside ts cs) (items (effect_tree w)) (items_in (effect_trees_of (map effect_tree ws)))

-- what is collected of a whole effect, where that of its parts is collected
pub collected_If : (old mid new : List Item) (ts : List Ty) (cs : List Tree) (w : Effect) (c : Expr) (as' bs xs ys : List Effect) → w ≡ effect.If c as' bs → xs ≡ as' → ys ≡ bs
    → (taken left : List Tree) → taken ≡ cs ++ tree c ∷ [] → left ≡ cs ++ Not (tree c) ∷ [] → mid ≡ old ++ insides ts taken xs → new ≡ mid ++ insides ts left ys
    → new ≡ old ++ map (inside ts cs) (items (effect_tree w))
collected_If old mid new ts cs w c as' bs xs ys is' j k taken left t l first second =
    second ∙ ap (λ m. m ++ insides ts left ys) first ∙ append_assoc old (insides ts taken xs) (insides ts left ys)
    ∙ ap (λ x. old ++ x) ((λ n. insides ts (t n) xs ++ insides ts (l n) ys) ∙ sym (inside_If ts cs w c as' bs xs ys is' j k))

pub collected_Every : (old new : List Item) (ts : List Ty) (cs : List Tree) (w : Effect) (k : ℕ) (t : Ty) (ws xs : List Effect) → w ≡ effect.Every k t ws → xs ≡ ws
    → (more : List Ty) → more ≡ ts ++ t ∷ [] → new ≡ old ++ insides more cs xs → new ≡ old ++ map (inside ts cs) (items (effect_tree w))
collected_Every old new ts cs w k t ws xs is' j more m h =
    h ∙ ap (λ x. old ++ x) (ap (λ vs. insides vs cs xs) m ∙ sym (inside_Every ts cs w k t ws xs is' j))
