-- What the parts of effects that are typed in an environment are themselves, and how many changes they have.
use Rattle.std.proofs.Common.{◌≡◌, refl, sym, ◌∙◌, ap, subst, arith, ℕ, zero, suc, ◌+◌, ◌-◌, ◌<◌, ◌≤◌, true, List, [], ◌∷◌, ◌++◌, length, length-append, map, take, drop, get_or}
use Rattle.std.specs.Prelude.{max}
use Rattle.std.proofs.lemmas.List.{length-map}
use Rattle.std.proofs.Math.Seq.{take-length}
use Rattle.sp_values.specs.declared.value.Ty.{Ty}
use Rattle.sp_values.specs.declared.value.Ty.TheVariants as ty
use Rattle.sp_values.specs.declared.value.Value.{Value}
use Rattle.sp_values.specs.Domains.{are_values, is_value}
use Rattle.sp_core.specs.declared.expr.Expr.{Expr}
use Rattle.sp_core.specs.declared.function.Effect.{Effect}
use Rattle.sp_core.specs.declared.function.Effect.TheVariants as effect
use Rattle.sp_core.specs.Effects.{EffectTree, EffectTrees, Change, If, Every, more, change_under, change_within, changes, changes_in, effect_tree, effect_trees_of}
use Rattle.sp_core.specs.Machine.{types_of}
use Rattle.sp_core.specs.Measures.{bound_variables, bound_variables_in}
use Rattle.sp_core.specs.Parts.{signature}
use Rattle.sp_core.specs.Tree.{Tree, Trees, Not, tree, trees_of}
use Rattle.sp_core.specs.Tree as trees
use Rattle.sp_core.specs.WellFormed.{AreNewExpressions}
use Rattle.sp_core.proofs.Bindings.{are_values-append}
use Rattle.sp_core.proofs.TreeLemmas.{effect_tree-Change, effect_tree-If, effect_tree-Every}
use Rattle.sp_core.proofs.Types.{both_true, level_typed, member_typed}
use Rattle.sp_eval.specs.Conditions.{HasNoNew, IsTypedIn}
use Rattle.sp_eval.specs.Settings.{IsSetting, Setting, population, proper_at, sizes, tree_value, tree_values}
use Rattle.sp_listing.specs.Conditions.{AreArgumentsIn, AreEffectsIn, IsBodyIn, IsConditionIn, IsEffectIn, IsNewValueIn}
use Rattle.sp_listing.proofs.Walks.{load, loads}

-- Slices

pub parted : {A : Type 0} (es : List A) (f : A) → 1 ≤ length es → f ≡ get_or es 0 f → es ≡ f ∷ take (length es - 1) (drop 1 es)
parted [] f l e = absurd (omega (arith, l))
parted (g ∷ es) f l e =
    let one : length (g ∷ es) - 1 ≡ length es = omega arith in
    λ i. sym e i ∷ sym (ap (λ n. take n es) one ∙ take-length es) i

pub more_is : (es : List Effect) (f : Effect) → 1 ≤ length es → f ≡ get_or es 0 f → effect_trees_of (map effect_tree es) ≡ more (effect_tree f) (effect_trees_of (map effect_tree (take (length es - 1) (drop 1 es))))
more_is es f l e = ap (λ fs. effect_trees_of (map effect_tree fs)) (parted es f l e)

pub change_is : (e : Effect) (g : ℕ) (ds xs : List Expr) (v : Expr) → e ≡ effect.Change g ds v → xs ≡ ds → effect_tree e ≡ Change g (trees_of (map tree xs)) (tree v)
change_is e g ds xs v i j = ap effect_tree i ∙ effect_tree-Change g ds v ∙ ap (λ (xs : List Expr). Change g (trees_of (map tree xs)) (tree v)) (sym j)

pub if_is : (e : Effect) (c : Expr) (as' bs xs ys : List Effect) → e ≡ effect.If c as' bs → xs ≡ as' → ys ≡ bs → effect_tree e ≡ If (tree c) (effect_trees_of (map effect_tree xs)) (effect_trees_of (map effect_tree ys))
if_is e c as' bs xs ys i j k =
    ap effect_tree i ∙ effect_tree-If c as' bs ∙ (λ n. If (tree c) (effect_trees_of (map effect_tree (sym j n))) (effect_trees_of (map effect_tree (sym k n))))

pub every_is : (e : Effect) (k : ℕ) (t : Ty) (ws xs : List Effect) → e ≡ effect.Every k t ws → xs ≡ ws → effect_tree e ≡ Every k t (effect_trees_of (map effect_tree xs))
every_is e k t ws xs i j = ap effect_tree i ∙ effect_tree-Every k t ws ∙ ap (λ (xs : List Effect). Every k t (effect_trees_of (map effect_tree xs))) (sym j)

-- How many changes

pub count_more : (ws vs : EffectTrees) (w : EffectTree) → ws ≡ more w vs → length (changes_in ws) ≡ length (changes w) + length (changes_in vs)
count_more ws vs w q = ap (λ v. length (changes_in v)) q ∙ length-append (changes w) (changes_in vs)

pub count_if : (w : EffectTree) (c : Tree) (as' bs : EffectTrees) → w ≡ If c as' bs → length (changes w) ≡ length (changes_in as') + length (changes_in bs)
count_if w c as' bs q =
    let one = length-map (changes_in as') (change_under c) in
    let two = length-map (changes_in bs) (change_under (Not c)) in
    let all = ap (λ v. length (changes v)) q ∙ length-append (map (change_under c) (changes_in as')) (map (change_under (Not c)) (changes_in bs)) in
    omega (arith, one, two, all)

pub count_every : (w : EffectTree) (k : ℕ) (t : Ty) (ws : EffectTrees) → w ≡ Every k t ws → length (changes w) ≡ length (changes_in ws)
count_every w k t ws q = ap (λ v. length (changes v)) q ∙ length-map (changes_in ws) (change_within t)

-- How much is to be done

pub load_more : (ws vs : EffectTrees) (w : EffectTree) → ws ≡ more w vs → loads ws ≡ suc (load w + loads vs)
load_more ws vs w q = ap loads q

pub load_if : (w : EffectTree) (c : Tree) (as' bs : EffectTrees) → w ≡ If c as' bs → load w ≡ suc (loads as' + loads bs)
load_if w c as' bs q = ap load q

pub load_every : (w : EffectTree) (k : ℕ) (t : Ty) (ws : EffectTrees) → w ≡ Every k t ws → load w ≡ suc (suc (loads ws))
load_every w k t ws q = ap load q

max_left : (a b n : ℕ) → n + max a b ≤ 10 → n + a ≤ 10
max_left a b n l = omega (arith, l)

max_right : (a b n : ℕ) → n + max a b ≤ 10 → n + b ≤ 10
max_right a b n l = omega (arith, l)

module _ (s : Setting) (x : List Value) where
  -- Expressions

  pub condition_typed : (e : Tree) → IsConditionIn s x e → IsTypedIn s.parts s.instance x e
  condition_typed e h = (h.0, _, record { values = h.1.environment.values; typed = h.1.expression.typed; room = omega (arith, h.1.environment.room, h.1.expression.few_quantifiers) })

  pub condition_old : (e : Tree) → IsConditionIn s x e → HasNoNew e
  condition_old e h = h.1.expression.no_new

  pub value_typed : (e : Tree) → IsNewValueIn s x e → IsTypedIn s.parts s.instance x e
  value_typed e h = (h.0, h.1, record { values = h.2.environment.values; typed = h.2.expression.typed; room = omega (arith, h.2.environment.room, h.2.expression.few_quantifiers) })

  -- one of several arguments
  pub argument : (ds : List Expr) (xs ts : List Ty) → AreNewExpressions (signature s.parts) xs (trees_of (map tree ds)) ts → (k : ℕ) (d : Expr) → k < length ds → d ≡ get_or ds k d
      → (t : Ty) × ((e : Tree) → e ≡ tree d → AreNewExpressions (signature s.parts) xs (trees.more e trees.none) (t ∷ []))
  argument [] xs ts h k d l e = absurd (omega (arith, l))
  argument (y ∷ ds) xs [] h k d l e = absurd h
  argument (y ∷ ds) xs (t ∷ ts) h zero d l e = (t, λ q i. (subst (λ q. AreNewExpressions (signature s.parts) xs (trees.more q trees.none) (t ∷ [])) (ap tree (sym e) ∙ sym i) (h.0, tt)))
  argument (y ∷ ds) xs (t ∷ ts) h (suc k) d l e = argument ds xs ts h.1 k d (omega (arith, l)) e

  pub argument_in : (ds : List Expr) → AreArgumentsIn s x (trees_of (map tree ds)) → (k : ℕ) (d : Expr) → k < length ds → d ≡ get_or ds k d → IsNewValueIn s x (tree d)
  argument_in ds h k d l e =
      let q = argument ds h.0 h.1 h.2.expressions k d l e in
      (h.0, q.0, record { environment = h.2.environment; expression = (q.1 (tree d) refl).0 })

  same_length : (ds : List Expr) (xs ts : List Ty) → AreNewExpressions (signature s.parts) xs (trees_of (map tree ds)) ts → length ds ≡ length ts
  same_length [] xs [] h = refl
  same_length [] xs (t ∷ ts) h = absurd h
  same_length (d ∷ ds) xs [] h = absurd h
  same_length (d ∷ ds) xs (t ∷ ts) h = ap suc (same_length ds xs ts h.1)

  pub few_arguments : (ds : List Expr) → AreArgumentsIn s x (trees_of (map tree ds)) → length ds ≤ 8
  few_arguments ds h = let l = same_length ds h.0 h.1 h.2.expressions in omega (arith, l, h.2.few)

  length_take : (ds : List Expr) (k : ℕ) → length (take k ds) ≤ k
  length_take ds zero = omega arith
  length_take [] (suc k) = omega arith
  length_take (d ∷ ds) (suc k) = let l = length_take ds k in omega (arith, l)

  length_values : (ds : List Expr) → length (tree_values s x (trees_of (map tree ds))) ≡ length ds
  length_values [] = refl
  length_values (d ∷ ds) = ap suc (length_values ds)

  pub few_before : (ds : List Expr) → AreArgumentsIn s x (trees_of (map tree ds)) → (k : ℕ) → k < length ds → (args : List Value) → args ≡ tree_values s x (trees_of (map tree (take k ds))) → length args < 8
  few_before ds h k l args e =
      let few = few_arguments ds h in
      let long : length args ≡ length (take k ds) = ap length e ∙ length_values (take k ds) in
      let most = length_take ds k in
      omega (arith, few, l, long, most)

  pub values_next : (ds : List Expr) (k : ℕ) (d : Expr) → k < length ds → d ≡ get_or ds k d
      → tree_values s x (trees_of (map tree (take (suc k) ds))) ≡ tree_values s x (trees_of (map tree (take k ds))) ++ tree_value s x (tree d) ∷ []
  values_next [] k d l e = absurd (omega (arith, l))
  values_next (y ∷ ds) zero d l e = ap (λ z. tree_value s x (tree z) ∷ []) (sym e)
  values_next (y ∷ ds) (suc k) d l e = ap (λ vs. tree_value s x (tree y) ∷ vs) (values_next ds k d (omega (arith, l)) e)

  -- Effects

  pub change_arguments : IsSetting s → (w : EffectTree) (g : ℕ) (ds : Trees) (e : Tree) → w ≡ Change g ds e → IsEffectIn s x w → AreArgumentsIn s x ds
  change_arguments setting w g ds e q h =
      let k = subst (IsEffectIn s x) q h in
      let c = k.2.effect in
      let few = (setting.well_formed.functions g c.0 c.2).formals.few in
      let many = length-map c.0.formals (λ p. p.ty) in
      (k.1, types_of c.0.formals, record { environment = record { values = k.2.environment.values; room = omega (arith, k.2.environment.room) }; expressions = c.4; few = omega (arith, few, many) })

  pub change_value : (w : EffectTree) (g : ℕ) (ds : Trees) (e : Tree) → w ≡ Change g ds e → IsEffectIn s x w → IsNewValueIn s x e
  change_value w g ds e q h =
      let k = subst (IsEffectIn s x) q h in
      (k.1, k.2.effect.1, record { environment = record { values = k.2.environment.values; room = omega (arith, k.2.environment.room) }; expression = k.2.effect.5 })

  pub if_condition : (w : EffectTree) (c : Tree) (as' bs : EffectTrees) → w ≡ If c as' bs → IsEffectIn s x w → IsConditionIn s x c
  if_condition w c as' bs q h =
      let k = subst (IsEffectIn s x) q h in
      (k.1, record { environment = record { values = k.2.environment.values; room = omega (arith, k.2.environment.room) }; expression = k.2.effect.0 })

  pub if_then : (w : EffectTree) (c : Tree) (as' bs : EffectTrees) → w ≡ If c as' bs → IsEffectIn s x w → AreEffectsIn s x as'
  if_then w c as' bs q h =
      let k = subst (IsEffectIn s x) q h in
      let count = count_if (If c as' bs) c as' bs refl in (
        k.0,
        k.1,
        record {
          environment = record { values = k.2.environment.values; room = max_left (bound_variables_in as') (bound_variables_in bs) (length x) k.2.environment.room };
          effects = k.2.effect.1;
          few = omega (arith, count, k.2.few);
        },
      )

  pub if_else : (w : EffectTree) (c : Tree) (as' bs : EffectTrees) → w ≡ If c as' bs → IsEffectIn s x w → AreEffectsIn s x bs
  if_else w c as' bs q h =
      let k = subst (IsEffectIn s x) q h in
      let count = count_if (If c as' bs) c as' bs refl in (
        k.0,
        k.1,
        record {
          environment = record { values = k.2.environment.values; room = max_right (bound_variables_in as') (bound_variables_in bs) (length x) k.2.environment.room };
          effects = k.2.effect.2;
          few = omega (arith, count, k.2.few);
        },
      )

  pub every_body : (w : EffectTree) (k : ℕ) (t : Ty) (ws : EffectTrees) → w ≡ Every k t ws → IsEffectIn s x w → IsBodyIn s x t ws
  every_body w k t ws q h =
      let e = subst (IsEffectIn s x) q h in
      let count = count_every (Every k t ws) k t ws refl in (
        e.0,
        e.1,
        record {
          environment = record { values = e.2.environment.values; room = omega (arith, e.2.environment.room) };
          finite = e.2.effect.1;
          effects = e.2.effect.2;
          few = omega (arith, count, e.2.few);
        },
      )

  pub first_effect : (ws vs : EffectTrees) (w : EffectTree) → ws ≡ more w vs → AreEffectsIn s x ws → IsEffectIn s x w
  first_effect ws vs w q h =
      let k = subst (AreEffectsIn s x) q h in
      let count = count_more (more w vs) vs w refl in (
        k.0,
        k.1,
        record {
          environment = record { values = k.2.environment.values; room = max_left (bound_variables w) (bound_variables_in vs) (length x) k.2.environment.room };
          effect = k.2.effects.0;
          few = omega (arith, count, k.2.few);
        },
      )

  pub rest_effects : (ws vs : EffectTrees) (w : EffectTree) → ws ≡ more w vs → AreEffectsIn s x ws → AreEffectsIn s x vs
  rest_effects ws vs w q h =
      let k = subst (AreEffectsIn s x) q h in
      let count = count_more (more w vs) vs w refl in (
        k.0,
        k.1,
        record {
          environment = record { values = k.2.environment.values; room = max_right (bound_variables w) (bound_variables_in vs) (length x) k.2.environment.room };
          effects = k.2.effects.1;
          few = omega (arith, count, k.2.few);
        },
      )

  -- the proper value of a number
  proper_typed : (t : Ty) (j : ℕ) → j < population (sizes s) t → is_value (sizes s) t (proper_at t j) ≡ true
  proper_typed ty.Boolean j l = refl
  proper_typed ty.Integer j l = absurd (omega (arith, l))
  proper_typed ty.Level j l = level_typed (sizes s) j l
  proper_typed (ty.Member k) j l = member_typed (sizes s) k j l

  -- the body of a FORALL effect, for one more value of the type
  pub body_at : (t : Ty) (ws : EffectTrees) → IsBodyIn s x t ws → (c : Value) → (j n : ℕ) → j < n → n ≡ population (sizes s) t → c ≡ proper_at t j → (y : List Value) → y ≡ x ++ c ∷ [] → AreEffectsIn s y ws
  body_at t ws h c j n l e is y at =
      let typed : is_value (sizes s) t c ≡ true = ap (λ c. is_value (sizes s) t c) is ∙ proper_typed t j (omega (arith, l, e)) in
      let long : length y ≡ length x + 1 = ap length at ∙ length-append x (c ∷ []) in (
        h.0,
        h.1 ++ t ∷ [],
        record {
          environment = record {
            values = subst (λ y. are_values (sizes s) (h.1 ++ t ∷ []) y ≡ true) (sym at) (are_values-append (sizes s) h.1 (t ∷ []) x (c ∷ []) h.2.environment.values (both_true (is_value (sizes s) t c) true typed refl));
            room = omega (arith, h.2.environment.room, long);
          };
          effects = h.2.effects;
          few = h.2.few;
        },
      )

  pub body_room : (t : Ty) (ws : EffectTrees) → IsBodyIn s x t ws → length x < 16
  body_room t ws h = omega (arith, h.2.environment.room)
