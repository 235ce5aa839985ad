-- The changes and results of well-formed effects are typed, with their guards, and have few variables.
use Rattle.std.proofs.Common.{◌≡◌, refl, sym, subst, arith, ℕ, zero, suc, ◌≤◌, true, List, [], ◌∷◌, ◌++◌, length, map, append_assoc}
use Rattle.std.specs.Prelude.{Option, Some, None, slice_get}
use Rattle.std.specs.List.{All}
use Rattle.std.proofs.lemmas.List.{append-nil}
use Rattle.std.proofs.lemmas.List.Elements.{All-append, All-cons, All-map, All-nil, All-weaker}
use Rattle.sp_text.specs.declared.limits.TheConstants.{MOST_BOUND_VARIABLES, MOST_QUANTIFIERS}
use Rattle.sp_values.specs.declared.value.Ty.{Ty}
use Rattle.sp_values.specs.declared.value.Ty.TheVariants as ty
use Rattle.sp_core.specs.declared.function.Function.{Function}
use Rattle.sp_core.specs.declared.function.Kind.{Kind}
use Rattle.sp_core.specs.declared.function.Kind.TheVariants as kind
use Rattle.sp_core.specs.Effects.{EffectTree, EffectTrees, effect_trees}
use Rattle.sp_core.specs.Effects as effect
use Rattle.sp_core.specs.Machine.{types_of}
use Rattle.sp_core.specs.Measures.{bound_variables, bound_variables_in, quantifiers}
use Rattle.sp_core.specs.Tree.{Tree, Not}
use Rattle.sp_core.specs.Typing.{HasType, Signature, is_type, primitive_type}
use Rattle.sp_core.specs.WellFormed.{AreEffects, AreNewExpressions, IsEffect, IsKind, IsNewExpression}
use Rattle.sp_formulas.specs.Items.{Answer, Change, Deed, Item, item_under, item_within, items, items_in}
use Rattle.sp_formula_laws.proofs.FrontTypes.{AreTypes, IsFront, finite_type, front_of}

-- a change of a primitive function, or a result
abbrev pub IsDeed : Signature → List Ty → Deed → Type 0
IsDeed sg zs (Change h ds e) = (f : Function) × (t : Ty) × (slice_get sg.functions h ≡ Some f) × (primitive_type f.kind ≡ Some t) × AreNewExpressions sg zs ds (types_of f.formals) × IsNewExpression sg zs e t
IsDeed sg zs (Answer e) = (t : Ty) × IsNewExpression sg zs e t

-- an item over variables of the types xs and at most b of its own
pub record IsItem (sg : Signature) (b : ℕ) (xs : List Ty) (i : Item) : Type 0 where
  pub deed : IsDeed sg (xs ++ i.vars) i.deed
  pub guards : All (IsFront sg (xs ++ i.vars) ty.Boolean) i.guards
  pub types : AreTypes sg i.vars
  pub few_variables : length i.vars ≤ b

module _ (sg : Signature) where
  under_typed : (b : ℕ) (xs : List Ty) (c : Tree) → HasType sg xs c ty.Boolean → quantifiers c ≤ MOST_QUANTIFIERS → (is' : List Item) → All (IsItem sg b xs) is' → All (IsItem sg b xs) (map (item_under c) is')
  under_typed b xs c t l is' h = All-map (IsItem sg b xs) (item_under c) is' (All-weaker (IsItem sg b xs) (λ i. IsItem sg b xs (item_under c i))
      (λ i k. record {
        deed = k.deed;
        guards = All-cons (IsFront sg (xs ++ i.vars) ty.Boolean) c i.guards (front_of sg xs i.vars ty.Boolean c t l) k.guards;
        types = k.types;
        few_variables = k.few_variables;
      }) is' h)

  within_typed : (b : ℕ) (xs : List Ty) (u : Ty) → AreTypes sg (u ∷ []) → (is' : List Item) → All (IsItem sg b (xs ++ u ∷ [])) is' → All (IsItem sg (suc b) xs) (map (item_within u) is')
  within_typed b xs u own is' h = All-map (IsItem sg (suc b) xs) (item_within u) is' (All-weaker (IsItem sg b (xs ++ u ∷ [])) (λ i. IsItem sg (suc b) xs (item_within u i))
      (λ i k. record {
        deed = subst (λ ys. IsDeed sg ys i.deed) (append_assoc xs (u ∷ []) i.vars) k.deed;
        guards = subst (λ ys. All (IsFront sg ys ty.Boolean) i.guards) (append_assoc xs (u ∷ []) i.vars) k.guards;
        types = All-append (λ t. is_type sg t ≡ true) (u ∷ []) i.vars own k.types;
        few_variables = omega (arith, k.few_variables);
      }) is' h)

  alone : (b : ℕ) (xs : List Ty) (d : Deed) → IsDeed sg xs d → All (IsItem sg b xs) (record { vars = []; guards = []; deed = d } ∷ [])
  alone b xs d h = All-cons (IsItem sg b xs) (record { vars = []; guards = []; deed = d }) [] (record {
    deed = subst (λ ys. IsDeed sg ys d) (sym (append-nil xs)) h;
    guards = All-nil (IsFront sg (xs ++ []) ty.Boolean);
    types = All-nil (λ t. is_type sg t ≡ true);
    few_variables = omega arith;
  }) (All-nil (IsItem sg b xs))

  module _ (r : Option Ty) where
    mutual
      items_typed : (b : ℕ) (w : EffectTree) (xs : List Ty) → bound_variables w ≤ b → IsEffect sg r xs w → All (IsItem sg b xs) (items w)
      items_typed b (effect.Change g ds e) xs l h = alone b xs (Change g ds e) h
      items_typed b (effect.Answer e) xs l h = alone b xs (Answer e) (h.0, h.2)
      items_typed b (effect.If c as' bs) xs l h =
          All-append (IsItem sg b xs) (map (item_under c) (items_in as')) (map (item_under (Not c)) (items_in bs))
          (under_typed b xs c h.0.typed h.0.few_quantifiers (items_in as') (all_items_typed b as' xs (omega (arith, l)) h.1))
          (under_typed b xs (Not c) (refl, h.0.typed) h.0.few_quantifiers (items_in bs) (all_items_typed b bs xs (omega (arith, l)) h.2))
      items_typed zero (effect.Every k u ws) xs l h = absurd (omega (arith, l))
      items_typed (suc b) (effect.Every k u ws) xs l h =
          within_typed b xs u (All-cons (λ t. is_type sg t ≡ true) u [] (finite_type sg u h.1) (All-nil (λ t. is_type sg t ≡ true))) (items_in ws) (all_items_typed b ws (xs ++ u ∷ []) (omega (arith, l)) h.2)

      all_items_typed : (b : ℕ) (ws : EffectTrees) (xs : List Ty) → bound_variables_in ws ≤ b → AreEffects sg r xs ws → All (IsItem sg b xs) (items_in ws)
      all_items_typed b effect.none xs l h = All-nil (IsItem sg b xs)
      all_items_typed b (effect.more w ws) xs l h = All-append (IsItem sg b xs) (items w) (items_in ws) (items_typed b w xs (omega (arith, l)) h.0) (all_items_typed b ws xs (omega (arith, l)) h.1)

  -- those of a function
  pub kind_items : (xs : List Ty) (g : ℕ) (k : Kind) → IsKind sg xs g k → All (IsItem sg MOST_BOUND_VARIABLES xs) (items_in (effect_trees k))
  kind_items xs g (kind.Primitive t e) h = All-nil (IsItem sg MOST_BOUND_VARIABLES xs)
  kind_items xs g (kind.Derived t e) h = All-nil (IsItem sg MOST_BOUND_VARIABLES xs)
  kind_items xs g (kind.Operation es) h = all_items_typed None MOST_BOUND_VARIABLES (effect_trees (kind.Operation es)) xs h.effects.few_bound h.effects.effects
  kind_items xs g (kind.Both t es) h = all_items_typed (Some t) MOST_BOUND_VARIABLES (effect_trees (kind.Both t es)) xs h.effects.few_bound h.effects.effects
