-- Lists of what is made, joined.
use Rattle.std.proofs.Common.{◌≡◌, refl, sym, ◌∙◌, ap, subst, Bool, true, false, List, [], ◌∷◌, ◌++◌, map, Some, None, Result, Ok, Err, IfOk}
use Rattle.std.specs.Prelude.{◌&&◌}
use Rattle.sp_text.specs.declared.fault.Memory.{Memory}
use Rattle.sp_core.specs.declared.expr.Expr.{Expr}
use Rattle.sp_core.specs.declared.function.Effect.{Effect}
use Rattle.sp_core.specs.Tree.{Tree, Trees, none, more}
use Rattle.sp_core.specs.Effects.{EffectTree, EffectTrees, effect_tree, effect_trees_of}
use Rattle.sp_core.specs.Effects as effect
use Rattle.sp_expand.specs.Expansion.{joined}
use Rattle.sp_expand.specs.Sizes.{size, within}
use Rattle.sp_expand.specs.Parts.{IsPart, IsMade}
use Rattle.sp_expand.specs.declared.part.Part.{Part}
use Rattle.sp_expand.proofs.Joined.{trees-joined}
use Rattle.sp_effects.specs.EffectCore.{joined_effects}
use Rattle.sp_effects.specs.declared.making.Exprs.{Exprs}
use Rattle.sp_effects.specs.declared.making.Effects.{Effects}
use Rattle.sp_effects.specs.Made.{each_within, effect_within, effects_within, AreExprs, IsExprs, AreBuilt, IsBuilt}

false_left : (a b c : Bool) → (b ≡ false → c ≡ false) → (a && b) ≡ false → (a && c) ≡ false
false_left true b c f h = f h
false_left false b c f h = refl

false_both : (a b : Bool) → b ≡ false → (a && b) ≡ false
false_both true b h = h
false_both false b h = refl

false_first : (a b : Bool) → a ≡ false → (a && b) ≡ false
false_first true b h = cc
false_first false b h = refl

each-left : (ts : Trees) (t : Tree) → each_within ts ≡ false → each_within (joined ts t) ≡ false
each-left none t h = cc
each-left (more d ds) t h = false_left (within (size d)) (each_within ds) (each_within (joined ds t)) (each-left ds t) h

each-right : (ts : Trees) (t : Tree) → within (size t) ≡ false → each_within (joined ts t) ≡ false
each-right none t h = false_first (within (size t)) true h
each-right (more d ds) t h = false_both (within (size d)) (each_within (joined ds t)) (each-right ds t h)

effects-left : (ws vs : EffectTrees) → effects_within ws ≡ false → effects_within (joined_effects ws vs) ≡ false
effects-left effect.none vs h = cc
effects-left (effect.more w ws) vs h = false_left (effect_within w) (effects_within ws) (effects_within (joined_effects ws vs)) (effects-left ws vs) h

effects-right : (ws vs : EffectTrees) → effects_within vs ≡ false → effects_within (joined_effects ws vs) ≡ false
effects-right effect.none vs h = h
effects-right (effect.more w ws) vs h = false_both (effect_within w) (effects_within (joined_effects ws vs)) (effects-right ws vs h)

effects-append : (es ds : List Effect) → effect_trees_of (map effect_tree (es ++ ds)) ≡ joined_effects (effect_trees_of (map effect_tree es)) (effect_trees_of (map effect_tree ds))
effects-append [] ds = refl
effects-append (e ∷ es) ds = ap (effect.more (effect_tree e)) (effects-append es ds)

pub expr_none : (ts : Trees) (t : Tree) (x : Exprs) → IsExprs ts x → x.exprs ≡ None → each_within (joined ts t) ≡ false
expr_none ts t x h e = each-left ts t (subst (AreExprs ts) e h)

pub expr_large : (ts : Trees) (t : Tree) (p : Part) → IsPart t p → p.core ≡ None → each_within (joined ts t) ≡ false
expr_large ts t p h e = each-right ts t (subst (IsMade t) e h.1)

pub expr_some : (ts : Trees) (t : Tree) (x : Exprs) (p : Part) → IsExprs ts x → IsPart t p → (es : List Expr) (d : Expr) → x.exprs ≡ Some es → p.core ≡ Some d → (r : Result Exprs Memory) → IfOk r (λ y. y ≡ record { exprs = Some (es ++ d ∷ []) }) → IfOk r (IsExprs (joined ts t))
expr_some ts t x p h k es d e f (Ok y) i = subst (IsExprs (joined ts t)) (sym i) (trees-joined es d ∙ (λ j. joined (subst (AreExprs ts) e h j) ((subst (IsMade t) f k.1).0 j)))
expr_some ts t x p h k es d e f (Err m) i = tt

pub effects_none : (ws vs : EffectTrees) (x : Effects) → IsBuilt ws x → x.effects ≡ None → effects_within (joined_effects ws vs) ≡ false
effects_none ws vs x h e = effects-left ws vs (subst (AreBuilt ws) e h)

pub effects_large : (ws vs : EffectTrees) (x : Effects) → IsBuilt vs x → x.effects ≡ None → effects_within (joined_effects ws vs) ≡ false
effects_large ws vs x h e = effects-right ws vs (subst (AreBuilt vs) e h)

pub effects_some : (ws vs : EffectTrees) (x y : Effects) → IsBuilt ws x → IsBuilt vs y → (es ds : List Effect) → x.effects ≡ Some es → y.effects ≡ Some ds → (r : Result Effects Memory) → IfOk r (λ z. z ≡ record { effects = Some (es ++ ds) }) → IfOk r (IsBuilt (joined_effects ws vs))
effects_some ws vs x y h k es ds e f (Ok z) i = subst (IsBuilt (joined_effects ws vs)) (sym i) (effects-append es ds ∙ (λ j. joined_effects (subst (AreBuilt ws) e h j) (subst (AreBuilt vs) f k j)))
effects_some ws vs x y h k es ds e f (Err m) i = tt
