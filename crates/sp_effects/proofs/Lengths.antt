-- How many variables stand below a FORALL effect, and how many effects stand in one.
use Rattle.std.proofs.Common.{◌≡◌, ap, arith, rules, suc, ◌+◌, ◌<◌, ◌≤◌, ℕ, zero, List, [], ◌∷◌, length, map, get_or}
use Rattle.sp_text.specs.declared.fault.Span.{Span}
use Rattle.sp_tree.specs.declared.names.FormalTree.{FormalTree}
use Rattle.sp_tree.specs.declared.effect.EffectTree.{EffectTree}
use Rattle.sp_tree.specs.declared.expr.ExprTree.{ExprTree}
use Rattle.sp_plain.specs.Text.{text}
use Rattle.sp_tree.specs.declared.effect.EffectTree.TheVariants as tree
use Rattle.sp_tree.specs.declared.effect.EffectTree.TheFolds.{the_lemmas}
use Rattle.sp_scopes.specs.declared.heads.Local.{Local}
use Rattle.sp_judge.specs.Names.{with_formal}
use Rattle.sp_judge.specs.Visible.{Visible}
use Rattle.sp_judge.proofs.Scoped.{length-with}
use Rattle.sp_effects.specs.EffectText.{EffectText, Plain, If, Forall, effect_text, effect_texts_of, effect_weight, effect_weight_in, effect_binders, effect_binders_in}
use Rattle.sp_effects.specs.EffectRules.{with_formals}

pub formals_length : (s : Visible) (l : List Local) (fs : List FormalTree) → length (with_formals s l fs) ≡ length l + length fs
formals_length s l [] = omega arith
formals_length s l (f ∷ fs) = omega (arith, formals_length s (with_formal s l f) fs, length-with s l f)

pub effect_some : (w : EffectText) → 0 < effect_weight w
effect_some (Plain e) = omega arith
effect_some (If p c as' bs) = omega arith
effect_some (Forall p fs ws) = omega arith

pub text_Forall : (p : Span) (fs : List FormalTree) (ws : List EffectTree) → effect_text (tree.Forall p fs ws) ≡ Forall p fs (effect_texts_of (map effect_text ws))
text_Forall p fs ws = search (rules, the_lemmas)

pub text_If : (p : Span) (c : ExprTree) (as' bs : List EffectTree) → effect_text (tree.If p c as' bs) ≡ If p (text c) (effect_texts_of (map effect_text as')) (effect_texts_of (map effect_text bs))
text_If p c as' bs = search (rules, the_lemmas)

-- the parts of a list
pub weight-part : (ws : List EffectTree) (k : ℕ) (w : EffectTree) → k < length ws → w ≡ get_or ws k w → effect_weight (effect_text w) ≤ effect_weight_in (effect_texts_of (map effect_text ws))
weight-part [] k w l e = absurd (omega (arith, l))
weight-part (v ∷ ws) zero w l e = let q : effect_weight (effect_text w) ≡ effect_weight (effect_text v) = ap (λ x. effect_weight (effect_text x)) e in omega (arith, q)
weight-part (v ∷ ws) (suc k) w l e = let q = weight-part ws k w (omega (arith, l)) e in omega (arith, q)

pub binders-part : (ws : List EffectTree) (k : ℕ) (w : EffectTree) → k < length ws → w ≡ get_or ws k w → effect_binders (effect_text w) ≤ effect_binders_in (effect_texts_of (map effect_text ws))
binders-part [] k w l e = absurd (omega (arith, l))
binders-part (v ∷ ws) zero w l e = let q : effect_binders (effect_text w) ≡ effect_binders (effect_text v) = ap (λ x. effect_binders (effect_text x)) e in omega (arith, q)
binders-part (v ∷ ws) (suc k) w l e = let q = binders-part ws k w (omega (arith, l)) e in omega (arith, q)
