-- What stands in the two branches of an IF effect, and the rules on a target's variables one by one.
use Rattle.std.proofs.Common.{◌≡◌, sym, ◌∙◌, ap, arith, ℕ, zero, suc, ◌+◌, ◌-◌, ◌<◌, List, [], ◌++◌, map, Option, Result, Ok, Err}
use Rattle.std.specs.Prelude.{OnOk, if◌then◌else◌, nat_eq}
use Rattle.sp_text.specs.declared.fault.Rule.TheVariants as rule
use Rattle.sp_text.specs.declared.fault.Span.{Span}
use Rattle.sp_text.specs.Violations.{breaks}
use Rattle.sp_tree.specs.declared.effect.EffectTree.{EffectTree}
use Rattle.sp_tree.specs.declared.effect.EffectTree.TheVariants as tree
use Rattle.sp_tree.specs.declared.expr.ExprTree.{ExprTree}
use Rattle.sp_core.specs.Tree.{Trees}
use Rattle.sp_core.specs.WellFormed.{alone}
use Rattle.sp_scopes.specs.declared.heads.Local.{Local}
use Rattle.sp_judge.specs.Visible.{Visible}
use Rattle.sp_effects.specs.EffectRules.{change_places, change_places_in, effect_quotes, effects_quotes, injective_rules}
use Rattle.sp_effects.specs.EffectText.{effect_text, effect_texts_of}
use Rattle.sp_effects.proofs.Lengths.{text_If}

pub on_ok : {A E : Type 0} (P Q : Type 0) (r : Result A E) → (P → Q) → OnOk r P → OnOk r Q
on_ok P Q (Ok v) f h = f h
on_ok P Q (Err e) f h = tt

pub if_quotes : (s : Visible) (n : ℕ) (r : Option Local) (b : ℕ) (l : List Local) (w : EffectTree) (p : Span) (c : ExprTree) (as' bs xs ys : List EffectTree) → w ≡ tree.If p c as' bs → xs ≡ as' → ys ≡ bs →
    effect_quotes s n r b l (effect_text w) ≡ effects_quotes s n r b l (effect_texts_of (map effect_text xs)) ++ effects_quotes s n r b l (effect_texts_of (map effect_text ys))
if_quotes s n r b l w p c as' bs xs ys i j k =
    ap (λ z. effect_quotes s n r b l (effect_text z)) i ∙ ap (λ z. effect_quotes s n r b l z) (text_If p c as' bs)
    ∙ (λ m. effects_quotes s n r b l (effect_texts_of (map effect_text (sym j m))) ++ effects_quotes s n r b l (effect_texts_of (map effect_text (sym k m))))

pub if_places : (s : Visible) (r : Option Local) (l : List Local) (w : EffectTree) (p : Span) (c : ExprTree) (as' bs xs ys : List EffectTree) → w ≡ tree.If p c as' bs → xs ≡ as' → ys ≡ bs →
    change_places s r l (effect_text w) ≡ change_places_in s r l (effect_texts_of (map effect_text xs)) ++ change_places_in s r l (effect_texts_of (map effect_text ys))
if_places s r l w p c as' bs xs ys i j k =
    ap (λ z. change_places s r l (effect_text z)) i ∙ ap (λ z. change_places s r l z) (text_If p c as' bs)
    ∙ (λ m. change_places_in s r l (effect_texts_of (map effect_text (sym j m))) ++ change_places_in s r l (effect_texts_of (map effect_text (sym k m))))

pub injective_next : (q : Span) (ds : Trees) (n m : ℕ) → 0 < m →
    injective_rules q ds n m ≡ (if nat_eq (alone n ds) 1 then [] else breaks q rule.TargetNotInjective) ++ injective_rules q ds (n + 1) (m - 1)
injective_next q ds n zero l = absurd (omega (arith, l))
injective_next q ds n (suc m) l =
    let e : suc n ≡ n + 1 = omega arith in
    let f : m ≡ suc m - 1 = omega arith in
    (λ i. (if nat_eq (alone n ds) 1 then [] else breaks q rule.TargetNotInjective) ++ injective_rules q ds (e i) (f i))
