-- Effects that break no rule are within the limits, so that they are made.
use Rattle.std.proofs.Common.{◌≡◌, refl, sym, ◌∙◌, ap, subst, rules, arith, ℕ, suc, ◌+◌, Bool, true, false, List, [], ◌∷◌, ◌++◌, Option, Some, None, length}
use Rattle.std.specs.Prelude.{slice_get, if◌then◌else◌, ◌||◌, ◌&&◌}
use Rattle.sp_text.specs.declared.fault.Span.{Span}
use Rattle.sp_text.specs.declared.limits.TheConstants.{MOST_CHANGES}
use Rattle.sp_values.specs.declared.value.Ty.{Ty}
use Rattle.sp_values.specs.declared.value.Ty.TheVariants as ty
use Rattle.std.specs.Prelude.{IsSome}
use Rattle.sp_core.specs.declared.function.Effect.{Effect}
use Rattle.sp_effects.specs.declared.making.Effects.{Effects}
use Rattle.sp_core.specs.Tree.{Tree, Trees}
use Rattle.sp_core.specs.Effects.{EffectTree, EffectTrees}
use Rattle.sp_core.specs.Effects as effect
use Rattle.sp_expand.specs.Sizes.{size, within}
use Rattle.sp_plain.specs.Text.{Text, Texts, span, count}
use Rattle.sp_plain.specs.Text as plain
use Rattle.sp_text.specs.declared.violation.Violation.{Violation}
use Rattle.sp_judge.specs.declared.scope.Site.{Site}
use Rattle.sp_judge.specs.declared.scope.Site.TheVariants as site
use Rattle.sp_judge.specs.Visible.{Visible, function_at}
use Rattle.sp_scopes.specs.declared.heads.Local.{Local}
use Rattle.sp_text.specs.declared.fault.Rule.{Rule}
use Rattle.sp_text.specs.declared.fault.Rule.TheVariants as rule
use Rattle.sp_text.specs.declared.fault.Quantity.TheVariants as quantity
use Rattle.sp_text.specs.Firsts.{behind}
use Rattle.sp_text.specs.Violations.{breaks, exceeds, first}
use Rattle.sp_judge.specs.Translation.{translation, translations}
use Rattle.sp_judge.specs.Broken.{broken, limit_rules, whole_broken, asked_of, count_rule, next_type, rest}
use Rattle.sp_judge.proofs.Whole.{limit_first}
use Rattle.sp_typed.proofs.Fitting.{behind_inner, behind_own, append_left, append_right}
use Rattle.sp_effects.specs.EffectText.{EffectText, EffectTexts, Plain, If, Forall, none, more}
use Rattle.sp_effects.specs.Forms.{Form, Change, Answer, Neither, form, may}
use Rattle.sp_effects.specs.EffectRules.{all_whole, injective_rules, form_broken, all_bound, with_formals, effect_broken, effects_broken, beyond, body_broken, change_places_in, cycles_broken, missing_rule}
use Rattle.sp_effects.specs.EffectCore.{joined_effects, one_effect, nested, form_core, types_named, effect_core, effects_core}
use Rattle.sp_effects.specs.Made.{each_within, effect_within, effects_within, AreBuilt, IsBuilt}

both_true : (a b : Bool) → a ≡ true → b ≡ true → (a && b) ≡ true
both_true a b h k = grind rules

-- an expression without a broken limit is within them
within_is : (p : Span) (t : Tree) → limit_rules p t ≡ [] → within (size t) ≡ true
within_is p t h = by (within (size t)) refl
  where
    by : (b : Bool) → within (size t) ≡ b → within (size t) ≡ true
    by true e = e
    by false e = let z = limit_first t p (size t) refl e in let y = ap first h in cc

whole_within : (s : Visible) (i : Site) (l : List Local) (q : Option Ty) (e : Text) → whole_broken s i l q e ≡ [] → within (size (translation s l e)) ≡ true
whole_within s i l q e h = within_is (span e) (translation s l e) (behind_own (broken s i l q e) (limit_rules (span e) (translation s l e)) h)

all_within : (s : Visible) (i : Site) (l fs : List Local) (ds : Texts) → all_whole s i l fs ds ≡ [] → each_within (translations s l ds) ≡ true
all_within s i l fs plain.none h = refl
all_within s i l fs (plain.more d ds) h =
    let one = whole_broken s i l (next_type fs) d in
    let others = all_whole s i l (rest fs) ds in
    both_true (within (size (translation s l d))) (each_within (translations s l ds)) (whole_within s i l (next_type fs) d (append_left one others h)) (all_within s i l (rest fs) ds (append_right one others h))

neither : {X : Type 0} (xs : List Violation) (p : Span) (k : Rule) → behind xs (breaks p k) ≡ [] → X
neither [] p k h = cc
neither (f ∷ fs) p k h = cc

keep : (a b c : Bool) → (b ≡ true → c ≡ true) → (a && b) ≡ true → (a && c) ≡ true
keep true b c f h = f h
keep false b c f h = cc

joined_within : (ws vs : EffectTrees) → effects_within ws ≡ true → effects_within vs ≡ true → effects_within (joined_effects ws vs) ≡ true
joined_within effect.none vs h k = k
joined_within (effect.more w ws) vs h k = keep (effect_within w) (effects_within ws) (effects_within (joined_effects ws vs)) (λ h. joined_within ws vs h k) h

one_within : (w : EffectTree) → effect_within w ≡ true → effects_within (one_effect w) ≡ true
one_within w h = both_true (effect_within w) true h refl

nested_within : (k : ℕ) (ts : List Ty) (ws : EffectTrees) → effects_within ws ≡ true → effects_within (nested k ts ws) ≡ true
nested_within k [] ws h = h
nested_within k (t ∷ ts) ws h = one_within (effect.Every k t (nested (suc k) ts ws)) (nested_within (suc k) ts ws h)

module _ (s : Visible) (n : ℕ) (r : Option Local) where
  form_within : (b : ℕ) (l : List Local) (taken : Bool) (e : Text) (f : Form) → form_broken s n b l taken e f ≡ [] → effect_within (form_core s l f) ≡ true
  form_within b l taken e Neither h = neither (broken s site.Loose l None e) (span e) rule.NotDetermining h
  form_within b l taken e (Answer t v) h = whole_within s site.Right l (Some t) v (behind_inner (whole_broken s site.Right l (Some t) v) (if taken then breaks (span e) rule.ResultTwice else []) h)
  form_within b l taken e (Change q f t ds v) h =
      let o = function_at s t.fun in
      let args = all_whole s site.Right l (asked_of o (count ds)) ds in
      let c = count_rule f.span o (count ds) in
      let j = injective_rules q (translations s l ds) n b in
      let value = whole_broken s site.Right l (Some t.ty) v in
      both_true (each_within (translations s l ds)) (within (size (translation s l v)))
      (all_within s site.Right l (asked_of o (count ds)) ds (behind_inner args c (behind_inner (behind args c) j (append_left (behind (behind args c) j) value h))))
      (whole_within s site.Right l (Some t.ty) v (append_right (behind (behind args c) j) value h))

  mutual
    pub effect_made : (b : ℕ) (l : List Local) (taken : Bool) (e : EffectText) → effect_broken s n r b l taken e ≡ [] → effects_within (effect_core s r l e) ≡ true
    effect_made b l taken (Plain e) h = one_within (form_core s l (form s l r e)) (form_within b l taken e (form s l r e) h)
    effect_made b l taken (If p c as' bs) h =
        let k = whole_broken s site.Guard l (Some ty.Boolean) c in
        let left = effects_broken s n r b l taken as' in
        let right = effects_broken s n r b l taken bs in
        let both = append_right k (left ++ right) h in
        let x = effects_made b l taken as' (append_left left right both) in
        let y = effects_made b l taken bs (append_right left right both) in
        one_within (effect.If (translation s l c) (effects_core s r l as') (effects_core s r l bs))
        (both_true (within (size (translation s l c))) (effects_within (effects_core s r l as') && effects_within (effects_core s r l bs)) (whole_within s site.Guard l (Some ty.Boolean) c (append_left k (left ++ right) h))
        (both_true (effects_within (effects_core s r l as')) (effects_within (effects_core s r l bs)) x y))
    effect_made b l taken (Forall p fs ws) h =
        nested_within (length l) (types_named s fs) (effects_core s r (with_formals s l fs) ws)
        (effects_made (b + length fs) (with_formals s l fs) true ws (behind_own (all_bound s b l fs) (effects_broken s n r (b + length fs) (with_formals s l fs) true ws) h))

    pub effects_made : (b : ℕ) (l : List Local) (taken : Bool) (es : EffectTexts) → effects_broken s n r b l taken es ≡ [] → effects_within (effects_core s r l es) ≡ true
    effects_made b l taken none h = refl
    effects_made b l taken (more e es) h =
        let one = effect_broken s n r b l taken e in
        let others = effects_broken s n r b l (taken || may r e) es in
        joined_within (effect_core s r l e) (effects_core s r l es) (effect_made b l taken e (append_left one others h)) (effects_made b l (taken || may r e) es (append_right one others h))

-- what is made of effects within the limits is there
pub made_there : (ws : EffectTrees) (x : Effects) → IsBuilt ws x → effects_within ws ≡ true → IsSome x.effects
made_there ws x h k = by x.effects h
  where
    by : (o : Option (List Effect)) → AreBuilt ws o → IsSome o
    by None h = cc
    by (Some es) h = search rules

-- the effects of a function that break nothing are
pub body_made : (s : Visible) (p : Span) (l : List Local) (r : Option Local) (ws : EffectTexts) → body_broken s p l r ws ≡ [] → effects_within (effects_core s r l ws) ≡ true
body_made s p l r ws h =
    let own = effects_broken s (length l) r 0 l false ws in
    let cycles = cycles_broken s l r ws in
    let many = beyond MOST_CHANGES (change_places_in s r l ws) in
    effects_made s (length l) r 0 l false ws (append_left own cycles (behind_inner (own ++ cycles) (missing_rule p r ws) (append_left (behind (own ++ cycles) (missing_rule p r ws)) many h)))
