-- Effects that break no rule have at most one result on each path, and where none is missing exactly one.
use Rattle.std.proofs.Common.{◌≡◌, refl, sym, ◌∙◌, ap, subst, rules, arith, ℕ, zero, suc, ◌+◌, ◌≤◌, ◌<◌, Bool, true, false, List, [], ◌∷◌, ◌++◌, Option, Some, None, length}
use Rattle.std.specs.Prelude.{slice_get, IsTrue, if◌then◌else◌, ◌||◌, ◌&&◌}
use Rattle.std.specs.List.{All}
use Rattle.sp_text.specs.declared.fault.Span.{Span}
use Rattle.sp_values.specs.declared.value.Ty.{Ty}
use Rattle.sp_values.specs.declared.value.Ty.TheVariants as ty
use Rattle.sp_tree.specs.declared.names.FormalTree.{FormalTree}
use Rattle.sp_core.specs.Tree.{Tree, Trees}
use Rattle.sp_core.specs.Typing.{Signature, is_type}
use Rattle.sp_core.specs.Measures.{HasResults, HaveResults}
use Rattle.sp_core.specs.Effects.{EffectTree, EffectTrees, GuardedChange, changes_in}
use Rattle.sp_core.specs.Effects as effect
use Rattle.sp_core.specs.WellFormed.{AreEffectsOf, IsOperation, IsBoth, IsInjective}
use Rattle.sp_plain.specs.Text.{Text, Texts, span, count}
use Rattle.sp_text.specs.declared.violation.Violation.{Violation}
use Rattle.sp_judge.specs.declared.scope.Site.TheVariants as site
use Rattle.sp_judge.specs.Visible.{Visible, function_at}
use Rattle.sp_scopes.specs.declared.heads.Local.{Local}
use Rattle.sp_text.specs.declared.fault.Rule.{Rule}
use Rattle.sp_text.specs.declared.fault.Rule.TheVariants as rule
use Rattle.sp_text.specs.declared.fault.Quantity.TheVariants as quantity
use Rattle.sp_text.specs.Firsts.{behind}
use Rattle.sp_text.specs.Violations.{breaks, exceeds, first}
use Rattle.sp_judge.specs.Broken.{whole_broken, broken, asked_of, count_rule}
use Rattle.sp_judge.specs.Translation.{translation, translations}
use Rattle.sp_typed.specs.Fits.{types, AreTypes, IsAsked, IsScopeOf, HoldNoNew}
use Rattle.sp_typed.proofs.Fitting.{behind_inner, behind_own, append_left, append_right}
use Rattle.sp_typed.proofs.Typed.{types-length}
use Rattle.sp_effects.specs.EffectText.{EffectText, EffectTexts, Plain, If, Forall, none, more}
use Rattle.sp_effects.specs.Forms.{Form, Change, Answer, Neither, form, is_result, may, may_in, must, must_in}
use Rattle.sp_effects.specs.EffectRules.{all_whole, injective_rules, form_broken, all_bound, with_formals, effect_broken, effects_broken, change_places_in, beyond, cycles_broken, missing_rule, body_broken}
use Rattle.sp_effects.specs.EffectCore.{joined_effects, one_effect, nested, form_core, types_named, effect_core, effects_core}
use Rattle.sp_effect_laws.specs.Laws.{result_type}
use Rattle.sp_effect_laws.specs.Numbers.{AreEffectNumbers, AreEffectNumbersIn}
use Rattle.sp_effect_laws.proofs.Forms.{IsGood, good}
use Rattle.sp_effect_laws.proofs.Cycles.{no_cycle_in}
use Rattle.sp_text.specs.declared.limits.TheConstants.{MOST_CHANGES}
use Rattle.sp_effect_laws.proofs.Effects.{effects_fit, effects_few, effects_alone, few_changes, bound_is, IsAlone}

or_left : (a b : Bool) → (a || b) ≡ false → a ≡ false
or_left false b h = refl
or_left true b h = h

or_right : (a b : Bool) → (a || b) ≡ false → b ≡ false
or_right false b h = h
or_right true b h = cc

or_both : (a b : Bool) → a ≡ false → b ≡ false → (a || b) ≡ false
or_both a b h k = grind rules

or_true : (a b : Bool) → b ≡ true → (a || b) ≡ true
or_true true b h = refl
or_true false b h = h

or_first : (a b : Bool) → a ≡ true → (a || b) ≡ true
or_first true b h = refl
or_first false b h = cc

or_either : (a b c d : Bool) → (a ≡ true → c ≡ true) → (b ≡ true → d ≡ true) → (a || b) ≡ true → (c || d) ≡ true
or_either true b c d f g h = or_first c d (f refl)
or_either false b c d f g h = or_true c d (g h)

and_left : (a b : Bool) → (a && b) ≡ true → a ≡ true
and_left true b h = refl
and_left false b h = cc

and_right : (a b : Bool) → (a && b) ≡ true → b ≡ true
and_right true b h = h
and_right false b h = cc

never : {X : Type 0} (a : Bool) → a ≡ true → a ≡ false → X
never a h k = cc

-- an effect that is neither is broken
neither : {X : Type 0} (xs : List Violation) (p : Span) (k : Rule) → behind xs (breaks p k) ≡ [] → X
neither [] p k h = cc
neither (f ∷ fs) p k h = cc

mutual
  pub must-may : (r : Option Local) (e : EffectText) → must r e ≡ true → may r e ≡ true
  must-may r (Plain e) h = h
  must-may r (If p c as' bs) h = or_first (may_in r as') (may_in r bs) (must-may_in r as' (and_left (must_in r as') (must_in r bs) h))
  must-may r (Forall p fs ws) h = cc

  pub must-may_in : (r : Option Local) (es : EffectTexts) → must_in r es ≡ true → may_in r es ≡ true
  must-may_in r none h = cc
  must-may_in r (more e es) h = or_either (must r e) (must_in r es) (may r e) (may_in r es) (λ k. must-may r e k) (λ k. must-may_in r es k) h

joined_results : (a b : ℕ) (ws vs : EffectTrees) → HaveResults a ws → HaveResults b vs → HaveResults (a + b) (joined_effects ws vs)
joined_results a b effect.none vs h k = let z : b ≡ a + b = omega (arith, h) in subst (λ z. HaveResults z vs) z k
joined_results a b (effect.more w ws) vs h k = (h.0, h.1 + b, omega (arith, h.2), h.3, joined_results h.1 b ws vs h.4 k)

none_nested : (k : ℕ) (ts : List Ty) (ws : EffectTrees) → HaveResults 0 ws → HaveResults 0 (nested k ts ws)
none_nested k [] ws h = h
none_nested k (t ∷ ts) ws h = (0, 0, refl, (refl, none_nested (suc k) ts ws h), refl)

module _ (s : Visible) (n : ℕ) (r : Option Local) where
  form_taken : (b : ℕ) (l : List Local) (e : Text) (f : Form) → IsGood s r e f → form_broken s n b l true e f ≡ [] → is_result r e ≡ false
  form_taken b l e Neither g h = neither (broken s site.Loose l None e) (span e) rule.NotDetermining h
  form_taken b l e (Answer t v) g h = neither (whole_broken s site.Right l (Some t) v) (span e) rule.ResultTwice h
  form_taken b l e (Change q f t ds v) g h = g.0

  mutual
    taken_none : (b : ℕ) (l : List Local) (e : EffectText) → AreEffectNumbers e → effect_broken s n r b l true e ≡ [] → may r e ≡ false
    taken_none b l (Plain e) m h = form_taken b l e (form s l r e) (good s l r e m) h
    taken_none b l (If p c as' bs) m h =
        let k = whole_broken s site.Guard l (Some ty.Boolean) c in
        let left = effects_broken s n r b l true as' in
        let right = effects_broken s n r b l true bs in
        let both = append_right k (left ++ right) h in
        or_both (may_in r as') (may_in r bs) (taken_none_in b l as' m.1 (append_left left right both)) (taken_none_in b l bs m.2 (append_right left right both))
    taken_none b l (Forall p fs ws) m h =
        taken_none_in (b + length fs) (with_formals s l fs) ws m (behind_own (all_bound s b l fs) (effects_broken s n r (b + length fs) (with_formals s l fs) true ws) h)

    taken_none_in : (b : ℕ) (l : List Local) (es : EffectTexts) → AreEffectNumbersIn es → effects_broken s n r b l true es ≡ [] → may_in r es ≡ false
    taken_none_in b l none m h = refl
    taken_none_in b l (more e es) m h =
        let one = effect_broken s n r b l true e in
        let others = effects_broken s n r b l true es in
        or_both (may r e) (may_in r es) (taken_none b l e m.0 (append_left one others h)) (taken_none_in b l es m.1 (append_right one others h))

  form_none : (b : ℕ) (l : List Local) (taken : Bool) (e : Text) (f : Form) → IsGood s r e f → is_result r e ≡ false → form_broken s n b l taken e f ≡ [] → HaveResults 0 (one_effect (form_core s l f))
  form_none b l taken e Neither g i h = neither (broken s site.Loose l None e) (span e) rule.NotDetermining h
  form_none b l taken e (Answer t v) g i h = never (is_result r e) g.0 i
  form_none b l taken e (Change q f t ds v) g i h = (0, 0, refl, refl, refl)

  mutual
    results_none : (b : ℕ) (l : List Local) (taken : Bool) (e : EffectText) → AreEffectNumbers e → may r e ≡ false → effect_broken s n r b l taken e ≡ [] → HaveResults 0 (effect_core s r l e)
    results_none b l taken (Plain e) m i h = form_none b l taken e (form s l r e) (good s l r e m) i h
    results_none b l taken (If p c as' bs) m i h =
        let k = whole_broken s site.Guard l (Some ty.Boolean) c in
        let left = effects_broken s n r b l taken as' in
        let right = effects_broken s n r b l taken bs in
        let both = append_right k (left ++ right) h in
        (0, 0, refl, (results_none_in b l taken as' m.1 (or_left (may_in r as') (may_in r bs) i) (append_left left right both), results_none_in b l taken bs m.2 (or_right (may_in r as') (may_in r bs) i) (append_right left right both)), refl)
    results_none b l taken (Forall p fs ws) m i h =
        none_nested (length l) (types_named s fs) (effects_core s r (with_formals s l fs) ws)
        (results_none_in (b + length fs) (with_formals s l fs) true ws m i (behind_own (all_bound s b l fs) (effects_broken s n r (b + length fs) (with_formals s l fs) true ws) h))

    pub results_none_in : (b : ℕ) (l : List Local) (taken : Bool) (es : EffectTexts) → AreEffectNumbersIn es → may_in r es ≡ false → effects_broken s n r b l taken es ≡ [] → HaveResults 0 (effects_core s r l es)
    results_none_in b l taken none m i h = refl
    results_none_in b l taken (more e es) m i h =
        let one = effect_broken s n r b l taken e in
        let others = effects_broken s n r b l (taken || may r e) es in
        joined_results 0 0 (effect_core s r l e) (effects_core s r l es)
        (results_none b l taken e m.0 (or_left (may r e) (may_in r es) i) (append_left one others h))
        (results_none_in b l (taken || may r e) es m.1 (or_right (may r e) (may_in r es) i) (append_right one others h))

  form_one : (b : ℕ) (l : List Local) (taken : Bool) (e : Text) (f : Form) → IsGood s r e f → is_result r e ≡ true → form_broken s n b l taken e f ≡ [] → HaveResults 1 (one_effect (form_core s l f))
  form_one b l taken e Neither g i h = neither (broken s site.Loose l None e) (span e) rule.NotDetermining h
  form_one b l taken e (Answer t v) g i h = (1, 0, refl, refl, refl)
  form_one b l taken e (Change q f t ds v) g i h = never (is_result r e) i g.0

  -- a list of effects, where what each part has is known
  list_one : (b : ℕ) (l : List Local) (taken : Bool) (e : EffectText) (es : EffectTexts) → AreEffectNumbersIn (more e es) → must_in r (more e es) ≡ true → effects_broken s n r b l taken (more e es) ≡ []
      → (must r e ≡ true → HaveResults 1 (effect_core s r l e)) → (must_in r es ≡ true → HaveResults 1 (effects_core s r l es)) → HaveResults 1 (joined_effects (effect_core s r l e) (effects_core s r l es))
  list_one b l taken e es m i h first' later = by (must r e) refl (may r e) refl i
    where
      tail : effects_broken s n r b l (taken || may r e) es ≡ []
      tail = append_right (effect_broken s n r b l taken e) (effects_broken s n r b l (taken || may r e) es) h

      head : effect_broken s n r b l taken e ≡ []
      head = append_left (effect_broken s n r b l taken e) (effects_broken s n r b l (taken || may r e) es) h

      after : may r e ≡ true → effects_broken s n r b l true es ≡ []
      after k = subst (λ z. effects_broken s n r b l z es ≡ []) (or_true taken (may r e) k) tail

      by : (c : Bool) → must r e ≡ c → (d : Bool) → may r e ≡ d → (c || must_in r es) ≡ true → HaveResults 1 (joined_effects (effect_core s r l e) (effects_core s r l es))
      by true j d k i =
          let x = after (must-may r e j) in
          joined_results 1 0 (effect_core s r l e) (effects_core s r l es) (first' j) (results_none_in b l true es m.1 (taken_none_in b l es m.1 x) x)
      by false j true k i = never (may_in r es) (must-may_in r es i) (taken_none_in b l es m.1 (after k))
      by false j false k i = joined_results 0 1 (effect_core s r l e) (effects_core s r l es) (results_none b l taken e m.0 k head) (later i)

  mutual
    results_one : (b : ℕ) (l : List Local) (taken : Bool) (e : EffectText) → AreEffectNumbers e → must r e ≡ true → effect_broken s n r b l taken e ≡ [] → HaveResults 1 (effect_core s r l e)
    results_one b l taken (Plain e) m i h = form_one b l taken e (form s l r e) (good s l r e m) i h
    results_one b l taken (If p c as' bs) m i h =
        let k = whole_broken s site.Guard l (Some ty.Boolean) c in
        let left = effects_broken s n r b l taken as' in
        let right = effects_broken s n r b l taken bs in
        let both = append_right k (left ++ right) h in
        (1, 0, refl, (results_one_in b l taken as' m.1 (and_left (must_in r as') (must_in r bs) i) (append_left left right both), results_one_in b l taken bs m.2 (and_right (must_in r as') (must_in r bs) i) (append_right left right both)), refl)
    results_one b l taken (Forall p fs ws) m i h = cc

    pub results_one_in : (b : ℕ) (l : List Local) (taken : Bool) (es : EffectTexts) → AreEffectNumbersIn es → must_in r es ≡ true → effects_broken s n r b l taken es ≡ [] → HaveResults 1 (effects_core s r l es)
    results_one_in b l taken none m i h = cc
    results_one_in b l taken (more e es) m i h =
        list_one b l taken e es m i h (λ k. results_one b l taken e m.0 k (append_left (effect_broken s n r b l taken e) (effects_broken s n r b l (taken || may r e) es) h))
        (λ k. results_one_in b l (taken || may r e) es m.1 k (append_right (effect_broken s n r b l taken e) (effects_broken s n r b l (taken || may r e) es) h))

is-result-none : (e : Text) → is_result None e ≡ false
is-result-none e = grind rules

mutual
  may-none : (e : EffectText) → may None e ≡ false
  may-none (Plain e) = is-result-none e
  may-none (If p c as' bs) = or_both (may_in None as') (may_in None bs) (may-none_in as') (may-none_in bs)
  may-none (Forall p fs ws) = may-none_in ws

  may-none_in : (es : EffectTexts) → may_in None es ≡ false
  may-none_in none = refl
  may-none_in (more e es) = or_both (may None e) (may_in None es) (may-none e) (may-none_in es)

-- the effects of a function without a broken rule
module _ (sg : Signature) (s : Visible) (w : IsScopeOf sg s) (fresh : HoldNoNew s) where
  module _ (p : Span) (l : List Local) (r : Option Local) (ws : EffectTexts) (h : body_broken s p l r ws ≡ []) where
    abbrev Own : List Violation
    Own = effects_broken s (length l) r 0 l false ws

    abbrev Each : List Violation
    Each = effects_broken s (length l) r 0 l false ws ++ cycles_broken s l r ws

    front : behind Each (missing_rule p r ws) ≡ []
    front = append_left (behind Each (missing_rule p r ws)) (beyond MOST_CHANGES (change_places_in s r l ws)) h

    inner : effects_broken s (length l) r 0 l false ws ≡ []
    inner = append_left Own (cycles_broken s l r ws) (behind_inner Each (missing_rule p r ws) front)

    no_cycles : cycles_broken s l r ws ≡ []
    no_cycles = append_right Own (cycles_broken s l r ws) (behind_inner Each (missing_rule p r ws) front)

    none_missing : missing_rule p r ws ≡ []
    none_missing = behind_own Each (missing_rule p r ws) front

    few : beyond MOST_CHANGES (change_places_in s r l ws) ≡ []
    few = append_right (behind Each (missing_rule p r ws)) (beyond MOST_CHANGES (change_places_in s r l ws)) h

  pub effects_of : (p : Span) (l : List Local) (r : Option Local) (ws : EffectTexts) → AreTypes sg l → IsAsked sg (result_type r) → AreEffectNumbersIn ws → body_broken s p l r ws ≡ [] → AreEffectsOf sg (result_type r) (types l) (effects_core s r l ws)
  effects_of p l r ws a g m h =
      let i = inner p l r ws h in
      record {
        effects = effects_fit sg s w fresh (length l) r g 0 l a false ws m i;
        few_bound = let f = effects_few s (length l) r 0 l false ws (omega arith) i in omega (arith, f, bound_is);
        few_changes = few_changes s (length l) r l ws (few p l r ws h);
        injective = subst (λ k. All (IsInjective k) (changes_in (effects_core s r l ws))) (sym (types-length l)) (λ k d lt j le. effects_alone s (length l) r 0 l false ws i k d lt j (omega (arith, le)));
        no_cycle = no_cycle_in s fresh l r ws i (no_cycles p l r ws h);
      }

  -- an O-function
  pub operation : (p : Span) (l : List Local) (ws : EffectTexts) → AreTypes sg l → AreEffectNumbersIn ws → body_broken s p l None ws ≡ [] → IsOperation sg (types l) (effects_core s None l ws)
  operation p l ws a m h = record {
    effects = effects_of p l None ws a tt m h;
    no_result = results_none_in s (length l) None 0 l false ws m (may-none_in ws) (inner p l None ws h);
  }

  missing-is : (p : Span) (r : Local) (ws : EffectTexts) → missing_rule p (Some r) ws ≡ [] → must_in (Some r) ws ≡ true
  missing-is p r ws h = by (must_in (Some r) ws) refl h
    where
      by : (b : Bool) → must_in (Some r) ws ≡ b → (if b then [] else breaks p rule.ResultMissing) ≡ [] → must_in (Some r) ws ≡ true
      by true i h = i
      by false i h = cc

  -- an OV-function
  pub both : (p : Span) (l : List Local) (r : Local) (ws : EffectTexts) → AreTypes sg l → IsTrue (is_type sg r.ty) → AreEffectNumbersIn ws → body_broken s p l (Some r) ws ≡ [] → IsBoth sg (types l) r.ty (effects_core s (Some r) l ws)
  both p l r ws a g m h = record {
    type = g;
    effects = effects_of p l (Some r) ws a g m h;
    one_result = results_one_in s (length l) (Some r) 0 l false ws m (missing-is p r ws (none_missing p l (Some r) ws h)) (inner p l (Some r) ws h);
  }
