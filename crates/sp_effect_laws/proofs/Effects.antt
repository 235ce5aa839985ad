-- Effects that break no rule stand for effects that are well typed, few enough and injective.
use Rattle.std.proofs.Common.{◌≡◌, refl, sym, ◌∙◌, ap, subst, rules, arith, ℕ, zero, suc, ◌+◌, ◌≤◌, ◌<◌, max, Bool, true, false, List, [], ◌∷◌, ◌++◌, map, Option, Some, None, length, length-append, append_assoc}
use Rattle.std.specs.Prelude.{slice_get, IsTrue, nat_lt, nat_eq, if◌then◌else◌, ◌||◌}
use Rattle.std.specs.List.{All}
use Rattle.std.proofs.lemmas.List.Elements.{All-nil, All-cons, All-append, All-map}
use Rattle.sp_text.specs.declared.fault.Span.{Span}
use Rattle.sp_text.specs.declared.limits.TheConstants.{MOST_BOUND_VARIABLES, MOST_CHANGES, MOST_EXPRESSION_NODES, MOST_HEIGHT, MOST_QUANTIFIERS}
use Rattle.sp_values.specs.declared.value.Ty.{Ty}
use Rattle.sp_values.specs.declared.value.Ty.TheVariants as ty
use Rattle.sp_tree.specs.declared.names.FormalTree.{FormalTree}
use Rattle.sp_core.specs.declared.function.Function.{Function}
use Rattle.sp_core.specs.Machine.{types_of}
use Rattle.sp_core.specs.Tree.{Tree, Trees}
use Rattle.sp_core.specs.Tree as core
use Rattle.sp_core.specs.Typing.{Signature, HasType, is_type, is_finite, primitive_type}
use Rattle.sp_core.specs.Measures.{nodes, quantifiers, bound_variables, bound_variables_in}
use Rattle.sp_core.specs.Effects.{EffectTree, EffectTrees, GuardedChange, changes, changes_in, change_under, change_within}
use Rattle.sp_core.specs.Effects as effect
use Rattle.sp_core.specs.WellFormed.{IsExpression, IsNewExpression, AreNewExpressions, IsEffect, AreEffects, IsInjective, alone}
use Rattle.sp_expand.specs.Sizes.{height}
use Rattle.sp_plain.specs.Text.{Text, Texts, span, count}
use Rattle.sp_plain.specs.Text as plain
use Rattle.sp_text.specs.declared.violation.Violation.{Violation}
use Rattle.sp_scopes.specs.declared.heads.Head.{Head}
use Rattle.sp_judge.specs.declared.scope.Site.{Site}
use Rattle.sp_judge.specs.declared.scope.Site.TheVariants as site
use Rattle.sp_scopes.specs.declared.heads.Sort.TheVariants as sort
use Rattle.sp_judge.specs.Visible.{Visible, function_at}
use Rattle.sp_scopes.specs.declared.heads.Local.{Local}
use Rattle.sp_judge.specs.Names.{type_of, with_formal, is_local, sort_type}
use Rattle.sp_text.specs.declared.fault.Rule.TheVariants as rule
use Rattle.sp_text.specs.declared.fault.Quantity.TheVariants as quantity
use Rattle.sp_text.specs.Firsts.{behind}
use Rattle.sp_text.specs.Violations.{breaks, exceeds, first}
use Rattle.sp_judge.specs.Translation.{translation, translations}
use Rattle.sp_judge.specs.Broken.{primitive_sort, limit_rules, whole_broken, broken, asked_of, count_rule, formal_rules, type_rules, next_type, rest}
use Rattle.sp_judge.proofs.Scoped.{length-with}
use Rattle.sp_typed.specs.Fits.{types, AreTypes, IsAsked, IsHead, IsScopeOf, IsKept, IsOld, HoldNoNew, AreNumbers, AreNumbersIn}
use Rattle.sp_typed.proofs.Fitting.{behind_inner, behind_own, append_left, append_right}
use Rattle.sp_typed.proofs.Typed.{typed, types-length, formal_types, with_types, finite, asked_all, head-primitive}
use Rattle.sp_typed.proofs.Quotes.{no_new}
use Rattle.sp_effects.specs.EffectText.{EffectText, EffectTexts, Plain, If, Forall, none, more}
use Rattle.sp_effects.specs.Forms.{Form, Change, Answer, Neither, form, may}
use Rattle.sp_effects.specs.EffectRules.{all_whole, injective_rules, form_broken, bound_rules, all_bound, with_formals, effect_broken, effects_broken, form_change, change_places, change_places_in, beyond}
use Rattle.sp_effects.specs.EffectCore.{joined_effects, one_effect, nested, form_core, types_named, effect_core, effects_core}
use Rattle.sp_effect_laws.specs.Laws.{result_type}
use Rattle.sp_effect_laws.specs.Numbers.{AreEffectNumbers, AreEffectNumbersIn}
use Rattle.sp_effect_laws.proofs.Forms.{IsGood, good}

few : (h q n : ℕ) (p : Span) → (if nat_lt MOST_HEIGHT h then exceeds p quantity.Height else []) ++ ((if nat_lt MOST_QUANTIFIERS q then exceeds p quantity.Quantifiers else []) ++ (if nat_lt MOST_EXPRESSION_NODES n then exceeds p quantity.ExpressionNodes else [])) ≡ [] → (n ≤ MOST_EXPRESSION_NODES) × (q ≤ MOST_QUANTIFIERS)
few h q n p e = (grind (arith, rules), grind (arith, rules))

module _ (sg : Signature) (s : Visible) (w : IsScopeOf sg s) (fresh : HoldNoNew s) where
  -- an expression that stands by itself
  module _ (i : Site) (kept : IsKept i) (l : List Local) (a : AreTypes sg l) (t : Ty) (g : IsTrue (is_type sg t)) (e : Text) (n : AreNumbers e) (h : whole_broken s i l (Some t) e ≡ []) where
    inner : broken s i l (Some t) e ≡ []
    inner = behind_inner (broken s i l (Some t) e) (limit_rules (span e) (translation s l e)) h

    limits : (nodes (translation s l e) ≤ MOST_EXPRESSION_NODES) × (quantifiers (translation s l e) ≤ MOST_QUANTIFIERS)
    limits = few (height (translation s l e)) (quantifiers (translation s l e)) (nodes (translation s l e)) (span e) (behind_own (broken s i l (Some t) e) (limit_rules (span e) (translation s l e)) h)

    pub whole_new : IsNewExpression sg (types l) (translation s l e) t
    whole_new = record { typed = typed sg s w i kept l a (Some t) g e n inner; few_nodes = limits.0; few_quantifiers = limits.1 }

    -- where no quoted reference may stand
    pub whole_old : IsOld i → IsExpression sg (types l) (translation s l e) t
    whole_old old = record { typed = typed sg s w i kept l a (Some t) g e n inner; few_nodes = limits.0; few_quantifiers = limits.1; no_new = no_new s i old fresh l (Some t) e inner }

  all_expressions : (i : Site) → IsKept i → (l : List Local) → AreTypes sg l → (fs : List Local) → AreTypes sg fs → (ds : Texts) → AreNumbersIn ds → length fs ≡ count ds → all_whole s i l fs ds ≡ [] → AreNewExpressions sg (types l) (translations s l ds) (types fs)
  all_expressions i kept l a [] b plain.none n e h = tt
  all_expressions i kept l a (f ∷ fs) b plain.none n e h = absurd (omega (arith, e))
  all_expressions i kept l a [] b (plain.more d ds) n e h = absurd (omega (arith, e))
  all_expressions i kept l a (f ∷ fs) b (plain.more d ds) n e h =
      let one = whole_broken s i l (Some f.ty) d in
      let others = all_whole s i l fs ds in
      (whole_new i kept l a f.ty b.0 d n.0 (append_left one others h), all_expressions i kept l a fs b.1 ds n.1 (omega (arith, e)) (append_right one others h))

  module _ (n : ℕ) (r : Option Local) (g : IsAsked sg (result_type r)) where
    form_fits : (b : ℕ) (l : List Local) → AreTypes sg l → (taken : Bool) (e : Text) (f : Form) → IsGood s r e f → form_broken s n b l taken e f ≡ [] → IsEffect sg (result_type r) (types l) (form_core s l f)
    form_fits b l a taken e Neither k h = cc' (broken s site.Loose l None e) h
      where
        cc' : (xs : List Violation) → behind xs (breaks (span e) rule.NotDetermining) ≡ [] → IsEffect sg (result_type r) (types l) (form_core s l Neither)
        cc' [] h = cc
        cc' (f ∷ fs) h = cc
    form_fits b l a taken e (Answer t v) k h =
        let is : IsTrue (is_type sg t) = subst (IsAsked sg) k.2 g in
        (t, k.2, whole_new site.Right tt l a t is v k.1 (behind_inner (whole_broken s site.Right l (Some t) v) (if taken then breaks (span e) rule.ResultTwice else []) h))
    form_fits b l a taken e (Change q f t ds v) k h =
        let o = function_at s t.fun in
        let args = all_whole s site.Right l (asked_of o (count ds)) ds in
        let c = count_rule f.span o (count ds) in
        let j = injective_rules q (translations s l ds) n b in
        let value = whole_broken s site.Right l (Some t.ty) v in
        let left : behind (behind args c) j ≡ [] = append_left (behind (behind args c) j) value h in
        let inner : behind args c ≡ [] = behind_inner (behind args c) j left in
        let d = k.3 in
        let head : IsHead sg d.0 = w.function_heads t.fun d.0 d.1 in
        let fun = w.functions t.fun d.0 d.1 in
        let z = asked_all sg s w d.0 (count ds) f.span (subst (λ o. count_rule f.span o (count ds) ≡ []) d.1 (behind_own args c inner)) in
        let is : IsTrue (is_type sg t.ty) = subst (λ u. IsAsked sg (sort_type u)) d.2 head.result in
        let es : AreNewExpressions sg (types l) (translations s l ds) (types d.0.formals) =
        all_expressions site.Right tt l a d.0.formals head.formals ds k.1 z.1 (subst (λ fs. all_whole s site.Right l fs ds ≡ []) (ap (λ o. asked_of o (count ds)) d.1 ∙ z.0) (behind_inner args c inner)) in
        (fun.0, t.ty, fun.1, head-primitive d.0 fun.0 fun.2 ∙ ap primitive_sort d.2, subst (AreNewExpressions sg (types l) (translations s l ds)) (sym fun.2.formals) es, whole_new site.Right tt l a t.ty is v k.2 (append_right (behind (behind args c) j) value h))

    joined_fits : (xs : List Ty) (ws vs : EffectTrees) → AreEffects sg (result_type r) xs ws → AreEffects sg (result_type r) xs vs → AreEffects sg (result_type r) xs (joined_effects ws vs)
    joined_fits xs effect.none vs h k = k
    joined_fits xs (effect.more w ws) vs h k = (h.0, joined_fits xs ws vs h.1 k)

    bound-type : (b : ℕ) (l : List Local) (f : FormalTree) → bound_rules s b l f ≡ [] → type_rules s f.ty ≡ []
    bound-type b l f h = append_left (type_rules s f.ty) (if is_local l f.name.name then breaks f.name.span rule.TwiceDeclared else []) (append_left (formal_rules s l f) (if nat_lt b MOST_BOUND_VARIABLES then [] else exceeds f.name.span quantity.BoundVariables) h)

    all-types : (b : ℕ) (l : List Local) (fs : List FormalTree) → AreTypes sg l → all_bound s b l fs ≡ [] → AreTypes sg (with_formals s l fs)
    all-types b l [] a h = a
    all-types b l (f ∷ fs) a h = all-types (b + 1) (with_formal s l f) fs (with_types sg s w l f a (bound-type b l f (append_left (bound_rules s b l f) (all_bound s (b + 1) (with_formal s l f) fs) h))) (append_right (bound_rules s b l f) (all_bound s (b + 1) (with_formal s l f) fs) h)

    nested_fits : (b : ℕ) (l : List Local) (fs : List FormalTree) (ws : EffectTrees) → all_bound s b l fs ≡ [] → AreEffects sg (result_type r) (types (with_formals s l fs)) ws → AreEffects sg (result_type r) (types l) (nested (length l) (types_named s fs) ws)
    nested_fits b l [] ws h k = k
    nested_fits b l (f ∷ fs) ws h k =
        let m = with_formal s l f in
        let z = nested_fits (b + 1) m fs ws (append_right (bound_rules s b l f) (all_bound s (b + 1) m fs) h) k in
        let y = subst (λ j. AreEffects sg (result_type r) (types m) (nested j (types_named s fs) ws)) (length-with s l f) z in
        let x = subst (λ v. AreEffects sg (result_type r) v (nested (suc (length l)) (types_named s fs) ws)) (formal_types sg s w l f) y in
        ((sym (types-length l), finite sg s w f.ty (bound-type b l f (append_left (bound_rules s b l f) (all_bound s (b + 1) m fs) h)), x), tt)

    mutual
      pub effect_fits : (b : ℕ) (l : List Local) → AreTypes sg l → (taken : Bool) (e : EffectText) → AreEffectNumbers e → effect_broken s n r b l taken e ≡ [] → AreEffects sg (result_type r) (types l) (effect_core s r l e)
      effect_fits b l a taken (Plain e) m h = (form_fits b l a taken e (form s l r e) (good s l r e m) h, tt)
      effect_fits b l a taken (If p c as' bs) m h =
          let k = whole_broken s site.Guard l (Some ty.Boolean) c in
          let left = effects_broken s n r b l taken as' in
          let right = effects_broken s n r b l taken bs in
          let both = append_right k (left ++ right) h in
          ((whole_old site.Guard tt l a ty.Boolean refl c m.0 (append_left k (left ++ right) h) tt, effects_fit b l a taken as' m.1 (append_left left right both), effects_fit b l a taken bs m.2 (append_right left right both)), tt)
      effect_fits b l a taken (Forall p fs ws) m h =
          let k = all_bound s b l fs in
          let body = effects_broken s n r (b + length fs) (with_formals s l fs) true ws in
          nested_fits b l fs (effects_core s r (with_formals s l fs) ws) (behind_inner k body h) (effects_fit (b + length fs) (with_formals s l fs) (all-types b l fs a (behind_inner k body h)) true ws m (behind_own k body h))

      pub effects_fit : (b : ℕ) (l : List Local) → AreTypes sg l → (taken : Bool) (es : EffectTexts) → AreEffectNumbersIn es → effects_broken s n r b l taken es ≡ [] → AreEffects sg (result_type r) (types l) (effects_core s r l es)
      effects_fit b l a taken none m h = tt
      effects_fit b l a taken (more e es) m h =
          let one = effect_broken s n r b l taken e in
          let others = effects_broken s n r b l (taken || may r e) es in
          joined_fits (types l) (effect_core s r l e) (effects_core s r l es) (effect_fits b l a taken e m.0 (append_left one others h)) (effects_fit b l a (taken || may r e) es m.1 (append_right one others h))

-- how many variables are bound
joined_bound : (ws vs : EffectTrees) → bound_variables_in (joined_effects ws vs) ≡ max (bound_variables_in ws) (bound_variables_in vs)
joined_bound effect.none vs = grind (arith, rules)
joined_bound (effect.more w ws) vs = grind (arith, rules, joined_bound ws vs)

nested_bound : (k : ℕ) (ts : List Ty) (ws : EffectTrees) → bound_variables_in (nested k ts ws) ≡ length ts + bound_variables_in ws
nested_bound k [] ws = grind (arith, rules)
nested_bound k (t ∷ ts) ws = let z = nested_bound (suc k) ts ws in omega (arith, z)

named-length : (s : Visible) (fs : List FormalTree) → length (types_named s fs) ≡ length fs
named-length s [] = refl
named-length s (f ∷ fs) = ap suc (named-length s fs)

pub bound_is : MOST_BOUND_VARIABLES ≡ 2
bound_is = refl

few_now : (b : ℕ) (p : Span) → (if nat_lt b MOST_BOUND_VARIABLES then [] else exceeds p quantity.BoundVariables) ≡ [] → b < 2
few_now b p h = grind (arith, rules, bound_is)

few_all : (s : Visible) (b : ℕ) (l : List Local) (fs : List FormalTree) → b ≤ 2 → all_bound s b l fs ≡ [] → b + length fs ≤ 2
few_all s b l [] le h = omega (arith, le)
few_all s b l (f ∷ fs) le h =
    let one = few_now b f.name.span (append_right (formal_rules s l f) (if nat_lt b MOST_BOUND_VARIABLES then [] else exceeds f.name.span quantity.BoundVariables) (append_left (bound_rules s b l f) (all_bound s (b + 1) (with_formal s l f) fs) h)) in
    let z = few_all s (b + 1) (with_formal s l f) fs (omega (arith, one)) (append_right (bound_rules s b l f) (all_bound s (b + 1) (with_formal s l f) fs) h) in
    omega (arith, z)

form_bound : (s : Visible) (l : List Local) (f : Form) → bound_variables_in (one_effect (form_core s l f)) ≡ 0
form_bound s l (Change q f t ds v) = refl
form_bound s l (Answer t v) = refl
form_bound s l Neither = refl

module _ (s : Visible) (n : ℕ) (r : Option Local) where
  mutual
    pub effect_few : (b : ℕ) (l : List Local) (taken : Bool) (e : EffectText) → b ≤ 2 → effect_broken s n r b l taken e ≡ [] → b + bound_variables_in (effect_core s r l e) ≤ 2
    effect_few b l taken (Plain e) le h = omega (arith, le, form_bound s l (form s l r e))
    effect_few b l taken (If p c as' bs) le h =
        let k = whole_broken s site.Guard l (Some ty.Boolean) c in
        let left = effects_broken s n r b l taken as' in
        let right = effects_broken s n r b l taken bs in
        let both = append_right k (left ++ right) h in
        omega (arith, effects_few b l taken as' le (append_left left right both), effects_few b l taken bs le (append_right left right both))
    effect_few b l taken (Forall p fs ws) le h =
        let k = all_bound s b l fs in
        let body = effects_broken s n r (b + length fs) (with_formals s l fs) true ws in
        let z = effects_few (b + length fs) (with_formals s l fs) true ws (few_all s b l fs le (behind_inner k body h)) (behind_own k body h) in
        omega (arith, z, nested_bound (length l) (types_named s fs) (effects_core s r (with_formals s l fs) ws), named-length s fs)

    pub effects_few : (b : ℕ) (l : List Local) (taken : Bool) (es : EffectTexts) → b ≤ 2 → effects_broken s n r b l taken es ≡ [] → b + bound_variables_in (effects_core s r l es) ≤ 2
    effects_few b l taken none le h = omega (arith, le)
    effects_few b l taken (more e es) le h =
        let one = effect_broken s n r b l taken e in
        let others = effects_broken s n r b l (taken || may r e) es in
        omega (arith, effect_few b l taken e le (append_left one others h), effects_few b l (taken || may r e) es le (append_right one others h), joined_bound (effect_core s r l e) (effects_core s r l es))

-- the changes and their targets
pub joined_changes : (ws vs : EffectTrees) → changes_in (joined_effects ws vs) ≡ changes_in ws ++ changes_in vs
joined_changes effect.none vs = refl
joined_changes (effect.more w ws) vs = ap (λ z. changes w ++ z) (joined_changes ws vs) ∙ sym (append_assoc (changes w) (changes_in ws) (changes_in vs))

-- each variable bound around the change, from number n on, stands alone; b of them stand around all of these changes
abbrev pub IsAlone : ℕ → ℕ → GuardedChange → Type 0
IsAlone n b a = (j : ℕ) → j < b + length a.vars → alone (n + j) a.args ≡ 1

alone-from : (q : Span) (ds : Trees) (n b : ℕ) → injective_rules q ds n b ≡ [] → (j : ℕ) → j < b → alone (n + j) ds ≡ 1
alone-from q ds n zero h j lt = absurd (omega (arith, lt))
alone-from q ds n (suc b) h zero lt = by (nat_eq (alone n ds) 1) refl (append_left (if nat_eq (alone n ds) 1 then [] else breaks q rule.TargetNotInjective) (injective_rules q ds (suc n) b) h)
  where
    by : (c : Bool) → nat_eq (alone n ds) 1 ≡ c → (if c then [] else breaks q rule.TargetNotInjective) ≡ [] → alone (n + 0) ds ≡ 1
    by false e k = cc
    by true e k = let z : n ≡ n + 0 = omega arith in subst (λ z. alone z ds ≡ 1) z (grind (arith, rules))
alone-from q ds n (suc b) h (suc j) lt =
    let z : suc n + j ≡ n + suc j = omega arith in
    subst (λ z. alone z ds ≡ 1) z (alone-from q ds (suc n) b (append_right (if nat_eq (alone n ds) 1 then [] else breaks q rule.TargetNotInjective) (injective_rules q ds (suc n) b) h) j (omega (arith, lt)))

module _ (s : Visible) (n : ℕ) (r : Option Local) where
  form_alone : (b : ℕ) (l : List Local) (taken : Bool) (e : Text) (f : Form) → form_broken s n b l taken e f ≡ [] → All (IsAlone n b) (changes (form_core s l f))
  form_alone b l taken e Neither h = All-nil (IsAlone n b)
  form_alone b l taken e (Answer t v) h = All-nil (IsAlone n b)
  form_alone b l taken e (Change q f t ds v) h =
      let o = function_at s t.fun in
      let c = behind (all_whole s site.Right l (asked_of o (count ds)) ds) (count_rule f.span o (count ds)) in
      let j = injective_rules q (translations s l ds) n b in
      let left : behind c j ≡ [] = append_left (behind c j) (whole_broken s site.Right l (Some t.ty) v) h in
      All-cons (IsAlone n b) (record { vars = []; guards = []; fun = t.fun; args = translations s l ds; value = translation s l v }) [] (λ i lt. alone-from q (translations s l ds) n b (behind_own c j left) i (omega (arith, lt))) (All-nil (IsAlone n b))

  nested_alone : (b k : ℕ) (ts : List Ty) (ws : EffectTrees) → All (IsAlone n (b + length ts)) (changes_in ws) → All (IsAlone n b) (changes_in (nested k ts ws))
  nested_alone b k [] ws h = let z : b + 0 ≡ b = omega arith in subst (λ z. All (IsAlone n z) (changes_in ws)) z h
  nested_alone b k (t ∷ ts) ws h =
      let z : b + suc (length ts) ≡ suc b + length ts = omega arith in
      let y = nested_alone (suc b) (suc k) ts ws (subst (λ z. All (IsAlone n z) (changes_in ws)) z h) in
      All-append (IsAlone n b) (map (change_within t) (changes_in (nested (suc k) ts ws))) [] (All-map (IsAlone n b) (change_within t) (changes_in (nested (suc k) ts ws)) (λ i d lt j le. y i d lt j (omega (arith, le)))) (All-nil (IsAlone n b))

  mutual
    pub effect_alone : (b : ℕ) (l : List Local) (taken : Bool) (e : EffectText) → effect_broken s n r b l taken e ≡ [] → All (IsAlone n b) (changes_in (effect_core s r l e))
    effect_alone b l taken (Plain e) h = All-append (IsAlone n b) (changes (form_core s l (form s l r e))) [] (form_alone b l taken e (form s l r e) h) (All-nil (IsAlone n b))
    effect_alone b l taken (If p c as' bs) h =
        let k = whole_broken s site.Guard l (Some ty.Boolean) c in
        let left = effects_broken s n r b l taken as' in
        let right = effects_broken s n r b l taken bs in
        let both = append_right k (left ++ right) h in
        let d = translation s l c in
        let x = All-map (IsAlone n b) (change_under d) (changes_in (effects_core s r l as')) (effects_alone b l taken as' (append_left left right both)) in
        let y = All-map (IsAlone n b) (change_under (core.Not d)) (changes_in (effects_core s r l bs)) (effects_alone b l taken bs (append_right left right both)) in
        All-append (IsAlone n b) (map (change_under d) (changes_in (effects_core s r l as')) ++ map (change_under (core.Not d)) (changes_in (effects_core s r l bs))) []
        (All-append (IsAlone n b) (map (change_under d) (changes_in (effects_core s r l as'))) (map (change_under (core.Not d)) (changes_in (effects_core s r l bs))) x y) (All-nil (IsAlone n b))
    effect_alone b l taken (Forall p fs ws) h =
        let k = all_bound s b l fs in
        let body = effects_broken s n r (b + length fs) (with_formals s l fs) true ws in
        nested_alone b (length l) (types_named s fs) (effects_core s r (with_formals s l fs) ws)
        (subst (λ z. All (IsAlone n (b + z)) (changes_in (effects_core s r (with_formals s l fs) ws))) (sym (named-length s fs)) (effects_alone (b + length fs) (with_formals s l fs) true ws (behind_own k body h)))

    pub effects_alone : (b : ℕ) (l : List Local) (taken : Bool) (es : EffectTexts) → effects_broken s n r b l taken es ≡ [] → All (IsAlone n b) (changes_in (effects_core s r l es))
    effects_alone b l taken none h = All-nil (IsAlone n b)
    effects_alone b l taken (more e es) h =
        let one = effect_broken s n r b l taken e in
        let others = effects_broken s n r b l (taken || may r e) es in
        subst (All (IsAlone n b)) (sym (joined_changes (effect_core s r l e) (effects_core s r l es)))
        (All-append (IsAlone n b) (changes_in (effect_core s r l e)) (changes_in (effects_core s r l es)) (effect_alone b l taken e (append_left one others h)) (effects_alone b l (taken || may r e) es (append_right one others h)))

  -- how many changes there are
  beyond-few : (m : ℕ) (ps : List Span) → beyond m ps ≡ [] → length ps ≤ m
  beyond-few m [] h = omega arith
  beyond-few zero (p ∷ ps) h = cc
  beyond-few (suc m) (p ∷ ps) h = let z = beyond-few m ps h in omega (arith, z)

  form_count : (l : List Local) (e : Text) (f : Form) → length (changes (form_core s l f)) ≡ length (form_change e f)
  form_count l e (Change q f t ds v) = refl
  form_count l e (Answer t v) = refl
  form_count l e Neither = refl

  nested_count : (k : ℕ) (ts : List Ty) (ws : EffectTrees) → length (changes_in (nested k ts ws)) ≡ length (changes_in ws)
  nested_count k [] ws = refl
  nested_count k (t ∷ ts) ws = mapped (changes_in (nested (suc k) ts ws)) ∙ nested_count (suc k) ts ws
    where
      mapped : (as' : List GuardedChange) → length (map (change_within t) as' ++ []) ≡ length as'
      mapped [] = refl
      mapped (a ∷ as') = ap suc (mapped as')

  map-count : (d : Tree) (as' : List GuardedChange) → length (map (change_under d) as') ≡ length as'
  map-count d [] = refl
  map-count d (a ∷ as') = ap suc (map-count d as')

  mutual
    pub effect_count : (l : List Local) (e : EffectText) → length (changes_in (effect_core s r l e)) ≡ length (change_places s r l e)
    effect_count l (Plain e) = omega (arith, length-append (changes (form_core s l (form s l r e))) [], form_count l e (form s l r e))
    effect_count l (If p c as' bs) =
        let d = translation s l c in
        let x = map (change_under d) (changes_in (effects_core s r l as')) in
        let y = map (change_under (core.Not d)) (changes_in (effects_core s r l bs)) in
        omega (arith, length-append (x ++ y) [], length-append x y, map-count d (changes_in (effects_core s r l as')), map-count (core.Not d) (changes_in (effects_core s r l bs)), effects_count l as', effects_count l bs, length-append (change_places_in s r l as') (change_places_in s r l bs))
    effect_count l (Forall p fs ws) = nested_count (length l) (types_named s fs) (effects_core s r (with_formals s l fs) ws) ∙ effects_count (with_formals s l fs) ws

    pub effects_count : (l : List Local) (es : EffectTexts) → length (changes_in (effects_core s r l es)) ≡ length (change_places_in s r l es)
    effects_count l none = refl
    effects_count l (more e es) =
        let z = ap length (joined_changes (effect_core s r l e) (effects_core s r l es)) in
        omega (arith, z, length-append (changes_in (effect_core s r l e)) (changes_in (effects_core s r l es)), effect_count l e, effects_count l es, length-append (change_places s r l e) (change_places_in s r l es))

  pub few_changes : (l : List Local) (es : EffectTexts) → beyond MOST_CHANGES (change_places_in s r l es) ≡ [] → length (changes_in (effects_core s r l es)) ≤ MOST_CHANGES
  few_changes l es h = let z = beyond-few MOST_CHANGES (change_places_in s r l es) h in omega (arith, z, effects_count l es)
