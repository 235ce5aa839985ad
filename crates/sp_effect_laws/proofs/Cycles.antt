-- Effects whose quoted references close no cycle stand for changes that read new values without one.
use Rattle.std.proofs.Common.{◌≡◌, refl, sym, ◌∙◌, ap, subst, ℕ, zero, suc, ◌+◌, Bool, true, false, List, [], ◌∷◌, ◌++◌, ◌⊎◌, inl, inr, map, Option, Some, None, length, append_assoc}
use Rattle.std.specs.Prelude.{if◌then◌else◌, ◌||◌}
use Rattle.std.specs.List.{All, Contains}
use Rattle.std.proofs.lemmas.List.Elements.{All-append, All-cons, All-contains, All-map, All-nil, Contains-append_cases, Contains-append_left, Contains-append_right}
use Rattle.sp_text.specs.declared.violation.Violation.{Violation}
use Rattle.sp_values.specs.declared.value.Ty.{Ty}
use Rattle.sp_values.specs.declared.value.Ty.TheVariants as ty
use Rattle.sp_core.specs.Effects.{EffectTree, EffectTrees, GuardedChange, changes, changes_in, change_under, change_within}
use Rattle.sp_core.specs.Ranks.{HasNoCycle, change_reads, new_reads, new_reads_in}
use Rattle.sp_core.specs.Ranks as ranks
use Rattle.sp_core.specs.Tree as core
use Rattle.sp_plain.specs.Text.{Text, Texts}
use Rattle.sp_scopes.specs.declared.heads.Local.{Local}
use Rattle.sp_judge.specs.Broken.{whole_broken}
use Rattle.sp_judge.specs.Translation.{translation, translations}
use Rattle.sp_judge.specs.Visible.{Visible}
use Rattle.sp_judge.specs.declared.scope.Site.TheVariants as site
use Rattle.sp_typed.specs.Fits.{HoldNoNew}
use Rattle.sp_typed.proofs.Fitting.{behind_inner, behind_own, append_left, append_right}
use Rattle.sp_cycles.specs.Order.{IsBefore, Leads, cycle_rules}
use Rattle.sp_cycles.specs.declared.order.Quoted.{Quoted}
use Rattle.sp_cycles.proofs.Chains.{no_cycle}
use Rattle.sp_effects.specs.EffectCore.{effect_core, effects_core, form_core, nested, types_named}
use Rattle.sp_effects.specs.EffectRules.{all_bound, breaks_nothing, change_broken, cycles_broken, effect_broken, effect_quotes, effects_broken, effects_quotes, form_broken, form_quotes, quotes, quotes_in, with_formals}
use Rattle.sp_effects.specs.EffectText.{EffectText, EffectTexts, Plain, If, Forall, none, more}
use Rattle.sp_effects.specs.Forms.{Form, Change, Answer, Neither, form, may}
use Rattle.sp_effect_laws.proofs.Effects.{joined_changes}
use Rattle.sp_effect_laws.proofs.NewReads.{all_meet, all_quoted, quoted, reads_meet}

-- each function that the change reads new is before its own, by these quoted references
abbrev pub IsQuotedIn : List Quoted → GuardedChange → Type 0
IsQuotedIn qs a = (h : ℕ) → Contains (change_reads a) h → IsBefore qs h a.fun

-- all of these quoted references are among those
abbrev AreIn : List Quoted → List Quoted → Type 0
AreIn qs rs = (q : Quoted) → Contains rs q → Contains qs q

in_left : (qs as' bs : List Quoted) → AreIn qs (as' ++ bs) → AreIn qs as'
in_left qs as' bs i q c = i q (Contains-append_left as' bs q c)

in_right : (qs as' bs : List Quoted) → AreIn qs (as' ++ bs) → AreIn qs bs
in_right qs as' bs i q c = i q (Contains-append_right as' bs q c)

-- those of what breaks nothing are kept
in_kept : (qs rs : List Quoted) (vs : List Violation) → vs ≡ [] → AreIn qs (if breaks_nothing vs then rs else []) → AreIn qs rs
in_kept qs rs vs e i q c = i q (subst (λ z. Contains (if breaks_nothing z then rs else []) q) (sym e) c)

module _ (s : Visible) (fresh : HoldNoNew s) (qs : List Quoted) where
  module _ (n : ℕ) (r : Option Local) where
    form_quoted : (b : ℕ) (l : List Local) (taken : Bool) (e : Text) (f : Form) → form_broken s n b l taken e f ≡ [] → AreIn qs (form_quotes s n b l f) → All (IsQuotedIn qs) (changes (form_core s l f))
    form_quoted b l taken e Neither h i = All-nil (IsQuotedIn qs)
    form_quoted b l taken e (Answer t v) h i = All-nil (IsQuotedIn qs)
    form_quoted b l taken e (Change q f t ds v) h i =
        let as' = quotes_in s t.fun l ds in
        let bs = quotes s t.fun l v in
        let kept : AreIn qs (as' ++ bs) = in_kept qs (as' ++ bs) (change_broken s n b l q f t ds v) h i in
        All-cons (IsQuotedIn qs) (record { vars = []; guards = []; fun = t.fun; args = translations s l ds; value = translation s l v }) []
        (λ k c. own t.fun l ds v (in_left qs as' bs kept) (in_right qs as' bs kept) k c) (All-nil (IsQuotedIn qs))
      where
        own : (g : ℕ) (l : List Local) (ds : Texts) (v : Text) → AreIn qs (quotes_in s g l ds) → AreIn qs (quotes s g l v) → (k : ℕ) → Contains (new_reads_in (translations s l ds) ++ new_reads (translation s l v)) k → IsBefore qs k g
        own g l ds v i j k c = elim (Contains-append_cases (new_reads_in (translations s l ds)) (new_reads (translation s l v)) k c) [
          | inl x ↦ all_meet (λ h. IsBefore qs h g) (translations s l ds) (all_quoted s fresh g (λ h. IsBefore qs h g) l ds (λ q m e. (q, record { of = i q m; reads = refl; changes = e }))) k x
          | inr x ↦ reads_meet (λ h. IsBefore qs h g) (translation s l v) (quoted s fresh g (λ h. IsBefore qs h g) l v (λ q m e. (q, record { of = j q m; reads = refl; changes = e }))) k x
        ]

    nested_quoted : (k : ℕ) (ts : List Ty) (ws : EffectTrees) → All (IsQuotedIn qs) (changes_in ws) → All (IsQuotedIn qs) (changes_in (nested k ts ws))
    nested_quoted k [] ws h = h
    nested_quoted k (t ∷ ts) ws h =
        let y = nested_quoted (suc k) ts ws h in
        All-append (IsQuotedIn qs) (map (change_within t) (changes_in (nested (suc k) ts ws))) [] (All-map (IsQuotedIn qs) (change_within t) (changes_in (nested (suc k) ts ws)) y) (All-nil (IsQuotedIn qs))

    mutual
      effect_quoted : (b : ℕ) (l : List Local) (taken : Bool) (e : EffectText) → effect_broken s n r b l taken e ≡ [] → AreIn qs (effect_quotes s n r b l e) → All (IsQuotedIn qs) (changes_in (effect_core s r l e))
      effect_quoted b l taken (Plain e) h i = All-append (IsQuotedIn qs) (changes (form_core s l (form s l r e))) [] (form_quoted b l taken e (form s l r e) h i) (All-nil (IsQuotedIn qs))
      effect_quoted b l taken (If p c as' bs) h i =
          let k = whole_broken s site.Guard l (Some ty.Boolean) c in
          let left = effects_broken s n r b l taken as' in
          let right = effects_broken s n r b l taken bs in
          let both = append_right k (left ++ right) h in
          let d = translation s l c in
          let xs = effects_quotes s n r b l as' in
          let ys = effects_quotes s n r b l bs in
          let x = All-map (IsQuotedIn qs) (change_under d) (changes_in (effects_core s r l as')) (effects_quoted b l taken as' (append_left left right both) (in_left qs xs ys i)) in
          let y = All-map (IsQuotedIn qs) (change_under (core.Not d)) (changes_in (effects_core s r l bs)) (effects_quoted b l taken bs (append_right left right both) (in_right qs xs ys i)) in
          All-append (IsQuotedIn qs) (map (change_under d) (changes_in (effects_core s r l as')) ++ map (change_under (core.Not d)) (changes_in (effects_core s r l bs))) []
          (All-append (IsQuotedIn qs) (map (change_under d) (changes_in (effects_core s r l as'))) (map (change_under (core.Not d)) (changes_in (effects_core s r l bs))) x y) (All-nil (IsQuotedIn qs))
      effect_quoted b l taken (Forall p fs ws) h i =
          let k = all_bound s b l fs in
          let body = effects_broken s n r (b + length fs) (with_formals s l fs) true ws in
          nested_quoted (length l) (types_named s fs) (effects_core s r (with_formals s l fs) ws)
          (effects_quoted (b + length fs) (with_formals s l fs) true ws (behind_own k body h) (in_kept qs (effects_quotes s n r (b + length fs) (with_formals s l fs) ws) k (behind_inner k body h) i))

      effects_quoted : (b : ℕ) (l : List Local) (taken : Bool) (ws : EffectTexts) → effects_broken s n r b l taken ws ≡ [] → AreIn qs (effects_quotes s n r b l ws) → All (IsQuotedIn qs) (changes_in (effects_core s r l ws))
      effects_quoted b l taken none h i = All-nil (IsQuotedIn qs)
      effects_quoted b l taken (more e es) h i =
          let one = effect_broken s n r b l taken e in
          let others = effects_broken s n r b l (taken || may r e) es in
          let xs = effect_quotes s n r b l e in
          let ys = effects_quotes s n r b l es in
          subst (All (IsQuotedIn qs)) (sym (joined_changes (effect_core s r l e) (effects_core s r l es)))
          (All-append (IsQuotedIn qs) (changes_in (effect_core s r l e)) (changes_in (effects_core s r l es)) (effect_quoted b l taken e (append_left one others h) (in_left qs xs ys i)) (effects_quoted b l (taken || may r e) es (append_right one others h) (in_right qs xs ys i)))

  -- a chain of changes is one of quoted references
  chain : (as' : List GuardedChange) → All (IsQuotedIn qs) as' → (n h g : ℕ) → ranks.Leads as' n h g → Leads qs n h g
  chain as' a zero h g c = c
  chain as' a (suc n) h g (k, c, (d, b)) = (k, chain as' a n h k c, subst (λ x. IsBefore qs k x) b.changes (All-contains (IsQuotedIn qs) as' d a b.of k b.reads))

pub no_cycle_in : (s : Visible) → HoldNoNew s → (l : List Local) (r : Option Local) (ws : EffectTexts) → effects_broken s (length l) r 0 l false ws ≡ [] → cycles_broken s l r ws ≡ [] → HasNoCycle (changes_in (effects_core s r l ws))
no_cycle_in s fresh l r ws h e n g c =
    let qs = effects_quotes s (length l) r 0 l ws in
    no_cycle qs e n g (chain s fresh qs (changes_in (effects_core s r l ws)) (effects_quoted s fresh qs (length l) r 0 l false ws h (λ q m. m)) (suc n) g g c)
