-- Expressions of functions that break nothing are well-formed.
use Rattle.std.proofs.Common.{◌≡◌, refl, sym, ◌∙◌, ap, subst, rules, arith, ℕ, zero, suc, ◌+◌, ◌≤◌, ◌<◌, List, [], ◌∷◌, ◌++◌, Bool, true, false, None, Option, Some, length}
use Rattle.std.specs.Prelude.{if◌then◌else◌, slice_get, IsTrue, nat_lt, not, ◌&&◌}
use Rattle.sp_text.specs.declared.fault.Quantity.TheVariants as quantity
use Rattle.sp_text.specs.declared.fault.Rule.{Rule}
use Rattle.sp_text.specs.declared.fault.Rule.TheVariants as rule
use Rattle.sp_text.specs.declared.fault.Span.{Span}
use Rattle.sp_text.specs.declared.limits.TheConstants.{MOST_EXPRESSION_NODES, MOST_HEIGHT, MOST_QUANTIFIERS}
use Rattle.sp_text.specs.declared.violation.Violation.{Violation}
use Rattle.sp_text.specs.Violations.{breaks, exceeds, first}
use Rattle.sp_values.specs.declared.value.Ty.{Ty}
use Rattle.sp_values.specs.declared.value.Ty.TheVariants as ty
use Rattle.sp_values.specs.declared.value.Value.TheVariants as value
use Rattle.sp_core.specs.declared.function.Function.{Function}
use Rattle.sp_core.specs.declared.function.Kind.{Kind}
use Rattle.sp_core.specs.declared.function.Kind.TheVariants as kind
use Rattle.sp_core.specs.Machine.{types_of}
use Rattle.sp_core.specs.Measures.{Anything, LookAt, LooksAt, Nothing, nodes, quantifiers}
use Rattle.sp_core.specs.Tree.{Tree, Trees}
use Rattle.sp_core.specs.Tree as core
use Rattle.sp_core.specs.Typing.{HasType, HaveTypes, Signature, is_type}
use Rattle.sp_core.specs.WellFormed.{IsEarlier, IsEarlierAs, IsExpression}
use Rattle.sp_expand.specs.Sizes.{height, size, within}
use Rattle.sp_plain.specs.Text.{Text, span}
use Rattle.sp_scopes.specs.declared.heads.Head.{Head}
use Rattle.sp_scopes.specs.declared.heads.Local.{Local}
use Rattle.sp_scopes.specs.declared.heads.Sort.{Sort}
use Rattle.sp_judge.specs.declared.scope.Site.TheVariants as site
use Rattle.sp_judge.specs.Visible.{Visible}
use Rattle.sp_judge.specs.Translation.{translation}
use Rattle.sp_judge.specs.Broken.{broken, limit_rules}
use Rattle.sp_judge.proofs.Whole.{limit_first}
use Rattle.sp_definitions.specs.Definitions.{kept}
use Rattle.sp_typed.specs.Fits.{types, kind_sort, AreNumbers, AreTypes}
use Rattle.sp_typed.proofs.Fitting.{append_left, append_right, behind_inner, behind_own}
use Rattle.sp_typed.proofs.Typed.{typed}
use Rattle.sp_typed.proofs.Quotes.{looks-weaken, no_new}
use Rattle.sp_reads.specs.Reads.{is_flagged}
use Rattle.sp_reads.specs.ReadTexts.{reads, IsClear}
use Rattle.sp_reads.proofs.ReadLaws.{clear}
use Rattle.sp_functions.specs.Judged.{all_flags, is_derived, judged, later_flags, made, quantifies}
use Rattle.sp_functions.specs.Laws.{DerivationLaw, InitialLaw, IsSeenBy, LevelLaw}

-- two facts on what is looked at
module _ (P N Q M : ℕ → Type 0) where
  mutual
    looks-both : (e : Tree) → LooksAt P N e → LooksAt Q M e → LooksAt (λ g. P g × Q g) (λ g. N g × M g) e
    looks-both (core.Const v) h k = tt
    looks-both (core.Var j) h k = tt
    looks-both (core.Not a) h k = looks-both a h k
    looks-both (core.Two o a b) h k = (looks-both a h.0 k.0, looks-both b h.1 k.1)
    looks-both (core.If c a b) h k = (looks-both c h.0 k.0, looks-both a h.1 k.1, looks-both b h.2 k.2)
    looks-both (core.Param p ds) h k = look-both ds h k
    looks-both (core.Look g ds) h k = ((h.0, k.0), look-both ds h.1 k.1)
    looks-both (core.Every n t b) h k = looks-both b h k
    looks-both (core.New g ds) h k = ((h.0, k.0), look-both ds h.1 k.1)

    look-both : (ds : Trees) → LookAt P N ds → LookAt Q M ds → LookAt (λ g. P g × Q g) (λ g. N g × M g) ds
    look-both core.none h k = tt
    look-both (core.more d ds) h k = (looks-both d h.0 k.0, look-both ds h.1 k.1)

-- the V-function is one of the signature
abbrev IsThere : Signature → ℕ → Type 0
IsThere sg g = (f : Function) × (slice_get sg.functions g ≡ Some f)

module _ (sg : Signature) where
  mutual
    there : (e : Tree) (xs : List Ty) (t : Ty) → HasType sg xs e t → LooksAt (IsThere sg) (IsThere sg) e
    there (core.Const v) xs t h = tt
    there (core.Var j) xs t h = tt
    there (core.Not a) xs t h = there a xs ty.Boolean h.1
    there (core.Two o a b) xs t h = (there a xs h.0 h.2, there b xs h.0 h.3)
    there (core.If c a b) xs t h = (there c xs ty.Boolean h.0, there a xs t h.1, there b xs t h.2)
    there (core.Param p ds) xs t h = all_there ds xs (types_of h.0.formals) h.3
    there (core.Look g ds) xs t h = ((h.0, h.1), all_there ds xs (types_of h.0.formals) h.3)
    there (core.Every n u b) xs t h = there b (xs ++ u ∷ []) ty.Boolean h.3
    there (core.New g ds) xs t h = ((h.0, h.1), all_there ds xs (types_of h.0.formals) h.3)

    all_there : (ds : Trees) (xs ts : List Ty) → HaveTypes sg xs ds ts → LookAt (IsThere sg) (IsThere sg) ds
    all_there core.none xs [] h = tt
    all_there core.none xs (t ∷ ts) h = tt
    all_there (core.more d ds) xs [] h = absurd h
    all_there (core.more d ds) xs (t ∷ ts) h = (there d xs t h.0, all_there ds xs ts h.1)

get-within : {X : Type 0} (xs : List X) (k : ℕ) (x : X) → slice_get xs k ≡ Some x → k < length xs
get-within [] k x e = cc
get-within (y ∷ xs) zero x e = omega arith
get-within (y ∷ xs) (suc k) x e = omega (arith, get-within xs k x e)

get-some : {X : Type 0} (xs : List X) (k : ℕ) → k < length xs → (x : X) × (slice_get xs k ≡ Some x)
get-some [] k lt = absurd (omega (arith, lt))
get-some (x ∷ xs) zero lt = (x, refl)
get-some (x ∷ xs) (suc k) lt = get-some xs k (omega (arith, lt))

all-flagged : (hs : List Head) (k : ℕ) (h : Head) → slice_get hs k ≡ Some h → is_flagged (slice_get (all_flags hs) k) ≡ true
all-flagged [] k h e = cc
all-flagged (x ∷ hs) zero h e = refl
all-flagged (x ∷ hs) (suc k) h e = all-flagged hs k h e

later-flagged : (g n : ℕ) (hs : List Head) (k : ℕ) (h : Head) → slice_get hs k ≡ Some h → is_flagged (slice_get (later_flags g n hs) k) ≡ (is_derived h.sort && not (nat_lt (n + k) g))
later-flagged g n [] k h e = cc
later-flagged g n (x ∷ hs) zero h e =
    let i : x ≡ h = cc in
    let z : n ≡ n + 0 = omega arith in
    (λ j. is_derived (i j).sort && not (nat_lt (z j) g))
later-flagged g n (x ∷ hs) (suc k) h e =
    let z : suc n + k ≡ n + suc k = omega arith in
    later-flagged g (suc n) hs k h e ∙ ap (λ z. is_derived h.sort && not (nat_lt z g)) z

limits : (h q n : ℕ) (p : Span) →
    (if nat_lt MOST_HEIGHT h then exceeds p quantity.Height else []) ++ ((if nat_lt MOST_QUANTIFIERS q then exceeds p quantity.Quantifiers else []) ++ (if nat_lt MOST_EXPRESSION_NODES n then exceeds p quantity.ExpressionNodes else [])) ≡ [] →
    (n ≤ MOST_EXPRESSION_NODES) × (q ≤ MOST_QUANTIFIERS)
limits h q n p e = (grind (arith, rules), grind (arith, rules))

clash : {A : Type 0} {a : A} → None ≡ Some a → ⊥
clash h = cc

-- what is within the limits is kept
pub kept_fine : (p : Span) (t : Tree) → limit_rules p t ≡ [] → kept t ≡ t
kept_fine p t h = by (within (size t)) refl
  where
    by : (b : Bool) → within (size t) ≡ b → kept t ≡ t
    by true e = ap (λ b. if b then t else core.Const value.Unknown) e
    by false e = absurd (clash (sym (ap first h) ∙ limit_first t p (size t) refl e))

module _ (sg : Signature) (s : Visible) (seen : IsSeenBy sg s) where
  -- the head of a V-function of the signature
  headed : (g : ℕ) → IsThere sg g → (h : Head) × (slice_get s.names.functions g ≡ Some h)
  headed g t = let z = get-within sg.functions g t.0 t.1 in get-some s.names.functions g (omega (arith, z, seen.functions))

  pub expression : (l : List Local) → AreTypes sg l → (t : Ty) → IsTrue (is_type sg t) → (e : Text) → AreNumbers e → (others : List Violation) → judged s l t e others ≡ [] → IsExpression sg (types l) (translation s l e) t
  expression l a t g e n others h =
      let inner = behind_inner (broken s site.Outside l (Some t) e) (limit_rules (span e) (translation s l e) ++ others) h in
      let own = append_left (limit_rules (span e) (translation s l e)) others (behind_own (broken s site.Outside l (Some t) e) (limit_rules (span e) (translation s l e) ++ others) h) in
      let few = limits (height (translation s l e)) (quantifiers (translation s l e)) (nodes (translation s l e)) (span e) own in
      record { typed = typed sg s seen.scope site.Outside tt l a (Some t) g e n inner; few_nodes = few.0; few_quantifiers = few.1; no_new = no_new s site.Outside tt seen.fresh l (Some t) e inner }

  -- and it is what is made
  pub same_made : (l : List Local) (t : Ty) (e : Text) (others : List Violation) → judged s l t e others ≡ [] → made s l e ≡ translation s l e
  same_made l t e others h =
      kept_fine (span e) (translation s l e) (append_left (limit_rules (span e) (translation s l e)) others (behind_own (broken s site.Outside l (Some t) e) (limit_rules (span e) (translation s l e) ++ others) h))

  pub others-none : (l : List Local) (t : Ty) (e : Text) (others : List Violation) → judged s l t e others ≡ [] → others ≡ []
  others-none l t e others h = append_right (limit_rules (span e) (translation s l e)) others (behind_own (broken s site.Outside l (Some t) e) (limit_rules (span e) (translation s l e) ++ others) h)

  -- what reads no V-function looks at none
  pub nothing : (r : Rule) (l : List Local) (t : Ty) (e : Text) → HasType sg (types l) (translation s l e) t → reads s (all_flags s.names.functions) r l e ≡ [] → LooksAt Nothing Nothing (translation s l e)
  nothing r l t e typed' h =
      let F = all_flags s.names.functions in
      looks-weaken (λ g. IsClear F g × IsThere sg g) (λ g. IsClear F g × IsThere sg g) Nothing Nothing (λ g x. none g x) (λ g x. none g x) (translation s l e)
      (looks-both (IsClear F) (IsClear F) (IsThere sg) (IsThere sg) (translation s l e) (clear F r s l e h) (there sg (translation s l e) (types l) t typed'))
    where
      none : (g : ℕ) → IsClear (all_flags s.names.functions) g × IsThere sg g → ⊥
      none g x = let k = headed g x.1 in let z = all-flagged s.names.functions g k.0 k.1 in let y = x.0 in cc

  earlier-kind : (g k : ℕ) (d : Kind) (u : Sort) → kind_sort d ≡ u → (is_derived u && not (nat_lt k g)) ≡ false → IsEarlierAs g k d
  earlier-kind g k (kind.Primitive t x) u a e = tt
  earlier-kind g k (kind.Operation es) u a e = tt
  earlier-kind g k (kind.Both t es) u a e = tt
  earlier-kind g k (kind.Derived t x) u a e = late (subst (λ u. (is_derived u && not (nat_lt k g)) ≡ false) (sym a) e)
    where
      late : not (nat_lt k g) ≡ false → k < g
      late e = grind (arith, rules)

  -- what reads no later derived function looks at earlier ones
  earlier : (g : ℕ) (r : Rule) (l : List Local) (t : Ty) (e : Text) → HasType sg (types l) (translation s l e) t → LooksAt Anything Nothing (translation s l e) → reads s (later_flags g 0 s.names.functions) r l e ≡ [] →
      LooksAt (IsEarlier sg.functions g) Nothing (translation s l e)
  earlier g r l t e typed' without h =
      let F = later_flags g 0 s.names.functions in
      let both = looks-both (IsClear F) (IsClear F) (IsThere sg) (IsThere sg) (translation s l e) (clear F r s l e h) (there sg (translation s l e) (types l) t typed') in
      looks-weaken (λ g. (IsClear F g × IsThere sg g) × Anything g) (λ g. (IsClear F g × IsThere sg g) × Nothing g) (IsEarlier sg.functions g) Nothing (λ k x. one k x.0) (λ k x. x.1) (translation s l e)
      (looks-both (λ g. IsClear F g × IsThere sg g) (λ g. IsClear F g × IsThere sg g) Anything Nothing (translation s l e) both without)
    where
      one : (k : ℕ) → IsClear (later_flags g 0 s.names.functions) k × IsThere sg k → IsEarlier sg.functions g k
      one k x f e =
          let h = headed k x.1 in
          let z = seen.scope.functions k h.0 h.1 in
          let i : z.0 ≡ f = same_get z.1 e in
          let flag = sym (later-flagged g 0 s.names.functions k h.0 h.1) ∙ x.0 in
          let n : 0 + k ≡ k = omega arith in
          subst (λ f. IsEarlierAs g k f.kind) i (earlier-kind g k z.0.kind h.0.sort z.2.sort (subst (λ m. (is_derived h.0.sort && not (nat_lt m g)) ≡ false) n flag))
        where
          same_get : {a b : Function} {o : Option Function} → o ≡ Some a → o ≡ Some b → a ≡ b
          same_get p q = cc

pub initial : InitialLaw
initial sg s seen l a t g e n h x is =
    let others = reads s (all_flags s.names.functions) rule.ReadsState l e in
    let same = is ∙ same_made sg s seen l t e others h in
    let y = expression sg s seen l a t g e n others h in
    record {
      type = g;
      expression = subst (λ z. IsExpression sg (types l) z t) (sym same) y;
      reads_nothing = subst (LooksAt Nothing Nothing) (sym same) (nothing sg s seen rule.ReadsState l t e y.typed (others-none sg s seen l t e others h));
    }

pub derivation : DerivationLaw
derivation sg s seen g l a t u e n h depth x is =
    let others = reads s (later_flags g 0 s.names.functions) rule.Cyclic l e in
    let same = is ∙ same_made sg s seen l t e others h in
    let y = expression sg s seen l a t u e n others h in
    record {
      type = u;
      expression = subst (λ z. IsExpression sg (types l) z t) (sym same) y;
      reads_earlier = subst (LooksAt (IsEarlier sg.functions g) Nothing) (sym same) (earlier sg s seen g rule.Cyclic l t e y.typed y.no_new (others-none sg s seen l t e others h));
      within_depth = depth;
    }

pub level : LevelLaw
level sg s seen l a e n h x is =
    let rs = reads s (all_flags s.names.functions) rule.LevelReadsState l e in
    let qs = quantifies s l e in
    let same = is ∙ same_made sg s seen l ty.Level e (rs ++ qs) h in
    let y = expression sg s seen l a ty.Level refl e n (rs ++ qs) h in
    let others = others-none sg s seen l ty.Level e (rs ++ qs) h in
    record {
      expression = subst (λ z. IsExpression sg (types l) z ty.Level) (sym same) y;
      reads_nothing = subst (LooksAt Nothing Nothing) (sym same) (nothing sg s seen rule.LevelReadsState l ty.Level e y.typed (append_left rs qs others));
      no_quantifier = ap quantifiers same ∙ flat (quantifiers (translation s l e)) (span e) (append_right rs qs others);
    }
  where
    flat : (q : ℕ) (p : Span) → (if nat_lt 0 q then breaks p rule.LevelQuantifies else []) ≡ [] → q ≡ 0
    flat q p h = grind (arith, rules)
