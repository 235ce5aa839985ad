-- Derived functions whose depth is within the limit are as deep as a specification allows.
use Rattle.std.proofs.Common.{◌≡◌, refl, sym, ◌∙◌, ap, subst, arith, ℕ, zero, suc, ◌≤◌, ◌<◌, List, [], ◌∷◌, ◌++◌, length, length-append, Option, Some, None, ⊎_elim}
use Rattle.std.specs.Prelude.{max, slice_get}
use Rattle.std.proofs.lemmas.Bool.{cases_lt}
use Rattle.sp_values.specs.declared.value.Ty.{Ty}
use Rattle.sp_core.specs.declared.expr.Expr.{Expr}
use Rattle.sp_core.specs.declared.function.Function.{Function}
use Rattle.sp_core.specs.declared.function.Kind.{Kind}
use Rattle.sp_core.specs.declared.function.Kind.TheVariants as kind
use Rattle.sp_core.specs.Measures.{Anything, DerivesFrom, IsNotDerived, IsWithinDepth, LookAt, LooksAt, Nothing}
use Rattle.sp_core.specs.Tree.{Tree, Trees, Const, Var, Not, Two, If, Param, Look, Every, New, none, more, tree}
use Rattle.sp_core.specs.WellFormed.{IsEarlier, IsEarlierAs}
use Rattle.sp_functions.specs.Depths.{depth_at, derived_depth, greatest, greatest_in, or_none}

-- What a kind looks at; one that isn't derived looks at nothing.
abbrev Derives : (ℕ → Type 0) → Kind → Type 0
Derives P (kind.Derived t e) = LooksAt P Anything (tree e)
Derives P k = Unit {0}

abbrev NotDerived : Kind → Type 0
NotDerived (kind.Derived t e) = ⊥
NotDerived k = Unit {0}

-- from a kind to its function
derives_from : (P : ℕ → Type 0) (f : Function) (k : Kind) → Derives P k → DerivesFrom P (Some (record f { kind = k }))
derives_from P f (kind.Primitive t e) h = tt
derives_from P f (kind.Derived t e) h = h
derives_from P f (kind.Operation es) h = tt
derives_from P f (kind.Both t es) h = tt

not_derived : (f : Function) (k : Kind) → NotDerived k → IsNotDerived (Some (record f { kind = k }))
not_derived f (kind.Primitive t e) h = tt
not_derived f (kind.Derived t e) h = absurd h
not_derived f (kind.Operation es) h = tt
not_derived f (kind.Both t es) h = tt

derives_nothing : (P : ℕ → Type 0) (k : Kind) → NotDerived k → Derives P k
derives_nothing P (kind.Primitive t e) h = tt
derives_nothing P (kind.Derived t e) h = absurd h
derives_nothing P (kind.Operation es) h = tt
derives_nothing P (kind.Both t es) h = tt

-- a function that isn't derived has any depth, and so has none at all
pub flat : (fs : List Function) (n g : ℕ) (f : Function) → slice_get fs g ≡ Some f → NotDerived f.kind → IsWithinDepth fs n g
flat fs zero g f e h = subst IsNotDerived (sym e) (not_derived f f.kind h)
flat fs (suc n) g f e h = subst (DerivesFrom (IsWithinDepth fs n)) (sym e) (derives_from (IsWithinDepth fs n) f f.kind (derives_nothing (IsWithinDepth fs n) f.kind h))

absent : (fs : List Function) (n g : ℕ) → slice_get fs g ≡ None → IsWithinDepth fs n g
absent fs zero g e = subst IsNotDerived (sym e) tt
absent fs (suc n) g e = subst (DerivesFrom (IsWithinDepth fs n)) (sym e) tt

deeper : (fs : List Function) (n g : ℕ) (f : Function) → slice_get fs g ≡ Some f → Derives (IsWithinDepth fs n) f.kind → IsWithinDepth fs (suc n) g
deeper fs n g f e h = subst (DerivesFrom (IsWithinDepth fs n)) (sym e) (derives_from (IsWithinDepth fs n) f f.kind h)

left_max : (a b n : ℕ) → max a b ≤ n → a ≤ n
left_max a b n h = omega (arith, h)

right_max : (a b n : ℕ) → max a b ≤ n → b ≤ n
right_max a b n h = omega (arith, h)

-- what reads functions of small depth alone
module _ (before : List ℕ) (n : ℕ) (P Q : ℕ → Type 0) (known : (j : ℕ) → P j → depth_at before j ≤ n → Q j) where
  mutual
    looks : (e : Tree) → LooksAt P Nothing e → greatest before e ≤ n → LooksAt Q Anything e
    looks (Const v) h k = tt
    looks (Var i) h k = tt
    looks (Not a) h k = looks a h k
    looks (Two o a b) h k = (looks a h.0 (left_max (greatest before a) (greatest before b) n k), looks b h.1 (right_max (greatest before a) (greatest before b) n k))
    looks (If c a b) h k =
        let r = right_max (greatest before c) (max (greatest before a) (greatest before b)) n k in (
          looks c h.0 (left_max (greatest before c) (max (greatest before a) (greatest before b)) n k),
          looks a h.1 (left_max (greatest before a) (greatest before b) n r),
          looks b h.2 (right_max (greatest before a) (greatest before b) n r),
        )
    looks (Param p ds) h k = look ds h k
    looks (Look j ds) h k = (known j h.0 (left_max (depth_at before j) (greatest_in before ds) n k), look ds h.1 (right_max (depth_at before j) (greatest_in before ds) n k))
    looks (Every i t b) h k = looks b h k
    looks (New j ds) h k = (tt, look ds h.1 k)

    look : (ds : Trees) → LookAt P Nothing ds → greatest_in before ds ≤ n → LookAt Q Anything ds
    look none h k = tt
    look (more d ds) h k = (looks d h.0 (left_max (greatest before d) (greatest_in before ds) n k), look ds h.1 (right_max (greatest before d) (greatest_in before ds) n k))

module _ (fs : List Function) where
  -- the first functions have these depths, up to the limit
  abbrev pub AreDepths : List ℕ → Type 0
  AreDepths before = (j n : ℕ) → j < length before → n ≤ 16 → depth_at before j ≤ n → IsWithinDepth fs n j

  pub no_depths : AreDepths []
  no_depths j n lt = absurd (omega (arith, lt))

  -- a derivation reads functions that are not derived, and earlier ones
  earlier_within : (before : List ℕ) → AreDepths before → (n : ℕ) → n ≤ 16 → (j : ℕ) → IsEarlier fs (length before) j → depth_at before j ≤ n → IsWithinDepth fs n j
  earlier_within before h n small j e d = by (slice_get fs j) refl
    where
      sorted : (f : Function) (k : Kind) → slice_get fs j ≡ Some (record f { kind = k }) → IsEarlierAs (length before) j k → IsWithinDepth fs n j
      sorted f (kind.Derived t x) at lt = h j n lt small d
      sorted f (kind.Primitive t x) at lt = flat fs n j (record f { kind = kind.Primitive t x }) at tt
      sorted f (kind.Operation es) at lt = flat fs n j (record f { kind = kind.Operation es }) at tt
      sorted f (kind.Both t es) at lt = flat fs n j (record f { kind = kind.Both t es }) at tt

      by : (o : Option Function) → slice_get fs j ≡ o → IsWithinDepth fs n j
      by None at = absent fs n j at
      by (Some f) at = sorted f f.kind at (e f at)

  -- the derived function after those whose depths are known
  pub derived_within : (before : List ℕ) → AreDepths before → (f : Function) (t : Ty) (x : Expr) → slice_get fs (length before) ≡ Some (record f { kind = kind.Derived t x }) →
      LooksAt (IsEarlier fs (length before)) Nothing (tree x) → (n : ℕ) → n ≤ 16 → derived_depth before (tree x) ≤ n → IsWithinDepth fs n (length before)
  derived_within before h f t x at reads zero small d = let no : ⊥ = omega (arith, d) in absurd no
  derived_within before h f t x at reads (suc n) small d =
      let low : n ≤ 16 = omega (arith, small) in
      deeper fs n (length before) (record f { kind = kind.Derived t x }) at
      (looks before n (IsEarlier fs (length before)) (IsWithinDepth fs n) (earlier_within before h n low) (tree x) reads (omega (arith, d, small)))

  last_at : (before : List ℕ) (d : ℕ) → slice_get (before ++ d ∷ []) (length before) ≡ Some d
  last_at [] d = refl
  last_at (b ∷ before) d = last_at before d

  front_at : (before : List ℕ) (d j : ℕ) → j < length before → slice_get (before ++ d ∷ []) j ≡ slice_get before j
  front_at [] d j lt = absurd (omega (arith, lt))
  front_at (b ∷ before) d zero lt = refl
  front_at (b ∷ before) d (suc j) lt = front_at before d j (omega (arith, lt))

  -- and its own depth with them
  pub next_depth : (before : List ℕ) → AreDepths before → (d : ℕ) → ((n : ℕ) → n ≤ 16 → d ≤ n → IsWithinDepth fs n (length before)) → AreDepths (before ++ d ∷ [])
  next_depth before h d own j n lt small k = ⊎_elim (λ l. old l) (λ l. new (omega (arith, l, lt, length-append before (d ∷ [])))) (cases_lt j (length before))
    where
      old : j < length before → IsWithinDepth fs n j
      old l =
          let same : depth_at (before ++ d ∷ []) j ≡ depth_at before j = ap or_none (front_at before d j l) in
          h j n l small (omega (arith, same, k))

      new : j ≡ length before → IsWithinDepth fs n j
      new is =
          let same : depth_at (before ++ d ∷ []) j ≡ d = ap (λ z. or_none (slice_get (before ++ d ∷ []) z)) is ∙ ap or_none (last_at before d) in
          subst (IsWithinDepth fs n) (sym is) (own n small (omega (arith, same, k)))
