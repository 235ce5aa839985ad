-- Values of formals and of bound variables are typed.
use Rattle.std.proofs.Common.{◌≡◌, refl, sym, ap, subst, arith, ℕ, zero, suc, ◌+◌, ◌<◌, ◌≤◌, true, false, ◌&&◌, ◌==◌, List, [], ◌∷◌, ◌++◌, length, map, nat_lt, inl, inr}
use Rattle.std.specs.List.{Contains, range_with_len}
use Rattle.std.proofs.lemmas.Bool.Decides.{Decides-eqb, Decides-ltb}
use Rattle.sp_values.specs.declared.value.Value.{Value}
use Rattle.sp_values.specs.declared.value.Value.TheVariants as value
use Rattle.sp_values.specs.declared.value.Ty.{Ty}
use Rattle.sp_values.specs.declared.value.Ty.TheVariants as ty
use Rattle.sp_values.specs.Domains.{Sizes, are_proper, are_values, has_unknown, is_proper, is_value, proper_values}
use Rattle.sp_values.specs.Identity.{same_value}
use Rattle.sp_core.specs.Machine.{AreBindings}
use Rattle.sp_core.specs.Typing.{Signature, is_finite}
use Rattle.sp_core.specs.Values.{World}
use Rattle.sp_core.proofs.Types.{and_true, both_true, or_false, or_left, level_typed, member_typed}
use Rattle.sp_core.proofs.Elements.{Contains-cons, Contains-first, Contains-later, Contains-map, Contains-nil}

level_values : (sz : Sizes) (from n : ℕ) (c : Value) → from + n ≤ sz.levels → Contains (map value.Level (range_with_len from n)) c → is_value sz ty.Level c ≡ true
level_values sz from zero c l h = absurd (Contains-nil c h)
level_values sz from (suc n) c l h = elim (Contains-cons (value.Level from) (map value.Level (range_with_len (from + 1) n)) c h) [
  | inl e ↦ subst (λ v. is_value sz ty.Level v ≡ true) e (level_typed sz from (omega (arith, l)))
  | inr k ↦ level_values sz (from + 1) n c (omega (arith, l)) k
]

member_values : (sz : Sizes) (j from n : ℕ) (c : Value) → from + n ≤ sz.members j → Contains (map (value.Member j) (range_with_len from n)) c → is_value sz (ty.Member j) c ≡ true
member_values sz j from zero c l h = absurd (Contains-nil c h)
member_values sz j from (suc n) c l h = elim (Contains-cons (value.Member j from) (map (value.Member j) (range_with_len (from + 1) n)) c h) [
  | inl e ↦ subst (λ v. is_value sz (ty.Member j) v ≡ true) e (member_typed sz j from (omega (arith, l)))
  | inr k ↦ member_values sz j (from + 1) n c (omega (arith, l)) k
]

pub proper_typed : (sz : Sizes) (t : Ty) (c : Value) → Contains (proper_values sz t) c → is_value sz t c ≡ true
proper_typed sz ty.Boolean c h = elim (Contains-cons (value.Truth false) (value.Truth true ∷ []) c h) [
  | inl e ↦ subst (λ v. is_value sz ty.Boolean v ≡ true) e refl
  | inr k ↦ elim (Contains-cons (value.Truth true) [] c k) [
    | inl e ↦ subst (λ v. is_value sz ty.Boolean v ≡ true) e refl
    | inr n ↦ absurd (Contains-nil c n)
  ]
]
proper_typed sz ty.Integer c h = absurd (Contains-nil c h)
proper_typed sz ty.Level c h = level_values sz 0 sz.levels c (omega arith) h
proper_typed sz (ty.Member k) c h = member_values sz k 0 (sz.members k) c (omega arith) h

pub bindings_typed : (w : World) (ts : List Ty) (cs : List Value) → AreBindings w ts cs → are_values w.sizes ts cs ≡ true
bindings_typed w [] [] h = refl
bindings_typed w [] (c ∷ cs) h = absurd h
bindings_typed w (t ∷ ts) [] h = absurd h
bindings_typed w (t ∷ ts) (c ∷ cs) h = both_true (is_value w.sizes t c) (are_values w.sizes ts cs) (proper_typed w.sizes t c h.0) (bindings_typed w ts cs h.1)

pub arguments_typed : (sz : Sizes) (ts : List Ty) (vs : List Value) → are_proper sz ts vs ≡ true → are_values sz ts vs ≡ true
arguments_typed sz [] [] h = refl
arguments_typed sz [] (v ∷ vs) h = cc
arguments_typed sz (t ∷ ts) [] h = cc
arguments_typed sz (t ∷ ts) (v ∷ vs) h =
    let p = and_true (is_proper sz t v) (are_proper sz ts vs) h in
    both_true (is_value sz t v) (are_values sz ts vs) (or_left (is_proper sz t v) _ p.0) (arguments_typed sz ts vs p.1)

pub are_values-append : (sz : Sizes) (ts us : List Ty) (vs cs : List Value) → are_values sz ts vs ≡ true → are_values sz us cs ≡ true → are_values sz (ts ++ us) (vs ++ cs) ≡ true
are_values-append sz [] us [] cs h k = k
are_values-append sz [] us (v ∷ vs) cs h k = cc
are_values-append sz (t ∷ ts) us [] cs h k = cc
are_values-append sz (t ∷ ts) us (v ∷ vs) cs h k =
    let p = and_true (is_value sz t v) (are_values sz ts vs) h in
    both_true (is_value sz t v) (are_values sz (ts ++ us) (vs ++ cs)) p.0 (are_values-append sz ts us vs cs p.1 k)

-- as many values as types
pub length_values : (sz : Sizes) (ts : List Ty) (vs : List Value) → are_values sz ts vs ≡ true → length vs ≡ length ts
length_values sz [] [] h = refl
length_values sz [] (v ∷ vs) h = cc
length_values sz (t ∷ ts) [] h = cc
length_values sz (t ∷ ts) (v ∷ vs) h = ap suc (length_values sz ts vs (and_true (is_value sz t v) (are_values sz ts vs) h).1)

range_in : (from n l : ℕ) → l < n → Contains (range_with_len from n) (from + l)
range_in from zero l h = absurd (omega (arith, h))
range_in from (suc n) zero h = let z : from ≡ from + 0 = omega arith in subst (Contains (range_with_len from (suc n))) z (Contains-first from (range_with_len (from + 1) n))
range_in from (suc n) (suc l) h =
    let z : from + 1 + l ≡ from + suc l = omega arith in
    subst (Contains (range_with_len from (suc n))) z (Contains-later from (range_with_len (from + 1) n) (from + 1 + l) (range_in (from + 1) n l (omega (arith, h))))

below_in : (f : ℕ → Value) (n l : ℕ) → l < n → Contains (map f (range_with_len 0 n)) (f l)
below_in f n l h = let z : 0 + l ≡ l = omega arith in Contains-map f (range_with_len 0 n) l (subst (Contains (range_with_len 0 n)) z (range_in 0 n l h))

-- a value of a type that a quantifier ranges over is a proper one, unless it is `?`
pub proper_of : (sg : Signature) (sz : Sizes) (t : Ty) (v : Value) → is_finite sg t ≡ true → is_value sz t v ≡ true → (has_unknown t ≡ true → same_value v value.Unknown ≡ false) → Contains (proper_values sz t) v
proper_of sg sz ty.Boolean (value.Truth false) f e k = Contains-first (value.Truth false) (value.Truth true ∷ [])
proper_of sg sz ty.Boolean (value.Truth true) f e k = Contains-later (value.Truth false) (value.Truth true ∷ []) (value.Truth true) (Contains-first (value.Truth true) [])
proper_of sg sz ty.Boolean (value.Int z) f e k = cc
proper_of sg sz ty.Boolean (value.Level l) f e k = cc
proper_of sg sz ty.Boolean (value.Member j m) f e k = cc
proper_of sg sz ty.Boolean value.Unknown f e k = cc
proper_of sg sz ty.Integer v f e k = cc
proper_of sg sz ty.Level (value.Truth b) f e k = cc
proper_of sg sz ty.Level (value.Int z) f e k = cc
proper_of sg sz ty.Level (value.Level l) f e k = below_in value.Level sz.levels l ((Decides-ltb l sz.levels).0 (or_false (nat_lt l sz.levels) e))
proper_of sg sz ty.Level (value.Member j m) f e k = cc
proper_of sg sz ty.Level value.Unknown f e k = cc
proper_of sg sz (ty.Member j) (value.Truth b) f e k = cc
proper_of sg sz (ty.Member j) (value.Int z) f e k = cc
proper_of sg sz (ty.Member j) (value.Level l) f e k = cc
proper_of sg sz (ty.Member j) (value.Member i m) f e k =
    let both = and_true (i == j) (nat_lt m (sz.members j)) (or_false ((i == j) && nat_lt m (sz.members j)) e) in
    let same : i ≡ j = (Decides-eqb i j).0 both.0 in
    subst (λ i. Contains (proper_values sz (ty.Member j)) (value.Member i m)) (sym same) (below_in (value.Member j) (sz.members j) m ((Decides-ltb m (sz.members j)).0 both.1))
proper_of sg sz (ty.Member j) value.Unknown f e k = let no : true ≡ false = k refl in cc
