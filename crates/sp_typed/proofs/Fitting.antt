-- Lists of broken rules without a rule, and what fits the type that is asked.
use Rattle.std.proofs.Common.{◌≡◌, refl, sym, ◌∙◌, ap, subst, rules, arith, ℕ, zero, suc, ◌+◌, Bool, true, false, List, [], ◌∷◌, ◌++◌, Option, Some, None, length}
use Rattle.std.specs.Prelude.{slice_get, IsTrue, nat_lt, if◌then◌else◌}
use Rattle.std.specs.Str.{bytes_eq}
use Rattle.sp_text.specs.declared.fault.Span.{Span}
use Rattle.sp_values.specs.declared.value.Ty.{Ty}
use Rattle.sp_values.specs.declared.value.Ty.TheVariants as ty
use Rattle.sp_values.specs.declared.value.Value.TheVariants as value
use Rattle.sp_core.specs.Tree.{Tree, Trees}
use Rattle.sp_core.specs.Tree as core
use Rattle.sp_core.specs.Typing.{Signature, HasType, is_type, is_constant}
use Rattle.sp_text.specs.declared.violation.Violation.{Violation}
use Rattle.sp_naming.specs.declared.declaration.Entity.{Entity}
use Rattle.sp_naming.specs.declared.declaration.Entity.TheVariants as entity
use Rattle.sp_judge.specs.Visible.{Visible, see}
use Rattle.sp_scopes.specs.declared.heads.Local.{Local}
use Rattle.sp_judge.specs.declared.scope.Meaning.{Meaning}
use Rattle.sp_judge.specs.declared.scope.Meaning.TheVariants as meaning_
use Rattle.sp_judge.specs.Names.{meaning, meaning_from, shared_of}
use Rattle.sp_text.specs.Firsts.{behind}
use Rattle.sp_judge.specs.Translation.{name_type, name_core, either_type}
use Rattle.sp_judge.specs.Broken.{same_type, has_unknown, asks, asks_unknown, takes, one_type, no_type, name_rules}
use Rattle.sp_typed.specs.Fits.{types, AreTypes, IsAsked, IsMeant, IsScopeOf, Fits}

pub behind_inner : (xs own : List Violation) → behind xs own ≡ [] → xs ≡ []
behind_inner [] own h = refl
behind_inner (f ∷ fs) own h = h

pub behind_own : (xs own : List Violation) → behind xs own ≡ [] → own ≡ []
behind_own [] own h = h
behind_own (f ∷ fs) own h = cc

pub append_left : (xs ys : List Violation) → xs ++ ys ≡ [] → xs ≡ []
append_left [] ys h = refl
append_left (f ∷ fs) ys h = cc

pub append_right : (xs ys : List Violation) → xs ++ ys ≡ [] → ys ≡ []
append_right [] ys h = h
append_right (f ∷ fs) ys h = cc

pub same_type-is : (t u : Ty) → same_type t u ≡ true → t ≡ u
same_type-is t u h = grind (arith, rules)

pub asks-is : (q : Ty) (p : Span) (t : Ty) → asks (Some q) p t ≡ [] → t ≡ q
asks-is q p t h = grind (arith, rules, same_type-is)

pub asks_unknown-is : (q : Ty) (p : Span) → asks_unknown (Some q) p ≡ [] → has_unknown q ≡ true
asks_unknown-is q p h = grind (arith, rules)

-- `?` is a constant of each type with it
pub unknown_fits : (sg : Signature) (t : Ty) → IsTrue (is_type sg t) → has_unknown t ≡ true → IsTrue (is_constant sg t value.Unknown)
unknown_fits sg ty.Boolean h k = cc
unknown_fits sg ty.Integer h k = refl
unknown_fits sg ty.Level h k = cc
unknown_fits sg (ty.Member n) h k = h

module _ (sg : Signature) (xs : List Ty) where
  pub fits_fixed : (q : Option Ty) (p : Span) (t : Ty) (e : Tree) → asks q p t ≡ [] → HasType sg xs e t → Fits sg xs q (Some t) e
  fits_fixed None p t e h d = d
  fits_fixed (Some q) p t e h d = subst (HasType sg xs e) (asks-is q p t h) d

  pub fits_unknown : (q : Option Ty) (p : Span) → IsAsked sg q → asks_unknown q p ≡ [] → Fits sg xs q None (core.Const value.Unknown)
  fits_unknown None p a h = λ t i u. unknown_fits sg t i u
  fits_unknown (Some q) p a h = unknown_fits sg q a (asks_unknown-is q p h)

  pub fits_name : (q : Option Ty) (p : Span) (m : Meaning) → IsMeant sg xs m → name_rules q p m ≡ [] → Fits sg xs q (name_type m) (name_core m)
  fits_name q p meaning_.Nothing i h = cc
  fits_name q p (meaning_.Variable k t) i h = fits_fixed q p t (core.Var k) h i.0
  fits_name q p (meaning_.Shared (entity.Declared t)) i h = cc
  fits_name q p (meaning_.Shared (entity.Member t m)) i h = fits_fixed q p (ty.Member t) (core.Const (value.Member t m)) h (grind (arith, rules, i))
  fits_name q p (meaning_.Shared (entity.Param t)) i h = cc
  fits_name q p (meaning_.Shared (entity.Definition t)) i h = cc
  fits_name q p (meaning_.Shared (entity.Function t)) i h = cc
  fits_name q p (meaning_.Shared (entity.Level t)) i h = fits_fixed q p ty.Level (core.Const (value.Level t)) h i

  pub sides_same : (a b p : Span) (t u : Ty) → one_type a b p (Some t) (Some u) ≡ [] → u ≡ t
  sides_same a b p t u h = grind (arith, rules, same_type-is)

  takes-is : (p : Span) (t : Ty) → takes p t ≡ [] → has_unknown t ≡ true
  takes-is p t h = grind (arith, rules)

  -- two sides of one type; where neither has one, they take each type with `?`
  pub fits_branches : (a b p : Span) (t u : Option Ty) (d e : Tree) → IsAsked sg t → IsAsked sg u → one_type a b p t u ≡ [] → Fits sg xs None t d → Fits sg xs None u e → Fits sg xs None (either_type t u) d × Fits sg xs None (either_type t u) e
  fits_branches a b p None None d e i j h x y = (x, y)
  fits_branches a b p None (Some u) d e i j h x y = (x u j (takes-is a u h), y)
  fits_branches a b p (Some t) None d e i j h x y = (x, y t i (takes-is b t h))
  fits_branches a b p (Some t) (Some u) d e i j h x y = (x, subst (HasType sg xs e) (sides_same a b p t u h) y)

  pub fits_sides : (a b p q : Span) (t u : Option Ty) (d e : Tree) → IsAsked sg t → IsAsked sg u → one_type a b p t u ++ no_type q t u ≡ [] → Fits sg xs None t d → Fits sg xs None u e → (w : Ty) × (either_type t u ≡ Some w) × HasType sg xs d w × HasType sg xs e w
  fits_sides a b p q None None d e i j h x y = cc
  fits_sides a b p q None (Some u) d e i j h x y = let z = fits_branches a b p None (Some u) d e i j (append_left (one_type a b p None (Some u)) [] h) x y in (u, refl, z.0, z.1)
  fits_sides a b p q (Some t) None d e i j h x y = let z = fits_branches a b p (Some t) None d e i j (append_left (one_type a b p (Some t) None) [] h) x y in (t, refl, z.0, z.1)
  fits_sides a b p q (Some t) (Some u) d e i j h x y = let z = fits_branches a b p (Some t) (Some u) d e i j (append_left (one_type a b p (Some t) (Some u)) [] h) x y in (t, refl, z.0, z.1)

-- what is shared is meant below all variables
shared_meant : (sg : Signature) (xs : List Ty) (e : Entity) → IsMeant sg [] (meaning_.Shared e) → IsMeant sg xs (meaning_.Shared e)
shared_meant sg xs (entity.Declared t) h = h
shared_meant sg xs (entity.Member t k) h = h
shared_meant sg xs (entity.Param t) h = h
shared_meant sg xs (entity.Definition t) h = h
shared_meant sg xs (entity.Function t) h = h
shared_meant sg xs (entity.Level t) h = h

-- a shared name is none of the variables
abbrev IsShared : Meaning → Type 0
IsShared (meaning_.Variable k t) = ⊥
IsShared m = Unit {0}

either_meant : (P : Meaning → Type 0) (b : Bool) (x y : Meaning) → P x → P y → P (if b then x else y)
either_meant P true x y h k = h
either_meant P false x y h k = k

shared_of_shared : (o : Option Entity) → IsShared (shared_of o)
shared_of_shared None = tt
shared_of_shared (Some e) = tt

below : (sg : Signature) (xs : List Ty) (m : Meaning) → IsShared m → IsMeant sg [] m → IsMeant sg xs m
below sg xs meaning_.Nothing h k = tt
below sg xs (meaning_.Variable n t) h k = absurd h
below sg xs (meaning_.Shared e) h k = shared_meant sg xs e k

-- the variables from number n on
from_meant : (sg : Signature) (s : Visible) → IsScopeOf sg s → (xs : List Ty) (n : ℕ) (ls : List Local) → ((k : ℕ) (t : Ty) → slice_get (types ls) k ≡ Some t → slice_get xs (n + k) ≡ Some t) → AreTypes sg ls → (x : List ℕ) → IsMeant sg xs (meaning_from s n ls x)
from_meant sg s w xs n [] h a x = below sg xs (shared_of (see s x)) (shared_of_shared (see s x)) (w.shared x)
from_meant sg s w xs n (l ∷ ls) h a x =
    either_meant (IsMeant sg xs) (bytes_eq l.name x) (meaning_.Variable n l.ty) (meaning_from s (suc n) ls x)
    (let z : n + 0 ≡ n = omega arith in subst (λ z. slice_get xs z ≡ Some l.ty) z (h 0 l.ty refl), a.0)
    (from_meant sg s w xs (suc n) ls (λ k t i. let z : n + suc k ≡ suc n + k = omega arith in subst (λ z. slice_get xs z ≡ Some t) z (h (suc k) t i)) a.1 x)

pub meaning_meant : (sg : Signature) (s : Visible) → IsScopeOf sg s → (ls : List Local) → AreTypes sg ls → (x : List ℕ) → IsMeant sg (types ls) (meaning s ls x)
meaning_meant sg s w ls a x = from_meant sg s w (types ls) 0 ls (λ k t i. let z : k ≡ 0 + k = omega arith in subst (λ z. slice_get (types ls) z ≡ Some t) z i) a x
