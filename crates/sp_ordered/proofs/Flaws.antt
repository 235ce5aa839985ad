-- An order has one flaw.
use Rattle.std.proofs.Common.{◌≡◌, ◌<◌, ℕ, arith, inl, inr, sym}
use Rattle.std.proofs.Math.Logic.{⊎_elim}
use Rattle.std.proofs.lemmas.Bool.{cases_order}
use Rattle.sp_text.specs.declared.fault.Rule.{Rule}
use Rattle.sp_text.specs.declared.fault.Rule.TheVariants as rule
use Rattle.sp_lattice.specs.Bounds.{EachHasLub, IsPartialOrder}
use Rattle.sp_lattice.specs.Refusal.{HasNoGlb, HasNoLub, IsCycle, IsEarlier, IsFirstPair}
use Rattle.sp_order.specs.Orders.{IsFlaw}

-- of two first pairs neither is earlier
not_earlier : (n : ℕ) (P : ℕ → ℕ → Type 0) (x y a b : ℕ) → IsFirstPair n P x y → IsFirstPair n P a b → IsEarlier a b x y → ⊥
not_earlier n P x y a b f g e = f.first a b g.ordered g.level e g.there

-- a property has one first pair
one_pair : (n : ℕ) (P : ℕ → ℕ → Type 0) (x y a b : ℕ) → IsFirstPair n P x y → IsFirstPair n P a b → (x ≡ a) × (y ≡ b)
one_pair n P x y a b f g = ⊎_elim same (λ apart. absurd (⊎_elim (λ less. not_earlier n P a b x y g f (inl less)) (λ more. not_earlier n P x y a b f g (inl more)) apart)) (cases_order x a)
  where
    same : x ≡ a → (x ≡ a) × (y ≡ b)
    same e =
        ⊎_elim (λ i. (e, i))
        (λ apart. absurd (⊎_elim (λ less. not_earlier n P a b x y g f (inr (e, less))) (λ more. not_earlier n P x y a b f g (inr (sym e, more))) apart))
        (cases_order y b)

-- in a partial order no two levels are below each other
no_cycle : (n : ℕ) (R : ℕ → ℕ → Type 0) (x y : ℕ) → IsPartialOrder n R → IsFirstPair n (IsCycle R) x y → ⊥
no_cycle n R x y p f =
    let low : x < n = omega (arith, f.ordered, f.level) in
    let same = p.antisymmetric x y low f.level f.there.0 f.there.1 in
    let none : ⊥ = omega (arith, f.ordered, same) in none

-- where all have least upper bounds, no two lack one
no_lack : (n : ℕ) (R : ℕ → ℕ → Type 0) (x y : ℕ) → EachHasLub n R → IsFirstPair n (HasNoLub n R) x y → ⊥
no_lack n R x y each f =
    let low : x < n = omega (arith, f.ordered, f.level) in
    let u = each x y low f.level in f.there u.0 u.1

pub one_flaw : (n : ℕ) (R : ℕ → ℕ → Type 0) (r q : Rule) → IsFlaw n R r → IsFlaw n R q → r ≡ q
one_flaw n R (rule.Cycle x y) q f g = by q g
  where
    by : (q : Rule) → IsFlaw n R q → rule.Cycle x y ≡ q
    by (rule.Cycle a b) g = let s = one_pair n (IsCycle R) x y a b f g in (λ i. rule.Cycle (s.0 i) (s.1 i))
    by (rule.NoLub a b) g = absurd (no_cycle n R x y g.0 f)
    by (rule.NoGlb a b) g = absurd (no_cycle n R x y g.0 f)
    by q g = absurd g
one_flaw n R (rule.NoLub x y) q f g = by q g
  where
    by : (q : Rule) → IsFlaw n R q → rule.NoLub x y ≡ q
    by (rule.Cycle a b) g = absurd (no_cycle n R a b f.0 g)
    by (rule.NoLub a b) g = let s = one_pair n (HasNoLub n R) x y a b f.1 g.1 in (λ i. rule.NoLub (s.0 i) (s.1 i))
    by (rule.NoGlb a b) g = absurd (no_lack n R x y g.1 f.1)
    by q g = absurd g
one_flaw n R (rule.NoGlb x y) q f g = by q g
  where
    by : (q : Rule) → IsFlaw n R q → rule.NoGlb x y ≡ q
    by (rule.Cycle a b) g = absurd (no_cycle n R a b f.0 g)
    by (rule.NoLub a b) g = absurd (no_lack n R a b f.1 g.1)
    by (rule.NoGlb a b) g = let s = one_pair n (HasNoGlb n R) x y a b f.2 g.2 in (λ i. rule.NoGlb (s.0 i) (s.1 i))
    by q g = absurd g
one_flaw n R r q f g = absurd f
