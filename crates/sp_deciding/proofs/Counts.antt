-- A set of facts leaves one number of atoms undetermined: of two lists of their indices, neither is longer.
use Rattle.std.proofs.Common.{◌≡◌, ◌∙◌, ℕ, zero, suc, ◌<◌, ◌≤◌, Bool, List, ap, arith, inl, inr, length, sym}
use Rattle.std.specs.Prelude.{slice_index}
use Rattle.sp_rules.specs.Questions.{Question}
use Rattle.sp_rules.specs.Terms.{Terms}
use Rattle.sp_rules.specs.declared.fact.Fact.{Fact}
use Rattle.sp_prover.specs.Deciding.{AreUndetermined, LeavesUndetermined}

module _ (ts : Terms) (h : Fact → Bool) (atoms ps qs : List ℕ) (p : AreUndetermined ts h atoms ps) (q : AreUndetermined ts h atoms qs) where
  -- each of the one stands in the other
  found : (i : ℕ) → i < length ps → (j : ℕ) × (j < length qs) × (slice_index qs j ≡ slice_index ps i)
  found i l = elim (q.all (slice_index ps i) (p.within i l)) [
    | inl d ↦ absurd (p.free i l d)
    | inr f ↦ f
  ]

  -- and not before its place
  behind : (i : ℕ) (l : i < length ps) → i ≤ (found i l).0
  behind zero l = omega arith
  behind (suc i) l =
      let k : i < length ps = omega (arith, l) in
      let a = found i k in
      let b = found (suc i) l in
      let less : slice_index ps i < slice_index ps (suc i) = p.rising i (suc i) (omega arith) l in
      let apart : a.0 ≡ b.0 → ⊥ = λ e. let same = sym a.2 ∙ ap (slice_index qs) e ∙ b.2 in omega (arith, same, less) in
      let later : b.0 < a.0 → ⊥ = λ e. let back = q.rising b.0 a.0 e a.1 in let x = a.2 in let y = b.2 in omega (arith, back, x, y, less) in
      let before : i ≤ a.0 = behind i k in
      omega (arith, apart, later, before)

  no_longer : (n : ℕ) → length ps ≡ n → n ≤ length qs
  no_longer zero e = omega arith
  no_longer (suc m) e =
      let l : m < length ps = omega (arith, e) in
      let within = (found m l).1 in
      let past = behind m l in
      omega (arith, within, past)

pub one_count : (q : Question) (n m : ℕ) → LeavesUndetermined q n → LeavesUndetermined q m → n ≡ m
one_count q n m u v =
    let up = no_longer _ _ _ u.0 v.0 u.1 v.1 n u.2 in
    let down = no_longer _ _ _ v.0 u.0 v.1 u.1 m v.2 in
    let x = u.2 in
    let y = v.2 in
    omega (arith, up, down, x, y)
