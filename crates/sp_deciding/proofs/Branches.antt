-- A question has one first open branch at most.
use Rattle.std.proofs.Common.{◌≡◌, ◌∙◌, ℕ, zero, suc, ◌<◌, Bool, true, false, List, [], ◌∷◌, ap, arith, inl, inr, length, refl, slice_index_or, sym}
use Rattle.sp_rules.specs.Questions.{Question}
use Rattle.sp_prover.specs.Deciding.{values_of}
use Rattle.sp_prover.specs.Order.{Agree, IsNotAfter}
use Rattle.sp_deciding.specs.Decided.{IsFirstBranch}

same_lists : (xs ys : List Bool) → length xs ≡ length ys → ((k : ℕ) → k < length xs → slice_index_or xs k false ≡ slice_index_or ys k false) → xs ≡ ys
same_lists [] [] l h = refl
same_lists [] (y ∷ ys) l h = absurd (omega (arith, l))
same_lists (x ∷ xs) [] l h = absurd (omega (arith, l))
same_lists (x ∷ xs) (y ∷ ys) l h =
    let head : x ≡ y = h zero (omega arith) in
    ap (λ z. z ∷ xs) head ∙ ap (λ zs. y ∷ zs) (same_lists xs ys (omega (arith, l)) (λ k below. h (suc k) (omega (arith, below))))

differ : (a b : Bool) → a ≡ true → b ≡ false → a ≡ b → ⊥
differ a b p q e = let d : true ≡ false = sym p ∙ e ∙ q in absurd cc

-- neither of two is before the other, so they agree
agreed : (n : ℕ) (v w : ℕ → Bool) → IsNotAfter n v w → IsNotAfter n w v → Agree n v w
agreed n v w (inl a) b = a
agreed n v w (inr s) (inl b) = λ j l. sym (b j l)
agreed n v w (inr (k, l, a, p, q)) (inr (j, m, b, r, s)) =
    let above : k < j → ⊥ = λ h. differ (v k) (w k) p q (sym (b k h)) in
    let below : j < k → ⊥ = λ h. differ (w j) (v j) r s (sym (a j h)) in
    let same : k ≡ j = omega (arith, above, below) in
    absurd (differ (v k) (v j) p s (ap v same))

pub one_branch : (q : Question) (vs ws : List Bool) → IsFirstBranch q vs → IsFirstBranch q ws → vs ≡ ws
one_branch q vs ws (b, f, e) (c, g, d) =
    let alike = agreed (length q.atoms) (values_of b) (values_of c) (f.least (values_of c) g.is_open) (g.least (values_of b) f.is_open) in
    let counts : length b.values.items ≡ length c.values.items = f.as_many ∙ sym g.as_many in
    sym e ∙ same_lists b.values.items c.values.items counts (λ k below. alike k (omega (arith, below, f.as_many))) ∙ d
