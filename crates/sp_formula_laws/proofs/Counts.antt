-- How many quantifiers stand in one another in expressions that are renumbered, or that arguments are put in.
use Rattle.std.proofs.Common.{◌≡◌, refl, ap, arith, ℕ, zero, suc, ◌+◌, ◌-◌, ◌≤◌}
use Rattle.std.specs.Prelude.{max}
use Rattle.sp_core.specs.Measures.{quantifiers, quantifiers_in}
use Rattle.sp_core.specs.Tree.{Tree, Trees, Const, Var, Not, Two, If, Param, Look, Every, New, none, more}
use Rattle.sp_formulas.specs.Moves.{all_renumbered, nth_tree, put, put_all, raise, raised, renumbered, settle, settle_all}

module _ (v q : ℕ → ℕ) where
  mutual
    pub renumbered_count : (e : Tree) → quantifiers (renumbered v q e) ≡ quantifiers e
    renumbered_count (Const c) = refl
    renumbered_count (Var k) = refl
    renumbered_count (Not a) = renumbered_count a
    renumbered_count (Two o a b) = λ i. max (renumbered_count a i) (renumbered_count b i)
    renumbered_count (If c a b) = λ i. max (renumbered_count c i) (max (renumbered_count a i) (renumbered_count b i))
    renumbered_count (Param p ds) = all_renumbered_count ds
    renumbered_count (Look g ds) = all_renumbered_count ds
    renumbered_count (Every k t b) = ap suc (renumbered_count b)
    renumbered_count (New g ds) = all_renumbered_count ds

    pub all_renumbered_count : (ds : Trees) → quantifiers_in (all_renumbered v q ds) ≡ quantifiers_in ds
    all_renumbered_count none = refl
    all_renumbered_count (more d ds) = λ i. max (renumbered_count d i) (all_renumbered_count ds i)

pub raise_count : (m d : ℕ) (e : Tree) → quantifiers (raise m d e) ≡ quantifiers e
raise_count m d e = renumbered_count (raised m d) (λ k. k + d) e

module _ (n : ℕ) where
  mutual
    pub settle_count : (e : Tree) → quantifiers (settle n e) ≡ quantifiers e
    settle_count (Const c) = refl
    settle_count (Var k) = refl
    settle_count (Not a) = settle_count a
    settle_count (Two o a b) = λ i. max (settle_count a i) (settle_count b i)
    settle_count (If c a b) = λ i. max (settle_count c i) (max (settle_count a i) (settle_count b i))
    settle_count (Param p ds) = settle_all_count ds
    settle_count (Look g ds) = settle_all_count ds
    settle_count (Every k t b) = ap suc (raise_count k (n - k) b)
    settle_count (New g ds) = settle_all_count ds

    settle_all_count : (ds : Trees) → quantifiers_in (settle_all n ds) ≡ quantifiers_in ds
    settle_all_count none = refl
    settle_all_count (more d ds) = λ i. max (settle_count d i) (settle_all_count ds i)

-- a term without quantifiers has no more than its arguments
module _ (b : ℕ) (as' : Trees) (few : quantifiers_in as' ≤ b) where
  nth_count : (ds : Trees) (k : ℕ) → quantifiers_in ds ≤ b → quantifiers (nth_tree ds k) ≤ b
  nth_count none k l = omega arith
  nth_count (more d ds) zero l = omega (arith, l)
  nth_count (more d ds) (suc k) l = nth_count ds k (omega (arith, l))

  mutual
    pub put_count : (e : Tree) → quantifiers e ≡ 0 → quantifiers (put as' e) ≤ b
    put_count (Const v) z = omega arith
    put_count (Var k) z = nth_count as' k few
    put_count (Not a) z = put_count a z
    put_count (Two o a c) z = omega (arith, put_count a (omega (arith, z)), put_count c (omega (arith, z)))
    put_count (If c a d) z = omega (arith, put_count c (omega (arith, z)), put_count a (omega (arith, z)), put_count d (omega (arith, z)))
    put_count (Param p ds) z = put_all_count ds z
    put_count (Look g ds) z = put_all_count ds z
    put_count (Every k t a) z = absurd (omega (arith, z))
    put_count (New g ds) z = put_all_count ds z

    put_all_count : (ds : Trees) → quantifiers_in ds ≡ 0 → quantifiers_in (put_all as' ds) ≤ b
    put_all_count none z = omega arith
    put_all_count (more d ds) z = omega (arith, put_count d (omega (arith, z)), put_all_count ds (omega (arith, z)))
