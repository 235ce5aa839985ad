-- The loop over the assertions of a module.
use Rattle.std.proofs.Common.{◌≡◌, refl, sym, ◌∙◌, ap, ℕ, ◌+◌, ◌<◌, ◌≤◌, List, [], ◌∷◌, ◌++◌, length, take, get_or}
use Rattle.sp_tree.specs.declared.expr.ExprTree.{ExprTree}
use Rattle.sp_naming.specs.Numbers.{after, counted, numbered}
use Rattle.sp_naming.proofs.Gathering.{number_next}
use Rattle.sp_judge.specs.Visible.{Visible}
use Rattle.sp_specification.specs.Bodies.{assertions_broken}
use Rattle.sp_bodies.specs.Seen.{numbered_broken}

module _ (s : Visible) where
  as_numbered : (a : ℕ) (es : List ExprTree) → assertions_broken s a es ≡ numbered (numbered_broken s) a es
  as_numbered a [] = refl
  as_numbered a (e ∷ es) = ap (λ zs. numbered_broken s a e ++ zs) (as_numbered (after a) es)

  pub assertions_next : (a : ℕ) (es : List ExprTree) (i : ℕ) (e : ExprTree) (n : ℕ) → a ≤ 65535 → i < length es → e ≡ get_or es i e → n ≡ counted a i →
      assertions_broken s a (take i es) ++ numbered_broken s n e ≡ assertions_broken s a (take (i + 1) es)
  assertions_next a es i e n small lt is m =
      ap (λ zs. zs ++ numbered_broken s n e) (as_numbered a (take i es))
      ∙ number_next (numbered_broken s) a es i e n small lt is m
      ∙ sym (as_numbered a (take (i + 1) es))
