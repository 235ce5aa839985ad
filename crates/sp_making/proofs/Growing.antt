-- Assertions and functions added to a list.
use Rattle.std.proofs.Common.{◌≡◌, refl, sym, ◌∙◌, ap, subst, arith, ℕ, suc, ◌+◌, ◌-◌, ◌≤◌, List, [], ◌∷◌, ◌++◌, length, take, drop, get_or, append_assoc}
use Rattle.std.proofs.lemmas.List.{append-nil, length-append}
use Rattle.std.proofs.Math.Seq.{take-length}
use Rattle.sp_tree.specs.declared.expr.ExprTree.{ExprTree}
use Rattle.sp_tree.specs.declared.interface.Equation.{Equation}
use Rattle.sp_tree.specs.declared.module.FunDecl.{FunDecl}
use Rattle.sp_core.specs.declared.function.Assertion.{Assertion}
use Rattle.sp_core.specs.declared.function.Function.{Function}
use Rattle.sp_plain.specs.Text.{text}
use Rattle.sp_judge.specs.Visible.{Visible, function_at}
use Rattle.sp_functions.specs.Assertions.{IsAssertionOf}
use Rattle.sp_specification.specs.Ends.{equation_of}
use Rattle.sp_specification.specs.Meaning.{AreAssertions, AreFunctions, IsLevelled}
use Rattle.sp_making.specs.Grown.{AddsAssertions, AddsFunctions}
use Rattle.sp_making.specs.Seen.{at_module}

assertions_join : (see : ℕ → Visible) (xs ys : List (ℕ × ExprTree)) (fs gs : List Assertion) → AreAssertions see xs fs → AreAssertions see ys gs → AreAssertions see (xs ++ ys) (fs ++ gs)
assertions_join see [] ys [] gs h i = i
assertions_join see [] ys (f ∷ fs) gs h i = absurd h
assertions_join see (x ∷ xs) ys [] gs h i = absurd h
assertions_join see (x ∷ xs) ys (f ∷ fs) gs h i = (h.0, assertions_join see xs ys fs gs h.1 i)

module _ (t : Visible) where
  pub adds_no_assertions : (old : List Assertion) → AddsAssertions t [] old old
  adds_no_assertions old = ([], sym (append-nil old), tt)

  pub adds_assertion : (k : ℕ) (e : ExprTree) (old : List Assertion) (a : Assertion) → IsAssertionOf (at_module t k) (text e) a → AddsAssertions t ((k, e) ∷ []) old (old ++ a ∷ [])
  adds_assertion k e old a h = (a ∷ [], refl, (h, tt))

  pub adds_assertions : (xs ys : List (ℕ × ExprTree)) (old middle new : List Assertion) → AddsAssertions t xs old middle → AddsAssertions t ys middle new → AddsAssertions t (xs ++ ys) old new
  adds_assertions xs ys old middle new h i =
      (h.0 ++ i.0, i.1 ∙ ap (λ z. z ++ i.0) h.1 ∙ append_assoc old h.0 i.0, assertions_join (at_module t) xs ys h.0 i.0 h.2 i.2)

  pub adds_next_assertion : (x : ℕ × ExprTree) (ys : List (ℕ × ExprTree)) (old middle new : List Assertion) → AddsAssertions t (x ∷ []) old middle → AddsAssertions t ys middle new → AddsAssertions t (x ∷ ys) old new
  adds_next_assertion x ys old middle new h i = adds_assertions (x ∷ []) ys old middle new h i

  pub all_assertions : (xs : List (ℕ × ExprTree)) (new : List Assertion) → AddsAssertions t xs [] new → AreAssertions (at_module t) xs new
  all_assertions xs new h = subst (AreAssertions (at_module t) xs) (sym h.1) h.2

module _ (t : Visible) (qs : List Equation) where
  functions_join : (g : ℕ) (xs ys : List (ℕ × FunDecl)) (fs gs : List Function) → AreFunctions (at_module t) t qs g xs fs →
      AreFunctions (at_module t) t qs (g + length fs) ys gs → AreFunctions (at_module t) t qs g (xs ++ ys) (fs ++ gs)
  functions_join g [] ys [] gs h i = let e : g + 0 ≡ g = omega arith in subst (λ n. AreFunctions (at_module t) t qs n ys gs) e i
  functions_join g [] ys (f ∷ fs) gs h i = absurd h
  functions_join g (x ∷ xs) ys [] gs h i = absurd h
  functions_join g (x ∷ xs) ys (f ∷ fs) gs h i = (h.0, functions_join (suc g) xs ys fs gs h.1 (subst (λ n. AreFunctions (at_module t) t qs n ys gs) (next g (length fs)) i))
    where
      next : (g n : ℕ) → g + suc n ≡ suc g + n
      next g n = omega arith

  pub adds_no_functions : (old : List Function) → AddsFunctions t qs [] old old
  adds_no_functions old = ([], sym (append-nil old), tt)

  pub adds_function : (k : ℕ) (x : FunDecl) (old : List Function) (f : Function) →
      IsLevelled (at_module t k) t (function_at t (length old)) (equation_of t qs (length old)) x f → AddsFunctions t qs ((k, x) ∷ []) old (old ++ f ∷ [])
  adds_function k x old f h = (f ∷ [], refl, (h, tt))

  pub adds_functions : (xs ys : List (ℕ × FunDecl)) (old middle new : List Function) → AddsFunctions t qs xs old middle → AddsFunctions t qs ys middle new → AddsFunctions t qs (xs ++ ys) old new
  adds_functions xs ys old middle new h i =
      let fs = h.0 in
      let gs = i.0 in
      let count = ap length h.1 ∙ length-append old fs in (
        fs ++ gs,
        i.1 ∙ ap (λ z. z ++ gs) h.1 ∙ append_assoc old fs gs,
        functions_join (length old) xs ys fs gs h.2 (subst (λ n. AreFunctions (at_module t) t qs n ys gs) count i.2),
      )

  pub adds_next_function : (x : ℕ × FunDecl) (ys : List (ℕ × FunDecl)) (old middle new : List Function) → AddsFunctions t qs (x ∷ []) old middle → AddsFunctions t qs ys middle new → AddsFunctions t qs (x ∷ ys) old new
  adds_next_function x ys old middle new h i = adds_functions (x ∷ []) ys old middle new h i

  pub all_functions : (xs : List (ℕ × FunDecl)) (new : List Function) → AddsFunctions t qs xs [] new → AreFunctions (at_module t) t qs 0 xs new
  all_functions xs new h = subst (AreFunctions (at_module t) t qs 0 xs) (sym h.1) h.2

-- a list as its pattern reads it
pub split : {A : Type 0} (xs : List A) (x : A) → 1 ≤ length xs → x ≡ get_or xs 0 x → x ∷ take (length xs - 1) (drop 1 xs) ≡ xs
split [] x l i = absurd (omega (arith, l))
split (y ∷ xs) x l i =
    let one : length (y ∷ xs) - 1 ≡ length xs = omega arith in
    let rest : take (length (y ∷ xs) - 1) xs ≡ xs = ap (λ n. take n xs) one ∙ take-length xs in
    (λ j. i j ∷ rest j)
