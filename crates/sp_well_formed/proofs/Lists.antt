-- The lists of what modules break, item by item: assertions and functions of all modules in one list, each with its module's number.
use Rattle.std.proofs.Common.{◌≡◌, refl, ap, subst, rules, arith, ℕ, suc, ◌+◌, ◌≤◌, List, [], ◌∷◌, ◌++◌, Bool, true, false, Option, Some, None, length, map}
use Rattle.std.specs.Prelude.{cond, nat_eq, slice_get, ◌==◌, if◌then◌else◌}
use Rattle.std.specs.List.{find}
use Rattle.sp_text.specs.declared.fault.Quantity.TheVariants as quantity
use Rattle.sp_text.specs.declared.fault.Span.{Span}
use Rattle.sp_text.specs.declared.limits.TheConstants.{MOST_ASSERTIONS}
use Rattle.sp_text.specs.declared.violation.Violation.{Violation}
use Rattle.sp_text.specs.Violations.{exceeds, in_file}
use Rattle.sp_tree.specs.declared.expr.ExprTree.{ExprTree}
use Rattle.sp_tree.specs.declared.interface.Equation.{Equation}
use Rattle.sp_tree.specs.declared.module.FunDecl.{FunDecl}
use Rattle.sp_tree.specs.declared.module.Module.{Module}
use Rattle.sp_plain.specs.Text.{span, text}
use Rattle.sp_naming.specs.declared.declaration.Entity.{Entity}
use Rattle.sp_naming.specs.declared.declaration.Entity.TheVariants as entity
use Rattle.sp_naming.specs.Numbers.{after, counted, numbered}
use Rattle.sp_scopes.specs.declared.scopes.Scopes.{Scopes}
use Rattle.sp_scopes.specs.Modules.{exceeds_at}
use Rattle.sp_judge.specs.Visible.{Visible, function_at, see}
use Rattle.sp_elaborate.specs.Views.{view}
use Rattle.sp_functions.specs.Assertions.{assertion_broken}
use Rattle.sp_functions.specs.Equations.{head_named, head_of}
use Rattle.sp_specification.specs.Bodies.{assertions_broken, depths_after, functions_broken, headed_broken, headed_depth, module_broken, next_head}
use Rattle.sp_specification.specs.Bodies as second
use Rattle.sp_specification.specs.Ends.{equation_of, is_function, is_of, level_broken, levels_broken}
use Rattle.sp_specification.specs.Ends as third
use Rattle.sp_specification.specs.Meaning.{numbered_assertions, numbered_functions}
use Rattle.sp_well_formed.proofs.Items.{left_nothing, map_nothing, not_none, right_nothing, same_item}

-- assertions from number a on that break nothing, where `sees` is what each module sees
abbrev pub AssertionsFine : (ℕ → Visible) → ℕ → List (ℕ × ExprTree) → Type 0
AssertionsFine sees a [] = Unit {0}
AssertionsFine sees a (e ∷ es) =
    (assertion_broken (sees e.0) (text e.1) ≡ []) × (exceeds_at a MOST_ASSERTIONS (span (text e.1)) quantity.Assertions ≡ []) × AssertionsFine sees (after a) es

-- functions that break nothing, after those that have these depths
abbrev pub FunctionsFine : (ℕ → Visible) → List ℕ → List (ℕ × FunDecl) → Type 0
FunctionsFine sees before [] = Unit {0}
FunctionsFine sees before (x ∷ xs) =
    (headed_broken (sees x.0) before (next_head (sees x.0) before) x.1 ≡ [])
    × FunctionsFine sees (before ++ headed_depth (sees x.0) before (next_head (sees x.0) before) x.1 ∷ []) xs

-- functions from number g on that have levels, and few nodes with them
abbrev pub LevelsFine : (ℕ → Visible) → Visible → List Equation → ℕ → List (ℕ × FunDecl) → Type 0
LevelsFine sees t qs g [] = Unit {0}
LevelsFine sees t qs g (x ∷ xs) = (level_broken (sees x.0) t (function_at (sees x.0) g) x.1 (equation_of t qs g) ≡ []) × LevelsFine sees t qs (after g) xs

-- One module before others

module _ (sees : ℕ → Visible) where
  join_assertions : (k a : ℕ) (es : List ExprTree) (rest : List (ℕ × ExprTree)) → a ≤ 65535 → assertions_broken (sees k) a es ≡ [] → AssertionsFine sees (counted a (length es)) rest → AssertionsFine sees a (map (λ e. (k, e)) es ++ rest)
  join_assertions k a [] rest small h r =
      let z : counted a 0 ≡ a = omega (arith, small) in
      subst (λ n. AssertionsFine sees n rest) z r
  join_assertions k a (e ∷ es) rest small h r =
      let own = assertion_broken (sees k) (text e) in
      let many = exceeds_at a MOST_ASSERTIONS (span (text e)) quantity.Assertions in
      let others = assertions_broken (sees k) (after a) es in
      let here = left_nothing (own ++ many) others h in
      let low : after a ≤ 65535 = omega arith in
      let z : counted a (suc (length es)) ≡ counted (after a) (length es) = omega arith in
      (left_nothing own many here, right_nothing own many here, join_assertions k (after a) es rest low (right_nothing (own ++ many) others h) (subst (λ n. AssertionsFine sees n rest) z r))

  join_functions : (k : ℕ) (before : List ℕ) (xs : List FunDecl) (rest : List (ℕ × FunDecl)) → functions_broken (sees k) before xs ≡ [] → FunctionsFine sees (depths_after (sees k) before xs) rest →
      FunctionsFine sees before (map (λ x. (k, x)) xs ++ rest)
  join_functions k before [] rest h r = r
  join_functions k before (x ∷ xs) rest h r =
      let own = headed_broken (sees k) before (next_head (sees k) before) x in
      let next = before ++ headed_depth (sees k) before (next_head (sees k) before) x ∷ [] in
      let others = functions_broken (sees k) next xs in
      (left_nothing own others h, join_functions k next xs rest (right_nothing own others h) r)

  join_levels : (t : Visible) (qs : List Equation) (k g : ℕ) (xs : List FunDecl) (rest : List (ℕ × FunDecl)) → g ≤ 65535 → levels_broken (sees k) t qs g xs ≡ [] → LevelsFine sees t qs (counted g (length xs)) rest →
      LevelsFine sees t qs g (map (λ x. (k, x)) xs ++ rest)
  join_levels t qs k g [] rest small h r =
      let z : counted g 0 ≡ g = omega (arith, small) in
      subst (λ n. LevelsFine sees t qs n rest) z r
  join_levels t qs k g (x ∷ xs) rest small h r =
      let own = level_broken (sees k) t (function_at (sees k) g) x (equation_of t qs g) in
      let others = levels_broken (sees k) t qs (after g) xs in
      let low : after g ≤ 65535 = omega arith in
      let z : counted g (suc (length xs)) ≡ counted (after g) (length xs) = omega arith in
      (left_nothing own others h, join_levels t qs k (after g) xs rest low (right_nothing own others h) (subst (λ n. LevelsFine sees t qs n rest) z r))

-- All modules

module _ (s : Scopes) (bottom top : ℕ) where
  abbrev pub sees_of : ℕ → Visible
  sees_of k = view s k bottom top

  module _ (k a : ℕ) (before : List ℕ) (m : Module) (ms : List Module) (h : second.modules_broken s bottom top k a before (m ∷ ms) ≡ []) where
    abbrev here : List Violation
    here = module_broken (view s k bottom top) a before m

    first_fine : here ≡ []
    first_fine =
        map_nothing (λ v. record { file = counted 1 k; violation = v }) here
        (left_nothing (in_file (counted 1 k) here) (second.modules_broken s bottom top (after k) (counted a (length m.assertions)) (depths_after (view s k bottom top) before m.functions) ms) h)

    first_assertions : assertions_broken (view s k bottom top) a m.assertions ≡ []
    first_assertions = left_nothing (assertions_broken (view s k bottom top) a m.assertions) (functions_broken (view s k bottom top) before m.functions) first_fine

    first_functions : functions_broken (view s k bottom top) before m.functions ≡ []
    first_functions = right_nothing (assertions_broken (view s k bottom top) a m.assertions) (functions_broken (view s k bottom top) before m.functions) first_fine

    others_fine : second.modules_broken s bottom top (after k) (counted a (length m.assertions)) (depths_after (view s k bottom top) before m.functions) ms ≡ []
    others_fine = right_nothing (in_file (counted 1 k) here) (second.modules_broken s bottom top (after k) (counted a (length m.assertions)) (depths_after (view s k bottom top) before m.functions) ms) h

  pub all_assertions : (k a : ℕ) (before : List ℕ) (ms : List Module) → a ≤ 65535 → second.modules_broken s bottom top k a before ms ≡ [] → AssertionsFine sees_of a (numbered numbered_assertions k ms)
  all_assertions k a before [] small h = tt
  all_assertions k a before (m ∷ ms) small h =
      let low : counted a (length m.assertions) ≤ 65535 = omega arith in
      join_assertions sees_of k a m.assertions (numbered numbered_assertions (after k) ms) small (first_assertions k a before m ms h)
      (all_assertions (after k) (counted a (length m.assertions)) (depths_after (view s k bottom top) before m.functions) ms low (others_fine k a before m ms h))

  pub all_functions : (k a : ℕ) (before : List ℕ) (ms : List Module) → second.modules_broken s bottom top k a before ms ≡ [] → FunctionsFine sees_of before (numbered numbered_functions k ms)
  all_functions k a before [] h = tt
  all_functions k a before (m ∷ ms) h =
      join_functions sees_of k before m.functions (numbered numbered_functions (after k) ms) (first_functions k a before m ms h)
      (all_functions (after k) (counted a (length m.assertions)) (depths_after (view s k bottom top) before m.functions) ms (others_fine k a before m ms h))

  pub all_levels : (t : Visible) (qs : List Equation) (k g : ℕ) (ms : List Module) → g ≤ 65535 → third.modules_broken s bottom top t qs k g ms ≡ [] → LevelsFine sees_of t qs g (numbered numbered_functions k ms)
  all_levels t qs k g [] small h = tt
  all_levels t qs k g (m ∷ ms) small h =
      let here = levels_broken (view s k bottom top) t qs g m.functions in
      let others = third.modules_broken s bottom top t qs (after k) (counted g (length m.functions)) ms in
      let low : counted g (length m.functions) ≤ 65535 = omega arith in
      join_levels sees_of t qs k g m.functions (numbered numbered_functions (after k) ms) small (map_nothing (λ v. record { file = counted 1 k; violation = v }) here (left_nothing (in_file (counted 1 k) here) others h))
      (all_levels t qs (after k) (counted g (length m.functions)) ms low (right_nothing (in_file (counted 1 k) here) others h))

-- What follows

-- the assertions are few
below_most : (a : ℕ) (p : Span) → exceeds_at a MOST_ASSERTIONS p quantity.Assertions ≡ [] → a ≤ 64 → suc a ≤ 64
below_most a p h low = by (a == 64) refl h
  where
    by : (b : Bool) → (a == 64) ≡ b → (if b then exceeds p quantity.Assertions else []) ≡ [] → suc a ≤ 64
    by true e h = absurd cc
    by false e h = grind (arith, rules, low)

pub few_assertions : (sees : ℕ → Visible) (a : ℕ) (es : List (ℕ × ExprTree)) → a ≤ 64 → AssertionsFine sees a es → a + length es ≤ 64
few_assertions sees a [] low h = omega (arith, low)
few_assertions sees a (e ∷ es) low h =
    let next = below_most a (span (text e.1)) h.1 low in
    let z : after a ≡ suc a = omega (arith, next) in
    let r = few_assertions sees (after a) es (omega (arith, next, z)) h.2 in
    omega (arith, r, z)

-- Level equations

-- the equation that is found is one of them, and of the function
pub found_equation : (t : Visible) (g : ℕ) (qs : List Equation) (q : Equation) → equation_of t qs g ≡ Some q → (k : ℕ) × (slice_get qs k ≡ Some q) × (is_of t g q ≡ true)
found_equation t g [] q e = not_none q e
found_equation t g (y ∷ qs) q e = by (λ i. found_equation t g qs q i) (is_of t g y) refl e
  where
    by : (find (is_of t g) qs ≡ Some q → (k : ℕ) × (slice_get qs k ≡ Some q) × (is_of t g q ≡ true)) →
        (b : Bool) → is_of t g y ≡ b → cond b (Some y) (find (is_of t g) qs) ≡ Some q → (k : ℕ) × (slice_get (y ∷ qs) k ≡ Some q) × (is_of t g q ≡ true)
    by rec true is i = (0, i, subst (λ z. is_of t g z ≡ true) (same_item y q i) is)
    by rec false is i = let r = rec i in (suc r.0, r.1, r.2)

same_number : (h g : ℕ) → nat_eq h g ≡ true → h ≡ g
same_number h g e = grind (arith, rules)

named_head : (t : Visible) (g : ℕ) (o : Option Entity) → is_function g o ≡ true → head_named t o ≡ function_at t g
named_head t g None h = absurd cc
named_head t g (Some (entity.Function k)) h = ap (function_at t) (same_number k g h)
named_head t g (Some (entity.Declared k)) h = absurd cc
named_head t g (Some (entity.Member j k)) h = absurd cc
named_head t g (Some (entity.Param k)) h = absurd cc
named_head t g (Some (entity.Definition k)) h = absurd cc
named_head t g (Some (entity.Level k)) h = absurd cc

-- its head is the function's
pub equation_head : (t : Visible) (g : ℕ) (q : Equation) → is_of t g q ≡ true → head_of t q ≡ function_at t g
equation_head t g q h = named_head t g (see t q.name.name) h
