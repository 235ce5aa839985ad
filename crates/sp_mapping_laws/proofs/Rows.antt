-- Rows over formals: as many names as upper formals, of their types, translated.
use Rattle.std.proofs.Common.{◌≡◌, refl, sym, ◌∙◌, ap, subst, arith, rules, ℕ, zero, suc, ◌+◌, ◌<◌, ◌≤◌, List, [], ◌∷◌, ◌++◌, Bool, true, false, Option, Some, None, length, map}
use Rattle.std.specs.Prelude.{IsTrue, if◌then◌else◌, nat_eq, nat_lt, slice_get}
use Rattle.std.specs.List.{All}
use Rattle.std.proofs.lemmas.List.Elements.{All-cons, All-nil}
use Rattle.sp_text.specs.declared.fault.Quantity.TheVariants as quantity
use Rattle.sp_text.specs.declared.fault.Rule.TheVariants as rule
use Rattle.sp_text.specs.declared.fault.Span.{Span}
use Rattle.sp_text.specs.declared.limits.TheConstants.{MOST_EXPRESSION_NODES, MOST_HEIGHT, MOST_QUANTIFIERS}
use Rattle.sp_text.specs.Violations.{breaks, exceeds}
use Rattle.sp_values.specs.declared.value.Ty.{Ty}
use Rattle.sp_tree.specs.declared.interface.Equation.{Equation}
use Rattle.sp_tree.specs.declared.names.Ident.{Ident}
use Rattle.sp_core.specs.declared.expr.Expr.{Expr}
use Rattle.sp_core.specs.declared.function.Formal.{Formal}
use Rattle.sp_core.specs.Machine.{types_of}
use Rattle.sp_core.specs.Measures.{nodes, quantifiers}
use Rattle.sp_core.specs.Tree.{Tree, Trees, Const, Var, Not, Two, If, Param, Look, Every, New, none, more, tree, trees_of}
use Rattle.sp_core.specs.Typing.{Signature, is_type}
use Rattle.sp_core.proofs.TreeLemmas.{tree-Const, tree-Var, tree-Not, tree-Two, tree-If, tree-Param, tree-Look, tree-Every, tree-New}
use Rattle.sp_expand.specs.Sizes.{height}
use Rattle.sp_judge.specs.Broken.{limit_rules}
use Rattle.sp_scopes.specs.declared.heads.Local.{Local}
use Rattle.sp_typed.specs.Fits.{types, AreTypes}
use Rattle.sp_elaborate.specs.Expressions.{expression_of, expressions_of}
use Rattle.sp_functions.specs.Assertions.{formal_of}
use Rattle.sp_mapping_rules.specs.Levels.{type_over}
use Rattle.sp_mapping_rules.specs.Rows.{count_broken, with_types}

-- the expression of a tree has that tree
mutual
  pub tree_of : (t : Tree) → tree (expression_of t) ≡ t
  tree_of (Const v) = tree-Const v
  tree_of (Var k) = tree-Var k
  tree_of (Not a) = tree-Not (expression_of a) ∙ ap Not (tree_of a)
  tree_of (Two o a b) = tree-Two o (expression_of a) (expression_of b) ∙ (λ i. Two o (tree_of a i) (tree_of b i))
  tree_of (If c a b) = tree-If (expression_of c) (expression_of a) (expression_of b) ∙ (λ i. If (tree_of c i) (tree_of a i) (tree_of b i))
  tree_of (Param p ds) = tree-Param p (expressions_of ds) ∙ ap (Param p) (trees_are ds)
  tree_of (Look g ds) = tree-Look g (expressions_of ds) ∙ ap (Look g) (trees_are ds)
  tree_of (Every k t b) = tree-Every k t (expression_of b) ∙ ap (Every k t) (tree_of b)
  tree_of (New g ds) = tree-New g (expressions_of ds) ∙ ap (New g) (trees_are ds)

  trees_are : (ds : Trees) → trees_of (map tree (expressions_of ds)) ≡ ds
  trees_are none = refl
  trees_are (more d ds) = (λ i. more (tree_of d i) (trees_are ds i))

pub counted : (p : Span) (k n : ℕ) → count_broken p (Some k) n ≡ [] → k ≡ n
counted p k n h = by (nat_eq k n) refl h
  where
    by : (b : Bool) → nat_eq k n ≡ b → (if b then [] else breaks p rule.WrongCount) ≡ [] → k ≡ n
    by true e h = grind (arith, rules)
    by false e h = absurd cc

pub types_over : (ts : List ℕ) (xs : List Ident) (fs : List Formal) → length fs ≡ length xs → types (with_types ts xs fs) ≡ map (type_over ts) (types_of fs)
types_over ts [] [] n = refl
types_over ts [] (f ∷ fs) n = absurd cc
types_over ts (x ∷ xs) [] n = absurd cc
types_over ts (x ∷ xs) (f ∷ fs) n = let m : length fs ≡ length xs = omega (arith, n) in ap (λ z. type_over ts f.ty ∷ z) (types_over ts xs fs m)

pub few_locals : (ts : List ℕ) (xs : List Ident) (fs : List Formal) → length (with_types ts xs fs) ≤ length fs
few_locals ts [] fs = omega arith
few_locals ts (x ∷ xs) [] = omega arith
few_locals ts (x ∷ xs) (f ∷ fs) = omega (arith, few_locals ts xs fs)

pub formals_typed : (ls : List Local) → types_of (map formal_of ls) ≡ types ls
formals_typed [] = refl
formals_typed (l ∷ ls) = ap (λ z. l.ty ∷ z) (formals_typed ls)

-- of types that become types, formals do
pub locals_typed : (sg : Signature) (ts : List ℕ) (xs : List Ident) (fs : List Formal) → ((k : ℕ) (t : Ty) → slice_get (types_of fs) k ≡ Some t → IsTrue (is_type sg (type_over ts t))) →
    AreTypes sg (with_types ts xs fs)
locals_typed sg ts [] fs h = tt
locals_typed sg ts (x ∷ xs) [] h = tt
locals_typed sg ts (x ∷ xs) (f ∷ fs) h = (h 0 f.ty refl, locals_typed sg ts xs fs (λ k t e. h (suc k) t e))

pub all_typed : (sg : Signature) (ls : List Local) → AreTypes sg ls → All (λ t. IsTrue (is_type sg t)) (types ls)
all_typed sg [] h = All-nil (λ t. IsTrue (is_type sg t))
all_typed sg (l ∷ ls) h = All-cons (λ t. IsTrue (is_type sg t)) l.ty (types ls) h.0 (all_typed sg ls h.1)

few_by : (h q n : ℕ) (p : Span) →
    (if nat_lt MOST_HEIGHT h then exceeds p quantity.Height else []) ++ ((if nat_lt MOST_QUANTIFIERS q then exceeds p quantity.Quantifiers else []) ++ (if nat_lt MOST_EXPRESSION_NODES n then exceeds p quantity.ExpressionNodes else [])) ≡ [] →
    (n ≤ MOST_EXPRESSION_NODES) × (q ≤ MOST_QUANTIFIERS)
few_by h q n p e = (grind (arith, rules), grind (arith, rules))

-- an expression that exceeds no limit
pub few : (p : Span) (t : Tree) → limit_rules p t ≡ [] → (nodes t ≤ MOST_EXPRESSION_NODES) × (quantifiers t ≤ MOST_QUANTIFIERS)
few p t h = few_by (height t) (quantifiers t) (nodes t) p h
