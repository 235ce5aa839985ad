-- The lines of expressions with operators, by the level that the reader is at. For the contracts inside this crate.
use Rattle.std.specs.Prelude.{ℕ, List}
use Rattle.sp_text.specs.declared.token.Token.{Token}
use Rattle.sp_tree.specs.declared.expr.ExprTree.{ExprTree}
use Rattle.sp_grammar.specs.Lang.{Lang}
use Rattle.sp_expression.specs.Grammar.{iff_ops, implies_ops, or_ops, and_ops, comparison_ops, sum_ops, product_ops, primary, product, sum, comparison, negation, conjunction, disjunction, implication, expression}
use Rattle.sp_expression.specs.declared.level.Chain.{Chain}
use Rattle.sp_expression.specs.declared.level.Chain.TheVariants as chain
use Rattle.sp_expression.specs.declared.level.Pair.{Pair}
use Rattle.sp_expression.specs.declared.level.Pair.TheVariants as pair

-- the operators of a chain
abbrev pub chain_ops : Chain → List ℕ
chain_ops chain.Iff = iff_ops
chain_ops chain.Or = or_ops
chain_ops chain.And = and_ops
chain_ops chain.Sum = sum_ops
chain_ops chain.Product = product_ops

-- the chain itself
abbrev pub chain_form : List Token → Chain → ℕ → Lang ExprTree
chain_form ts chain.Iff = expression ts
chain_form ts chain.Or = disjunction ts
chain_form ts chain.And = conjunction ts
chain_form ts chain.Sum = sum ts
chain_form ts chain.Product = product ts

-- what stands between its operators
abbrev pub operand_form : List Token → Chain → ℕ → Lang ExprTree
operand_form ts chain.Iff = implication ts
operand_form ts chain.Or = conjunction ts
operand_form ts chain.And = negation ts
operand_form ts chain.Sum = product ts
operand_form ts chain.Product = primary ts

-- the operators of a line that is an operand, or two parts with an operator between them
abbrev pub pair_ops : Pair → List ℕ
pair_ops pair.Implies = implies_ops
pair_ops pair.Comparison = comparison_ops

-- the line itself
abbrev pub pair_form : List Token → Pair → ℕ → Lang ExprTree
pair_form ts pair.Implies = implication ts
pair_form ts pair.Comparison = comparison ts

-- its operand, which is also what stands left of its operator
abbrev pub pair_operand : Pair → Chain
pair_operand pair.Implies = chain.Or
pair_operand pair.Comparison = chain.Sum

-- what stands right of its operator
abbrev pub pair_right : List Token → Pair → ℕ → Lang ExprTree
pair_right ts pair.Implies = implication ts
pair_right ts pair.Comparison = sum ts
