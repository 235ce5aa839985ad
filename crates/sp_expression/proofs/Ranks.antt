-- The order in which the levels call each other within one budget.
use Rattle.std.proofs.Common.{ℕ, ◌<◌, ◌+◌, lit<}
use Rattle.sp_expression.specs.Levels.{pair_operand}
use Rattle.sp_expression.specs.declared.level.Chain.{Chain}
use Rattle.sp_expression.specs.declared.level.Chain.TheVariants as chain
use Rattle.sp_expression.specs.declared.level.Pair.{Pair}
use Rattle.sp_expression.specs.declared.level.Pair.TheVariants as pair

abbrev pub chain_rank : Chain → ℕ
chain_rank chain.Iff = 13
chain_rank chain.Or = 10
chain_rank chain.And = 8
chain_rank chain.Sum = 4
chain_rank chain.Product = 2

abbrev pub pair_rank : Pair → ℕ
pair_rank pair.Implies = 12
pair_rank pair.Comparison = 6

pub rank_small : (c : Chain) → chain_rank c < 14
rank_small chain.Iff = lit< tt
rank_small chain.Or = lit< tt
rank_small chain.And = lit< tt
rank_small chain.Sum = lit< tt
rank_small chain.Product = lit< tt
