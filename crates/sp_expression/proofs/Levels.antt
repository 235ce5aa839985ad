-- The chains and pairs of the grammar, with their laws.
use Rattle.std.proofs.Common.{ℕ, suc, zero, inl, IsTrue, List, refl}
use Rattle.sp_text.specs.declared.token.Token.{Token}
use Rattle.sp_tree.specs.declared.expr.ExprTree.{ExprTree}
use Rattle.sp_grammar.specs.Lang.{nothing, apart, binary}
use Rattle.sp_grammar.proofs.Chain.{Sub, sub_refl, Ways}
use Rattle.sp_grammar.proofs.Chains.{Chain}
use Rattle.sp_grammar.proofs.Pairs.{Pair}
use Rattle.sp_expression.specs.Contract.{primary_first, expression_first}
use Rattle.sp_expression.specs.Grammar.{at, binary_tree}
use Rattle.sp_expression.specs.Levels.{chain_ops, chain_form, operand_form, pair_ops, pair_form, pair_operand, pair_right}
use Rattle.sp_expression.specs.declared.level.Chain.{Chain as Level}
use Rattle.sp_expression.specs.declared.level.Chain.TheVariants as chain
use Rattle.sp_expression.specs.declared.level.Pair.{Pair as Two}
use Rattle.sp_expression.specs.declared.level.Pair.TheVariants as pair
use Rattle.sp_expression.proofs.Laws.{fine, grows, primary_more, product_more, sum_more, comparison_more, conjunction_more, disjunction_more, implication_more}

abbrev pub chain_first : Level → List ℕ
chain_first chain.Iff = expression_first
chain_first chain.Or = expression_first
chain_first chain.And = expression_first
chain_first chain.Sum = primary_first
chain_first chain.Product = primary_first

abbrev pub operand_more : Level → List ℕ
operand_more chain.Iff = implication_more
operand_more chain.Or = conjunction_more
operand_more chain.And = comparison_more
operand_more chain.Sum = product_more
operand_more chain.Product = primary_more

pub clear : (l : Level) → IsTrue (apart (operand_more l) (chain_ops l))
clear chain.Iff = refl
clear chain.Or = refl
clear chain.And = refl
clear chain.Sum = refl
clear chain.Product = refl

module _ (ts : List Token) where
  pub ways : (l : Level) → Ways (at ts) (chain_first l) (operand_more l) (operand_form ts l)
  ways chain.Iff = record { fine = λ b. (fine ts b).implication; grows = λ b. (grows ts b).implication; empty = λ b i. inl (inl (inl (inl (inl refl)))) }
  ways chain.Or = record { fine = λ b. (fine ts b).conjunction; grows = λ b. (grows ts b).conjunction; empty = λ b i. inl (inl (inl refl)) }
  ways chain.And = record { fine = λ b. (fine ts b).negation; grows = λ b. (grows ts b).negation; empty = λ b i. inl (inl refl) }
  ways chain.Sum = record { fine = λ b. (fine ts b).product; grows = λ b. (grows ts b).product; empty = λ b i. inl (inl (inl refl)) }
  ways chain.Product = record { fine = λ b. (fine ts b).primary; grows = λ b. (grows ts b).primary; empty = λ b i. inl (inl refl) }

  pub out : (l : Level) (b : ℕ) → Sub (chain_form ts l (suc b)) (binary (at ts) (chain_ops l) (binary_tree ts) (operand_form ts l (suc b)) (chain_form ts l b) (operand_form ts l b))
  out chain.Iff b = sub_refl _
  out chain.Or b = sub_refl _
  out chain.And b = sub_refl _
  out chain.Sum b = sub_refl _
  out chain.Product b = sub_refl _

  pub back : (l : Level) (b : ℕ) → Sub (binary (at ts) (chain_ops l) (binary_tree ts) (operand_form ts l (suc b)) (chain_form ts l b) (operand_form ts l b)) (chain_form ts l (suc b))
  back chain.Iff b = sub_refl _
  back chain.Or b = sub_refl _
  back chain.And b = sub_refl _
  back chain.Sum b = sub_refl _
  back chain.Product b = sub_refl _

  pub no_chain : (l : Level) → Sub (chain_form ts l zero) nothing
  no_chain chain.Iff = sub_refl _
  no_chain chain.Or = sub_refl _
  no_chain chain.And = sub_refl _
  no_chain chain.Sum = sub_refl _
  no_chain chain.Product = sub_refl _

  no_operand : (l : Level) → Sub (operand_form ts l zero) nothing
  no_operand chain.Iff = sub_refl _
  no_operand chain.Or = sub_refl _
  no_operand chain.And = sub_refl _
  no_operand chain.Sum = sub_refl _
  no_operand chain.Product = sub_refl _

  pub single : (l : Level) (b : ℕ) → Sub (operand_form ts l b) (chain_form ts l b)
  single l zero = record { whole = λ v i j w. absurd ((no_operand l).whole v i j w); part = λ i m p. absurd ((no_operand l).part i m p) }
  single l (suc b) = record { whole = λ v i j w. (back l b).whole v i j (inl w); part = λ i m p. (back l b).part i m (inl p) }

  pub chain_grows : (l : Level) (b : ℕ) → Sub (chain_form ts l b) (chain_form ts l (suc b))
  chain_grows chain.Iff b = (grows ts b).expression
  chain_grows chain.Or b = (grows ts b).disjunction
  chain_grows chain.And b = (grows ts b).conjunction
  chain_grows chain.Sum b = (grows ts b).sum
  chain_grows chain.Product b = (grows ts b).product

  abbrev pub chain_of : Level → Chain (at ts) ExprTree
  chain_of l = record {
    ops = chain_ops l;
    make = binary_tree ts;
    first = chain_first l;
    more = operand_more l;
    operand = operand_form ts l;
    form = chain_form ts l;
    ways = ways l;
    clear = clear l;
    out = out l;
    back = back l;
    none = no_chain l;
    single = single l;
    grows = chain_grows l;
  }

  abbrev pub side_more : Two → List ℕ
  side_more pair.Implies = disjunction_more
  side_more pair.Comparison = sum_more

  pub side_clear : (p : Two) → IsTrue (apart (side_more p) (pair_ops p))
  side_clear pair.Implies = refl
  side_clear pair.Comparison = refl

  pub side_ways : (p : Two) → Ways (at ts) (chain_first (pair_operand p)) (side_more p) (chain_form ts (pair_operand p))
  side_ways pair.Implies = record { fine = λ b. (fine ts b).disjunction; grows = λ b. (grows ts b).disjunction; empty = λ b i. inl (inl (inl (inl refl))) }
  side_ways pair.Comparison = record { fine = λ b. (fine ts b).sum; grows = λ b. (grows ts b).sum; empty = λ b i. inl (inl (inl (inl refl))) }

  abbrev pub right_more : Two → List ℕ
  right_more pair.Implies = implication_more
  right_more pair.Comparison = sum_more

  pub right_ways : (p : Two) → Ways (at ts) (chain_first (pair_operand p)) (right_more p) (pair_right ts p)
  right_ways pair.Implies = record { fine = λ b. (fine ts b).implication; grows = λ b. (grows ts b).implication; empty = λ b i. inl (inl (inl (inl (inl refl)))) }
  right_ways pair.Comparison = side_ways pair.Comparison

  pub pair_out : (p : Two) (b : ℕ) → Sub (pair_form ts p (suc b)) (binary (at ts) (pair_ops p) (binary_tree ts) (chain_form ts (pair_operand p) (suc b)) (chain_form ts (pair_operand p) b) (pair_right ts p b))
  pair_out pair.Implies b = sub_refl _
  pair_out pair.Comparison b = sub_refl _

  pub pair_back : (p : Two) (b : ℕ) → Sub (binary (at ts) (pair_ops p) (binary_tree ts) (chain_form ts (pair_operand p) (suc b)) (chain_form ts (pair_operand p) b) (pair_right ts p b)) (pair_form ts p (suc b))
  pair_back pair.Implies b = sub_refl _
  pair_back pair.Comparison b = sub_refl _

  pub no_pair : (p : Two) → Sub (pair_form ts p zero) nothing
  no_pair pair.Implies = sub_refl _
  no_pair pair.Comparison = sub_refl _

  pub pair_single : (p : Two) (b : ℕ) → Sub (chain_form ts (pair_operand p) b) (pair_form ts p b)
  pair_single p zero = record { whole = λ v i j w. absurd ((no_chain (pair_operand p)).whole v i j w); part = λ i m q. absurd ((no_chain (pair_operand p)).part i m q) }
  pair_single p (suc b) = record { whole = λ v i j w. (pair_back p b).whole v i j (inl w); part = λ i m q. (pair_back p b).part i m (inl q) }

  abbrev pub pair_of : Two → Pair (at ts) ExprTree
  pair_of p = record {
    ops = pair_ops p;
    make = binary_tree ts;
    first = chain_first (pair_operand p);
    more = side_more p;
    right_more = right_more p;
    operand = chain_form ts (pair_operand p);
    right = pair_right ts p;
    form = pair_form ts p;
    ways = side_ways p;
    right_ways = right_ways p;
    clear = side_clear p;
    out = pair_out p;
    back = pair_back p;
    none = no_pair p;
    single = pair_single p;
  }
