-- The grammar of expressions, a definition for each of its lines, over the tokens of one text. For the contract of the
-- reader of expressions, and for the grammars above it.
--
-- A form has a budget of height. Within it, a name, a number, a constant or a call without arguments needs one, and every
-- other expression one more than its highest part. So a form that adds to the height has its parts in `below`, which has one
-- less to spend. A line that is its one part alone adds nothing.
use Rattle.std.specs.Prelude.{◌≡◌, ℕ, ℤ, pos, ◌-ℤ◌, zero, suc, Bool, true, false, if◌then◌else◌, eqb, List, [], ◌∷◌, Option, Some, None, slice_get}
use Rattle.sp_text.specs.declared.fault.Span.{Span}
use Rattle.sp_text.specs.declared.token.Token.{Token}
use Rattle.sp_text.specs.declared.token.TokenKind.TheVariants as kind
use Rattle.sp_tree.specs.declared.names.Ident.{Ident}
use Rattle.sp_tree.specs.declared.names.TypeTree.{TypeTree}
use Rattle.sp_tree.specs.declared.names.TypeTree.TheVariants as ty
use Rattle.sp_tree.specs.declared.names.FormalTree.{FormalTree}
use Rattle.sp_tree.specs.declared.expr.BinOp.{BinOp}
use Rattle.sp_tree.specs.declared.expr.BinOp.TheVariants as op
use Rattle.sp_tree.specs.declared.expr.ExprTree.{ExprTree}
use Rattle.sp_tree.specs.declared.expr.ExprNode.{ExprNode}
use Rattle.sp_tree.specs.declared.expr.ExprNode.TheVariants as node
use Rattle.sp_grammar.specs.Lang.{Lang, nothing, seq, either, made, star, optional, token, behind, room, binary}
use Rattle.sp_grammar.specs.Codes.{code_at, span_of, word_boolean, word_integer, word_level, word_if, word_then, word_else, word_end_if, word_forall, word_end_forall, word_exists, word_end_exists, word_not, word_and, word_or, word_implies, word_iff, word_lub, word_glb, word_true, word_false, word_bottom, word_top, left_parenthesis, right_parenthesis, comma, colon, equal, not_equal, less, less_or_equal, greater, greater_or_equal, plus, minus, asterisk, quote, question}

-- the operators of the lines with operators
abbrev pub iff_ops : List ℕ
iff_ops = word_iff ∷ []

abbrev pub implies_ops : List ℕ
implies_ops = word_implies ∷ []

abbrev pub or_ops : List ℕ
or_ops = word_or ∷ []

abbrev pub and_ops : List ℕ
and_ops = word_and ∷ []

abbrev pub comparison_ops : List ℕ
comparison_ops = equal ∷ not_equal ∷ less ∷ less_or_equal ∷ greater ∷ greater_or_equal ∷ []

abbrev pub sum_ops : List ℕ
sum_ops = plus ∷ minus ∷ []

abbrev pub product_ops : List ℕ
product_ops = asterisk ∷ []

-- the operator that a token of this code is
abbrev pub operator : ℕ → BinOp
operator c =
    if eqb c word_iff then op.Iff
    else if eqb c word_implies then op.Implies
    else if eqb c word_or then op.Or
    else if eqb c word_and then op.And
    else if eqb c equal then op.Eq
    else if eqb c not_equal then op.Ne
    else if eqb c less then op.Lt
    else if eqb c less_or_equal then op.Le
    else if eqb c greater then op.Gt
    else if eqb c greater_or_equal then op.Ge
    else if eqb c plus then op.Add
    else if eqb c minus then op.Sub
    else op.Mul

-- a number with its sign
abbrev pub signed : Option (Unit {0}) → ℤ → ℤ
signed None n = n
signed (Some u) n = pos 0 -ℤ n

-- a name alone, or a call
abbrev pub named_node : Ident → Option (List ExprTree) → ExprNode
named_node v None = node.Name v.name
named_node v (Some es) = node.Call v es

abbrev pub items_or : Option (List ExprTree) → List ExprTree
items_or None = []
items_or (Some es) = es

module _ (ts : List Token) where
  abbrev pub at : ℕ → ℕ
  at = code_at ts

  -- an expression spans its tokens, from the first one's start to the last one's end
  abbrev pub tree : ExprNode → ℕ → ℕ → ExprTree
  tree n i j = record { span = span_of ts i j; node = n }

  -- a name
  abbrev pub ident : Lang Ident
  ident = record {
    whole = λ v i j. (slice_get ts i ≡ Some (record { kind = kind.Name v.name; span = v.span })) × (j ≡ suc i);
    part = λ i m. i ≡ m;
  }

  -- a number without its sign
  abbrev pub digits : Lang ℤ
  digits = record {
    whole = λ v i j. ((s : Span) × (slice_get ts i ≡ Some (record { kind = kind.Number v; span = s }))) × (j ≡ suc i);
    part = λ i m. i ≡ m;
  }

  abbrev pub number_tree : Option (Unit {0}) × ℤ → ℕ → ℕ → ExprTree
  number_tree p i j = tree (node.Number (signed p.0 p.1)) i j

  -- ["-"] number
  abbrev pub number_line : Lang ExprTree
  number_line = made number_tree (seq (optional (token at minus)) digits)

  abbrev pub constant_tree : ExprNode → Unit {0} → ℕ → ℕ → ExprTree
  constant_tree n u i j = tree n i j

  abbrev pub constant : ℕ → ExprNode → Lang ExprTree
  constant c n = made (constant_tree n) (token at c)

  -- TRUE | FALSE | "?" | BOTTOM | TOP
  abbrev pub constant_line : Lang ExprTree
  constant_line =
      either (constant word_true (node.Truth true))
      (either (constant word_false (node.Truth false))
      (either (constant question node.Unknown)
      (either (constant word_bottom node.Bottom)
      (constant word_top node.Top))))

  abbrev pub boolean_type : Unit {0} → ℕ → ℕ → TypeTree
  boolean_type u i j = ty.Boolean (span_of ts i j)

  abbrev pub integer_type : Unit {0} → ℕ → ℕ → TypeTree
  integer_type u i j = ty.Integer (span_of ts i j)

  abbrev pub level_type : Unit {0} → ℕ → ℕ → TypeTree
  level_type u i j = ty.Level (span_of ts i j)

  abbrev pub named_type : Ident → ℕ → ℕ → TypeTree
  named_type v i j = ty.Named v

  -- type = BOOLEAN | INTEGER | LEVEL | name
  abbrev pub type_line : Lang TypeTree
  type_line =
      either (made boolean_type (token at word_boolean))
      (either (made integer_type (token at word_integer))
      (either (made level_type (token at word_level))
      (made named_type ident)))

  abbrev pub formal_tree : TypeTree × Ident → ℕ → ℕ → FormalTree
  formal_tree p i j = record { ty = p.0; name = p.1 }

  -- formal = type name
  abbrev pub formal_line : Lang FormalTree
  formal_line = made formal_tree (seq type_line ident)

  abbrev pub some_list : ExprTree × List ExprTree → ℕ → ℕ → List ExprTree
  some_list p i j = p.0 ∷ p.1

  abbrev pub args_list : Unit {0} × (Option (List ExprTree) × Unit {0}) → ℕ → ℕ → List ExprTree
  args_list p i j = items_or (p.1.0)

  abbrev pub named_tree : Ident × Option (List ExprTree) → ℕ → ℕ → ExprTree
  named_tree p i j = tree (named_node p.0 p.1) i j

  abbrev pub new_tree : Unit {0} × (Ident × List ExprTree) → ℕ → ℕ → ExprTree
  new_tree p i j = tree (node.New (p.1.0) (p.1.1)) i j

  abbrev pub paren_tree : ExprTree × Unit {0} → ℕ → ℕ → ExprTree
  paren_tree p i j = tree (node.Paren p.0) i j

  abbrev pub if_tree : ExprTree × (ExprTree × (ExprTree × Unit {0})) → ℕ → ℕ → ExprTree
  if_tree p i j = tree (node.If p.0 (p.1.0) (p.1.1.0)) i j

  abbrev pub join_tree : Bool → Unit {0} × (Unit {0} × (ExprTree × (ExprTree × Unit {0}))) → ℕ → ℕ → ExprTree
  join_tree lub p i j = tree (node.Join lub (p.1.1.0) (p.1.1.1.0)) i j

  abbrev pub quant_tree : Bool → Unit {0} × (Unit {0} × (FormalTree × (ExprTree × Unit {0}))) → ℕ → ℕ → ExprTree
  quant_tree forall p i j = tree (node.Quant forall (p.1.1.0) (p.1.1.1.0)) i j

  abbrev pub not_tree : ExprTree → ℕ → ℕ → ExprTree
  not_tree e i j = tree (node.Not e) i j

  abbrev pub binary_tree : ℕ → ExprTree → ExprTree → ℕ → ℕ → ExprTree
  binary_tree c l r i j = tree (node.Binary (operator c) l r) i j

  -- The lines of primaries, where `expr` has one less to spend.
  module _ (expr : Lang ExprTree) where
    -- expr {"," expr}
    abbrev pub some_args : Lang (List ExprTree)
    some_args = made some_list (seq expr (star (behind at comma expr)))

    -- args = "(" [expr {"," expr}] ")"
    abbrev pub args : Lang (List ExprTree)
    args = made args_list (seq (token at left_parenthesis) (seq (optional some_args) (token at right_parenthesis)))

    -- name | name args
    abbrev pub named_line : Lang ExprTree
    named_line = made named_tree (seq ident (optional args))

    -- "'" name args
    abbrev pub new_line : Lang ExprTree
    new_line = made new_tree (seq (token at quote) (seq ident args))

    -- "(" expr ")"
    abbrev pub paren_line : Lang ExprTree
    paren_line = made paren_tree (seq (behind at left_parenthesis expr) (token at right_parenthesis))

    -- IF expr THEN expr ELSE expr END_IF
    abbrev pub if_line : Lang ExprTree
    if_line = made if_tree (seq (behind at word_if expr) (seq (behind at word_then expr) (seq (behind at word_else expr) (token at word_end_if))))

    -- LUB "(" expr "," expr ")", and GLB likewise; from its first token on it has to leave room for an expression
    abbrev pub join_line : ℕ → Bool → Lang ExprTree
    join_line c lub = made (join_tree lub)
        (seq (token at c) (seq (room expr) (seq (behind at left_parenthesis expr) (seq (behind at comma expr) (token at right_parenthesis)))))

    -- FORALL formal ":" expr END_FORALL, and EXISTS likewise; from its first token on it has to leave room for an expression
    abbrev pub quant_line : ℕ → ℕ → Bool → Lang ExprTree
    quant_line c close forall = made (quant_tree forall)
        (seq (token at c) (seq (room expr) (seq formal_line (seq (behind at colon expr) (token at close)))))

    -- primary = ["-"] number | TRUE | FALSE | "?" | BOTTOM | TOP | name | name args | "'" name args | "(" expr ")"
    --   | IF expr THEN expr ELSE expr END_IF | LUB "(" expr "," expr ")" | GLB "(" expr "," expr ")"
    --   | FORALL formal ":" expr END_FORALL | EXISTS formal ":" expr END_EXISTS
    abbrev pub primary_line : Lang ExprTree
    primary_line =
        either number_line
        (either constant_line
        (either named_line
        (either new_line
        (either paren_line
        (either if_line
        (either (join_line word_lub true)
        (either (join_line word_glb false)
        (either (quant_line word_forall word_end_forall true)
        (quant_line word_exists word_end_exists false)))))))))

  -- The lines of expressions, with one budget of height.
  pub record Tier : Type 1 where
    pub primary : Lang ExprTree
    pub product : Lang ExprTree
    pub sum : Lang ExprTree
    pub comparison : Lang ExprTree
    pub negation : Lang ExprTree
    pub conjunction : Lang ExprTree
    pub disjunction : Lang ExprTree
    pub implication : Lang ExprTree
    pub expression : Lang ExprTree

  -- Each line, where `below` has one less to spend. A chain leans to the left: its left part is a chain. Implications lean to
  -- the right: the right part of one is an implication.
  module _ (below : Tier) where
    -- product = primary {"*" primary}
    abbrev pub product_line : Lang ExprTree
    product_line = binary at product_ops binary_tree (primary_line below.expression) below.product below.primary

    -- sum = product {("+" | "-") product}
    abbrev pub sum_line : Lang ExprTree
    sum_line = binary at sum_ops binary_tree product_line below.sum below.product

    -- rel = sum [("=" | "~=" | "<" | "<=" | ">" | ">=") sum]
    abbrev pub comparison_line : Lang ExprTree
    comparison_line = binary at comparison_ops binary_tree sum_line below.sum below.sum

    -- not = NOT not | rel
    abbrev pub negation_line : Lang ExprTree
    negation_line = either (made not_tree (behind at word_not below.negation)) comparison_line

    -- and = not {AND not}
    abbrev pub conjunction_line : Lang ExprTree
    conjunction_line = binary at and_ops binary_tree negation_line below.conjunction below.negation

    -- or = and {OR and}
    abbrev pub disjunction_line : Lang ExprTree
    disjunction_line = binary at or_ops binary_tree conjunction_line below.disjunction below.conjunction

    -- implies = or [IMPLIES implies]
    abbrev pub implication_line : Lang ExprTree
    implication_line = binary at implies_ops binary_tree disjunction_line below.disjunction below.implication

    -- expr = implies {IFF implies}
    abbrev pub expression_line : Lang ExprTree
    expression_line = binary at iff_ops binary_tree implication_line below.expression below.implication

  -- the lines within a budget; within none there are no tokens at all, not even the empty list
  abbrev pub tier : ℕ → Tier
  tier zero = record {
    primary = nothing;
    product = nothing;
    sum = nothing;
    comparison = nothing;
    negation = nothing;
    conjunction = nothing;
    disjunction = nothing;
    implication = nothing;
    expression = nothing;
  }
  tier (suc b) = record {
    primary = primary_line (tier b).expression;
    product = product_line (tier b);
    sum = sum_line (tier b);
    comparison = comparison_line (tier b);
    negation = negation_line (tier b);
    conjunction = conjunction_line (tier b);
    disjunction = disjunction_line (tier b);
    implication = implication_line (tier b);
    expression = expression_line (tier b);
  }

  abbrev pub primary : ℕ → Lang ExprTree
  primary b = (tier b).primary

  abbrev pub product : ℕ → Lang ExprTree
  product b = (tier b).product

  abbrev pub sum : ℕ → Lang ExprTree
  sum b = (tier b).sum

  abbrev pub comparison : ℕ → Lang ExprTree
  comparison b = (tier b).comparison

  abbrev pub negation : ℕ → Lang ExprTree
  negation b = (tier b).negation

  abbrev pub conjunction : ℕ → Lang ExprTree
  conjunction b = (tier b).conjunction

  abbrev pub disjunction : ℕ → Lang ExprTree
  disjunction b = (tier b).disjunction

  abbrev pub implication : ℕ → Lang ExprTree
  implication b = (tier b).implication

  abbrev pub expression : ℕ → Lang ExprTree
  expression b = (tier b).expression
