-- In each line of the grammar one token ahead decides, and a larger budget reads no less.
use Rattle.std.proofs.Common.{◌≡◌, ℕ, ℤ, suc, zero, inl, Bool, true, false, IsTrue, List, [], ◌∷◌, ◌++◌, Option, Some, slice_get, refl, sym, ◌∙◌, ap, arith}
use Rattle.sp_text.specs.declared.fault.Span.{Span}
use Rattle.sp_text.specs.declared.token.Token.{Token}
use Rattle.sp_text.specs.declared.token.TokenKind.TheVariants as kind
use Rattle.sp_tree.specs.declared.names.Ident.{Ident}
use Rattle.sp_tree.specs.declared.names.TypeTree.{TypeTree}
use Rattle.sp_tree.specs.declared.names.FormalTree.{FormalTree}
use Rattle.sp_tree.specs.declared.expr.ExprTree.{ExprTree}
use Rattle.sp_tree.specs.declared.expr.ExprNode.{ExprNode}
use Rattle.sp_tree.specs.declared.expr.ExprNode.TheVariants as node
use Rattle.sp_grammar.specs.Lang.{Lang, either, made, behind, apart, binary}
use Rattle.sp_grammar.specs.Codes.{code_at, name_code, number_code, word_boolean, word_integer, word_level, word_if, word_then, word_else, word_end_if, word_forall, word_end_forall, word_exists, word_end_exists, word_not, word_lub, word_glb, word_true, word_false, word_bottom, word_top, left_parenthesis, right_parenthesis, comma, colon, minus, quote, question}
use Rattle.sp_grammar.proofs.Laws.{Fine}
use Rattle.sp_grammar.proofs.Lists.{sub_star, sub_optional, fine_more}
use Rattle.sp_grammar.proofs.Chain.{Sub, sub_refl, sub_seq, sub_either, sub_made, sub_binary, sub_nothing, fine_nothing}
use Rattle.sp_grammar.proofs.Chains.{fine_chain}
use Rattle.sp_grammar.proofs.Pairs.{fine_pair}
use Rattle.sp_grammar.proofs.Productions.{Production, fixed, token_rule, seq_rule, made_rule, either_rule, optional_rule, star_rule, behind_rule, room_rule, sub_room}
use Rattle.sp_expression.specs.Grammar.{at, ident, digits, number_tree, constant_tree, boolean_type, integer_type, level_type, named_type, formal_tree, some_list, args_list, named_tree, new_tree, paren_tree, if_tree, join_tree, quant_tree, not_tree, binary_tree, args, if_line, join_line, quant_line, primary_line, iff_ops, implies_ops, or_ops, and_ops, comparison_ops, sum_ops, product_ops, Tier, tier, primary, product, sum, comparison, negation, conjunction, disjunction, implication, expression}
use Rattle.sp_expression.specs.Contract.{primary_first, expression_first}

-- the tokens that go on behind each form
abbrev pub primary_more : List ℕ
primary_more = left_parenthesis ∷ []

abbrev pub product_more : List ℕ
product_more = product_ops ++ primary_more

abbrev pub sum_more : List ℕ
sum_more = sum_ops ++ product_more

abbrev pub comparison_more : List ℕ
comparison_more = comparison_ops ++ sum_more

abbrev pub conjunction_more : List ℕ
conjunction_more = and_ops ++ comparison_more

abbrev pub disjunction_more : List ℕ
disjunction_more = or_ops ++ conjunction_more

abbrev pub implication_more : List ℕ
implication_more = implies_ops ++ disjunction_more

abbrev pub expression_more : List ℕ
expression_more = iff_ops ++ implication_more

abbrev ident_token : Ident → Token
ident_token v = record { kind = kind.Name v.name; span = v.span }

ident_is : (n m : List ℕ) (s r : Span) → n ≡ m → s ≡ r → ◌≡◌ {A = Ident} (record { name = n; span = s }) (record { name = m; span = r })
ident_is n m s r e f = ap (λ (x : List ℕ). record { name = x; span = s }) e ∙ ap (λ (x : Span). record { name = m; span = x }) f

module _ (ts : List Token) where
  pub ident_code : (v : Ident) (i : ℕ) → slice_get ts i ≡ Some (record { kind = kind.Name v.name; span = v.span }) → at ts i ≡ name_code
  unfolding code_at
  ident_code v i e = rw e refl

  pub number_code_at : (n : ℤ) (s : Span) (i : ℕ) → slice_get ts i ≡ Some (record { kind = kind.Number n; span = s }) → at ts i ≡ number_code
  unfolding code_at
  number_code_at n s i e = rw e refl

  ident_same : (v w : Ident) → Some (ident_token v) ≡ Some (ident_token w) → v ≡ w
  ident_same v w e =
      let f : ident_token v ≡ ident_token w = cc in
      let k : kind.Name v.name ≡ kind.Name w.name = ap (λ (t : Token). t.kind) f in
      let n : v.name ≡ w.name = cc in
      let s : v.span ≡ w.span = ap (λ (t : Token). t.span) f in
      ident_is v.name w.name v.span w.span n s

  digits_same : (n m : ℤ) (s r : Span) → ◌≡◌ {A = Option Token} (Some (record { kind = kind.Number n; span = s })) (Some (record { kind = kind.Number m; span = r })) → n ≡ m
  digits_same n m s r e =
      let f : ◌≡◌ {A = Token} (record { kind = kind.Number n; span = s }) (record { kind = kind.Number m; span = r }) = cc in
      let k : kind.Number n ≡ kind.Number m = ap (λ (t : Token). t.kind) f in
      cc

  pub fine_ident : Fine (at ts) false (name_code ∷ []) [] (ident ts)
  fine_ident = record {
    span = λ v i j w. inl (omega (arith, w.1));
    ahead = λ i m p. omega (arith, p);
    start = λ v i j w h. rw (ident_code v i w.0) refl;
    start_part = λ i m p h. absurd (omega (arith, p));
    closed = λ v i j n w h u. omega (arith, w.1);
    closed_part = λ i m n p h u. absurd (omega (arith, p));
    goes_on = λ v w i j m p q h. absurd (omega (arith, p.1, q.1));
    goes_on_part = λ v i j m p q h. absurd (omega (arith, p.1, q));
    same = λ v w i j p q. ident_same v w (sym p.0 ∙ q.0);
  }

  pub fine_digits : Fine (at ts) false (number_code ∷ []) [] (digits ts)
  fine_digits = record {
    span = λ v i j w. inl (omega (arith, w.1));
    ahead = λ i m p. omega (arith, p);
    start = λ v i j w h. rw (number_code_at v w.0.0 i w.0.1) refl;
    start_part = λ i m p h. absurd (omega (arith, p));
    closed = λ v i j n w h u. omega (arith, w.1);
    closed_part = λ i m n p h u. absurd (omega (arith, p));
    goes_on = λ v w i j m p q h. absurd (omega (arith, p.1, q.1));
    goes_on_part = λ v i j m p q h. absurd (omega (arith, p.1, q));
    same = λ v w i j p q. digits_same v w p.0.0 q.0.0 (sym p.0.1 ∙ q.0.1);
  }

  abbrev pub token_at : ℕ → Production (at ts) (Unit {0})
  token_at c = token_rule (at ts) c

  abbrev pub ident_rule : Production (at ts) Ident
  ident_rule = fixed (at ts) false (name_code ∷ []) [] (ident ts) fine_ident

  abbrev pub digits_rule : Production (at ts) ℤ
  digits_rule = fixed (at ts) false (number_code ∷ []) [] (digits ts) fine_digits

  abbrev pub sign_rule : Production (at ts) (Option (Unit {0}))
  sign_rule = optional_rule (at ts) (token_at minus) refl

  abbrev pub number_rule : Production (at ts) ExprTree
  number_rule = made_rule (at ts) (number_tree ts) (seq_rule (at ts) sign_rule digits_rule refl)

  abbrev pub constant_rule : ℕ → ExprNode → Production (at ts) ExprTree
  constant_rule c n = made_rule (at ts) (constant_tree ts n) (token_at c)

  abbrev pub constants_4 : Production (at ts) ExprTree
  constants_4 = either_rule (at ts) (constant_rule word_bottom node.Bottom) (constant_rule word_top node.Top) refl refl refl

  abbrev pub constants_3 : Production (at ts) ExprTree
  constants_3 = either_rule (at ts) (constant_rule question node.Unknown) constants_4 refl refl refl

  abbrev pub constants_2 : Production (at ts) ExprTree
  constants_2 = either_rule (at ts) (constant_rule word_false (node.Truth false)) constants_3 refl refl refl

  abbrev pub constants_rule : Production (at ts) ExprTree
  constants_rule = either_rule (at ts) (constant_rule word_true (node.Truth true)) constants_2 refl refl refl

  abbrev pub boolean_rule : Production (at ts) TypeTree
  boolean_rule = made_rule (at ts) (boolean_type ts) (token_at word_boolean)

  abbrev pub integer_rule : Production (at ts) TypeTree
  integer_rule = made_rule (at ts) (integer_type ts) (token_at word_integer)

  abbrev pub level_rule : Production (at ts) TypeTree
  level_rule = made_rule (at ts) (level_type ts) (token_at word_level)

  abbrev pub named_type_rule : Production (at ts) TypeTree
  named_type_rule = made_rule (at ts) (named_type ts) ident_rule

  abbrev pub types_3 : Production (at ts) TypeTree
  types_3 = either_rule (at ts) level_rule named_type_rule refl refl refl

  abbrev pub types_2 : Production (at ts) TypeTree
  types_2 = either_rule (at ts) integer_rule types_3 refl refl refl

  abbrev pub type_rule : Production (at ts) TypeTree
  type_rule = either_rule (at ts) boolean_rule types_2 refl refl refl

  abbrev pub formal_rule : Production (at ts) FormalTree
  formal_rule = made_rule (at ts) (formal_tree ts) (seq_rule (at ts) type_rule ident_rule refl)

  -- expressions, with their laws
  pub record Exprs : Type 1 where
    pub form : ℕ → Lang ExprTree
    pub fine : (b : ℕ) → Fine (at ts) false expression_first expression_more (form b)
    pub grows : (b : ℕ) → Sub (form b) (form (suc b))

  -- the lines of primaries over expressions
  module _ (x : Exprs) where
    abbrev pub expr_rule : Production (at ts) ExprTree
    expr_rule = record { null = false; first = expression_first; more = expression_more; form = x.form; fine = x.fine; grows = x.grows }

    abbrev pub behind_expr : ℕ → Production (at ts) ExprTree
    behind_expr c = behind_rule (at ts) c expr_rule

    abbrev pub rest_rule : Production (at ts) (List ExprTree)
    rest_rule = star_rule (at ts) (behind_expr comma) refl refl

    abbrev pub some_rule : Production (at ts) (List ExprTree)
    some_rule = made_rule (at ts) (some_list ts) (seq_rule (at ts) expr_rule rest_rule refl)

    abbrev pub list_rule : Production (at ts) (Option (List ExprTree))
    list_rule = optional_rule (at ts) some_rule refl

    abbrev pub list_end : Production (at ts) (Option (List ExprTree) × Unit {0})
    list_end = seq_rule (at ts) list_rule (token_at right_parenthesis) refl

    abbrev pub args_rule : Production (at ts) (List ExprTree)
    args_rule = made_rule (at ts) (args_list ts) (seq_rule (at ts) (token_at left_parenthesis) list_end refl)

    abbrev pub given_args : Production (at ts) (Option (List ExprTree))
    given_args = optional_rule (at ts) args_rule refl

    abbrev pub named_rule : Production (at ts) ExprTree
    named_rule = made_rule (at ts) (named_tree ts) (seq_rule (at ts) ident_rule given_args refl)

    abbrev pub new_end : Production (at ts) (Ident × List ExprTree)
    new_end = seq_rule (at ts) ident_rule args_rule refl

    abbrev pub new_rule : Production (at ts) ExprTree
    new_rule = made_rule (at ts) (new_tree ts) (seq_rule (at ts) (token_at quote) new_end refl)

    abbrev pub paren_rule : Production (at ts) ExprTree
    paren_rule = made_rule (at ts) (paren_tree ts) (seq_rule (at ts) (behind_expr left_parenthesis) (token_at right_parenthesis) refl)

    abbrev pub else_end : Production (at ts) (ExprTree × Unit {0})
    else_end = seq_rule (at ts) (behind_expr word_else) (token_at word_end_if) refl

    abbrev pub then_end : Production (at ts) (ExprTree × (ExprTree × Unit {0}))
    then_end = seq_rule (at ts) (behind_expr word_then) else_end refl

    abbrev pub if_rule : Production (at ts) ExprTree
    if_rule = made_rule (at ts) (if_tree ts) (seq_rule (at ts) (behind_expr word_if) then_end refl)

    abbrev pub second_end : Production (at ts) (ExprTree × Unit {0})
    second_end = seq_rule (at ts) (behind_expr comma) (token_at right_parenthesis) refl

    abbrev pub both_end : Production (at ts) (ExprTree × (ExprTree × Unit {0}))
    both_end = seq_rule (at ts) (behind_expr left_parenthesis) second_end refl

    abbrev pub join_end : Production (at ts) (Unit {0} × (ExprTree × (ExprTree × Unit {0})))
    join_end = seq_rule (at ts) (room_rule (at ts) expr_rule) both_end refl

    abbrev pub join_rule : ℕ → Bool → Production (at ts) ExprTree
    join_rule c lub = made_rule (at ts) (join_tree ts lub) (seq_rule (at ts) (token_at c) join_end refl)

    -- a token that closes doesn't go on with an expression
    module _ (c close : ℕ) (forall : Bool) (clear : IsTrue (apart expression_more (close ∷ []))) where
      abbrev pub body_end : Production (at ts) (ExprTree × Unit {0})
      body_end = seq_rule (at ts) (behind_expr colon) (token_at close) clear

      abbrev pub bound_end : Production (at ts) (FormalTree × (ExprTree × Unit {0}))
      bound_end = seq_rule (at ts) formal_rule body_end refl

      abbrev pub quant_end : Production (at ts) (Unit {0} × (FormalTree × (ExprTree × Unit {0})))
      quant_end = seq_rule (at ts) (room_rule (at ts) expr_rule) bound_end refl

      abbrev pub quant_rule : Production (at ts) ExprTree
      quant_rule = made_rule (at ts) (quant_tree ts forall) (seq_rule (at ts) (token_at c) quant_end refl)

    abbrev pub forall_rule : Production (at ts) ExprTree
    forall_rule = quant_rule word_forall word_end_forall true refl

    abbrev pub exists_rule : Production (at ts) ExprTree
    exists_rule = quant_rule word_exists word_end_exists false refl

    -- the choices of a primary, from the last one on
    abbrev pub primary_9 : Production (at ts) ExprTree
    primary_9 = either_rule (at ts) forall_rule exists_rule refl refl refl

    abbrev pub primary_8 : Production (at ts) ExprTree
    primary_8 = either_rule (at ts) (join_rule word_glb false) primary_9 refl refl refl

    abbrev pub primary_7 : Production (at ts) ExprTree
    primary_7 = either_rule (at ts) (join_rule word_lub true) primary_8 refl refl refl

    abbrev pub primary_6 : Production (at ts) ExprTree
    primary_6 = either_rule (at ts) if_rule primary_7 refl refl refl

    abbrev pub primary_5 : Production (at ts) ExprTree
    primary_5 = either_rule (at ts) paren_rule primary_6 refl refl refl

    abbrev pub primary_4 : Production (at ts) ExprTree
    primary_4 = either_rule (at ts) new_rule primary_5 refl refl refl

    abbrev pub primary_3 : Production (at ts) ExprTree
    primary_3 = either_rule (at ts) named_rule primary_4 refl refl refl

    abbrev pub primary_2 : Production (at ts) ExprTree
    primary_2 = either_rule (at ts) constants_rule primary_3 refl refl refl

    abbrev pub primary_rule : Production (at ts) ExprTree
    primary_rule = either_rule (at ts) number_rule primary_2 refl refl refl

  pub record FineTier (t : Tier ts) : Type 0 where
    pub primary : Fine (at ts) false primary_first primary_more t.primary
    pub product : Fine (at ts) false primary_first product_more t.product
    pub sum : Fine (at ts) false primary_first sum_more t.sum
    pub comparison : Fine (at ts) false primary_first comparison_more t.comparison
    pub negation : Fine (at ts) false expression_first comparison_more t.negation
    pub conjunction : Fine (at ts) false expression_first conjunction_more t.conjunction
    pub disjunction : Fine (at ts) false expression_first disjunction_more t.disjunction
    pub implication : Fine (at ts) false expression_first implication_more t.implication
    pub expression : Fine (at ts) false expression_first expression_more t.expression

  pub record SubTier (t u : Tier ts) : Type 0 where
    pub primary : Sub t.primary u.primary
    pub product : Sub t.product u.product
    pub sum : Sub t.sum u.sum
    pub comparison : Sub t.comparison u.comparison
    pub negation : Sub t.negation u.negation
    pub conjunction : Sub t.conjunction u.conjunction
    pub disjunction : Sub t.disjunction u.disjunction
    pub implication : Sub t.implication u.implication
    pub expression : Sub t.expression u.expression

  -- a line of one budget, by its rule at that budget alone
  abbrev at_budget : (e : Lang ExprTree) → Fine (at ts) false expression_first expression_more e → Exprs
  at_budget e f = record { form = λ b. e; fine = λ b. f; grows = λ b. sub_refl e }

  sub_behind : (c : ℕ) (e f : Lang ExprTree) → Sub e f → Sub (behind (at ts) c e) (behind (at ts) c f)
  sub_behind c e f s = sub_made _ _ _ (sub_seq _ _ _ _ (sub_refl _) s)

  fine_primary : (e : Lang ExprTree) → Fine (at ts) false expression_first expression_more e → Fine (at ts) false primary_first primary_more (primary_line ts e)
  fine_primary e f = (primary_rule (at_budget e f)).fine 0

  sub_args : (e f : Lang ExprTree) → Sub e f → Sub (args ts e) (args ts f)
  sub_args e f s = sub_made _ _ _ (sub_seq _ _ _ _ (sub_refl _) (sub_seq _ _ _ _ (sub_optional _ _ (sub_made _ _ _ (sub_seq _ _ _ _ s (sub_star _ _ (sub_behind comma e f s))))) (sub_refl _)))

  sub_join : (c : ℕ) (lub : Bool) (e f : Lang ExprTree) → Sub e f → Sub (join_line ts e c lub) (join_line ts f c lub)
  sub_join c lub e f s = sub_made _ _ _ (sub_seq _ _ _ _ (sub_refl _) (sub_seq _ _ _ _ (sub_room e f s) (sub_seq _ _ _ _ (sub_behind left_parenthesis e f s) (sub_seq _ _ _ _ (sub_behind comma e f s) (sub_refl _)))))

  sub_quant : (c close : ℕ) (forall : Bool) (e f : Lang ExprTree) → Sub e f → Sub (quant_line ts e c close forall) (quant_line ts f c close forall)
  sub_quant c close forall e f s = sub_made _ _ _ (sub_seq _ _ _ _ (sub_refl _) (sub_seq _ _ _ _ (sub_room e f s) (sub_seq _ _ _ _ (sub_refl _) (sub_seq _ _ _ _ (sub_behind colon e f s) (sub_refl _)))))

  sub_if : (e f : Lang ExprTree) → Sub e f → Sub (if_line ts e) (if_line ts f)
  sub_if e f s = sub_made _ _ _ (sub_seq _ _ _ _ (sub_behind word_if e f s) (sub_seq _ _ _ _ (sub_behind word_then e f s) (sub_seq _ _ _ _ (sub_behind word_else e f s) (sub_refl _))))

  sub_primary : (e f : Lang ExprTree) → Sub e f → Sub (primary_line ts e) (primary_line ts f)
  sub_primary e f s =
      sub_either _ _ _ _ (sub_refl _)
      (sub_either _ _ _ _ (sub_refl _)
      (sub_either _ _ _ _ (sub_made _ _ _ (sub_seq _ _ _ _ (sub_refl _) (sub_optional _ _ (sub_args e f s))))
      (sub_either _ _ _ _ (sub_made _ _ _ (sub_seq _ _ _ _ (sub_refl _) (sub_seq _ _ _ _ (sub_refl _) (sub_args e f s))))
      (sub_either _ _ _ _ (sub_made _ _ _ (sub_seq _ _ _ _ (sub_behind left_parenthesis e f s) (sub_refl _)))
      (sub_either _ _ _ _ (sub_if e f s)
      (sub_either _ _ _ _ (sub_join word_lub true e f s)
      (sub_either _ _ _ _ (sub_join word_glb false e f s)
      (sub_either _ _ _ _ (sub_quant word_forall word_end_forall true e f s)
      (sub_quant word_exists word_end_exists false e f s)))))))))

  sub_bin : (ops : List ℕ) (f g l m r s : Lang ExprTree) → Sub f g → Sub l m → Sub r s → Sub (binary (at ts) ops (binary_tree ts) f l r) (binary (at ts) ops (binary_tree ts) g m s)
  sub_bin ops f g l m r s x y z = sub_binary (at ts) ops (binary_tree ts) f g l m r s x y z

  above : (b : ℕ) → SubTier (tier ts b) (tier ts (suc b)) → SubTier (tier ts (suc b)) (tier ts (suc (suc b)))
  above b s =
      let t = tier ts b in
      let u = tier ts (suc b) in
      let p = sub_primary t.expression u.expression s.expression in
      let q = sub_bin product_ops _ _ _ _ _ _ p s.product s.primary in
      let r = sub_bin sum_ops _ _ _ _ _ _ q s.sum s.product in
      let c = sub_bin comparison_ops _ _ _ _ _ _ r s.sum s.sum in
      let n = sub_either _ _ _ _ (sub_made (not_tree ts) _ _ (sub_behind word_not t.negation u.negation s.negation)) c in
      let a = sub_bin and_ops _ _ _ _ _ _ n s.conjunction s.negation in
      let o = sub_bin or_ops _ _ _ _ _ _ a s.disjunction s.conjunction in
      let i = sub_bin implies_ops _ _ _ _ _ _ o s.disjunction s.implication in
      let e = sub_bin iff_ops _ _ _ _ _ _ i s.expression s.implication in
      record { primary = p; product = q; sum = r; comparison = c; negation = n; conjunction = a; disjunction = o; implication = i; expression = e }

  pub grows : (b : ℕ) → SubTier (tier ts b) (tier ts (suc b))
  grows zero = record { primary = sub_nothing _; product = sub_nothing _; sum = sub_nothing _; comparison = sub_nothing _; negation = sub_nothing _; conjunction = sub_nothing _; disjunction = sub_nothing _; implication = sub_nothing _; expression = sub_nothing _ }
  grows (suc b) = above b (grows b)

  -- not = NOT not | rel
  abbrev pub not_rule : (n : Production (at ts) ExprTree) → Production (at ts) ExprTree
  not_rule n = made_rule (at ts) (not_tree ts) (behind_rule (at ts) word_not n)

  fine_not : (n : Lang ExprTree) → Fine (at ts) false expression_first comparison_more n → (c : Lang ExprTree) → Fine (at ts) false primary_first comparison_more c
      → Fine (at ts) false expression_first comparison_more (either (made (not_tree ts) (behind (at ts) word_not n)) c)
  fine_not n F c G = fine_more (at ts) false expression_first (comparison_more ++ comparison_more) expression_first comparison_more _ refl refl
      ((either_rule (at ts) (not_rule (fixed (at ts) false expression_first comparison_more n F)) (fixed (at ts) false primary_first comparison_more c G) refl refl refl).fine 0)

  fine_above : (b : ℕ) → FineTier (tier ts b) → FineTier (tier ts (suc b))
  fine_above b f =
      let p = fine_primary (expression ts b) f.expression in
      let q = fine_chain (at ts) product_ops (binary_tree ts) primary_first primary_more product_more (primary ts) (product ts) refl refl refl refl (λ d. sub_refl _) (λ d. sub_refl _) (sub_refl _) (λ d. (grows d).primary) (λ d. (grows d).product) b p f.primary f.product in
      let r = fine_chain (at ts) sum_ops (binary_tree ts) primary_first product_more sum_more (product ts) (sum ts) refl refl refl refl (λ d. sub_refl _) (λ d. sub_refl _) (sub_refl _) (λ d. (grows d).product) (λ d. (grows d).sum) b q f.product f.sum in
      let c = fine_pair (at ts) comparison_ops (binary_tree ts) primary_first sum_more sum_more (sum ts (suc b)) (sum ts b) (sum ts b) r (grows b).sum (λ v i j n w h u. (grows b).sum.part i n (f.sum.closed v i j n w h u)) f.sum refl comparison_more refl refl in
      let n = fine_not (negation ts b) f.negation (comparison ts (suc b)) c in
      let a = fine_chain (at ts) and_ops (binary_tree ts) expression_first comparison_more conjunction_more (negation ts) (conjunction ts) refl refl refl refl (λ d. sub_refl _) (λ d. sub_refl _) (sub_refl _) (λ d. (grows d).negation) (λ d. (grows d).conjunction) b n f.negation f.conjunction in
      let o = fine_chain (at ts) or_ops (binary_tree ts) expression_first conjunction_more disjunction_more (conjunction ts) (disjunction ts) refl refl refl refl (λ d. sub_refl _) (λ d. sub_refl _) (sub_refl _) (λ d. (grows d).conjunction) (λ d. (grows d).disjunction) b a f.conjunction f.disjunction in
      let i = fine_pair (at ts) implies_ops (binary_tree ts) expression_first disjunction_more implication_more (disjunction ts (suc b)) (disjunction ts b) (implication ts b) o (grows b).disjunction (λ v i j n w h u. (grows b).disjunction.part i n (f.disjunction.closed v i j n w h u)) f.implication refl implication_more refl refl in
      let e = fine_chain (at ts) iff_ops (binary_tree ts) expression_first implication_more expression_more (implication ts) (expression ts) refl refl refl refl (λ d. sub_refl _) (λ d. sub_refl _) (sub_refl _) (λ d. (grows d).implication) (λ d. (grows d).expression) b i f.implication f.expression in
      record { primary = p; product = q; sum = r; comparison = c; negation = n; conjunction = a; disjunction = o; implication = i; expression = e }

  pub fine : (b : ℕ) → FineTier (tier ts b)
  fine zero = record { primary = fine_nothing _ _ _ _; product = fine_nothing _ _ _ _; sum = fine_nothing _ _ _ _; comparison = fine_nothing _ _ _ _; negation = fine_nothing _ _ _ _; conjunction = fine_nothing _ _ _ _; disjunction = fine_nothing _ _ _ _; implication = fine_nothing _ _ _ _; expression = fine_nothing _ _ _ _ }
  fine (suc b) = fine_above b (fine b)

  -- expressions within each budget
  abbrev pub exprs : Exprs
  exprs = record { form = expression ts; fine = λ b. (fine b).expression; grows = λ b. (grows b).expression }
