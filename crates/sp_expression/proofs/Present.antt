-- No viable prefix of an expression goes past the end of the text.
use Rattle.std.proofs.Common.{◌≡◌, ℕ, zero, suc, ◌<◌, ◌≤◌, inl, inr, Bool, true, false, IsTrue, List, length, sym, ◌∙◌, arith}
use Rattle.std.proofs.lemmas.Bool.{cases_lt}
use Rattle.sp_text.specs.declared.token.Token.{Token}
use Rattle.sp_tree.specs.declared.expr.ExprTree.{ExprTree}
use Rattle.sp_tree.specs.declared.expr.ExprNode.{ExprNode}
use Rattle.sp_grammar.specs.Lang.{Lang, Prefix, behind, binary, has}
use Rattle.sp_grammar.specs.Codes.{word_if, word_then, word_else, word_lub, word_glb, word_forall, word_end_forall, word_exists, word_end_exists, word_not, left_parenthesis, comma, colon}
use Rattle.sp_grammar.proofs.Present.{Present, present_prefix, present_nothing, one_there, present_token, present_seq, present_either, present_made, present_star, present_optional, present_room, present_binary}
use Rattle.sp_expression.specs.Grammar.{at, ident, digits, constant, args, if_line, join_line, quant_line, primary_line, type_line, formal_line, binary_tree, not_tree, product_ops, sum_ops, comparison_ops, and_ops, or_ops, implies_ops, iff_ops, Tier, tier, expression}
use Rattle.sp_expression.proofs.Decisions.{end_code}
use Rattle.sp_expression.proofs.Laws.{ident_code, number_code_at}

module _ (ts : List Token) where
  abbrev Here : {V : Type 0} → Lang V → Type 0
  Here L = Present (at ts) L

  here_ident : Here (ident ts)
  here_ident = record {
    whole = λ v i j w k l u. one_there (at ts) i j k (λ z. let e = sym (ident_code ts v i w.0) ∙ z in absurd cc) w.1 l u;
    part = λ i m p k l u. absurd (omega (arith, p));
  }

  here_digits : Here (digits ts)
  here_digits = record {
    whole = λ v i j w k l u. one_there (at ts) i j k (λ z. let e = sym (number_code_at ts v w.0.0 i w.0.1) ∙ z in absurd cc) w.1 l u;
    part = λ i m p k l u. absurd (omega (arith, p));
  }

  there : (c : ℕ) → (c ≡ 0 → ⊥) → {V : Type 0} (e : Lang V) → Here e → Here (behind (at ts) c e)
  there c n e E = present_made _ _ _ (present_seq _ _ _ (present_token _ c n) E)

  here_type : Here (type_line ts)
  here_type =
      present_either _ _ _ (present_made _ _ _ (present_token _ _ (λ z. cc)))
      (present_either _ _ _ (present_made _ _ _ (present_token _ _ (λ z. cc)))
      (present_either _ _ _ (present_made _ _ _ (present_token _ _ (λ z. cc))) (present_made _ _ _ here_ident)))

  constant_here : (c : ℕ) (n : ExprNode) → (c ≡ 0 → ⊥) → Here (constant ts c n)
  constant_here c n z = present_made _ _ _ (present_token _ c z)

  module _ (e : Lang ExprTree) (E : Here e) where
    here_args : Here (args ts e)
    here_args = present_made _ _ _ (present_seq _ _ _ (present_token _ _ (λ z. cc)) (present_seq _ _ _ (present_optional _ _ (present_made _ _ _ (present_seq _ _ _ E (present_star _ _ (there comma (λ z. cc) e E))))) (present_token _ _ (λ z. cc))))

    here_join : (c : ℕ) (lub : Bool) → (c ≡ 0 → ⊥) → Here (join_line ts e c lub)
    here_join c lub n = present_made _ _ _ (present_seq _ _ _ (present_token _ c n) (present_seq _ _ _ (present_room _ e) (present_seq _ _ _ (there left_parenthesis (λ z. cc) e E) (present_seq _ _ _ (there comma (λ z. cc) e E) (present_token _ _ (λ z. cc))))))

    here_quant : (c close : ℕ) (forall : Bool) → (c ≡ 0 → ⊥) → (close ≡ 0 → ⊥) → Here (quant_line ts e c close forall)
    here_quant c close forall n m = present_made _ _ _ (present_seq _ _ _ (present_token _ c n) (present_seq _ _ _ (present_room _ e)
        (present_seq _ _ _ (present_made _ _ _ (present_seq _ _ _ here_type here_ident)) (present_seq _ _ _ (there colon (λ z. cc) e E) (present_token _ close m)))))

    here_if : Here (if_line ts e)
    here_if = present_made _ _ _ (present_seq _ _ _ (there word_if (λ z. cc) e E) (present_seq _ _ _ (there word_then (λ z. cc) e E) (present_seq _ _ _ (there word_else (λ z. cc) e E) (present_token _ _ (λ z. cc)))))

    here_primary : Here (primary_line ts e)
    here_primary =
        present_either _ _ _ (present_made _ _ _ (present_seq _ _ _ (present_optional _ _ (present_token _ _ (λ z. cc))) here_digits))
        (present_either _ _ _ (present_either _ _ _ (constant_here _ _ (λ z. cc)) (present_either _ _ _ (constant_here _ _ (λ z. cc)) (present_either _ _ _ (constant_here _ _ (λ z. cc)) (present_either _ _ _ (constant_here _ _ (λ z. cc)) (constant_here _ _ (λ z. cc))))))
        (present_either _ _ _ (present_made _ _ _ (present_seq _ _ _ here_ident (present_optional _ _ here_args)))
        (present_either _ _ _ (present_made _ _ _ (present_seq _ _ _ (present_token _ _ (λ z. cc)) (present_seq _ _ _ here_ident here_args)))
        (present_either _ _ _ (present_made _ _ _ (present_seq _ _ _ (there left_parenthesis (λ z. cc) e E) (present_token _ _ (λ z. cc))))
        (present_either _ _ _ here_if
        (present_either _ _ _ (here_join word_lub true (λ z. cc))
        (present_either _ _ _ (here_join word_glb false (λ z. cc))
        (present_either _ _ _ (here_quant word_forall word_end_forall true (λ z. cc) (λ z. cc)) (here_quant word_exists word_end_exists false (λ z. cc) (λ z. cc))))))))))

  record HereTier (t : Tier ts) : Type 0 where
    primary : Here t.primary
    product : Here t.product
    sum : Here t.sum
    comparison : Here t.comparison
    negation : Here t.negation
    conjunction : Here t.conjunction
    disjunction : Here t.disjunction
    implication : Here t.implication
    expression : Here t.expression

  here_bin : (ops : List ℕ) (f l r : Lang ExprTree) → (IsTrue (has ops 0) → ⊥) → Here f → Here l → Here r → Here (binary (at ts) ops (binary_tree ts) f l r)
  here_bin ops f l r n F L R = present_binary (at ts) ops (binary_tree ts) f l r n F L R

  here_tier : (b : ℕ) → HereTier (tier ts b)
  here_tier zero = record { primary = present_nothing _; product = present_nothing _; sum = present_nothing _; comparison = present_nothing _; negation = present_nothing _; conjunction = present_nothing _; disjunction = present_nothing _; implication = present_nothing _; expression = present_nothing _ }
  here_tier (suc b) =
      let s = here_tier b in
      let p = here_primary _ s.expression in
      let q = here_bin product_ops _ _ _ (λ h. cc) p s.product s.primary in
      let r = here_bin sum_ops _ _ _ (λ h. cc) q s.sum s.product in
      let c = here_bin comparison_ops _ _ _ (λ h. cc) r s.sum s.sum in
      let n = present_either _ _ _ (present_made _ _ _ (there word_not (λ z. cc) _ s.negation)) c in
      let a = here_bin and_ops _ _ _ (λ h. cc) n s.conjunction s.negation in
      let o = here_bin or_ops _ _ _ (λ h. cc) a s.disjunction s.conjunction in
      let i = here_bin implies_ops _ _ _ (λ h. cc) o s.disjunction s.implication in
      let e = here_bin iff_ops _ _ _ (λ h. cc) i s.expression s.implication in
      record { primary = p; product = q; sum = r; comparison = c; negation = n; conjunction = a; disjunction = o; implication = i; expression = e }

  pub in_text : (b i n : ℕ) → Prefix (expression ts b) i (suc n) → i ≤ n → n < length ts
  in_text b i n p u = elim (cases_lt n (length ts)) [
    | inl lt ↦ lt
    | inr ge ↦ absurd (present_prefix (at ts) (expression ts b) (here_tier b).expression i (suc n) p n u (omega arith) (end_code ts n ge))
  ]
