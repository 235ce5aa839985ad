-- What each step of the reader of expressions means.
use Rattle.std.proofs.Common.{◌≡◌, ℕ, ℤ, suc, zero, max, ◌<◌, ◌≤◌, inl, inr, Bool, true, false, IsTrue, List, [], ◌∷◌, ◌++◌, Some, None, slice_get, refl, sym, ap, subst, arith}
use Rattle.sp_text.specs.declared.fault.Span.{Span}
use Rattle.sp_text.specs.declared.token.Token.{Token}
use Rattle.sp_text.specs.declared.token.TokenKind.TheVariants as kind
use Rattle.sp_tree.specs.declared.names.Ident.{Ident}
use Rattle.sp_tree.specs.declared.names.FormalTree.{FormalTree}
use Rattle.sp_tree.specs.declared.expr.ExprTree.{ExprTree}
use Rattle.sp_grammar.specs.Lang.{Lang, Prefix, seq, either, made, token, behind, room, has, apart, Measures, Stops, Exceeds, Refusal, stops, exceeds, place, Refuses}
use Rattle.sp_grammar.specs.Codes.{name_code, number_code, word_if, word_then, word_else, word_end_if, word_not, left_parenthesis, right_parenthesis, comma, colon, minus, quote, question, word_true, word_false, word_bottom, word_top}
use Rattle.sp_grammar.proofs.Tokens.{name_there, number_there}
use Rattle.sp_tree.specs.declared.expr.ExprNode.TheVariants as node
use Rattle.sp_grammar.proofs.Laws.{Fine, apart-has, has-cons, has-split}
use Rattle.sp_grammar.proofs.Chain.{Sub, sub_refl, sub_nothing, sub_prefix}
use Rattle.sp_grammar.proofs.Lists.{Many, none, one_more, all_read}
use Rattle.sp_grammar.proofs.Refusals.{refuses_made, refuses_item}
use Rattle.sp_grammar.proofs.Productions.{Production, lower_rule, room_rule}
use Rattle.sp_grammar.proofs.Inside.{Inside, itself, as_same, under, of_made, of_lower, of_left, of_right, past, broken, past_token, blocked, last_token, no_last, omitted, given, given_refuses, room_reads, none_begins, closed_reads, at_any, other, only, none_of}
use Rattle.sp_expression.specs.Contract.{primary_first, expression_first, constant_first, join_code, quant_code, close_code}
use Rattle.sp_expression.specs.Grammar.{at, ident, tree, named_tree, new_tree, paren_tree, if_tree, join_tree, quant_tree, not_tree, some_list, args_list, number_line, constant_line, formal_line, args, primary, comparison, negation, expression}
use Rattle.sp_expression.proofs.Laws.{comparison_more, expression_more, fine, grows, exprs, expr_rule, token_at, ident_rule, fine_ident, number_code_at, number_rule, constants_rule, formal_rule, behind_expr, rest_rule, some_rule, list_rule, list_end, args_rule, given_args, named_rule, new_end, new_rule, paren_rule, else_end, then_end, if_rule, second_end, both_end, join_end, join_rule, body_end, bound_end, quant_end, quant_rule, forall_rule, exists_rule, primary_2, primary_3, primary_4, primary_5, primary_6, primary_7, primary_8, primary_9, primary_rule, not_rule}

module _ (ts : List Token) where
  abbrev A : ℕ → ℕ
  A = at ts

  -- the empty list, where the budget leaves room
  pub empty_expr : (d n : ℕ) → (expression ts (suc d)).part n n
  empty_expr d n = inl (inl (inl (inl (inl (inl refl)))))

  abbrev pub Behind : ℕ → ℕ → Lang ExprTree
  Behind c d = behind A c (expression ts d)

  abbrev pub Args : ℕ → Lang (List ExprTree)
  Args d = args ts (expression ts d)

  -- an expression behind a token

  module _ (c b i : ℕ) where
    on_behind : Inside (λ d. seq (token A c) (expression ts d)) b i (Behind c) b i (λ w j. w.1) (λ h. h)
    on_behind = of_made (Behind c) b i b i (λ w j. w) (λ h. h) (λ (p : Unit {0} × ExprTree) (i : ℕ) (j : ℕ). p.1) (λ d. seq (token A c) (expression ts d)) (itself (Behind c) b i)

    pub not_behind : (A i ≡ c → ⊥) → Stops (Behind c) b i i
    not_behind ne = made_stops_here (token_first ne)
      where
        token_first : (A i ≡ c → ⊥) → Stops (λ d. seq (token A c) (expression ts d)) b i i
        token_first ne = record {
          so_far = inl (inl refl);
          front = λ d m p. elim p [
            | inl q ↦ elim q [ inl x ↦ omega (arith, x) | inr (a, k, w, x) ↦ absurd (ne w.0) ]
            | inr (v, (k, w, x)) ↦ absurd (ne w.0)
          ];
          not_whole = λ d v w. ne w.1.0;
        }

        made_stops_here : Stops (λ d. seq (token A c) (expression ts d)) b i i → Stops (Behind c) b i i
        made_stops_here S = on_behind.refuses (stops i) S

    module _ (o : A i ≡ c) where
      pub behind_high : b ≡ 0 → Exceeds (Behind c) b i i
      behind_high e = blocked A c (expr_rule ts (exprs ts)) (Behind c) b i b i _ _ on_behind o (λ m. subst (λ z. Prefix (expression ts z) (suc i) m → ⊥) (sym e) (none_at m)) (1, inl (empty_expr 0 (suc i)))
        where
          none_at : (m : ℕ) → Prefix (expression ts 0) (suc i) m → ⊥
          none_at m (inl p) = p
          none_at m (inr p) = p.1

      pub behind_passes : (s : ℕ) → s ≡ suc i → Inside (expression ts) b s (Behind c) b i (λ w j. w) (λ h. h)
      behind_passes s e = past_token A c (expr_rule ts (exprs ts)) (Behind c) b i b i _ _ on_behind s e o

  -- an expression has some height
  pub some_height : (c b h i j : ℕ) (v : ExprTree) → Measures (Behind c) b v h i j → 1 ≤ h
  some_height c b zero i j v M = absurd (never M.whole)
    where
      never : (Behind c 0).whole v i j → ⊥
      never (p, e, (k, w, x)) = x
  some_height c b (suc h) i j v M = omega arith

  pub quant_clear : (forall : Bool) → IsTrue (apart expression_more (close_code forall ∷ []))
  quant_clear true = refl
  quant_clear false = refl

  -- the choices of a primary

  module _ (b c i : ℕ) (e : c ≡ suc b) where
    abbrev In : Production A ExprTree → Type 0
    In f = Inside f.form b i (primary ts) c i (λ w j. w) suc

    in_1 : In (primary_rule ts (exprs ts))
    in_1 = under (primary_rule ts (exprs ts)).form (primary ts) (λ d. sub_refl _) (λ d. sub_refl _) (sub_refl _) b c i e

    module _ (x : ℕ) (o : A i ≡ x) where
      step_2 : (IsTrue (has (number_rule ts).first x) → ⊥) → In (primary_2 ts (exprs ts))
      step_2 n = of_right A (primary ts) b i c i (λ w j. w) suc (number_rule ts) (primary_2 ts (exprs ts)) refl refl (other A (number_rule ts).first x i o n) in_1

      in_3 : (IsTrue (has (number_rule ts).first x) → ⊥) → (IsTrue (has constant_first x) → ⊥) → In (primary_3 ts (exprs ts))
      in_3 n m = of_right A (primary ts) b i c i (λ w j. w) suc (constants_rule ts) (primary_3 ts (exprs ts)) refl refl (other A (constants_rule ts).first x i o m) (step_2 n)

      in_4 : (IsTrue (has (number_rule ts).first x) → ⊥) → (IsTrue (has constant_first x) → ⊥) → (IsTrue (has (name_code ∷ []) x) → ⊥) → In (primary_4 ts (exprs ts))
      in_4 n m p = of_right A (primary ts) b i c i (λ w j. w) suc (named_rule ts (exprs ts)) (primary_4 ts (exprs ts)) refl refl (other A (named_rule ts (exprs ts)).first x i o p) (in_3 n m)

      in_5 : (IsTrue (has (number_rule ts).first x) → ⊥) → (IsTrue (has constant_first x) → ⊥) → (IsTrue (has (name_code ∷ []) x) → ⊥) → (IsTrue (has (quote ∷ []) x) → ⊥) → In (primary_5 ts (exprs ts))
      in_5 n m p q = of_right A (primary ts) b i c i (λ w j. w) suc (new_rule ts (exprs ts)) (primary_5 ts (exprs ts)) refl refl (other A (new_rule ts (exprs ts)).first x i o q) (in_4 n m p)

      -- behind those that are no parenthesis
      in_6 : (IsTrue (has (number_rule ts).first x) → ⊥) → (IsTrue (has constant_first x) → ⊥) → (IsTrue (has (name_code ∷ []) x) → ⊥) → (IsTrue (has (quote ∷ []) x) → ⊥) → (IsTrue (has (left_parenthesis ∷ []) x) → ⊥) → In (primary_6 ts (exprs ts))
      in_6 n m p q r = of_right A (primary ts) b i c i (λ w j. w) suc (paren_rule ts (exprs ts)) (primary_6 ts (exprs ts)) refl refl (other A (paren_rule ts (exprs ts)).first x i o r) (in_5 n m p q)

    -- one token or two, without an expression in them

    pub fixed_reads : (j : ℕ) (v : ExprTree) → Measures (λ (_ : ℕ). number_line ts) b v 0 i j → (IsTrue (has (primary_2 ts (exprs ts)).first (A i)) → ⊥) → Measures (primary ts) c v 1 i j
    fixed_reads j v M off = (of_left A (primary ts) b i c i (λ w j. w) suc (number_rule ts) (primary_2 ts (exprs ts)) refl refl off in_1).reads v 0 j M

    pub number_reads : (x j : ℕ) (v : ExprTree) → A i ≡ x → (IsTrue (has (primary_2 ts (exprs ts)).first x) → ⊥) → (number_line ts).whole v i j → Measures (primary ts) c v 1 i j
    number_reads x j v o k w = fixed_reads j v (closed_reads A false _ (number_line ts) ((number_rule ts).fine 0) b i j v w) (other A (primary_2 ts (exprs ts)).first x i o k)

    pub number_leaf : (n m : ℤ) (r : Span) → slice_get ts i ≡ Some (record { kind = kind.Number n; span = r }) → m ≡ n → Measures (primary ts) c (tree ts (node.Number m) i (suc i)) 1 i (suc i)
    number_leaf n m r f g = number_reads number_code (suc i) (tree ts (node.Number m) i (suc i)) (number_code_at ts n r i f) (λ k. cc) ((None, n), ap (λ (z : ℤ). tree ts (node.Number z) i (suc i)) g, (i, refl, ((r, f), refl)))

    pub number_refuses : (x : ℕ) → A i ≡ x → (IsTrue (has (primary_2 ts (exprs ts)).first x) → ⊥) → (r : Refusal) → Refuses (λ (_ : ℕ). number_line ts) 0 i r → Refuses (primary ts) c i r
    number_refuses x o k r S = (of_left A (primary ts) b i c i (λ w j. w) suc (number_rule ts) (primary_2 ts (exprs ts)) refl refl (other A (primary_2 ts (exprs ts)).first x i o k) in_1).refuses r (at_any (number_line ts) 0 b i r S)

    pub constant_reads : (j : ℕ) (v : ExprTree) → i < j → (constant_line ts).whole v i j → Measures (primary ts) c v 1 i j
    constant_reads j v lt w =
        let h = ((constants_rule ts).fine 0).start v i j w lt in
        (of_left A (primary ts) b i c i (λ w j. w) suc (constants_rule ts) (primary_3 ts (exprs ts)) refl refl (apart-has constant_first (primary_3 ts (exprs ts)).first (A i) refl h)
        (of_right A (primary ts) b i c i (λ w j. w) suc (number_rule ts) (primary_2 ts (exprs ts)) refl refl (λ k. apart-has (minus ∷ number_code ∷ []) constant_first (A i) refl k h) in_1)).reads v 0 j
        (closed_reads A false _ (constant_line ts) ((constants_rule ts).fine 0) b i j v w)

    pub no_primary : (IsTrue (has primary_first (A i)) → ⊥) → Stops (primary ts) c i i
    no_primary off = in_1.refuses (stops i) (none_begins A (primary_rule ts (exprs ts)) refl b i (inl (inl refl)) off)

    -- a name, or a call
    module _ (v : Ident) (f : slice_get ts i ≡ Some (record { kind = kind.Name v.name; span = v.span })) (o : A i ≡ name_code) (s : ℕ) (e2 : s ≡ suc i) where
      on_named : Inside (given_args ts (exprs ts)).form b s (primary ts) c i (λ w j. named_tree ts (v, w) i j) (λ h. suc (max 0 h))
      on_named = past A (ident_rule ts) (given_args ts (exprs ts)) refl (primary ts) b i c i _ _
          (of_made (primary ts) b i c i (λ w j. w) suc (named_tree ts) _
          (of_left A (primary ts) b i c i (λ w j. w) suc (named_rule ts (exprs ts)) (primary_4 ts (exprs ts)) refl refl (other A (primary_4 ts (exprs ts)).first name_code i o (λ k. cc)) (in_3 name_code o (λ k. cc) (λ k. cc))))
          v 0 s (closed_reads A false (name_code ∷ []) (ident ts) (fine_ident ts) b i s v (f, e2))

      pub name_reads : (A s ≡ left_parenthesis → ⊥) → Measures (primary ts) c (named_tree ts (v, None) i s) 1 i s
      name_reads ne = on_named.reads None 0 s (omitted A (args_rule ts (exprs ts)) refl b s (λ h. ne (only left_parenthesis (A s) h)))

      pub call_reads : (h n j : ℕ) (es : List ExprTree) → n ≡ suc h → Measures Args b es h s j → Measures (primary ts) c (named_tree ts (v, Some es) i j) n i j
      call_reads h n j es g M = subst (λ z. Measures (primary ts) c (named_tree ts (v, Some es) i j) z i j) (omega (arith, g))
          (on_named.reads (Some es) h j (given A (args_rule ts (exprs ts)) refl b s h j es M))

      pub call_refuses : A s ≡ left_parenthesis → (r : Refusal) → Refuses Args b s r → Refuses (primary ts) c i r
      call_refuses t r S = on_named.refuses r (given_refuses A (args_rule ts (exprs ts)) refl b s 0 (inl (inr (tt, suc s, (t, refl), inr (None, suc s, refl, refl)))) r S)

    -- a quoted call
    module _ (o : A i ≡ quote) (s : ℕ) (e2 : s ≡ suc i) where
      on_new : Inside (new_end ts (exprs ts)).form b s (primary ts) c i (λ w j. new_tree ts (tt, w) i j) suc
      on_new = past_token A quote (new_end ts (exprs ts)) (primary ts) b i c i _ _
          (of_made (primary ts) b i c i (λ w j. w) suc (new_tree ts) _
          (of_left A (primary ts) b i c i (λ w j. w) suc (new_rule ts (exprs ts)) (primary_5 ts (exprs ts)) refl refl (other A (primary_5 ts (exprs ts)).first quote i o (λ k. cc)) (in_4 quote o (λ k. cc) (λ k. cc) (λ k. cc))))
          s e2 o

      pub new_no_name : (A s ≡ name_code → ⊥) → Stops (primary ts) c i s
      new_no_name ne = broken A (ident_rule ts) (args_rule ts (exprs ts)) refl (primary ts) b s c i _ _ on_new (λ d m. inl (inl refl)) (stops s)
          (none_begins A (ident_rule ts) refl b s refl (λ h. ne (only name_code (A s) h)))

      module _ (v : Ident) (u : ℕ) (f : slice_get ts s ≡ Some (record { kind = kind.Name v.name; span = v.span })) (e3 : u ≡ suc s) where
        on_new_args : Inside (args_rule ts (exprs ts)).form b u (primary ts) c i (λ w j. new_tree ts (tt, (v, w)) i j) (λ h. suc (max 0 h))
        on_new_args = past A (ident_rule ts) (args_rule ts (exprs ts)) refl (primary ts) b s c i _ _ on_new v 0 u (closed_reads A false (name_code ∷ []) (ident ts) (fine_ident ts) b s u v (f, e3))

        pub new_no_args : (A u ≡ left_parenthesis → ⊥) → Stops (primary ts) c i u
        new_no_args ne = on_new_args.refuses (stops u) (none_begins A (args_rule ts (exprs ts)) refl b u (inl refl) (λ h. ne (only left_parenthesis (A u) h)))

        pub new_refuses : (r : Refusal) → Refuses Args b u r → Refuses (primary ts) c i r
        new_refuses r S = on_new_args.refuses r S

        pub new_reads : (h n j : ℕ) (es : List ExprTree) → n ≡ suc h → Measures Args b es h u j → Measures (primary ts) c (new_tree ts (tt, (v, es)) i j) n i j
        new_reads h n j es g M = subst (λ z. Measures (primary ts) c (new_tree ts (tt, (v, es)) i j) z i j) (omega (arith, g)) (on_new_args.reads es h j M)

    -- parentheses
    module _ (o : A i ≡ left_parenthesis) where
      on_paren : Inside (λ d. seq (Behind left_parenthesis d) (token A right_parenthesis)) b i (primary ts) c i (λ w j. paren_tree ts w i j) suc
      on_paren = of_made (primary ts) b i c i (λ w j. w) suc (paren_tree ts) _
          (of_left A (primary ts) b i c i (λ w j. w) suc (paren_rule ts (exprs ts)) (primary_6 ts (exprs ts)) refl refl (other A (primary_6 ts (exprs ts)).first left_parenthesis i o (λ k. cc))
          (in_5 left_parenthesis o (λ k. cc) (λ k. cc) (λ k. cc) (λ k. cc)))

      pub paren_refuses : (r : Refusal) → Refuses (Behind left_parenthesis) b i r → Refuses (primary ts) c i r
      paren_refuses r S = broken A (behind_expr ts (exprs ts) left_parenthesis) (token_at ts right_parenthesis) refl (primary ts) b i c i _ _ on_paren (λ d m. inl refl) r S

      module _ (h k : ℕ) (v : ExprTree) (M : Measures (Behind left_parenthesis) b v h i k) where
        on_close : Inside (λ d. token A right_parenthesis) b k (primary ts) c i (λ w j. paren_tree ts (v, w) i j) (λ x. suc (max h x))
        on_close = past A (behind_expr ts (exprs ts) left_parenthesis) (token_at ts right_parenthesis) refl (primary ts) b i c i _ _ on_paren v h k M

        pub paren_open : (A k ≡ right_parenthesis → ⊥) → Stops (primary ts) c i k
        paren_open ne = no_last A right_parenthesis (primary ts) b k c i _ _ on_close ne

        pub paren_reads : (s n : ℕ) → s ≡ suc k → n ≡ suc h → A k ≡ right_parenthesis → Measures (primary ts) c (paren_tree ts (v, tt) i s) n i s
        paren_reads s n e1 e2 t = subst (λ z. Measures (primary ts) c (paren_tree ts (v, tt) i s) z i s) (omega (arith, e2)) (last_token A right_parenthesis (primary ts) b k c i _ _ on_close s e1 t)

    -- IF
    module _ (o : A i ≡ word_if) where
      in_if : In (primary_6 ts (exprs ts))
      in_if = in_6 word_if o (λ k. cc) (λ k. cc) (λ k. cc) (λ k. cc) (λ k. cc)

      on_if : Inside (λ d. seq (Behind word_if d) ((then_end ts (exprs ts)).form d)) b i (primary ts) c i (λ w j. if_tree ts w i j) suc
      on_if = of_made (primary ts) b i c i (λ w j. w) suc (if_tree ts) _
          (of_left A (primary ts) b i c i (λ w j. w) suc (if_rule ts (exprs ts)) (primary_7 ts (exprs ts)) refl refl (other A (primary_7 ts (exprs ts)).first word_if i o (λ k. cc)) in_if)

      pub if_refuses : (r : Refusal) → Refuses (Behind word_if) b i r → Refuses (primary ts) c i r
      if_refuses r S = broken A (behind_expr ts (exprs ts) word_if) (then_end ts (exprs ts)) refl (primary ts) b i c i _ _ on_if (λ d m. inl (inl (inl refl))) r S

      module _ (h1 k1 : ℕ) (v1 : ExprTree) (M1 : Measures (Behind word_if) b v1 h1 i k1) where
        on_then : Inside (then_end ts (exprs ts)).form b k1 (primary ts) c i (λ w j. if_tree ts (v1, w) i j) (λ x. suc (max h1 x))
        on_then = past A (behind_expr ts (exprs ts) word_if) (then_end ts (exprs ts)) refl (primary ts) b i c i _ _ on_if v1 h1 k1 M1

        pub then_refuses : (r : Refusal) → Refuses (Behind word_then) b k1 r → Refuses (primary ts) c i r
        then_refuses r S = broken A (behind_expr ts (exprs ts) word_then) (else_end ts (exprs ts)) refl (primary ts) b k1 c i _ _ on_then (λ d m. inl (inl (inl refl))) r S

        module _ (h2 k2 : ℕ) (v2 : ExprTree) (M2 : Measures (Behind word_then) b v2 h2 k1 k2) where
          on_else : Inside (else_end ts (exprs ts)).form b k2 (primary ts) c i (λ w j. if_tree ts (v1, (v2, w)) i j) (λ x. suc (max h1 (max h2 x)))
          on_else = past A (behind_expr ts (exprs ts) word_then) (else_end ts (exprs ts)) refl (primary ts) b k1 c i _ _ on_then v2 h2 k2 M2

          pub else_refuses : (r : Refusal) → Refuses (Behind word_else) b k2 r → Refuses (primary ts) c i r
          else_refuses r S = broken A (behind_expr ts (exprs ts) word_else) (token_at ts word_end_if) refl (primary ts) b k2 c i _ _ on_else (λ d m. inl refl) r S

          module _ (h3 k3 : ℕ) (v3 : ExprTree) (M3 : Measures (Behind word_else) b v3 h3 k2 k3) where
            on_end : Inside (λ d. token A word_end_if) b k3 (primary ts) c i (λ w j. if_tree ts (v1, (v2, (v3, w))) i j) (λ x. suc (max h1 (max h2 (max h3 x))))
            on_end = past A (behind_expr ts (exprs ts) word_else) (token_at ts word_end_if) refl (primary ts) b k2 c i _ _ on_else v3 h3 k3 M3

            pub if_open : (A k3 ≡ word_end_if → ⊥) → Stops (primary ts) c i k3
            if_open ne = no_last A word_end_if (primary ts) b k3 c i _ _ on_end ne

            pub if_reads : (s n : ℕ) → s ≡ suc k3 → n ≡ suc (max h1 (max h2 h3)) → A k3 ≡ word_end_if → Measures (primary ts) c (if_tree ts (v1, (v2, (v3, tt))) i s) n i s
            if_reads s n e1 e2 t = subst (λ z. Measures (primary ts) c (if_tree ts (v1, (v2, (v3, tt))) i s) z i s) (omega (arith, e2)) (last_token A word_end_if (primary ts) b k3 c i _ _ on_end s e1 t)

    -- LUB and GLB

    in_join : (lub : Bool) → A i ≡ join_code lub → In (join_rule ts (exprs ts) (join_code lub) lub)
    in_join true o = of_left A (primary ts) b i c i (λ w j. w) suc (join_rule ts (exprs ts) (join_code true) true) (primary_8 ts (exprs ts)) refl refl (other A (primary_8 ts (exprs ts)).first (join_code true) i o (λ k. cc))
        (of_right A (primary ts) b i c i (λ w j. w) suc (if_rule ts (exprs ts)) (primary_7 ts (exprs ts)) refl refl (other A (word_if ∷ []) (join_code true) i o (λ k. cc))
        (in_6 (join_code true) o (λ k. cc) (λ k. cc) (λ k. cc) (λ k. cc) (λ k. cc)))
    in_join false o = of_left A (primary ts) b i c i (λ w j. w) suc (join_rule ts (exprs ts) (join_code false) false) (primary_9 ts (exprs ts)) refl refl (other A (primary_9 ts (exprs ts)).first (join_code false) i o (λ k. cc))
        (of_right A (primary ts) b i c i (λ w j. w) suc (join_rule ts (exprs ts) (join_code true) true) (primary_8 ts (exprs ts)) refl refl (other A (join_code true ∷ []) (join_code false) i o (λ k. cc))
        (of_right A (primary ts) b i c i (λ w j. w) suc (if_rule ts (exprs ts)) (primary_7 ts (exprs ts)) refl refl (other A (word_if ∷ []) (join_code false) i o (λ k. cc))
        (in_6 (join_code false) o (λ k. cc) (λ k. cc) (λ k. cc) (λ k. cc) (λ k. cc))))

    -- what leaves no room for an expression
    pub no_room : {V : Type 0} (g : Production A V) (m n : ℕ) → Prefix (seq (room (expression ts 0)) (g.form 0)) m n → ⊥
    no_room g m n (inl (inl p)) = p
    no_room g m n (inl (inr (a, k, (e, x), p))) = x
    no_room g m n (inr (v, (k, (e, x), p))) = x

    room_here : (k : ℕ) → 1 ≤ b → Measures (λ d. room (expression ts d)) b tt 1 k k
    room_here k le = room_reads (expression ts) empty_expr (λ n p. p) b k le

    module _ (lub : Bool) (o : A i ≡ join_code lub) where
      on_join : Inside (λ d. seq (token A (join_code lub)) ((join_end ts (exprs ts)).form d)) b i (primary ts) c i (λ w j. join_tree ts lub w i j) suc
      on_join = of_made (primary ts) b i c i (λ w j. w) suc (join_tree ts lub) _ (in_join lub o)

      pub join_high : b ≡ 0 → Exceeds (primary ts) c i i
      join_high z = blocked A (join_code lub) (join_end ts (exprs ts)) (primary ts) b i c i _ _ on_join o
          (λ m. subst (λ y. Prefix ((join_end ts (exprs ts)).form y) (suc i) m → ⊥) (sym z) (no_room (both_end ts (exprs ts)) (suc i) m))
          (1, inl (inr (tt, suc i, (refl, empty_expr 0 (suc i)), inl (inl refl))))

      module _ (s : ℕ) (e2 : s ≡ suc i) (le : 1 ≤ b) where
        on_both : Inside (both_end ts (exprs ts)).form b s (primary ts) c i (λ w j. join_tree ts lub (tt, (tt, w)) i j) (λ x. suc (max 1 x))
        on_both = past A (room_rule A (expr_rule ts (exprs ts))) (both_end ts (exprs ts)) refl (primary ts) b s c i _ _
            (past_token A (join_code lub) (join_end ts (exprs ts)) (primary ts) b i c i _ _ on_join s e2 o) tt 1 s (room_here s le)

        pub left_refuses : (r : Refusal) → Refuses (Behind left_parenthesis) b s r → Refuses (primary ts) c i r
        left_refuses r S = broken A (behind_expr ts (exprs ts) left_parenthesis) (second_end ts (exprs ts)) refl (primary ts) b s c i _ _ on_both (λ d m. inl (inl (inl refl))) r S

        module _ (h1 k1 : ℕ) (v1 : ExprTree) (M1 : Measures (Behind left_parenthesis) b v1 h1 s k1) where
          on_second : Inside (second_end ts (exprs ts)).form b k1 (primary ts) c i (λ w j. join_tree ts lub (tt, (tt, (v1, w))) i j) (λ x. suc (max 1 (max h1 x)))
          on_second = past A (behind_expr ts (exprs ts) left_parenthesis) (second_end ts (exprs ts)) refl (primary ts) b s c i _ _ on_both v1 h1 k1 M1

          pub right_refuses : (r : Refusal) → Refuses (Behind comma) b k1 r → Refuses (primary ts) c i r
          right_refuses r S = broken A (behind_expr ts (exprs ts) comma) (token_at ts right_parenthesis) refl (primary ts) b k1 c i _ _ on_second (λ d m. inl refl) r S

          module _ (h2 k2 : ℕ) (v2 : ExprTree) (M2 : Measures (Behind comma) b v2 h2 k1 k2) where
            on_last : Inside (λ d. token A right_parenthesis) b k2 (primary ts) c i (λ w j. join_tree ts lub (tt, (tt, (v1, (v2, w)))) i j) (λ x. suc (max 1 (max h1 (max h2 x))))
            on_last = past A (behind_expr ts (exprs ts) comma) (token_at ts right_parenthesis) refl (primary ts) b k1 c i _ _ on_second v2 h2 k2 M2

            pub join_open : (A k2 ≡ right_parenthesis → ⊥) → Stops (primary ts) c i k2
            join_open ne = no_last A right_parenthesis (primary ts) b k2 c i _ _ on_last ne

            pub join_reads : (u n : ℕ) → u ≡ suc k2 → n ≡ suc (max h1 h2) → A k2 ≡ right_parenthesis → Measures (primary ts) c (join_tree ts lub (tt, (tt, (v1, (v2, tt)))) i u) n i u
            join_reads u n e1 e3 t =
                let a = some_height left_parenthesis b h1 s k1 v1 M1 in
                subst (λ z. Measures (primary ts) c (join_tree ts lub (tt, (tt, (v1, (v2, tt)))) i u) z i u) (omega (arith, e3, a)) (last_token A right_parenthesis (primary ts) b k2 c i _ _ on_last u e1 t)

    -- FORALL and EXISTS

    in_9 : (x : ℕ) → A i ≡ x → (IsTrue (has (number_rule ts).first x) → ⊥) → (IsTrue (has constant_first x) → ⊥) → (IsTrue (has (name_code ∷ []) x) → ⊥) → (IsTrue (has (quote ∷ []) x) → ⊥) → (IsTrue (has (left_parenthesis ∷ []) x) → ⊥)
        → (IsTrue (has (word_if ∷ []) x) → ⊥) → (IsTrue (has (join_code true ∷ []) x) → ⊥) → (IsTrue (has (join_code false ∷ []) x) → ⊥) → In (primary_9 ts (exprs ts))
    in_9 x o n m p q r t u w = of_right A (primary ts) b i c i (λ w j. w) suc (join_rule ts (exprs ts) (join_code false) false) (primary_9 ts (exprs ts)) refl refl (other A (join_code false ∷ []) x i o w)
        (of_right A (primary ts) b i c i (λ w j. w) suc (join_rule ts (exprs ts) (join_code true) true) (primary_8 ts (exprs ts)) refl refl (other A (join_code true ∷ []) x i o u)
        (of_right A (primary ts) b i c i (λ w j. w) suc (if_rule ts (exprs ts)) (primary_7 ts (exprs ts)) refl refl (other A (word_if ∷ []) x i o t)
        (in_6 x o n m p q r)))

    in_quant : (forall : Bool) → A i ≡ quant_code forall → In (quant_rule ts (exprs ts) (quant_code forall) (close_code forall) forall (quant_clear forall))
    in_quant true o = of_left A (primary ts) b i c i (λ w j. w) suc (forall_rule ts (exprs ts)) (exists_rule ts (exprs ts)) refl refl (other A (exists_rule ts (exprs ts)).first (quant_code true) i o (λ k. cc))
        (in_9 (quant_code true) o (λ k. cc) (λ k. cc) (λ k. cc) (λ k. cc) (λ k. cc) (λ k. cc) (λ k. cc) (λ k. cc))
    in_quant false o = of_right A (primary ts) b i c i (λ w j. w) suc (forall_rule ts (exprs ts)) (exists_rule ts (exprs ts)) refl refl (other A (forall_rule ts (exprs ts)).first (quant_code false) i o (λ k. cc))
        (in_9 (quant_code false) o (λ k. cc) (λ k. cc) (λ k. cc) (λ k. cc) (λ k. cc) (λ k. cc) (λ k. cc) (λ k. cc))

    module _ (forall : Bool) (o : A i ≡ quant_code forall) where
      abbrev Bound : Production A (FormalTree × (ExprTree × Unit {0}))
      Bound = bound_end ts (exprs ts) (quant_code forall) (close_code forall) forall (quant_clear forall)

      abbrev Quant : Production A (Unit {0} × (FormalTree × (ExprTree × Unit {0})))
      Quant = quant_end ts (exprs ts) (quant_code forall) (close_code forall) forall (quant_clear forall)

      abbrev Body : Production A (ExprTree × Unit {0})
      Body = body_end ts (exprs ts) (quant_code forall) (close_code forall) forall (quant_clear forall)

      on_quant : Inside (λ d. seq (token A (quant_code forall)) (Quant.form d)) b i (primary ts) c i (λ w j. quant_tree ts forall w i j) suc
      on_quant = of_made (primary ts) b i c i (λ w j. w) suc (quant_tree ts forall) _ (in_quant forall o)

      pub quant_high : b ≡ 0 → Exceeds (primary ts) c i i
      quant_high z = blocked A (quant_code forall) Quant (primary ts) b i c i _ _ on_quant o
          (λ m. subst (λ y. Prefix (Quant.form y) (suc i) m → ⊥) (sym z) (no_room Bound (suc i) m))
          (1, inl (inr (tt, suc i, (refl, empty_expr 0 (suc i)), inl (inl (inl refl)))))

      module _ (s : ℕ) (e2 : s ≡ suc i) (le : 1 ≤ b) where
        on_bound : Inside Bound.form b s (primary ts) c i (λ w j. quant_tree ts forall (tt, (tt, w)) i j) (λ x. suc (max 1 x))
        on_bound = past A (room_rule A (expr_rule ts (exprs ts))) Bound refl (primary ts) b s c i _ _
            (past_token A (quant_code forall) Quant (primary ts) b i c i _ _ on_quant s e2 o) tt 1 s (room_here s le)

        pub variable_refuses : (r : Refusal) → Refuses (λ (_ : ℕ). formal_line ts) 0 s r → Refuses (primary ts) c i r
        variable_refuses r S = broken A (formal_rule ts) Body refl (primary ts) b s c i _ _ on_bound (λ d m. inl (inl (inl refl))) r (at_any (formal_line ts) 0 b s r S)

        module _ (u : ℕ) (f : FormalTree) (w : (formal_line ts).whole f s u) where
          on_body : Inside Body.form b u (primary ts) c i (λ w j. quant_tree ts forall (tt, (tt, (f, w))) i j) (λ x. suc (max 1 (max 0 x)))
          on_body = past A (formal_rule ts) Body refl (primary ts) b s c i _ _ on_bound f 0 u (closed_reads A false _ (formal_line ts) ((formal_rule ts).fine 0) b s u f w)

          pub body_refuses : (r : Refusal) → Refuses (Behind colon) b u r → Refuses (primary ts) c i r
          body_refuses r S = broken A (behind_expr ts (exprs ts) colon) (token_at ts (close_code forall)) (quant_clear forall) (primary ts) b u c i _ _ on_body (λ d m. inl refl) r S

          module _ (h k : ℕ) (v : ExprTree) (M : Measures (Behind colon) b v h u k) where
            on_closing : Inside (λ d. token A (close_code forall)) b k (primary ts) c i (λ w j. quant_tree ts forall (tt, (tt, (f, (v, w)))) i j) (λ x. suc (max 1 (max 0 (max h x))))
            on_closing = past A (behind_expr ts (exprs ts) colon) (token_at ts (close_code forall)) (quant_clear forall) (primary ts) b u c i _ _ on_body v h k M

            pub quant_open : (A k ≡ close_code forall → ⊥) → Stops (primary ts) c i k
            quant_open ne = no_last A (close_code forall) (primary ts) b k c i _ _ on_closing ne

            pub quant_reads : (t n : ℕ) → t ≡ suc k → n ≡ suc h → A k ≡ close_code forall → Measures (primary ts) c (quant_tree ts forall (tt, (tt, (f, (v, tt)))) i t) n i t
            quant_reads t n e1 e3 x =
                let a = some_height colon b h u k v M in
                subst (λ z. Measures (primary ts) c (quant_tree ts forall (tt, (tt, (f, (v, tt)))) i t) z i t) (omega (arith, e3, a)) (last_token A (close_code forall) (primary ts) b k c i _ _ on_closing t e1 x)

  -- NOT

  abbrev negation_rule : Production A ExprTree
  negation_rule = record { null = false; first = expression_first; more = comparison_more; form = negation ts; fine = λ b. (fine ts b).negation; grows = λ b. (grows ts b).negation }

  abbrev comparison_rule : Production A ExprTree
  comparison_rule = record { null = false; first = primary_first; more = comparison_more; form = comparison ts; fine = λ b. (fine ts b).comparison; grows = λ b. (grows ts b).comparison }

  abbrev lower_not : Production A ExprTree
  lower_not = lower_rule A (not_rule ts negation_rule)

  out_not : (b : ℕ) → Sub (negation ts b) (either (lower_not.form b) (comparison ts b))
  out_not zero = sub_nothing _
  out_not (suc b) = sub_refl _

  back_not : (b : ℕ) → Sub (either (lower_not.form b) (comparison ts b)) (negation ts b)
  back_not zero = record { whole = λ v i j w. elim w [ inl x ↦ x | inr x ↦ x ]; part = λ i m w. elim w [ inl x ↦ x | inr x ↦ x ] }
  back_not (suc b) = sub_refl _

  module _ (b i : ℕ) where
    in_not : Inside (λ d. either (lower_not.form d) (comparison ts d)) b i (negation ts) b i (λ w j. w) (λ h. h)
    in_not = as_same (λ d. either (lower_not.form d) (comparison ts d)) (negation ts) out_not back_not b i

    -- the token isn't NOT
    pub plain : (A i ≡ word_not → ⊥) → Inside (comparison ts) b i (negation ts) b i (λ w j. w) (λ h. h)
    plain ne = of_right A (negation ts) b i b i (λ w j. w) (λ h. h) lower_not comparison_rule refl refl (λ h. ne (only word_not (A i) h)) in_not

    module _ (o : A i ≡ word_not) (d : ℕ) (e : b ≡ suc d) where
      on_not : Inside (λ x. seq (token A word_not) (negation ts x)) d i (negation ts) b i (λ w j. not_tree ts (w.1) i j) suc
      on_not = of_made (negation ts) d i b i _ suc (λ (p : Unit {0} × ExprTree) (i : ℕ) (j : ℕ). p.1) (λ x. seq (token A word_not) (negation ts x))
          (of_made (negation ts) d i b i _ suc (not_tree ts) (λ x. behind A word_not (negation ts x))
          (of_lower (negation ts) b i b i (λ w j. w) (λ h. h) (λ x. made (not_tree ts) (behind A word_not (negation ts x))) d e
          (of_left A (negation ts) b i b i (λ w j. w) (λ h. h) lower_not comparison_rule refl refl (other A primary_first word_not i o (λ k. cc)) in_not)))

      pub not_high : d ≡ 0 → Exceeds (negation ts) b i i
      not_high z = blocked A word_not negation_rule (negation ts) d i b i _ _ on_not o (λ m. subst (λ y. Prefix (negation ts y) (suc i) m → ⊥) (sym z) (none_at m)) (1, inl (inl (inl refl)))
        where
          none_at : (m : ℕ) → Prefix (negation ts 0) (suc i) m → ⊥
          none_at m (inl p) = p
          none_at m (inr p) = p.1

      pub not_passes : (s : ℕ) → s ≡ suc i → Inside (negation ts) d s (negation ts) b i (λ w j. not_tree ts w i j) suc
      not_passes s e2 = past_token A word_not negation_rule (negation ts) d i b i _ _ on_not s e2 o

  -- each first token of an expression begins one

  begins_primary : (k : ℕ) → IsTrue (has primary_first (A k)) → (c : ℕ) × Prefix (primary ts c) k (suc k)
  begins_primary k h =
      elim (has-cons (minus) (A k) (number_code ∷ word_true ∷ word_false ∷ question ∷ word_bottom ∷ word_top ∷ name_code ∷ quote ∷ left_parenthesis ∷ word_if ∷ join_code true ∷ join_code false ∷ quant_code true ∷ quant_code false ∷ []) h) [ inl e ↦ (1, inl (inl (inr (Some tt, suc k, (sym e, refl), refl)))) | inr g0 ↦ elim (has-cons (number_code) (A k) (word_true ∷ word_false ∷ question ∷ word_bottom ∷ word_top ∷ name_code ∷ quote ∷ left_parenthesis ∷ word_if ∷ join_code true ∷ join_code false ∷ quant_code true ∷ quant_code false ∷ []) g0) [ inl e ↦ (let (n, r, f) = number_there ts k (sym e) in (1, inr (tree ts (node.Number n) k (suc k), inl ((None, n), refl, (k, refl, ((r, f), refl)))))) | inr g1 ↦ elim (has-cons (word_true) (A k) (word_false ∷ question ∷ word_bottom ∷ word_top ∷ name_code ∷ quote ∷ left_parenthesis ∷ word_if ∷ join_code true ∷ join_code false ∷ quant_code true ∷ quant_code false ∷ []) g1) [ inl e ↦ (1, inr (tree ts (node.Truth true) k (suc k), inr (inl (inl (tt, refl, (sym e, refl)))))) | inr g2 ↦ elim (has-cons (word_false) (A k) (question ∷ word_bottom ∷ word_top ∷ name_code ∷ quote ∷ left_parenthesis ∷ word_if ∷ join_code true ∷ join_code false ∷ quant_code true ∷ quant_code false ∷ []) g2) [ inl e ↦ (1, inr (tree ts (node.Truth false) k (suc k), inr (inl (inr (inl (tt, refl, (sym e, refl))))))) | inr g3 ↦ elim (has-cons (question) (A k) (word_bottom ∷ word_top ∷ name_code ∷ quote ∷ left_parenthesis ∷ word_if ∷ join_code true ∷ join_code false ∷ quant_code true ∷ quant_code false ∷ []) g3) [ inl e ↦ (1, inr (tree ts (node.Unknown) k (suc k), inr (inl (inr (inr (inl (tt, refl, (sym e, refl)))))))) | inr g4 ↦ elim (has-cons (word_bottom) (A k) (word_top ∷ name_code ∷ quote ∷ left_parenthesis ∷ word_if ∷ join_code true ∷ join_code false ∷ quant_code true ∷ quant_code false ∷ []) g4) [ inl e ↦ (1, inr (tree ts (node.Bottom) k (suc k), inr (inl (inr (inr (inr (inl (tt, refl, (sym e, refl))))))))) | inr g5 ↦ elim (has-cons (word_top) (A k) (name_code ∷ quote ∷ left_parenthesis ∷ word_if ∷ join_code true ∷ join_code false ∷ quant_code true ∷ quant_code false ∷ []) g5) [ inl e ↦ (1, inr (tree ts (node.Top) k (suc k), inr (inl (inr (inr (inr (inr ((tt, refl, (sym e, refl)))))))))) | inr g6 ↦ elim (has-cons (name_code) (A k) (quote ∷ left_parenthesis ∷ word_if ∷ join_code true ∷ join_code false ∷ quant_code true ∷ quant_code false ∷ []) g6) [ inl e ↦ (let (n, r, f) = name_there ts k (sym e) in (1, inl (inr (inr (inl (inr (record { name = n; span = r }, suc k, (f, refl), inl refl))))))) | inr g7 ↦ elim (has-cons (quote) (A k) (left_parenthesis ∷ word_if ∷ join_code true ∷ join_code false ∷ quant_code true ∷ quant_code false ∷ []) g7) [ inl e ↦ (1, inl (inr (inr (inr (inl (inr (tt, suc k, (sym e, refl), inl refl))))))) | inr g8 ↦ elim (has-cons (left_parenthesis) (A k) (word_if ∷ join_code true ∷ join_code false ∷ quant_code true ∷ quant_code false ∷ []) g8) [ inl e ↦ (2, inl (inr (inr (inr (inr (inl (inl (inr (tt, suc k, (sym e, refl), empty_expr 0 (suc k)))))))))) | inr g9 ↦ elim (has-cons (word_if) (A k) (join_code true ∷ join_code false ∷ quant_code true ∷ quant_code false ∷ []) g9) [ inl e ↦ (2, inl (inr (inr (inr (inr (inr (inl (inl (inr (tt, suc k, (sym e, refl), empty_expr 0 (suc k))))))))))) | inr g10 ↦ elim (has-cons (join_code true) (A k) (join_code false ∷ quant_code true ∷ quant_code false ∷ []) g10) [ inl e ↦ (2, inl (inr (inr (inr (inr (inr (inr (inl (inr (tt, suc k, (sym e, refl), inr (tt, suc k, (refl, empty_expr 0 (suc k)), inl (inl refl)))))))))))) | inr g11 ↦ elim (has-cons (join_code false) (A k) (quant_code true ∷ quant_code false ∷ []) g11) [ inl e ↦ (2, inl (inr (inr (inr (inr (inr (inr (inr (inl (inr (tt, suc k, (sym e, refl), inr (tt, suc k, (refl, empty_expr 0 (suc k)), inl (inl refl))))))))))))) | inr g12 ↦ elim (has-cons (quant_code true) (A k) (quant_code false ∷ []) g12) [ inl e ↦ (2, inl (inr (inr (inr (inr (inr (inr (inr (inr (inl (inr (tt, suc k, (sym e, refl), inr (tt, suc k, (refl, empty_expr 0 (suc k)), inl (inl (inl refl))))))))))))))) | inr g13 ↦ elim (has-cons (quant_code false) (A k) ([]) g13) [ inl e ↦ (2, inl (inr (inr (inr (inr (inr (inr (inr (inr (inr ((inr (tt, suc k, (sym e, refl), inr (tt, suc k, (refl, empty_expr 0 (suc k)), inl (inl (inl refl)))))))))))))))) | inr g14 ↦ absurd (let z : false ≡ true = g14 in cc) ] ] ] ] ] ] ] ] ] ] ] ] ] ] ]

  primary_is : (c : ℕ) → Sub (primary ts c) (expression ts c)
  primary_is zero = sub_nothing _
  primary_is (suc c) = record { whole = λ v i j w. inl (inl (inl (inl (inr (inl (inl (inl w))))))); part = λ i m w. inl (inl (inl (inl (inr (inl (inl (inl w))))))) }

  pub first_of : (k : ℕ) → IsTrue (has expression_first (A k)) → (c : ℕ) × Prefix (expression ts c) k (suc k)
  first_of k h = elim (has-cons word_not (A k) primary_first h) [
    | inl e ↦ (2, inl (inl (inl (inl (inl (inl (inr (tt, suc k, (sym e, refl), inl (inl refl)))))))))
    | inr g ↦ (let (c, p) = begins_primary k g in (c, sub_prefix (primary ts c) (expression ts c) k (suc k) (primary_is c) p))
  ]

  -- arguments

  pub fine_next : (d : ℕ) → Fine A false (comma ∷ []) (behind_expr ts (exprs ts) comma).more (Behind comma d)
  fine_next d = (behind_expr ts (exprs ts) comma).fine d

  pub grows_next : (d : ℕ) → Sub (Behind comma d) (Behind comma (suc d))
  grows_next d = (behind_expr ts (exprs ts) comma).grows d

  -- the arguments behind the first one, so far
  abbrev pub Rest : List ExprTree → ℕ → ℕ → ℕ → Type 0
  Rest = Many A (comma ∷ []) (behind_expr ts (exprs ts) comma).more (Behind comma) fine_next grows_next refl

  pub rest_none : (k : ℕ) → Rest [] 0 k k
  rest_none k = none A (comma ∷ []) (behind_expr ts (exprs ts) comma).more (Behind comma) fine_next grows_next refl k

  module _ (b i : ℕ) (o : A i ≡ left_parenthesis) (s : ℕ) (e : s ≡ suc i) where
    on_list : Inside (list_end ts (exprs ts)).form b s Args b i (λ w j. args_list ts (tt, w) i j) (λ h. h)
    on_list = past_token A left_parenthesis (list_end ts (exprs ts)) Args b i b i _ _ (of_made Args b i b i (λ w j. w) (λ h. h) (args_list ts) _ (itself Args b i)) s e o

    -- none is given
    on_none : (IsTrue (has expression_first (A s)) → ⊥) → Inside (λ d. token A right_parenthesis) b s Args b i (λ w j. args_list ts (tt, (None, w)) i j) (λ h. max 0 h)
    on_none off = past A (list_rule ts (exprs ts)) (token_at ts right_parenthesis) refl Args b s b i _ _ on_list None 0 s (omitted A (some_rule ts (exprs ts)) refl b s off)

    pub no_args : (j : ℕ) → j ≡ suc s → A s ≡ right_parenthesis → Measures Args b [] 0 i j
    no_args j f t = subst (λ z. Measures Args b [] z i j) (omega arith) (last_token A right_parenthesis Args b s b i _ _ (on_none (other A expression_first right_parenthesis s t (λ k. cc))) j f t)

    pub args_stop : (IsTrue (has expression_first (A s)) → ⊥) → (A s ≡ right_parenthesis → ⊥) → Stops Args b i s
    args_stop off ne = no_last A right_parenthesis Args b s b i _ _ (on_none off) ne

    module _ (h : IsTrue (has expression_first (A s))) where
      over_some : (d : ℕ) → Prefix (expression ts d) s (suc s) → Prefix ((some_rule ts (exprs ts)).form d) s (suc s)
      over_some d (inl p) = inl (inl p)
      over_some d (inr (v, w)) = inr (v ∷ [], ((v, []), refl, (suc s, w, refl)))

      list_refuses : (r : Refusal) → Refuses (some_rule ts (exprs ts)).form b s r → Refuses Args b i r
      list_refuses r S =
          let (d, p) = first_of s h in
          broken A (list_rule ts (exprs ts)) (token_at ts right_parenthesis) refl Args b s b i _ _ on_list (λ d m. inl refl) r
          (given_refuses A (some_rule ts (exprs ts)) refl b s d (over_some d p) r S)

      -- no height is left for an argument
      pub args_high : b ≡ 0 → (A s ≡ right_parenthesis → ⊥) → Exceeds Args b i s
      args_high z ne = broken A (list_rule ts (exprs ts)) (token_at ts right_parenthesis) refl Args b s b i _ _ on_list (λ d m. inl refl) (exceeds s)
          (subst (λ y. Exceeds (list_rule ts (exprs ts)).form y s s) (sym z) (record {
            so_far = inr (None, refl);
            front = front;
            over = (let (d, p) = first_of s h in (d, to_list d (over_some d p)));
          }))
        where
          to_list : (d : ℕ) → Prefix ((some_rule ts (exprs ts)).form d) s (suc s) → Prefix ((list_rule ts (exprs ts)).form d) s (suc s)
          to_list d (inl p) = inl p
          to_list d (inr (v, w)) = inr (Some v, w)

          front : (m : ℕ) → Prefix ((list_rule ts (exprs ts)).form 0) s m → m ≤ s
          front m (inl (inl p)) = absurd p
          front m (inl (inr (a, k, w, p))) = absurd w
          front m (inr (None, w)) = omega arith
          front m (inr (Some a, (x, y, (z, w, ws)))) = absurd w

      -- the first one is refused
      pub head_refuses : (r : Refusal) → Refuses (expression ts) b s r → Refuses Args b i r
      head_refuses r S = list_refuses r (refuses_made (some_list ts) (λ d. seq (expression ts d) ((rest_rule ts (exprs ts)).form d)) b s r
          (broken A (expr_rule ts (exprs ts)) (rest_rule ts (exprs ts)) refl (λ d. seq (expression ts d) ((rest_rule ts (exprs ts)).form d)) b s b s _ _ (itself _ b s) (λ d m. inr ([], refl)) r S))

      module _ (h1 k0 : ℕ) (v : ExprTree) (M : Measures (expression ts) b v h1 s k0) (h2 k : ℕ) (us : List ExprTree) (R : Rest us h2 k0 k) (fit : h2 ≤ b) where
        on_rest : Inside (rest_rule ts (exprs ts)).form b k0 (some_rule ts (exprs ts)).form b s (λ w j. some_list ts (v, w) s j) (λ x. max h1 x)
        on_rest = past A (expr_rule ts (exprs ts)) (rest_rule ts (exprs ts)) refl (some_rule ts (exprs ts)).form b s b s _ _
            (of_made (some_rule ts (exprs ts)).form b s b s (λ w j. w) (λ x. x) (some_list ts) _ (itself (some_rule ts (exprs ts)).form b s)) v h1 k0 M

        pub item_refuses : 1 ≤ b → A k ≡ comma → (r : Refusal) → Refuses (Behind comma) b k r → Refuses Args b i r
        item_refuses le t r S = list_refuses r (on_rest.refuses r
            (refuses_item A (comma ∷ []) (behind_expr ts (exprs ts) comma).more (Behind comma) fine_next grows_next refl us h2 k0 k R b fit r (later b r le S) S))
          where
            later : (b : ℕ) (r : Refusal) → 1 ≤ b → Refuses (Behind comma) b k r → k < place r
            later zero r le S = absurd (omega arith)
            later (suc d) (stops n) le S = let x = S.front (suc d) (suc k) (inl (inr (tt, suc k, (t, refl), empty_expr d (suc k)))) in omega arith
            later (suc d) (exceeds n) le S = let x = S.front (suc k) (inl (inr (tt, suc k, (t, refl), empty_expr d (suc k)))) in omega arith

        on_args_end : (A k ≡ comma → ⊥) → Inside (λ d. token A right_parenthesis) b k Args b i (λ w j. args_list ts (tt, (Some (v ∷ us), w)) i j) (λ x. max (max h1 h2) x)
        on_args_end ne = past A (list_rule ts (exprs ts)) (token_at ts right_parenthesis) refl Args b s b i _ _ on_list (Some (v ∷ us)) (max h1 h2) k
            (given A (some_rule ts (exprs ts)) refl b s (max h1 h2) k (v ∷ us)
            (on_rest.reads us h2 k (all_read A (comma ∷ []) (behind_expr ts (exprs ts) comma).more (Behind comma) fine_next grows_next refl us h2 k0 k R b fit (λ x. ne (only comma (A k) x)))))

        pub args_open : (A k ≡ comma → ⊥) → (A k ≡ right_parenthesis → ⊥) → Stops Args b i k
        args_open ne ne2 = no_last A right_parenthesis Args b k b i _ _ (on_args_end ne) ne2

        pub args_reads : (A k ≡ comma → ⊥) → (j n : ℕ) → j ≡ suc k → n ≡ max h1 h2 → A k ≡ right_parenthesis → Measures Args b (v ∷ us) n i j
        args_reads ne j n f g t = subst (λ z. Measures Args b (v ∷ us) z i j) (omega (arith, g)) (last_token A right_parenthesis Args b k b i _ _ (on_args_end ne) j f t)

  pub one_more_arg : (b h2 h3 k0 k j n : ℕ) (v : ExprTree) (us : List ExprTree) → Rest us h2 k0 k → n ≡ max h2 h3 → Measures (Behind comma) b v h3 k j → Rest (us ++ v ∷ []) n k0 j
  one_more_arg b h2 h3 k0 k j n v us R f M = subst (λ z. Rest (us ++ v ∷ []) z k0 j) (sym f)
      (one_more A (comma ∷ []) (behind_expr ts (exprs ts) comma).more (Behind comma) fine_next grows_next refl us h2 k0 k R b h3 j v M)

  -- no primary begins where none of its tokens stands
  pub none_first : (k : ℕ) → (A k ≡ minus → ⊥) → (A k ≡ number_code → ⊥) → (IsTrue (has constant_first (A k)) → ⊥) → (A k ≡ name_code → ⊥) → (A k ≡ quote → ⊥) → (A k ≡ left_parenthesis → ⊥) → (A k ≡ word_if → ⊥)
      → (A k ≡ join_code true → ⊥) → (A k ≡ join_code false → ⊥) → (A k ≡ quant_code true → ⊥) → (A k ≡ quant_code false → ⊥) → IsTrue (has primary_first (A k)) → ⊥
  none_first k a d f g h l m n o p q x =
      elim (has-cons minus (A k) (number_code ∷ constant_first ++ (name_code ∷ quote ∷ left_parenthesis ∷ word_if ∷ join_code true ∷ join_code false ∷ quant_code true ∷ quant_code false ∷ [])) x) [
        | inl e ↦ a (sym e)
        | inr y ↦ elim (has-cons number_code (A k) (constant_first ++ (name_code ∷ quote ∷ left_parenthesis ∷ word_if ∷ join_code true ∷ join_code false ∷ quant_code true ∷ quant_code false ∷ [])) y) [
          | inl e ↦ d (sym e)
          | inr z ↦ elim (has-split constant_first (name_code ∷ quote ∷ left_parenthesis ∷ word_if ∷ join_code true ∷ join_code false ∷ quant_code true ∷ quant_code false ∷ []) (A k) z) [
            | inl e ↦ f e
            | inr w ↦ none_of name_code (A k) (quote ∷ left_parenthesis ∷ word_if ∷ join_code true ∷ join_code false ∷ quant_code true ∷ quant_code false ∷ []) g (none_of quote (A k) (left_parenthesis ∷ word_if ∷ join_code true ∷ join_code false ∷ quant_code true ∷ quant_code false ∷ []) h (none_of left_parenthesis (A k) (word_if ∷ join_code true ∷ join_code false ∷ quant_code true ∷ quant_code false ∷ []) l (none_of word_if (A k) (join_code true ∷ join_code false ∷ quant_code true ∷ quant_code false ∷ []) m (none_of (join_code true) (A k) (join_code false ∷ quant_code true ∷ quant_code false ∷ []) n (none_of (join_code false) (A k) (quant_code true ∷ quant_code false ∷ []) o (none_of (quant_code true) (A k) (quant_code false ∷ []) p (none_of (quant_code false) (A k) [] q (λ u. let v : false ≡ true = u in cc)))))))) w
          ]
        ]
      ]
