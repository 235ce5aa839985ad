-- At each place, within each budget, an expression is read or refused: what is found there.
use Rattle.std.proofs.Common.{◌≡◌, ℕ, zero, suc, ◌+◌, ◌<◌, ◌≤◌, max, ◌⊎◌, inl, inr, Bool, true, false, eqb, IsTrue, List, [], ◌∷◌, ◌++◌, length, Some, slice_get, refl, sym, ◌∙◌, subst, arith}
use Rattle.std.proofs.lemmas.Bool.{cases_lt, eqb-true, eq-eqb}
use Rattle.std.proofs.lemmas.Option.{slice_get_cases}
use Rattle.sp_text.specs.declared.token.Token.{Token}
use Rattle.sp_text.specs.declared.token.TokenKind.TheVariants as kind
use Rattle.sp_tree.specs.declared.names.Ident.{Ident}
use Rattle.sp_tree.specs.declared.names.TypeTree.{TypeTree}
use Rattle.sp_tree.specs.declared.names.TypeTree.TheVariants as ty
use Rattle.sp_tree.specs.declared.names.FormalTree.{FormalTree}
use Rattle.sp_tree.specs.declared.expr.ExprTree.{ExprTree}
use Rattle.sp_tree.specs.declared.expr.ExprNode.TheVariants as node
use Rattle.sp_grammar.specs.Codes.{code_at, span_of, name_code, number_code, word_boolean, word_integer, word_level, word_if, word_then, word_else, word_end_if, word_not, word_true, word_false, word_bottom, word_top, left_parenthesis, right_parenthesis, comma, colon, minus, quote, question}
use Rattle.sp_grammar.specs.Lang.{Lang, has, Measures, Refusal, stops, exceeds, Refuses}
use Rattle.sp_grammar.proofs.Laws.{has-cons}
use Rattle.sp_grammar.proofs.Inside.{Inside, only}
use Rattle.sp_grammar.proofs.Chains.{Chain, Along, chain_begin, chain_first_refuses, chain_stop, chain_step, chain_high, chain_right_refuses}
use Rattle.sp_grammar.proofs.Pairs.{Pair, pair_first_refuses, pair_stop, pair_high, pair_right_refuses, pair_reads}
use Rattle.sp_grammar.proofs.Tokens.{name_there, number_there}
use Rattle.sp_expression.specs.Contract.{expression_first, constant_first, type_first, join_code, quant_code, close_code}
use Rattle.sp_expression.specs.Grammar.{at, signed, tree, constant_line, formal_line, type_line, primary, comparison, negation, expression}
use Rattle.sp_expression.specs.Levels.{chain_ops, chain_form, operand_form, pair_form}
use Rattle.sp_expression.specs.declared.level.Chain.{Chain as Level}
use Rattle.sp_expression.specs.declared.level.Chain.TheVariants as chain
use Rattle.sp_expression.specs.declared.level.Pair.{Pair as Two}
use Rattle.sp_expression.specs.declared.level.Pair.TheVariants as pair
use Rattle.sp_expression.proofs.Leaves.{negative_whole, no_digits, no_type, no_formal_name, formal_whole}
use Rattle.sp_expression.proofs.Levels.{chain_of, pair_of}
use Rattle.sp_expression.proofs.Steps.{Behind, Args, Rest, rest_none, fine_next, not_behind, behind_high, behind_passes, number_leaf, number_reads, number_refuses, constant_reads, no_primary, none_first, name_reads, call_reads, call_refuses, new_no_name, new_no_args, new_refuses, new_reads, paren_refuses, paren_open, paren_reads, if_refuses, then_refuses, else_refuses, if_open, if_reads, join_high, left_refuses, right_refuses, join_open, join_reads, quant_high, variable_refuses, body_refuses, quant_open, quant_reads, plain, not_high, not_passes, no_args, args_stop, args_high, head_refuses, item_refuses, args_open, args_reads, one_more_arg}

-- what is found of F from i on, within the budget b
abbrev pub Decision : {V : Type 0} → (ℕ → Lang V) → ℕ → ℕ → Type 0
Decision {V} F b i = ((v : V) × (h : ℕ) × (j : ℕ) × Measures F b v h i j) ⊎ ((r : Refusal) × Refuses F b i r)

carry : {V W : Type 0} {G : ℕ → Lang V} {b k : ℕ} {L : ℕ → Lang W} {c i : ℕ} {value : V → ℕ → W} {up : ℕ → ℕ} → Inside G b k L c i value up → Decision G b k → Decision L c i
carry {value = value} {up = up} o (inl (v, h, j, M)) = inl (value v j, up h, j, o.reads v h j M)
carry o (inr (r, S)) = inr (r, o.refuses r S)

either_way : (t : Bool) → IsTrue t ⊎ (IsTrue t → ⊥)
either_way true = inl refl
either_way false = inr (λ e. cc)

module _ (ts : List Token) where
  is : (c i : ℕ) → (at ts i ≡ c) ⊎ (at ts i ≡ c → ⊥)
  is c i = elim (either_way (eqb (at ts i) c)) [ inl e ↦ inl (eqb-true (at ts i) c e) | inr n ↦ inr (λ e. n (eq-eqb (at ts i) c e)) ]

  -- past the last token there is none
  pub end_code : (n : ℕ) → length ts ≤ n → at ts n ≡ 0
  unfolding code_at
  end_code n le = elim (slice_get_cases ts n).1 [
    | inl z ↦ absurd (let lt = z.1 in omega arith)
    | inr z ↦ rw z.1 refl
  ]

  -- a chain

  module _ (C : Chain (at ts) ExprTree) (closed : IsTrue (has C.ops 0) → ⊥) where
    tall : (b h i k : ℕ) (v : ExprTree) → Measures C.operand b v h i k → 1 ≤ h
    tall b zero i k v M = absurd (C.none.whole v i k ((C.single 0).whole v i k M.whole))
    tall b (suc h) i k v M = omega arith

    ahead : (b h i k : ℕ) (v : ExprTree) → Measures C.operand b v h i k → i < k
    ahead b h i k v M = elim ((C.ways.fine h).span v i k M.whole) [ inl lt ↦ lt | inr e ↦ absurd (let z : false ≡ true = e.0 in cc) ]

    module _ (b : ℕ) (right : 1 ≤ b → (k : ℕ) → Decision C.operand b k) (i : ℕ) where
      turns : (n h : ℕ) (v : ExprTree) (k : ℕ) → Along (at ts) C h v i k → h ≤ suc b → 1 ≤ h → length ts ≤ k + n → Decision C.form (suc b) i
      turns zero h v k A fit some u = inl (v, h, k, chain_stop (at ts) C h v i k A (suc b) fit (λ o. closed (subst (λ z. IsTrue (has C.ops z)) (end_code k (omega arith)) o)))
      turns (suc n) h v k A fit some u = elim (either_way (has C.ops (at ts k))) [
        | inl o ↦ elim (cases_lt h (suc b)) [
          | inl lt ↦ elim (right (omega arith) (suc k)) [
            | inl (r, h2, j, M) ↦ (
                let f = M.fits in
                let m = ahead b h2 (suc k) j r M in
                turns n (suc (max h h2)) (C.make (at ts k) v r i j) j (chain_step (at ts) C h v i k A o b h2 j r M) (omega arith) (omega arith) (omega arith))
            | inr (r, S) ↦ inr (r, chain_right_refuses (at ts) C h v i k A o b r (omega arith) S)
          ]
          | inr ge ↦ inr (exceeds k, chain_high (at ts) C h v i k A o (suc b) fit ge)
        ]
        | inr off ↦ inl (v, h, k, chain_stop (at ts) C h v i k A (suc b) fit off)
      ]

      chain_found : Decision C.operand (suc b) i → Decision C.form (suc b) i
      chain_found (inl (v, h, k, M)) = turns (length ts) h v k (chain_begin (at ts) C (suc b) h i k v M) M.fits (tall (suc b) h i k v M) (omega arith)
      chain_found (inr (r, S)) = inr (r, chain_first_refuses (at ts) C (suc b) i r S)

  -- a pair

  module _ (Q : Pair (at ts) ExprTree) (some : (b h i k : ℕ) (v : ExprTree) → Measures Q.operand b v h i k → 1 ≤ h) (b : ℕ) (right : 1 ≤ b → (k : ℕ) → Decision Q.right b k) (i : ℕ) where
    pair_found : Decision Q.operand (suc b) i → Decision Q.form (suc b) i
    pair_found (inl (v, h, k, M)) =
        let fit = M.fits in
        let tall = some (suc b) h i k v M in
        elim (either_way (has Q.ops (at ts k))) [
          | inl o ↦ elim (cases_lt h (suc b)) [
            | inl lt ↦ elim (right (omega arith) (suc k)) [
              | inl (r, h2, j, N) ↦ inl (Q.make (at ts k) v r i j, suc (max h h2), j, pair_reads (at ts) Q (suc b) h v i k M o b h2 j r (omega arith) N)
              | inr (r, S) ↦ inr (r, pair_right_refuses (at ts) Q (suc b) h v i k M o b r (omega arith) S)
            ]
            | inr ge ↦ inr (exceeds k, pair_high (at ts) Q (suc b) h v i k M o (suc b) fit ge)
          ]
          | inr off ↦ inl (v, h, k, pair_stop (at ts) Q (suc b) h v i k M (suc b) fit off)
        ]
    pair_found (inr (r, S)) = inr (r, pair_first_refuses (at ts) Q (suc b) i r S)

  -- NOT

  not_found : (b : ℕ) → (1 ≤ b → (k : ℕ) → Decision (negation ts) b k) → (i : ℕ) → Decision (comparison ts) (suc b) i → Decision (negation ts) (suc b) i
  not_found zero below i F = elim (is word_not i) [
    | inl o ↦ inr (exceeds i, not_high ts 1 i o 0 refl refl)
    | inr ne ↦ carry (plain ts 1 i ne) F
  ]
  not_found (suc b) below i F = elim (is word_not i) [
    | inl o ↦ carry (not_passes ts (suc (suc b)) i o (suc b) refl (suc i) refl) (below (omega arith) (suc i))
    | inr ne ↦ carry (plain ts (suc (suc b)) i ne) F
  ]

  -- tokens that are there

  constant_there : (i : ℕ) → IsTrue (has constant_first (at ts i)) → (v : ExprTree) × (constant_line ts).whole v i (suc i)
  constant_there i h = elim (has-cons word_true (at ts i) (word_false ∷ question ∷ word_bottom ∷ word_top ∷ []) h) [
    | inl e ↦ (tree ts (node.Truth true) i (suc i), inl (tt, refl, (sym e, refl)))
    | inr p ↦ elim (has-cons word_false (at ts i) (question ∷ word_bottom ∷ word_top ∷ []) p) [
      | inl e ↦ (tree ts (node.Truth false) i (suc i), inr (inl (tt, refl, (sym e, refl))))
      | inr q ↦ elim (has-cons question (at ts i) (word_bottom ∷ word_top ∷ []) q) [
        | inl e ↦ (tree ts node.Unknown i (suc i), inr (inr (inl (tt, refl, (sym e, refl)))))
        | inr r ↦ elim (has-cons word_bottom (at ts i) (word_top ∷ []) r) [
          | inl e ↦ (tree ts node.Bottom i (suc i), inr (inr (inr (inl (tt, refl, (sym e, refl))))))
          | inr s ↦ (tree ts node.Top i (suc i), inr (inr (inr (inr (tt, refl, (only word_top _ s, refl))))))
        ]
      ]
    ]
  ]

  type_there : (i : ℕ) → IsTrue (has type_first (at ts i)) → (t : TypeTree) × (type_line ts).whole t i (suc i)
  type_there i h = elim (has-cons word_boolean (at ts i) (word_integer ∷ word_level ∷ name_code ∷ []) h) [
    | inl e ↦ (ty.Boolean (span_of ts i (suc i)), inl (tt, refl, (sym e, refl)))
    | inr p ↦ elim (has-cons word_integer (at ts i) (word_level ∷ name_code ∷ []) p) [
      | inl e ↦ (ty.Integer (span_of ts i (suc i)), inr (inl (tt, refl, (sym e, refl))))
      | inr q ↦ elim (has-cons word_level (at ts i) (name_code ∷ []) q) [
        | inl e ↦ (ty.Level (span_of ts i (suc i)), inr (inr (inl (tt, refl, (sym e, refl)))))
        | inr r ↦ (
            let (n, s, f) = name_there ts i (only name_code _ r) in
            let v : Ident = record { name = n; span = s } in
            (ty.Named v, inr (inr (inr (v, refl, (f, refl))))))
      ]
    ]
  ]

  name_found : (i : ℕ) → ((v : Ident) × (slice_get ts i ≡ Some (record { kind = kind.Name v.name; span = v.span }))) ⊎ (at ts i ≡ name_code → ⊥)
  name_found i = elim (is name_code i) [
    | inl e ↦ (let (n, s, f) = name_there ts i e in inl (record { name = n; span = s }, f))
    | inr ne ↦ inr ne
  ]

  formal_found : (i : ℕ) → ((f : FormalTree) × (formal_line ts).whole f i (suc (suc i))) ⊎ ((r : Refusal) × Refuses (λ (_ : ℕ). formal_line ts) 0 i r)
  formal_found i = elim (either_way (has type_first (at ts i))) [
    | inl h ↦ (
        let (t, w) = type_there i h in
        elim (name_found (suc i)) [
          | inl (v, f) ↦ inl (record { ty = t; name = v }, formal_whole ts i (suc i) (suc (suc i)) t v refl refl w f)
          | inr ne ↦ inr (stops (suc i), no_formal_name ts i (suc i) t refl w ne)
        ])
    | inr off ↦ inr (stops i, no_type ts i off)
  ]

  module _ (b : ℕ) (below : 1 ≤ b → (k : ℕ) → Decision (expression ts) b k) where
    behind_found : (c i : ℕ) → Decision (Behind ts c) b i
    behind_found c i = elim (is c i) [
      | inl o ↦ elim (cases_lt 0 b) [
        | inl lt ↦ carry (behind_passes ts c b i o (suc i) refl) (below lt (suc i))
        | inr ge ↦ inr (exceeds i, behind_high ts c b i o (omega arith))
      ]
      | inr ne ↦ inr (stops i, not_behind ts c b i ne)
    ]

    -- arguments

    module _ (i : ℕ) (o : at ts i ≡ left_parenthesis) (g : IsTrue (has expression_first (at ts (suc i)))) (le : 1 ≤ b) (h1 k0 : ℕ) (v : ExprTree) (M : Measures (expression ts) b v h1 (suc i) k0) where
      close : (h2 k : ℕ) (us : List ExprTree) → Rest ts us h2 k0 k → h2 ≤ b → (at ts k ≡ comma → ⊥) → Decision (Args ts) b i
      close h2 k us R fit ne = elim (is right_parenthesis k) [
        | inl t ↦ inl (v ∷ us, max h1 h2, suc k, args_reads ts b i o (suc i) refl g h1 k0 v M h2 k us R fit ne (suc k) (max h1 h2) refl refl t)
        | inr nt ↦ inr (stops k, args_open ts b i o (suc i) refl g h1 k0 v M h2 k us R fit ne nt)
      ]

      rest_found : (n h2 k : ℕ) (us : List ExprTree) → Rest ts us h2 k0 k → h2 ≤ b → length ts ≤ k + n → Decision (Args ts) b i
      rest_found zero h2 k us R fit u = close h2 k us R fit (λ e. let z = end_code k (omega arith) in let y : comma ≡ 0 = sym e ∙ z in absurd cc)
      rest_found (suc n) h2 k us R fit u = elim (is comma k) [
        | inl t ↦ elim (behind_found comma k) [
          | inl (w, h3, j, N) ↦ (
              let f = N.fits in
              let lt : k < j = elim ((fine_next ts h3).span w k j N.whole) [ inl lt ↦ lt | inr e ↦ absurd (let z : false ≡ true = e.0 in cc) ] in
              rest_found n (max h2 h3) j (us ++ w ∷ []) (one_more_arg ts b h2 h3 k0 k j (max h2 h3) w us R refl N) (omega arith) (omega arith))
          | inr (r, S) ↦ inr (r, item_refuses ts b i o (suc i) refl g h1 k0 v M h2 k us R fit le t r S)
        ]
        | inr ne ↦ close h2 k us R fit ne
      ]

    args_found : (i : ℕ) → at ts i ≡ left_parenthesis → Decision (Args ts) b i
    args_found i o = elim (is right_parenthesis (suc i)) [
      | inl t ↦ inl ([], 0, suc (suc i), no_args ts b i o (suc i) refl (suc (suc i)) refl t)
      | inr ne ↦ elim (either_way (has expression_first (at ts (suc i)))) [
        | inl g ↦ elim (cases_lt 0 b) [
          | inl le ↦ elim (below le (suc i)) [
            | inl (v, h1, k0, M) ↦ rest_found i o g le h1 k0 v M (length ts) 0 k0 [] (rest_none ts k0) (omega arith) (omega arith)
            | inr (r, S) ↦ inr (r, head_refuses ts b i o (suc i) refl g r S)
          ]
          | inr ge ↦ inr (exceeds (suc i), args_high ts b i o (suc i) refl g (omega arith) ne)
        ]
        | inr off ↦ inr (stops (suc i), args_stop ts b i o (suc i) refl off ne)
      ]
    ]

    -- the choices of a primary

    module _ (i : ℕ) where
      abbrev Primary : Type 0
      Primary = Decision (primary ts) (suc b) i

      minus_found : at ts i ≡ minus → Primary
      minus_found o = elim (is number_code (suc i)) [
        | inl e ↦ (
            let (n, r, f) = number_there ts (suc i) e in
            let w = negative_whole ts i (suc i) (suc (suc i)) n (signed (Some tt) n) refl refl o (r, f) refl in
            inl (_, 1, suc (suc i), number_reads ts b (suc b) i refl minus (suc (suc i)) _ o (λ k. cc) w))
        | inr ne ↦ inr (stops (suc i), number_refuses ts b (suc b) i refl minus o (λ k. cc) (stops (suc i)) (no_digits ts i (suc i) refl o ne))
      ]

      call_found : (v : Ident) → slice_get ts i ≡ Some (record { kind = kind.Name v.name; span = v.span }) → at ts i ≡ name_code → Primary
      call_found v f o = elim (is left_parenthesis (suc i)) [
        | inl t ↦ elim (args_found (suc i) t) [
          | inl (es, h, j, M) ↦ inl (_, suc h, j, call_reads ts b (suc b) i refl v f o (suc i) refl h (suc h) j es refl M)
          | inr (r, S) ↦ inr (r, call_refuses ts b (suc b) i refl v f o (suc i) refl t r S)
        ]
        | inr ne ↦ inl (_, 1, suc i, name_reads ts b (suc b) i refl v f o (suc i) refl ne)
      ]

      new_found : at ts i ≡ quote → Primary
      new_found o = elim (name_found (suc i)) [
        | inl (v, f) ↦ elim (is left_parenthesis (suc (suc i))) [
          | inl t ↦ elim (args_found (suc (suc i)) t) [
            | inl (es, h, j, M) ↦ inl (_, suc h, j, new_reads ts b (suc b) i refl o (suc i) refl v (suc (suc i)) f refl h (suc h) j es refl M)
            | inr (r, S) ↦ inr (r, new_refuses ts b (suc b) i refl o (suc i) refl v (suc (suc i)) f refl r S)
          ]
          | inr ne ↦ inr (stops (suc (suc i)), new_no_args ts b (suc b) i refl o (suc i) refl v (suc (suc i)) f refl ne)
        ]
        | inr ne ↦ inr (stops (suc i), new_no_name ts b (suc b) i refl o (suc i) refl ne)
      ]

      paren_found : at ts i ≡ left_parenthesis → Primary
      paren_found o = elim (behind_found left_parenthesis i) [
        | inl (v, h, k, M) ↦ elim (is right_parenthesis k) [
          | inl t ↦ inl (_, suc h, suc k, paren_reads ts b (suc b) i refl o h k v M (suc k) (suc h) refl refl t)
          | inr ne ↦ inr (stops k, paren_open ts b (suc b) i refl o h k v M ne)
        ]
        | inr (r, S) ↦ inr (r, paren_refuses ts b (suc b) i refl o r S)
      ]

      if_found : at ts i ≡ word_if → Primary
      if_found o = elim (behind_found word_if i) [
        | inl (v1, h1, k1, M1) ↦ elim (behind_found word_then k1) [
          | inl (v2, h2, k2, M2) ↦ elim (behind_found word_else k2) [
            | inl (v3, h3, k3, M3) ↦ elim (is word_end_if k3) [
              | inl t ↦ inl (_, suc (max h1 (max h2 h3)), suc k3, if_reads ts b (suc b) i refl o h1 k1 v1 M1 h2 k2 v2 M2 h3 k3 v3 M3 (suc k3) (suc (max h1 (max h2 h3))) refl refl t)
              | inr ne ↦ inr (stops k3, if_open ts b (suc b) i refl o h1 k1 v1 M1 h2 k2 v2 M2 h3 k3 v3 M3 ne)
            ]
            | inr (r, S) ↦ inr (r, else_refuses ts b (suc b) i refl o h1 k1 v1 M1 h2 k2 v2 M2 r S)
          ]
          | inr (r, S) ↦ inr (r, then_refuses ts b (suc b) i refl o h1 k1 v1 M1 r S)
        ]
        | inr (r, S) ↦ inr (r, if_refuses ts b (suc b) i refl o r S)
      ]

      join_found : (lub : Bool) → at ts i ≡ join_code lub → Primary
      join_found lub o = elim (cases_lt 0 b) [
        | inl le ↦ elim (behind_found left_parenthesis (suc i)) [
          | inl (v1, h1, k1, M1) ↦ elim (behind_found comma k1) [
            | inl (v2, h2, k2, M2) ↦ elim (is right_parenthesis k2) [
              | inl t ↦ inl (_, suc (max h1 h2), suc k2, join_reads ts b (suc b) i refl lub o (suc i) refl le h1 k1 v1 M1 h2 k2 v2 M2 (suc k2) (suc (max h1 h2)) refl refl t)
              | inr ne ↦ inr (stops k2, join_open ts b (suc b) i refl lub o (suc i) refl le h1 k1 v1 M1 h2 k2 v2 M2 ne)
            ]
            | inr (r, S) ↦ inr (r, right_refuses ts b (suc b) i refl lub o (suc i) refl le h1 k1 v1 M1 r S)
          ]
          | inr (r, S) ↦ inr (r, left_refuses ts b (suc b) i refl lub o (suc i) refl le r S)
        ]
        | inr ge ↦ inr (exceeds i, join_high ts b (suc b) i refl lub o (omega arith))
      ]

      quant_found : (forall : Bool) → at ts i ≡ quant_code forall → Primary
      quant_found forall o = elim (cases_lt 0 b) [
        | inl le ↦ elim (formal_found (suc i)) [
          | inl (f, w) ↦ (
              let u = suc (suc (suc i)) in
              elim (behind_found colon u) [
                | inl (v, h, k, M) ↦ elim (is (close_code forall) k) [
                  | inl t ↦ inl (_, suc h, suc k, quant_reads ts b (suc b) i refl forall o (suc i) refl le u f w h k v M (suc k) (suc h) refl refl t)
                  | inr ne ↦ inr (stops k, quant_open ts b (suc b) i refl forall o (suc i) refl le u f w h k v M ne)
                ]
                | inr (r, S) ↦ inr (r, body_refuses ts b (suc b) i refl forall o (suc i) refl le u f w r S)
              ])
          | inr (r, S) ↦ inr (r, variable_refuses ts b (suc b) i refl forall o (suc i) refl le r S)
        ]
        | inr ge ↦ inr (exceeds i, quant_high ts b (suc b) i refl forall o (omega arith))
      ]

      primary_found : Primary
      primary_found = elim (is minus i) [
        | inl o ↦ minus_found o
        | inr n1 ↦ elim (is number_code i) [
          | inl o ↦ (let (n, r, f) = number_there ts i o in inl (_, 1, suc i, number_leaf ts b (suc b) i refl n n r f refl))
          | inr n2 ↦ elim (either_way (has constant_first (at ts i))) [
            | inl h ↦ (let (v, w) = constant_there i h in inl (v, 1, suc i, constant_reads ts b (suc b) i refl (suc i) v (omega arith) w))
            | inr n3 ↦ elim (is name_code i) [
              | inl o ↦ (let (n, s, f) = name_there ts i o in call_found (record { name = n; span = s }) f o)
              | inr n4 ↦ elim (is quote i) [
                | inl o ↦ new_found o
                | inr n5 ↦ elim (is left_parenthesis i) [
                  | inl o ↦ paren_found o
                  | inr n6 ↦ elim (is word_if i) [
                    | inl o ↦ if_found o
                    | inr n7 ↦ elim (is (join_code true) i) [
                      | inl o ↦ join_found true o
                      | inr n8 ↦ elim (is (join_code false) i) [
                        | inl o ↦ join_found false o
                        | inr n9 ↦ elim (is (quant_code true) i) [
                          | inl o ↦ quant_found true o
                          | inr n10 ↦ elim (is (quant_code false) i) [
                            | inl o ↦ quant_found false o
                            | inr n11 ↦ inr (stops i, no_primary ts b (suc b) i refl (none_first ts i n1 n2 n3 n4 n5 n6 n7 n8 n9 n10 n11))
                          ]
                        ]
                      ]
                    ]
                  ]
                ]
              ]
            ]
          ]
        ]
      ]

  -- the lines within one budget

  record Tiers (b : ℕ) : Type 0 where
    chains : (l : Level) (k : ℕ) → Decision (chain_form ts l) b k
    operands : (l : Level) (k : ℕ) → Decision (operand_form ts l) b k
    pairs : (p : Two) (k : ℕ) → Decision (pair_form ts p) b k

  no_op : (l : Level) → IsTrue (has (chain_ops l) 0) → ⊥
  no_op chain.Iff h = cc
  no_op chain.Or h = cc
  no_op chain.And h = cc
  no_op chain.Sum h = cc
  no_op chain.Product h = cc

  chain_tall : (l : Level) (b h i k : ℕ) (v : ExprTree) → Measures (chain_form ts l) b v h i k → 1 ≤ h
  chain_tall l b zero i k v M = absurd ((chain_of ts l).none.whole v i k M.whole)
  chain_tall l b (suc h) i k v M = omega arith

  build : (b : ℕ) → (1 ≤ b → Tiers b) → Tiers (suc b)
  build b T = record { chains = chains; operands = operands; pairs = pairs }
    where
      products : (k : ℕ) → Decision (chain_form ts chain.Product) (suc b) k
      products k = chain_found (chain_of ts chain.Product) (no_op chain.Product) b (λ le. (T le).operands chain.Product) k (primary_found b (λ le. (T le).chains chain.Iff) k)

      sums : (k : ℕ) → Decision (chain_form ts chain.Sum) (suc b) k
      sums k = chain_found (chain_of ts chain.Sum) (no_op chain.Sum) b (λ le. (T le).operands chain.Sum) k (products k)

      comparisons : (k : ℕ) → Decision (pair_form ts pair.Comparison) (suc b) k
      comparisons k = pair_found (pair_of ts pair.Comparison) (chain_tall chain.Sum) b (λ le. (T le).chains chain.Sum) k (sums k)

      negations : (k : ℕ) → Decision (operand_form ts chain.And) (suc b) k
      negations k = not_found b (λ le. (T le).operands chain.And) k (comparisons k)

      conjunctions : (k : ℕ) → Decision (chain_form ts chain.And) (suc b) k
      conjunctions k = chain_found (chain_of ts chain.And) (no_op chain.And) b (λ le. (T le).operands chain.And) k (negations k)

      disjunctions : (k : ℕ) → Decision (chain_form ts chain.Or) (suc b) k
      disjunctions k = chain_found (chain_of ts chain.Or) (no_op chain.Or) b (λ le. (T le).operands chain.Or) k (conjunctions k)

      implications : (k : ℕ) → Decision (pair_form ts pair.Implies) (suc b) k
      implications k = pair_found (pair_of ts pair.Implies) (chain_tall chain.Or) b (λ le. (T le).pairs pair.Implies) k (disjunctions k)

      chains : (l : Level) (k : ℕ) → Decision (chain_form ts l) (suc b) k
      chains chain.Iff k = chain_found (chain_of ts chain.Iff) (no_op chain.Iff) b (λ le. (T le).operands chain.Iff) k (implications k)
      chains chain.Or k = disjunctions k
      chains chain.And k = conjunctions k
      chains chain.Sum k = sums k
      chains chain.Product k = products k

      operands : (l : Level) (k : ℕ) → Decision (operand_form ts l) (suc b) k
      operands chain.Iff k = implications k
      operands chain.Or k = conjunctions k
      operands chain.And k = negations k
      operands chain.Sum k = products k
      operands chain.Product k = primary_found b (λ le. (T le).chains chain.Iff) k

      pairs : (p : Two) (k : ℕ) → Decision (pair_form ts p) (suc b) k
      pairs pair.Implies k = implications k
      pairs pair.Comparison k = comparisons k

  tiers : (b : ℕ) → Tiers (suc b)
  tiers zero = build zero (λ le. absurd (omega arith))
  tiers (suc b) = build (suc b) (λ le. tiers b)

  pub decide_expression : (b i : ℕ) → Decision (expression ts) (suc b) i
  decide_expression b i = (tiers b).chains chain.Iff i
