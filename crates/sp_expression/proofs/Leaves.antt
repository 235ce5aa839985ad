-- What is read and refused of the forms without expressions in them.
use Rattle.std.proofs.Common.{◌≡◌, ℕ, ℤ, suc, inl, false, IsTrue, List, Some, slice_get, refl, sym, ap, subst}
use Rattle.sp_text.specs.declared.fault.Span.{Span}
use Rattle.sp_text.specs.declared.token.Token.{Token}
use Rattle.sp_text.specs.declared.token.TokenKind.TheVariants as kind
use Rattle.sp_text.specs.declared.fault.TextFault.{TextFault}
use Rattle.sp_text.specs.declared.fault.TextFault.TheVariants as fault
use Rattle.sp_tree.specs.declared.names.Ident.{Ident}
use Rattle.sp_tree.specs.declared.names.TypeTree.{TypeTree}
use Rattle.sp_tree.specs.declared.expr.ExprNode.TheVariants as node
use Rattle.sp_grammar.specs.Lang.{Lang, seq, optional, token, has, Measures, Stops, Refusal, stops, exceeds, Refuses}
use Rattle.sp_grammar.specs.Codes.{minus, name_code, number_code}
use Rattle.sp_grammar.proofs.Inside.{itself, of_made, past, broken, given, only, none_begins, closed_reads}
use Rattle.sp_grammar.proofs.Places.{token_reads}
use Rattle.sp_expression.specs.Contract.{Fails, type_first}
use Rattle.sp_expression.specs.Grammar.{at, tree, ident, digits, signed, number_tree, number_line, formal_tree, formal_line, type_line}
use Rattle.sp_expression.proofs.Laws.{token_at, ident_rule, digits_rule, sign_rule, type_rule}

-- a refusal of a part as one of the whole
pub fails_by : {V W : Type 0} (F : ℕ → Lang V) (G : ℕ → Lang W) (b c : ℕ) (ts : List Token) (end i j : ℕ) (e : TextFault)
    → ((r : Refusal) → Refuses F b i r → Refuses G c j r) → Fails F b ts end i e → Fails G c ts end j e
fails_by F G b c ts end i j (fault.Malformed m) f (n, p, q) = (n, f (stops n) p, q)
fails_by F G b c ts end i j (fault.Limit l) f (n, p, q) = (n, f (exceeds n) p, q)
fails_by F G b c ts end i j fault.Memory f p = tt

module _ (ts : List Token) where
  -- a number behind a sign

  pub negative_whole : (i s j : ℕ) (n m : ℤ) → s ≡ suc i → j ≡ suc s → at ts i ≡ minus → (r : Span) × (slice_get ts s ≡ Some (record { kind = kind.Number n; span = r })) → m ≡ signed (Some tt) n
      → (number_line ts).whole (tree ts (node.Number m) i j) i j
  negative_whole i s j n m e f c d g = ((Some tt, n), ap (λ (z : ℤ). tree ts (node.Number z) i j) g, (s, (c, e), (d, f)))

  pub no_digits : (i s : ℕ) → s ≡ suc i → at ts i ≡ minus → (at ts s ≡ number_code → ⊥) → Stops (λ (_ : ℕ). number_line ts) 0 i s
  no_digits i s e c ne =
      let o = of_made (λ (_ : ℕ). number_line ts) 0 i 0 i (λ w j. w) (λ h. h) (number_tree ts) (λ (_ : ℕ). seq (optional (token (at ts) minus)) (digits ts)) (itself (λ (_ : ℕ). number_line ts) 0 i) in
      let p = past (at ts) (sign_rule ts) (digits_rule ts) refl (λ (_ : ℕ). number_line ts) 0 i 0 i _ _ o (Some tt) 0 s
      (subst (λ z. Measures (λ (_ : ℕ). optional (token (at ts) minus)) 0 (Some tt) 0 i z) (sym e) (given (at ts) (token_at ts minus) refl 0 i 0 (suc i) tt (token_reads (at ts) minus 0 i c))) in
      p.refuses (stops s) (none_begins (at ts) (digits_rule ts) refl 0 s refl (λ h. ne (only number_code (at ts s) h)))

  -- a formal

  pub no_type : (i : ℕ) → (IsTrue (has type_first (at ts i)) → ⊥) → Stops (λ (_ : ℕ). formal_line ts) 0 i i
  no_type i off =
      let o = of_made (λ (_ : ℕ). formal_line ts) 0 i 0 i (λ w j. w) (λ h. h) (formal_tree ts) (λ (_ : ℕ). seq (type_line ts) (ident ts)) (itself (λ (_ : ℕ). formal_line ts) 0 i) in
      broken (at ts) (type_rule ts) (ident_rule ts) refl (λ (_ : ℕ). formal_line ts) 0 i 0 i _ _ o (λ d m. inl refl) (stops i)
      (none_begins (at ts) (type_rule ts) refl 0 i (inl refl) off)

  pub no_formal_name : (i s : ℕ) (t : TypeTree) → s ≡ suc i → (type_line ts).whole t i (suc i) → (at ts s ≡ name_code → ⊥) → Stops (λ (_ : ℕ). formal_line ts) 0 i s
  no_formal_name i s t e w ne =
      let o = of_made (λ (_ : ℕ). formal_line ts) 0 i 0 i (λ w j. w) (λ h. h) (formal_tree ts) (λ (_ : ℕ). seq (type_line ts) (ident ts)) (itself (λ (_ : ℕ). formal_line ts) 0 i) in
      let p = past (at ts) (type_rule ts) (ident_rule ts) refl (λ (_ : ℕ). formal_line ts) 0 i 0 i _ _ o t 0 s
      (subst (λ z. Measures (λ (_ : ℕ). type_line ts) 0 t 0 i z) (sym e) (closed_reads (at ts) false type_first (type_line ts) ((type_rule ts).fine 0) 0 i (suc i) t w)) in
      p.refuses (stops s) (none_begins (at ts) (ident_rule ts) refl 0 s refl (λ h. ne (only name_code (at ts s) h)))

  pub formal_whole : (i s j : ℕ) (t : TypeTree) (v : Ident) → s ≡ suc i → j ≡ suc s → (type_line ts).whole t i (suc i) → slice_get ts s ≡ Some (record { kind = kind.Name v.name; span = v.span })
      → (formal_line ts).whole (record { ty = t; name = v }) i j
  formal_whole i s j t v e f w d = ((t, v), refl, (s, subst (λ z. (type_line ts).whole t i z) (sym e) w, (d, f)))
