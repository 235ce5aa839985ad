-- Whoever reads or refuses an expression at a place finds what `read_expr` finds there.
use Rattle.std.proofs.Common.{◌≡◌, ◌≢◌, ℕ, suc, ◌≤◌, inl, inr, List, Ok, Err, refl, subst, arith}
use Rattle.sp_text.specs.declared.token.Token.{Token}
use Rattle.sp_text.specs.declared.fault.TextFault.{TextFault}
use Rattle.sp_text.specs.declared.fault.TextFault.TheVariants as fault
use Rattle.sp_tree.specs.declared.expr.ExprTree.{ExprTree}
use Rattle.sp_grammar.specs.Lang.{Lang, Measures, Stops, Exceeds, stops, exceeds}
use Rattle.sp_grammar.proofs.Chain.{Sub}
use Rattle.sp_expression.specs.Contract.{Fails}
use Rattle.sp_expression.specs.Grammar.{expression}
use Rattle.sp_expression.proofs.Decisions.{Decision, decide_expression}
use Rattle.sp_expression.proofs.Laws.{fine}
use Rattle.sp_forms.specs.Cursors.{Cursor, go, unexpected, too_high}
use Rattle.sp_forms.specs.Readers.{found_outcome, read_expr}
use Rattle.sp_forms.proofs.Laws.{grown}

module _ {V : Type 0} {F : ℕ → Lang V} {b i : ℕ} where
  no_stop : {v : V} {h j n : ℕ} → Measures F b v h i j → Stops F b i n → ⊥
  no_stop {v} {h} {j} {n} M S =
      let x = M.front b n S.so_far in
      let y = S.front h j (inr (v, M.whole)) in
      let e : j ≡ n = omega arith in
      S.not_whole h v (subst (λ z. (F h).whole v i z) e M.whole)

  no_excess : {v : V} {h j n : ℕ} → ((h g : ℕ) → h ≤ g → Sub (F h) (F g)) → Measures F b v h i j → Exceeds F b i n → ⊥
  no_excess {v} {h} {j} {n} grown M E =
      let x = M.front (E.over.0) (suc n) E.over.1 in
      let y = E.front j (inr (v, (grown h b M.fits).whole v i j M.whole)) in
      omega arith

  not_both : {n m : ℕ} → Stops F b i n → Exceeds F b i m → ⊥
  not_both {n} {m} S E =
      let x = S.front (E.over.0) (suc m) E.over.1 in
      let y = E.front n S.so_far in
      omega arith

  one_stop : {n m : ℕ} → Stops F b i n → Stops F b i m → n ≡ m
  one_stop {n} {m} S T = let x = S.front b m T.so_far in let y = T.front b n S.so_far in omega arith

  one_excess : {n m : ℕ} → Exceeds F b i n → Exceeds F b i m → n ≡ m
  one_excess {n} {m} S T = let x = S.front m T.so_far in let y = T.front n S.so_far in omega arith

module _ (i : Cursor) (b : ℕ) where
  abbrev ts : List Token
  ts = i.tokens

  found_reads : (x : Decision (expression ts) b i.place) {v : ExprTree} {h j : ℕ} → Measures (expression ts) b v h i.place j → found_outcome i x ≡ Ok (v, go i j)
  found_reads (inl (w, g, k, N)) {v} {h} {j} M =
      let x = M.front g k (inr (w, N.whole)) in
      let y = N.front h j (inr (v, M.whole)) in
      let e : k ≡ j = omega arith in
      let W = subst (λ z. (expression ts b).whole w i.place z) e ((grown ts g b N.fits).whole w i.place k N.whole) in
      let f = (fine ts b).expression.same w v i.place j W ((grown ts h b M.fits).whole v i.place j M.whole) in
      rw (e, f) refl
  found_reads (inr (stops n, S)) M = absurd (no_stop M S)
  found_reads (inr (exceeds n, E)) M = absurd (no_excess (grown ts) M E)

  found_fails : (x : Decision (expression ts) b i.place) (e : TextFault) → e ≢ fault.Memory → Fails (expression ts) b ts i.end i.place e → found_outcome i x ≡ Err e
  unfolding unexpected too_high
  found_fails (inl (w, g, k, N)) (fault.Malformed m) ne (n, S, q) = absurd (no_stop N S)
  found_fails (inl (w, g, k, N)) (fault.Limit m) ne (n, E, q) = absurd (no_excess (grown ts) N E)
  found_fails (inr (stops k, T)) (fault.Malformed m) ne (n, S, q) = rw (one_stop T S, q) refl
  found_fails (inr (stops k, T)) (fault.Limit m) ne (n, E, q) = absurd (not_both T E)
  found_fails (inr (exceeds k, T)) (fault.Malformed m) ne (n, S, q) = absurd (not_both S T)
  found_fails (inr (exceeds k, T)) (fault.Limit m) ne (n, E, q) = rw (one_excess T E, q) refl
  found_fails (inl x) fault.Memory ne f = absurd (ne refl)
  found_fails (inr x) fault.Memory ne f = absurd (ne refl)

pub expr_reads : (b : ℕ) (i : Cursor) (v : ExprTree) (h j : ℕ) → Measures (expression i.tokens) (suc b) v h i.place j → read_expr (suc b) i ≡ Ok (v, go i j)
unfolding read_expr
expr_reads b i v h j M = found_reads i (suc b) (decide_expression i.tokens b i.place) M

pub expr_fails : (b : ℕ) (i : Cursor) (e : TextFault) → e ≢ fault.Memory → Fails (expression i.tokens) (suc b) i.tokens i.end i.place e → read_expr (suc b) i ≡ Err e
unfolding read_expr
expr_fails b i e ne f = found_fails i (suc b) (decide_expression i.tokens b i.place) e ne f
