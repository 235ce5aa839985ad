-- The steps of the reader say which token is the first that doesn't go on.
use Rattle.std.proofs.Common.{◌≡◌, ℕ, zero, suc, ◌+◌, ◌<◌, ◌≤◌, inl, inr, IsTrue, List, length, refl, subst, arith}
use Rattle.std.proofs.lemmas.Bool.{cases_lt}
use Rattle.sp_text.specs.declared.token.Token.{Token}
use Rattle.sp_text.specs.declared.fault.TextFault.{TextFault}
use Rattle.sp_text.specs.declared.fault.TextFault.TheVariants as fault
use Rattle.sp_text.specs.declared.fault.Rule.TheVariants.{Unexpected}
use Rattle.sp_text.specs.declared.fault.Quantity.TheVariants.{Height}
use Rattle.sp_tree.specs.declared.expr.ExprTree.{ExprTree}
use Rattle.sp_grammar.specs.Lang.{Lang, Prefix, has, Measures, stops, exceeds}
use Rattle.sp_grammar.specs.Codes.{place_of}
use Rattle.sp_grammar.proofs.Chain.{grow_to, sub_prefix}
use Rattle.sp_expression.specs.Contract.{Fails, expression_first}
use Rattle.sp_expression.specs.Front.{IsFront, IsFirstOff, IsOver, Refused}
use Rattle.sp_expression.specs.Grammar.{at, expression}
use Rattle.sp_expression.proofs.Decisions.{Decision, decide_expression}
use Rattle.sp_expression.proofs.Laws.{fine, grows}
use Rattle.sp_expression.proofs.Present.{in_text}
use Rattle.sp_expression.proofs.Steps.{empty_expr, first_of}

module _ (ts : List Token) where
  abbrev F : ℕ → Lang ExprTree
  F = expression ts

  shorter : (b i n m : ℕ) → Prefix (F b) i n → i ≤ m → m ≤ n → Prefix (F b) i m
  shorter b i n m p h k = elim (cases_lt m n) [
    | inl lt ↦ inl (elim p [ inl x ↦ (fine ts b).expression.closed_part i n m x h lt | inr (v, w) ↦ (fine ts b).expression.closed v i n m w h lt ])
    | inr ge ↦ (let e : n ≡ m = omega arith in subst (λ z. Prefix (F b) i z) e p)
  ]

  first_off : (b i n : ℕ) → Prefix (F b) i n → ((m : ℕ) → Prefix (F b) i m → m ≤ n) → IsFirstOff F b i n
  first_off b i n p f = record {
    before = λ m h k. shorter b i n (suc m) p (omega arith) (omega arith);
    off = λ q. let x = f (suc n) q in omega arith;
  }

  le_prefix : (c i m : ℕ) → Prefix (F c) i m → i ≤ m
  le_prefix c i m (inl p) = (fine ts c).expression.ahead i m p
  le_prefix c i m (inr (v, w)) = elim ((fine ts c).expression.span v i m w) [ inl lt ↦ omega arith | inr e ↦ (let q = e.1 in omega arith) ]

  -- What goes past n within some height belongs to a front: a reader within that height reads on, up to a front or to a
  -- token that exceeds the height, which is one further on.
  one_further : (c i n : ℕ) → i ≤ n → Prefix (F (suc c)) i (suc n) → ((d m : ℕ) → n < m → Prefix (F d) i (suc m) → (k : ℕ) × IsFront F i k × (m < k)) → Decision F (suc c) i → (k : ℕ) × IsFront F i k × (n < k)
  one_further c i n u p next (inl (v, h, j, M)) = (j, record { some = (h, inr (v, M.whole)); longest = M.front }, let x = M.front (suc c) (suc n) p in omega arith)
  one_further c i n u p next (inr (stops m, S)) = (m, record { some = (suc c, S.so_far); longest = S.front }, let x = S.front (suc c) (suc n) p in omega arith)
  one_further c i n u p next (inr (exceeds m, E)) =
      let x = E.front (suc n) p in
      let (k, f, lt) = next (E.over.0) m (omega arith) E.over.1 in
      (k, f, omega arith)

  front_beyond : (fuel c i n : ℕ) → i ≤ n → Prefix (F c) i (suc n) → length ts ≤ n + fuel → (k : ℕ) × IsFront F i k × (n < k)
  front_beyond zero c i n u p e = absurd (let x = in_text ts c i n p u in omega arith)
  front_beyond (suc fuel) zero i n u (inl p) e = absurd p
  front_beyond (suc fuel) zero i n u (inr p) e = absurd p.1
  front_beyond (suc fuel) (suc c) i n u p e = one_further c i n u p (λ d m lt q. front_beyond fuel d i m (omega arith) q (omega arith)) (decide_expression ts c i)

  over : (b i n : ℕ) → ((m : ℕ) → Prefix (F b) i m → m ≤ n) → (c : ℕ) → i ≤ n → Prefix (F c) i (suc n) → IsOver F b i n
  over b i n most c u p = record {
    front = front_beyond (length ts) c i n u p (omega arith);
    larger = (
      c,
      elim (cases_lt b c) [
        | inl lt ↦ lt
        | inr ge ↦ absurd (let x = most (suc n) (sub_prefix (F c) (F b) i (suc n) (grow_to F (λ d. (grows ts d).expression) c b ge) p) in omega arith)
      ],
      p,
    );
  }

  -- within a limit that is exceeded, the front isn't an expression
  none_within : (b i n : ℕ) → ((m : ℕ) → Prefix (F b) i m → m ≤ n) → IsOver F b i n → (m : ℕ) (v : ExprTree) → IsFront F i m → (F b).whole v i m → ⊥
  none_within b i n most o m v f w =
      let x = f.longest (o.larger.0) (suc n) o.larger.2 in
      let y = most m (inr (v, w)) in
      omega arith

  pub refused : (b end i : ℕ) (e : TextFault) → Fails F b ts end i e → Refused F b ts end i e
  refused b end i (fault.Malformed s) (n, S, q) = (
    n,
    first_off b i n S.so_far (S.front b),
    record { some = (b, S.so_far); longest = S.front },
    (λ m v f w.
        let x = f.longest b n S.so_far in
        let y = S.front b m (inr (v, w)) in
        let z : m ≡ n = omega arith in
        S.not_whole b v (subst (λ k. (F b).whole v i k) z w)),
    q,
  )
  refused b end i (fault.Limit s) (n, E, q) = let here = over b i n E.front (E.over.0) (le_prefix b i n E.so_far) E.over.1 in (
    n,
    first_off b i n E.so_far E.front,
    here,
    none_within b i n E.front here,
    q,
  )
  refused b end i fault.Memory f = tt

  pub answered : (b h i j : ℕ) (v : ExprTree) → Measures F b v h i j → IsFront F i j × (F b).whole v i j
  answered b h i j v M = (
    record { some = (h, inr (v, M.whole)); longest = M.front },
    (grow_to F (λ d. (grows ts d).expression) h b M.fits).whole v i j M.whole,
  )

  -- within no height at all
  none_off : (i : ℕ) → IsFirstOff F 0 i i
  none_off i = record {
    before = λ m h k. absurd (omega arith);
    off = λ q. elim q [ inl x ↦ x | inr x ↦ x.1 ];
  }

  none_at_all : (i m : ℕ) → Prefix (F 0) i m → m ≤ i
  none_at_all i m (inl x) = absurd x
  none_at_all i m (inr x) = absurd x.1

  pub refused_high : (end i : ℕ) → IsTrue (has expression_first (at ts i)) → Refused F 0 ts end i (fault.Limit (record { span = place_of ts end i; quantity = Height }))
  refused_high end i h = let (c, p) = first_of ts i h in (i, none_off i, over 0 i i (none_at_all i) c (omega arith) p, (λ n v f w. w), refl)

  pub refused_off : (end i : ℕ) → (IsTrue (has expression_first (at ts i)) → ⊥) → Refused F 0 ts end i (fault.Malformed (record { span = place_of ts end i; rule = Unexpected }))
  refused_off end i off = (i, none_off i, record { some = (1, inl (empty_expr ts 0 i)); longest = longest }, (λ n v f w. w), refl)
    where
      begins : (c m : ℕ) → Prefix (F c) i m → i < m → IsTrue (has expression_first (at ts i))
      begins c m (inl x) lt = (fine ts c).expression.start_part i m x lt
      begins c m (inr (v, w)) lt = (fine ts c).expression.start v i m w lt

      longest : (c m : ℕ) → Prefix (F c) i m → m ≤ i
      longest c m p = elim (cases_lt i m) [ inl lt ↦ absurd (off (begins c m p lt)) | inr ge ↦ ge ]

  -- no other answer comes

  pub only_fault : (b end i : ℕ) (e : TextFault) → Refused F b ts end i e → (n : ℕ) (v : ExprTree) → IsFront F i n → (F b).whole v i n → e ≡ fault.Memory
  only_fault b end i (fault.Malformed s) (m, p, q, never, z) n v f w = absurd (never n v f w)
  only_fault b end i (fault.Limit s) (m, p, q, never, z) n v f w = absurd (never n v f w)
  only_fault b end i fault.Memory u n v f w = refl

  pub only_tree : (b i j : ℕ) (u : ExprTree) → IsFront F i j × (F b).whole u i j → (n : ℕ) (v : ExprTree) → IsFront F i n → (F b).whole v i n → (u ≡ v) × (j ≡ n)
  only_tree b i j u (f, w) n v g x =
      let p = f.longest (g.some.0) n g.some.1 in
      let q = g.longest (f.some.0) j f.some.1 in
      let e : j ≡ n = omega arith in
      ((fine ts b).expression.same u v i n (subst (λ k. (F b).whole u i k) e w) x, e)
