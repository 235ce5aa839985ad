-- A reader inside a form: what it has read of the form, and what each token after it means for the whole of it.
use Rattle.std.proofs.Common.{◌≡◌, ℕ, suc, zero, max, ◌<◌, ◌≤◌, inl, inr, Bool, true, false, IsTrue, List, [], ◌∷◌, Some, None, refl, sym, subst, arith}
use Rattle.std.proofs.lemmas.Bool.{cases_lt}
use Rattle.sp_grammar.specs.Lang.{Lang, Prefix, nothing, lower, seq, either, made, optional, token, room, has, apart, Measures, Stops, Exceeds, Refusal, stops, exceeds, Refuses}
use Rattle.sp_grammar.proofs.Laws.{Fine, has-cons}
use Rattle.sp_grammar.proofs.Chain.{Sub, sub_refl, swap_either, sub_prefix}
use Rattle.sp_grammar.proofs.Places.{seq_reads, token_reads, token_stops, made_reads, either_reads, lower_reads}
use Rattle.sp_grammar.proofs.Lists.{none, optional_reads, optional_refuses, optional_exceeds_here, left_out}
use Rattle.sp_grammar.proofs.Refusals.{refuses_ahead, refuses_made, refuses_second, refuses_first, refuses_lower, refuses_either}
use Rattle.sp_grammar.proofs.Productions.{Production, goes, token_rule, some_fine}

-- where the code is known, it isn't another one
pub other : (at : ℕ → ℕ) (xs : List ℕ) (c i : ℕ) → at i ≡ c → (IsTrue (has xs c) → ⊥) → IsTrue (has xs (at i)) → ⊥
other at xs c i e k h = k (subst (λ x. IsTrue (has xs x)) e h)

-- one code less
pub none_of : (x n : ℕ) (xs : List ℕ) → (n ≡ x → ⊥) → (IsTrue (has xs n) → ⊥) → IsTrue (has (x ∷ xs) n) → ⊥
none_of x n xs f g h = elim (has-cons x n xs h) [ inl e ↦ f (sym e) | inr r ↦ g r ]

pub only : (x n : ℕ) → IsTrue (has (x ∷ []) n) → n ≡ x
only x n h = elim (has-cons x n [] h) [ inl e ↦ sym e | inr r ↦ absurd cc ]

-- G stands at k, within b, in L that begins at i, within c: what is read or refused of G from k on is read or refused of L.
-- `value` gives the value of L, `up` its height.
pub record Inside {V W : Type 0} (G : ℕ → Lang V) (b k : ℕ) (L : ℕ → Lang W) (c i : ℕ) (value : V → ℕ → W) (up : ℕ → ℕ) : Type 0 where
  pub reads : (w : V) (h j : ℕ) → Measures G b w h k j → Measures L c (value w j) (up h) i j
  pub refuses : (r : Refusal) → Refuses G b k r → Refuses L c i r

pub itself : {V : Type 0} (G : ℕ → Lang V) (b i : ℕ) → Inside G b i G b i (λ w j. w) (λ h. h)
itself G b i = record { reads = λ w h j M. M; refuses = λ r S. S }

-- two forms that are the same at each budget
module _ {V : Type 0} (F E : ℕ → Lang V) (out : (b : ℕ) → Sub (E b) (F b)) (back : (b : ℕ) → Sub (F b) (E b)) where
  pub as_same : (b i : ℕ) → Inside F b i E b i (λ w j. w) (λ h. h)
  as_same b i = record { reads = reads; refuses = refuses }
    where
      reads : (w : V) (h j : ℕ) → Measures F b w h i j → Measures E b w h i j
      reads w h j M = record {
        whole = (back h).whole w i j M.whole;
        fits = M.fits;
        least = λ c v x. M.least c v ((out c).whole v i j x);
        front = λ c m p. M.front c m (sub_prefix (E c) (F c) i m (out c) p);
      }

      refuses : (r : Refusal) → Refuses F b i r → Refuses E b i r
      refuses (stops n) S = record {
        so_far = sub_prefix (F b) (E b) i n (back b) S.so_far;
        front = λ c m p. S.front c m (sub_prefix (E c) (F c) i m (out c) p);
        not_whole = λ c v w. S.not_whole c v ((out c).whole v i n w);
      }
      refuses (exceeds n) S = record {
        so_far = sub_prefix (F b) (E b) i n (back b) S.so_far;
        front = λ m p. S.front m (sub_prefix (E b) (F b) i m (out b) p);
        over = (S.over.0, sub_prefix (F (S.over.0)) (E (S.over.0)) i (suc n) (back (S.over.0)) S.over.1);
      }

-- a form within one that has one more to spend on height
pub under : {V : Type 0} (F L : ℕ → Lang V) → ((b : ℕ) → Sub (L (suc b)) (F b)) → ((b : ℕ) → Sub (F b) (L (suc b))) → Sub (L zero) nothing
    → (b c i : ℕ) → c ≡ suc b → Inside F b i L c i (λ w j. w) suc
under F L out back none b c i e = subst (λ z. Inside F b i L z i (λ w j. w) suc) (sym e) (record {
  reads = λ w h j M. lower_reads F L out back none b h i j w M;
  refuses = λ r S. refuses_lower F L out back none b i r S;
})

-- a form of fixed tokens, with which no token goes on
pub closed_reads : (at : ℕ → ℕ) {V : Type 0} (null : Bool) (first : List ℕ) (L : Lang V) → Fine at null first [] L → (b i j : ℕ) (v : V) → L.whole v i j → Measures (λ (_ : ℕ). L) b v 0 i j
closed_reads at null first L F b i j v w = record {
  whole = w;
  fits = omega arith;
  least = λ c u x. omega arith;
  front = λ c m p. elim (cases_lt j m) [
    | inl lt ↦ absurd (let h : false ≡ true = elim p [ inl q ↦ F.goes_on_part v i j m w q lt | inr (u, x) ↦ F.goes_on v u i j m w x lt ] in cc)
    | inr ge ↦ ge
  ];
}

-- a refusal of fixed tokens hangs on no budget
pub at_any : {V : Type 0} (L : Lang V) (b c i : ℕ) (r : Refusal) → Refuses (λ (_ : ℕ). L) b i r → Refuses (λ (_ : ℕ). L) c i r
at_any L b c i (stops n) S = record { so_far = S.so_far; front = S.front; not_whole = S.not_whole }
at_any L b c i (exceeds n) S = record { so_far = S.so_far; front = S.front; over = S.over }

module _ {V W : Type 0} (L : ℕ → Lang W) (b k c i : ℕ) (value : V → ℕ → W) (up : ℕ → ℕ) where
  pub of_made : {A : Type 0} (h : A → ℕ → ℕ → V) (F : ℕ → Lang A) → Inside (λ d. made h (F d)) b k L c i value up → Inside F b k L c i (λ w j. value (h w k j) j) up
  of_made h F o = record {
    reads = λ w x j M. o.reads (h w k j) x j (made_reads h F b x k j w M);
    refuses = λ r S. o.refuses r (refuses_made h F b k r S);
  }

  pub of_lower : (F : ℕ → Lang V) (d : ℕ) → b ≡ suc d → Inside (lower F) b k L c i value up → Inside F d k L c i value (λ x. up (suc x))
  of_lower F d e o = let o' : Inside (lower F) (suc d) k L c i value up = subst (λ z. Inside (lower F) z k L c i value up) e o in record {
    reads = λ w h j M. o'.reads w (suc h) j (lower_reads F (lower F) (λ d. sub_refl _) (λ d. sub_refl _) (sub_refl _) d h k j w M);
    refuses = λ r S. o'.refuses r (refuses_lower F (lower F) (λ d. sub_refl _) (λ d. sub_refl _) (sub_refl _) d k r S);
  }

module _ (at : ℕ → ℕ) {V W : Type 0} (L : ℕ → Lang W) (b k c i : ℕ) (value : V → ℕ → W) (up : ℕ → ℕ) where
  -- the first of two forms, where the other one can't begin
  pub of_left : (f g : Production at V) (p : f.null ≡ false) (q : g.null ≡ false) → (IsTrue (has g.first (at k)) → ⊥)
      → Inside (λ d. either (f.form d) (g.form d)) b k L c i value up → Inside f.form b k L c i value up
  of_left f g p q off o = record {
    reads = λ w x j M. o.reads w x j (either_reads at f.first f.more g.first g.more f.form g.form (λ d. either (f.form d) (g.form d)) (some_fine at f p) (some_fine at g q) (λ d. sub_refl _) (λ d. sub_refl _) k off b x j w M);
    refuses = λ r S. o.refuses r (refuses_either at f.first f.more g.first g.more f.form g.form (λ d. either (f.form d) (g.form d)) (some_fine at f p) (some_fine at g q) (λ d. sub_refl _) (λ d. sub_refl _) k off b r S);
  }

  pub of_right : (f g : Production at V) (p : f.null ≡ false) (q : g.null ≡ false) → (IsTrue (has f.first (at k)) → ⊥)
      → Inside (λ d. either (f.form d) (g.form d)) b k L c i value up → Inside g.form b k L c i value up
  of_right f g p q off o = record {
    reads = λ w x j M. o.reads w x j (either_reads at g.first g.more f.first f.more g.form f.form (λ d. either (f.form d) (g.form d)) (some_fine at g q) (some_fine at f p) (λ d. swap_either _ _) (λ d. swap_either _ _) k off b x j w M);
    refuses = λ r S. o.refuses r (refuses_either at g.first g.more f.first f.more g.form f.form (λ d. either (f.form d) (g.form d)) (some_fine at g q) (some_fine at f p) (λ d. swap_either _ _) (λ d. swap_either _ _) k off b r S);
  }

module _ (at : ℕ → ℕ) {A B W : Type 0} (f : Production at A) (g : Production at B) (clear : IsTrue (apart f.more g.first))
    (L : ℕ → Lang W) (b k c i : ℕ) (value : A × B → ℕ → W) (up : ℕ → ℕ) where
  -- behind the first part of a sequence, which is read
  pub past : Inside (λ d. seq (f.form d) (g.form d)) b k L c i value up → (v : A) (h k2 : ℕ) → Measures f.form b v h k k2
      → Inside g.form b k2 L c i (λ w j. value (v, w) j) (λ x. up (max h x))
  past o v h k2 M = record {
    reads = λ w x j N. o.reads (v, w) (max h x) j (seq_reads at f.null g.null f.first f.more g.first g.more f.form g.form (goes at f) (goes at g) clear b h x k k2 j v w M N);
    refuses = λ r S. o.refuses r (refuses_second at f.null g.null f.first f.more g.first g.more f.form g.form (goes at f) (goes at g) clear b k h k2 v r M S);
  }

  -- the first part of a sequence is refused
  pub broken : Inside (λ d. seq (f.form d) (g.form d)) b k L c i value up → ((d m : ℕ) → Prefix (g.form d) m m)
      → (r : Refusal) → Refuses f.form b k r → Refuses L c i r
  broken o e r S = o.refuses r (refuses_first at f.null g.null f.first f.more g.first g.more f.form g.form (goes at f) (goes at g) clear b k r e S)

module _ (at : ℕ → ℕ) {B W : Type 0} (x : ℕ) (g : Production at B) (L : ℕ → Lang W) (b k c i : ℕ) (value : Unit {0} × B → ℕ → W) (up : ℕ → ℕ) where
  -- behind a token that is there
  pub past_token : Inside (λ d. seq (token at x) (g.form d)) b k L c i value up → (s : ℕ) → s ≡ suc k → at k ≡ x → Inside g.form b s L c i (λ w j. value (tt, w) j) up
  past_token o s e t = subst (λ z. Inside g.form b z L c i (λ w j. value (tt, w) j) up) (sym e) (record {
    reads = λ w h j M. subst (λ z. Measures L c (value (tt, w) j) (up z) i j) (omega arith) ((past at (token_rule at x) g refl L b k c i value up o tt 0 (suc k) (token_reads at x b k t)).reads w h j M);
    refuses = (past at (token_rule at x) g refl L b k c i value up o tt 0 (suc k) (token_reads at x b k t)).refuses;
  })

  -- the token isn't there
  pub no_token : Inside (λ d. seq (token at x) (g.form d)) b k L c i value up → ((d m : ℕ) → Prefix (g.form d) m m) → (at k ≡ x → ⊥) → Stops L c i k
  no_token o e ne = broken at (token_rule at x) g refl L b k c i value up o e (stops k) (token_stops at x b k ne)

  -- what stands behind the token has no height left
  pub blocked : Inside (λ d. seq (token at x) (g.form d)) b k L c i value up → at k ≡ x → ((m : ℕ) → Prefix (g.form b) (suc k) m → ⊥)
      → (d : ℕ) × Prefix (g.form d) (suc k) (suc k) → Exceeds L c i k
  blocked o t never (d, p) = o.refuses (exceeds k) (record {
    so_far = inl (inl refl);
    front = λ m q. elim q [
      | inl y ↦ elim y [ inl e ↦ omega arith | inr (a, k2, w, z) ↦ absurd (never m (inl (subst (λ n. (g.form b).part n m) w.1 z))) ]
      | inr (v, (k2, w, z)) ↦ absurd (never m (inr (v.1, subst (λ n. (g.form b).whole v.1 n m) w.1 z)))
    ];
    over = (
      d,
      elim p [
        | inl y ↦ inl (inr (tt, suc k, (t, refl), y))
        | inr (v, y) ↦ inr ((tt, v), (suc k, (t, refl), y))
      ],
    );
  })

module _ (at : ℕ → ℕ) {W : Type 0} (x : ℕ) (L : ℕ → Lang W) (b k c i : ℕ) (value : Unit {0} → ℕ → W) (up : ℕ → ℕ) where
  -- the last token
  pub last_token : Inside (λ d. token at x) b k L c i value up → (s : ℕ) → s ≡ suc k → at k ≡ x → Measures L c (value tt s) (up 0) i s
  last_token o s e t = subst (λ z. Measures L c (value tt z) (up 0) i z) (sym e) (o.reads tt 0 (suc k) (token_reads at x b k t))

  pub no_last : Inside (λ d. token at x) b k L c i value up → (at k ≡ x → ⊥) → Stops L c i k
  no_last o ne = o.refuses (stops k) (token_stops at x b k ne)

-- a form that may be left out
module _ (at : ℕ → ℕ) {V : Type 0} (f : Production at V) (p : f.null ≡ false) (b k : ℕ) where
  pub omitted : (IsTrue (has f.first (at k)) → ⊥) → Measures (λ d. optional (f.form d)) b None 0 k k
  omitted off = left_out at f.first f.more f.form (some_fine at f p) k b off

  pub given : (h j : ℕ) (v : V) → Measures f.form b v h k j → Measures (λ d. optional (f.form d)) b (Some v) h k j
  given h j v M = optional_reads at f.first f.more f.form (some_fine at f p) k b h j v M

  -- it begins, and is refused
  pub given_refuses : (d : ℕ) → Prefix (f.form d) k (suc k) → (r : Refusal) → Refuses f.form b k r → Refuses (λ d. optional (f.form d)) b k r
  given_refuses d q (stops n) S =
      let x = S.front d (suc k) q in
      optional_refuses at f.first f.more f.form (some_fine at f p) k b (stops n) (omega arith) S
  given_refuses d q (exceeds n) E = elim (cases_lt k n) [
    | inl lt ↦ optional_refuses at f.first f.more f.form (some_fine at f p) k b (exceeds n) lt E
    | inr ge ↦ (
        let le = refuses_ahead at false f.first f.more f.form (some_fine at f p) b k (exceeds n) E in
        let e : n ≡ k = omega arith in
        subst (λ z. Exceeds (λ d. optional (f.form d)) b k z) (sym e) (optional_exceeds_here at f.first f.more f.form (some_fine at f p) k b (subst (λ z. Exceeds f.form b k z) e E)))
  ]

-- a place for a form, without tokens
pub room_reads : {V : Type 0} (F : ℕ → Lang V) → ((d n : ℕ) → (F (suc d)).part n n) → ((n : ℕ) → (F zero).part n n → ⊥) → (b k : ℕ) → 1 ≤ b → Measures (λ d. room (F d)) b tt 1 k k
room_reads F some never b k le = record {
  whole = (refl, some 0 k);
  fits = le;
  least = least;
  front = λ c m p. elim p [ inl x ↦ absurd x | inr x ↦ omega (arith, x.1.0) ];
}
  where
    least : (c : ℕ) (w : Unit {0}) → (room (F c)).whole w k k → 1 ≤ c
    least zero w x = absurd (never k x.1)
    least (suc c) w x = omega arith

-- a form of which no token is there
pub none_begins : (at : ℕ → ℕ) {V : Type 0} (f : Production at V) (p : f.null ≡ false) (b i : ℕ) → (f.form b).part i i → (IsTrue (has f.first (at i)) → ⊥) → Stops f.form b i i
none_begins at f p b i q off = record {
  so_far = inl q;
  front = λ c m x. elim (cases_lt i m) [
    | inl lt ↦ absurd (off (begins c m x lt))
    | inr ge ↦ ge
  ];
  not_whole = λ c v w. elim ((some_fine at f p c).span v i i w) [ inl lt ↦ omega arith | inr e ↦ (let z : false ≡ true = e.0 in cc) ];
}
  where
    begins : (c m : ℕ) → Prefix (f.form c) i m → i < m → IsTrue (has f.first (at i))
    begins c m (inl x) lt = (f.fine c).start_part i m x lt
    begins c m (inr (v, w)) lt = (f.fine c).start v i m w lt
