-- What is read, where it stops, and where it exceeds the height, for a sequence, a choice, a made value and a form that adds to the height.
use Rattle.std.proofs.Common.{◌≡◌, ℕ, suc, zero, ◌+◌, ◌<◌, ◌≤◌, ◌⊎◌, inl, inr, max, Bool, true, false, IsTrue, List, refl, subst, arith}
use Rattle.std.proofs.lemmas.Bool.{cases_order, cases_lt}
use Rattle.sp_grammar.specs.Lang.{Lang, Prefix, nothing, seq, either, made, token, has, apart, Measures, Stops, Exceeds}
use Rattle.sp_grammar.proofs.Laws.{Fine, apart-has, le_span}
use Rattle.sp_grammar.proofs.Chain.{Sub, sub_prefix, grow_to}

-- a form with a budget, in which one token ahead decides
pub record Goes {V : Type 0} (at : ℕ → ℕ) (null : Bool) (first more : List ℕ) (F : ℕ → Lang V) : Type 0 where
  pub fine : (b : ℕ) → Fine at null first more (F b)
  pub grows : (b : ℕ) → Sub (F b) (F (suc b))

module _ {V : Type 0} (at : ℕ → ℕ) (null : Bool) (first more : List ℕ) (F : ℕ → Lang V) (W : Goes at null first more F) where
  up : (b c : ℕ) → b ≤ c → Sub (F b) (F c)
  up b c h = grow_to F W.grows b c h

  mix : (b c : ℕ) (v : V) (i j m : ℕ) → (F b).whole v i j → Prefix (F c) i m → j < m → IsTrue (has more (at j))
  mix b c v i j m w (inl p) h = (W.fine (b + c)).goes_on_part v i j m ((up b (b + c) (omega arith)).whole v i j w) ((up c (b + c) (omega arith)).part i m p) h
  mix b c v i j m w (inr q) h = (W.fine (b + c)).goes_on v q.0 i j m ((up b (b + c) (omega arith)).whole v i j w) ((up c (b + c) (omega arith)).whole q.0 i m q.1) h

  le_prefix : (b i m : ℕ) → Prefix (F b) i m → i ≤ m
  le_prefix b i m (inl p) = (W.fine b).ahead i m p
  le_prefix b i m (inr q) = le_span i m _ ((W.fine b).span q.0 i m q.1)

  begins : (b i m : ℕ) → Prefix (F b) i m → i < m → IsTrue (has first (at i))
  begins b i m (inl p) h = (W.fine b).start_part i m p h
  begins b i m (inr q) h = (W.fine b).start q.0 i m q.1 h

-- f, then g
module _ {A B : Type 0} (at : ℕ → ℕ) (nf ng : Bool) (first_f more_f first_g more_g : List ℕ) (F : ℕ → Lang A) (G : ℕ → Lang B)
    (WF : Goes at nf first_f more_f F) (WG : Goes at ng first_g more_g G) (clear : IsTrue (apart more_f first_g)) where
  abbrev FG : ℕ → Lang (A × B)
  FG b = seq (F b) (G b)

  clash : (k : ℕ) → IsTrue (has more_f (at k)) → IsTrue (has first_g (at k)) → ⊥
  clash k = apart-has more_f first_g (at k) clear

  f_up : (b c : ℕ) → b ≤ c → Sub (F b) (F c)
  f_up b c h = grow_to F WF.grows b c h

  g_up : (b c : ℕ) → b ≤ c → Sub (G b) (G c)
  g_up b c h = grow_to G WG.grows b c h

  -- a prefix of the sequence is one of f, or f is whole and a prefix of g follows
  split : (b i m : ℕ) → Prefix (FG b) i m → (F b).part i m ⊎ ((a : A) × (k : ℕ) × (F b).whole a i k × Prefix (G b) k m)
  split b i m (inl p) = elim p [ inl x ↦ inl x | inr (a, k, w, x) ↦ inr (a, k, w, inl x) ]
  split b i m (inr (v, (k, a, x))) = inr (v.0, k, a, inr (v.1, x))

  joined : (b i k m : ℕ) (a : A) → (F b).whole a i k → Prefix (G b) k m → Prefix (FG b) i m
  joined b i k m a w (inl x) = inl (inr (a, k, w, x))
  joined b i k m a w (inr (v, x)) = inr ((a, v), (k, w, x))

  -- where f is read up to k, what goes past k goes on from there
  module _ (h : ℕ) (a : A) (i k : ℕ) (w : (F h).whole a i k) (front : (c m : ℕ) → Prefix (F c) i m → m ≤ k) where
    from : (c m : ℕ) → Prefix (FG c) i m → (m ≤ k) ⊎ Prefix (G c) k m
    from c m p = elim (split c i m p) [
      | inl x ↦ inl (front c m (inl x))
      | inr (a', k', w', x) ↦ elim (cases_order k' k) [
        | inl e ↦ inr (subst (λ z. Prefix (G c) z m) e x)
        | inr q ↦ elim q [
          | inl lt ↦ elim (cases_lt k' m) [
            | inl less ↦ absurd (clash k' (mix at nf first_f more_f F WF c h a' i k' k w' (inr (a, w)) lt) (begins at ng first_g more_g G WG c k' m x less))
            | inr ge ↦ inl (omega arith)
          ]
          | inr gt ↦ absurd (let u = front c k' (inr (a', w')) in omega arith)
        ]
      ]
    ]

    -- a whole from i ends with a whole of g from k
    from_whole : (c m : ℕ) (v : A × B) → (FG c).whole v i m → ((m ≤ k) × (m < k)) ⊎ ((F c).whole v.0 i k × (G c).whole v.1 k m)
    from_whole c m v (k', w', x) = elim (cases_order k' k) [
      | inl e ↦ inr (subst (λ z. (F c).whole v.0 i z) e w', subst (λ z. (G c).whole v.1 z m) e x)
      | inr q ↦ elim q [
        | inl lt ↦ elim (cases_lt k' m) [
          | inl less ↦ absurd (clash k' (mix at nf first_f more_f F WF c h v.0 i k' k w' (inr (a, w)) lt) (begins at ng first_g more_g G WG c k' m (inr (v.1, x)) less))
          | inr ge ↦ inl (omega arith, omega arith)
        ]
        | inr gt ↦ absurd (let u = front c k' (inr (v.0, w')) in omega arith)
      ]
    ]

  pub seq_reads : (b h h2 i k j : ℕ) (v : A) (w : B) → Measures F b v h i k → Measures G b w h2 k j → Measures FG b (v, w) (max h h2) i j
  seq_reads b h h2 i k j v w M N =
      let kj = le_prefix at ng first_g more_g G WG h2 k j (inr (w, N.whole)) in
      let f1 = M.fits in
      let f2 = N.fits in
      record {
        whole = (k, (f_up h (max h h2) (omega arith)).whole v i k M.whole, (g_up h2 (max h h2) (omega arith)).whole w k j N.whole);
        fits = omega arith;
        least = λ c x y. elim (from_whole h v i k M.whole M.front c j x y) [
          | inl z ↦ absurd (let u = z.1 in omega arith)
          | inr z ↦ (let p = M.least c x.0 z.0 in let q = N.least c x.1 z.1 in omega arith)
        ];
        front = λ c m p. elim (from h v i k M.whole M.front c m p) [ inl z ↦ omega arith | inr z ↦ N.front c m z ];
      }

  pub seq_second_stops : (b h i k n : ℕ) (v : A) → Measures F b v h i k → Stops G b k n → Stops FG b i n
  seq_second_stops b h i k n v M S =
      let kn = le_prefix at ng first_g more_g G WG b k n S.so_far in
      record {
        so_far = joined b i k n v ((f_up h b M.fits).whole v i k M.whole) S.so_far;
        front = λ c m p. elim (from h v i k M.whole M.front c m p) [ inl z ↦ omega arith | inr z ↦ S.front c m z ];
        not_whole = λ c x y. elim (from_whole h v i k M.whole M.front c n x y) [
          | inl z ↦ (let u = z.1 in omega arith)
          | inr z ↦ S.not_whole c x.1 z.1
        ];
      }

  pub seq_second_exceeds : (b h i k n : ℕ) (v : A) → Measures F b v h i k → Exceeds G b k n → Exceeds FG b i n
  seq_second_exceeds b h i k n v M E =
      let kn = le_prefix at ng first_g more_g G WG b k n E.so_far in
      let d = h + E.over.0 in
      record {
        so_far = joined b i k n v ((f_up h b M.fits).whole v i k M.whole) E.so_far;
        front = λ m p. elim (from h v i k M.whole M.front b m p) [ inl z ↦ omega arith | inr z ↦ E.front m z ];
        over = (d, joined d i k (suc n) v ((f_up h d (omega arith)).whole v i k M.whole) (sub_prefix (G (E.over.0)) (G d) k (suc n) (g_up (E.over.0) d (omega arith)) E.over.1));
      }

  pub seq_first_stops : (b i n : ℕ) → ((c m : ℕ) → Prefix (G c) m m) → Stops F b i n → Stops FG b i n
  seq_first_stops b i n e S = record {
    so_far = elim S.so_far [ inl x ↦ inl (inl x) | inr (a, w) ↦ joined b i n n a w (e b n) ];
    front = λ c m p. elim (split c i m p) [
      | inl x ↦ S.front c m (inl x)
      | inr (a, k, w, x) ↦ elim (cases_lt k m) [
        | inl lt ↦ absurd (ends c k a w (begins at ng first_g more_g G WG c k m x lt))
        | inr ge ↦ (let u = S.front c k (inr (a, w)) in omega arith)
      ]
    ];
    not_whole = λ c v (k, w, x). elim (cases_lt k n) [
      | inl lt ↦ ends c k v.0 w (begins at ng first_g more_g G WG c k n (inr (v.1, x)) lt)
      | inr ge ↦ (
          let u = S.front c k (inr (v.0, w)) in
          let e : k ≡ n = omega arith in
          S.not_whole c v.0 (subst (λ z. (F c).whole v.0 i z) e w))
    ];
  }
    where
      ends : (c k : ℕ) (a : A) → (F c).whole a i k → IsTrue (has first_g (at k)) → ⊥
      ends c k a w s = elim (cases_lt k n) [
        | inl lt ↦ clash k (mix at nf first_f more_f F WF c b a i k n w S.so_far lt) s
        | inr ge ↦ (
            let u = S.front c k (inr (a, w)) in
            let e : k ≡ n = omega arith in
            S.not_whole c a (subst (λ z. (F c).whole a i z) e w))
      ]

  pub seq_first_exceeds : (b i n : ℕ) → ((c m : ℕ) → Prefix (G c) m m) → Exceeds F b i n → Exceeds FG b i n
  seq_first_exceeds b i n e E =
      let d = suc (suc (E.over.0)) in
      record {
        so_far = elim E.so_far [ inl x ↦ inl (inl x) | inr (a, w) ↦ joined b i n n a w (e b n) ];
        front = λ m p. elim (split b i m p) [
          | inl x ↦ E.front m (inl x)
          | inr (a, k, w, x) ↦ (
              let u = E.front k (inr (a, w)) in
              elim (cases_lt k m) [
                | inl lt ↦ absurd (clash k (mix at nf first_f more_f F WF b (E.over.0) a i k (suc n) w E.over.1 (omega arith)) (begins at ng first_g more_g G WG b k m x lt))
                | inr ge ↦ omega arith
              ])
        ];
        over = (
          d,
          elim (sub_prefix (F (E.over.0)) (F d) i (suc n) (f_up (E.over.0) d (omega arith)) E.over.1) [
            | inl x ↦ inl (inl x)
            | inr (a, w) ↦ joined d i (suc n) (suc n) a w (e d (suc n))
          ],
        );
      }

-- one token
module _ (at : ℕ → ℕ) (c : ℕ) where
  pub token_reads : (b i : ℕ) → at i ≡ c → Measures (λ _. token at c) b tt 0 i (suc i)
  token_reads b i e = record {
    whole = (e, refl);
    fits = omega arith;
    least = λ d w x. omega arith;
    front = λ d m p. elim p [ inl x ↦ omega arith | inr x ↦ omega (arith, x.1.1) ];
  }

  pub token_stops : (b i : ℕ) → (at i ≡ c → ⊥) → Stops (λ _. token at c) b i i
  token_stops b i ne = record {
    so_far = inl refl;
    front = λ d m p. elim p [ inl x ↦ omega arith | inr x ↦ absurd (ne x.1.0) ];
    not_whole = λ d v x. ne x.0;
  }

-- a made value
module _ {A B : Type 0} (h : A → ℕ → ℕ → B) (F : ℕ → Lang A) where
  abbrev H : ℕ → Lang B
  H b = made h (F b)

  of_made : (c i m : ℕ) → Prefix (H c) i m → Prefix (F c) i m
  of_made c i m (inl x) = inl x
  of_made c i m (inr (v, (a, e, w))) = inr (a, w)

  to_made : (c i m : ℕ) → Prefix (F c) i m → Prefix (H c) i m
  to_made c i m (inl x) = inl x
  to_made c i m (inr (a, w)) = inr (h a i m, (a, refl, w))

  pub made_reads : (b k i j : ℕ) (v : A) → Measures F b v k i j → Measures H b (h v i j) k i j
  made_reads b k i j v M = record {
    whole = (v, refl, M.whole);
    fits = M.fits;
    least = λ c w x. M.least c x.0 x.2;
    front = λ c m p. M.front c m (of_made c i m p);
  }

  pub made_stops : (b i n : ℕ) → Stops F b i n → Stops H b i n
  made_stops b i n S = record {
    so_far = to_made b i n S.so_far;
    front = λ c m p. S.front c m (of_made c i m p);
    not_whole = λ c v x. S.not_whole c x.0 x.2;
  }

  pub made_exceeds : (b i n : ℕ) → Exceeds F b i n → Exceeds H b i n
  made_exceeds b i n E = record {
    so_far = to_made b i n E.so_far;
    front = λ m p. E.front m (of_made b i m p);
    over = (E.over.0, to_made (E.over.0) i (suc n) E.over.1);
  }

-- a or b, of which neither is empty
module _ {V : Type 0} (at : ℕ → ℕ) (first_a more_a first_b more_b : List ℕ) (A B E : ℕ → Lang V)
    (FA : (b : ℕ) → Fine at false first_a more_a (A b)) (FB : (b : ℕ) → Fine at false first_b more_b (B b))
    (out : (b : ℕ) → Sub (E b) (either (A b) (B b))) (back : (b : ℕ) → Sub (either (A b) (B b)) (E b)) where
  some_b : (c : ℕ) (v : V) (i j : ℕ) → (B c).whole v i j → i < j
  some_b c v i j w = elim ((FB c).span v i j w) [ inl h ↦ h | inr h ↦ absurd (let e : false ≡ true = h.0 in cc) ]

  some_a : (c : ℕ) (v : V) (i j : ℕ) → (A c).whole v i j → i < j
  some_a c v i j w = elim ((FA c).span v i j w) [ inl h ↦ h | inr h ↦ absurd (let e : false ≡ true = h.0 in cc) ]

  of_either : (c i m : ℕ) → Prefix (E c) i m → Prefix (A c) i m ⊎ Prefix (B c) i m
  of_either c i m (inl p) = elim ((out c).part i m p) [ inl x ↦ inl (inl x) | inr x ↦ inr (inl x) ]
  of_either c i m (inr (v, w)) = elim ((out c).whole v i m w) [ inl x ↦ inl (inr (v, x)) | inr x ↦ inr (inr (v, x)) ]

  to_either : (c i m : ℕ) → Prefix (A c) i m → Prefix (E c) i m
  to_either c i m (inl p) = inl ((back c).part i m (inl p))
  to_either c i m (inr (v, w)) = inr (v, (back c).whole v i m (inl w))

  short : (c i m : ℕ) → (IsTrue (has first_b (at i)) → ⊥) → Prefix (B c) i m → m ≤ i
  short c i m off p = elim (cases_lt i m) [
    | inl lt ↦ absurd (off (elim p [ inl x ↦ (FB c).start_part i m x lt | inr (v, w) ↦ (FB c).start v i m w lt ]))
    | inr ge ↦ ge
  ]

  module _ (i : ℕ) (off : IsTrue (has first_b (at i)) → ⊥) where
    not_b : (c : ℕ) (v : V) (j : ℕ) → (B c).whole v i j → ⊥
    not_b c v j w = off ((FB c).start v i j w (some_b c v i j w))

    pub either_reads : (b h j : ℕ) (v : V) → Measures A b v h i j → Measures E b v h i j
    either_reads b h j v M =
        let ij = some_a h v i j M.whole in
        record {
          whole = (back h).whole v i j (inl M.whole);
          fits = M.fits;
          least = λ c w x. elim ((out c).whole w i j x) [ inl y ↦ M.least c w y | inr y ↦ absurd (not_b c w j y) ];
          front = λ c m p. elim (of_either c i m p) [ inl x ↦ M.front c m x | inr x ↦ (let u = short c i m off x in omega arith) ];
        }

    pub either_stops : (b n : ℕ) → i ≤ n → Stops A b i n → Stops E b i n
    either_stops b n le S = record {
      so_far = to_either b i n S.so_far;
      front = λ c m p. elim (of_either c i m p) [ inl x ↦ S.front c m x | inr x ↦ (let u = short c i m off x in omega arith) ];
      not_whole = λ c w x. elim ((out c).whole w i n x) [ inl y ↦ S.not_whole c w y | inr y ↦ not_b c w n y ];
    }

    pub either_exceeds : (b n : ℕ) → i ≤ n → Exceeds A b i n → Exceeds E b i n
    either_exceeds b n le X = record {
      so_far = to_either b i n X.so_far;
      front = λ m p. elim (of_either b i m p) [ inl x ↦ X.front m x | inr x ↦ (let u = short b i m off x in omega arith) ];
      over = (X.over.0, to_either (X.over.0) i (suc n) X.over.1);
    }

-- a form that adds one to the height
module _ {V : Type 0} (F L : ℕ → Lang V)
    (out : (b : ℕ) → Sub (L (suc b)) (F b)) (back : (b : ℕ) → Sub (F b) (L (suc b))) (none : Sub (L zero) nothing) where
  lowered : (c i m : ℕ) → Prefix (L c) i m → (d : ℕ) × (c ≡ suc d) × Prefix (F d) i m
  lowered zero i m (inl p) = absurd (none.part i m p)
  lowered zero i m (inr p) = absurd (none.whole p.0 i m p.1)
  lowered (suc c) i m p = (c, refl, sub_prefix (L (suc c)) (F c) i m (out c) p)

  pub lower_reads : (b h i j : ℕ) (v : V) → Measures F b v h i j → Measures L (suc b) v (suc h) i j
  lower_reads b h i j v M = let f = M.fits in record {
    whole = (back h).whole v i j M.whole;
    fits = omega arith;
    least = least;
    front = λ c m p. let (d, e, q) = lowered c i m p in M.front d m q;
  }
    where
      least : (c : ℕ) (w : V) → (L c).whole w i j → suc h ≤ c
      least zero w x = absurd (none.whole w i j x)
      least (suc c) w x = let y = M.least c w ((out c).whole w i j x) in omega arith

  pub lower_stops : (b i n : ℕ) → Stops F b i n → Stops L (suc b) i n
  lower_stops b i n S = record {
    so_far = sub_prefix (F b) (L (suc b)) i n (back b) S.so_far;
    front = λ c m p. let (d, e, q) = lowered c i m p in S.front d m q;
    not_whole = not_whole;
  }
    where
      not_whole : (c : ℕ) (w : V) → (L c).whole w i n → ⊥
      not_whole zero w x = none.whole w i n x
      not_whole (suc c) w x = S.not_whole c w ((out c).whole w i n x)

  pub lower_exceeds : (b i n : ℕ) → Exceeds F b i n → Exceeds L (suc b) i n
  lower_exceeds b i n E = record {
    so_far = sub_prefix (F b) (L (suc b)) i n (back b) E.so_far;
    front = λ m p. E.front m (sub_prefix (L (suc b)) (F b) i m (out b) p);
    over = (suc (E.over.0), sub_prefix (F (E.over.0)) (L (suc (E.over.0))) i (suc n) (back (E.over.0)) E.over.1);
  }
