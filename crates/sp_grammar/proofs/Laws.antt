-- What each way to put forms together keeps, where one token ahead decides.
use Rattle.std.proofs.Common.{◌≡◌, ℕ, ◌<◌, ◌≤◌, ◌⊎◌, inl, inr, Bool, true, false, not, ◌&&◌, ◌||◌, eqb, IsTrue, List, [], ◌∷◌, ◌++◌, cond, refl, sym, ◌∙◌, ap, subst, arith}
use Rattle.std.proofs.lemmas.Bool.{cases_order, cases_lt, eqb-true, eq-eqb}
use Rattle.sp_grammar.specs.Lang.{Lang, seq, either, made, all_whole, star, token, has, apart}

pub record Fine {V : Type 0} (at : ℕ → ℕ) (null : Bool) (first more : List ℕ) (L : Lang V) : Type 0 where
  pub span : (v : V) (i j : ℕ) → L.whole v i j → (i < j) ⊎ (IsTrue null × (i ≡ j))
  pub ahead : (i m : ℕ) → L.part i m → i ≤ m
  pub start : (v : V) (i j : ℕ) → L.whole v i j → i < j → IsTrue (has first (at i))
  pub start_part : (i m : ℕ) → L.part i m → i < m → IsTrue (has first (at i))
  pub closed : (v : V) (i j n : ℕ) → L.whole v i j → i ≤ n → n < j → L.part i n
  pub closed_part : (i m n : ℕ) → L.part i m → i ≤ n → n < m → L.part i n
  pub goes_on : (v w : V) (i j m : ℕ) → L.whole v i j → L.whole w i m → j < m → IsTrue (has more (at j))
  pub goes_on_part : (v : V) (i j m : ℕ) → L.whole v i j → L.part i m → j < m → IsTrue (has more (at j))
  pub same : (v w : V) (i j : ℕ) → L.whole v i j → L.whole w i j → v ≡ w

-- tests

pub has-append_left : (xs ys : List ℕ) (n : ℕ) → IsTrue (has xs n) → IsTrue (has (xs ++ ys) n)
has-append_left [] ys n h = absurd cc
has-append_left (x ∷ xs) ys n h = elim (eqb x n) as (λ b. IsTrue (b || has xs n) → IsTrue (b || has (xs ++ ys) n)) [ true ↦ λ k. refl | false ↦ λ k. has-append_left xs ys n k ] h

pub has-append_right : (xs ys : List ℕ) (n : ℕ) → IsTrue (has ys n) → IsTrue (has (xs ++ ys) n)
has-append_right [] ys n h = h
has-append_right (x ∷ xs) ys n h = elim (eqb x n) as (λ b. IsTrue (b || has (xs ++ ys) n)) [ true ↦ refl | false ↦ has-append_right xs ys n h ]

pub and_left : (a b : Bool) → IsTrue (a && b) → IsTrue a
and_left true b h = refl
and_left false b h = h

pub and_right : (a b : Bool) → IsTrue (a && b) → IsTrue b
and_right true b h = h
and_right false b h = absurd cc

not_true : (b : Bool) → IsTrue (not b) → IsTrue b → ⊥
not_true true h k = cc
not_true false h k = cc

pub has-cons : (x n : ℕ) (xs : List ℕ) → IsTrue (has (x ∷ xs) n) → (x ≡ n) ⊎ IsTrue (has xs n)
has-cons x n xs h = elim (eqb x n) as (λ b. eqb x n ≡ b → IsTrue (b || has xs n) → (x ≡ n) ⊎ IsTrue (has xs n)) [ true ↦ λ e k. inl (eqb-true x n e) | false ↦ λ e k. inr k ] refl h

pub has-split : (xs ys : List ℕ) (n : ℕ) → IsTrue (has (xs ++ ys) n) → IsTrue (has xs n) ⊎ IsTrue (has ys n)
has-split [] ys n h = inr h
has-split (x ∷ xs) ys n h = elim (eqb x n) as (λ b. IsTrue (b || has (xs ++ ys) n) → IsTrue (b || has xs n) ⊎ IsTrue (has ys n)) [ true ↦ λ k. inl refl | false ↦ λ k. has-split xs ys n k ] h

pub apart-has : (xs ys : List ℕ) (n : ℕ) → IsTrue (apart xs ys) → IsTrue (has xs n) → IsTrue (has ys n) → ⊥
apart-has [] ys n a h k = cc
apart-has (x ∷ xs) ys n a h k = elim (has-cons x n xs h) [
  | inl e ↦ not_true (has ys x) (and_left _ _ a) (rw e k)
  | inr r ↦ apart-has xs ys n (and_right (not (has ys x)) _ a) r k
]

pub le_span : (i j : ℕ) (P : Type 0) → (i < j) ⊎ (P × (i ≡ j)) → i ≤ j
le_span i j P (inl h) = omega arith
le_span i j P (inr h) = omega (arith, h.1)

-- f, then g. A token that goes on with f doesn't begin g.
module _ {A B : Type 0} (at : ℕ → ℕ) (nf ng : Bool) (first_f more_f first_g more_g : List ℕ) (f : Lang A) (g : Lang B)
    (F : Fine at nf first_f more_f f) (G : Fine at ng first_g more_g g) (clear : IsTrue (apart more_f first_g)) where
  clash : (k : ℕ) → IsTrue (has more_f (at k)) → IsTrue (has first_g (at k)) → ⊥
  clash k = apart-has more_f first_g (at k) clear

  abbrev seq_first : List ℕ
  seq_first = first_f ++ cond nf first_g []

  abbrev seq_more : List ℕ
  seq_more = more_g ++ cond ng more_f []

  first_on : (n : ℕ) → IsTrue nf → IsTrue (has first_g n) → IsTrue (has seq_first n)
  first_on n e h = has-append_right first_f (cond nf first_g []) n (subst (λ b. IsTrue (has (cond b first_g []) n)) (sym e) h)

  more_on : (n : ℕ) → IsTrue ng → IsTrue (has more_f n) → IsTrue (has seq_more n)
  more_on n e h = has-append_right more_g (cond ng more_f []) n (subst (λ b. IsTrue (has (cond b more_f []) n)) (sym e) h)

  both : (a b : Bool) → IsTrue a → IsTrue b → IsTrue (a && b)
  both a b p q = subst (λ x. IsTrue (x && b)) (sym p) q

  seq_span : (v : A × B) (i j : ℕ) → (seq f g).whole v i j → (i < j) ⊎ (IsTrue (nf && ng) × (i ≡ j))
  seq_span v i j (k, a, b) = elim (F.span v.0 i k a) [
    | inl p ↦ let le = le_span k j _ (G.span v.1 k j b) in inl (omega arith)
    | inr p ↦ elim (G.span v.1 k j b) [
      | inl q ↦ let e : i ≡ k = p.1 in inl (omega arith)
      | inr q ↦ inr (both nf ng p.0 q.0, p.1 ∙ q.1)
    ]
  ]

  seq_ahead : (i m : ℕ) → (seq f g).part i m → i ≤ m
  seq_ahead i m (inl p) = F.ahead i m p
  seq_ahead i m (inr (a, k, w, p)) = let u = le_span i k _ (F.span a i k w) in let h = G.ahead k m p in omega arith

  seq_start : (v : A × B) (i j : ℕ) → (seq f g).whole v i j → i < j → IsTrue (has seq_first (at i))
  seq_start v i j (k, a, b) h = elim (F.span v.0 i k a) [
    | inl p ↦ has-append_left first_f _ (at i) (F.start v.0 i k a p)
    | inr p ↦ let e : i ≡ k = p.1 in first_on (at i) p.0 (subst (λ x. IsTrue (has first_g (at x))) (sym p.1) (G.start v.1 k j b (omega arith)))
  ]

  seq_start_part : (i m : ℕ) → (seq f g).part i m → i < m → IsTrue (has seq_first (at i))
  seq_start_part i m (inl p) h = has-append_left first_f _ (at i) (F.start_part i m p h)
  seq_start_part i m (inr (a, k, w, p)) h = elim (F.span a i k w) [
    | inl q ↦ has-append_left first_f _ (at i) (F.start a i k w q)
    | inr q ↦ let e : i ≡ k = q.1 in first_on (at i) q.0 (subst (λ x. IsTrue (has first_g (at x))) (sym q.1) (G.start_part k m p (omega arith)))
  ]

  seq_closed : (v : A × B) (i j n : ℕ) → (seq f g).whole v i j → i ≤ n → n < j → (seq f g).part i n
  seq_closed v i j n (k, a, b) h u = elim (cases_lt n k) [
    | inl p ↦ inl (F.closed v.0 i k n a h p)
    | inr p ↦ inr (v.0, k, a, G.closed v.1 k j n b p u)
  ]

  seq_closed_part : (i m n : ℕ) → (seq f g).part i m → i ≤ n → n < m → (seq f g).part i n
  seq_closed_part i m n (inl p) h u = inl (F.closed_part i m n p h u)
  seq_closed_part i m n (inr (a, k, w, p)) h u = elim (cases_lt n k) [
    | inl q ↦ inl (F.closed a i k n w h q)
    | inr q ↦ inr (a, k, w, G.closed_part k m n p q u)
  ]

  -- where f ends before another f ends, g can't begin
  ends_alike : (a a' : A) (i k k' : ℕ) → f.whole a i k → f.whole a' i k' → k < k' → IsTrue (has first_g (at k)) → ⊥
  ends_alike a a' i k k' w w' h s = clash k (F.goes_on a a' i k k' w w' h) s

  -- the two ends of f are one, if g goes on from both
  same_end : (a a' : A) (i k k' : ℕ) → f.whole a i k → f.whole a' i k' → (k < k' → IsTrue (has first_g (at k))) → (k' < k → IsTrue (has first_g (at k'))) → k ≡ k'
  same_end a a' i k k' w w' s s' = elim (cases_order k k') [
    | inl e ↦ e
    | inr q ↦ elim q [
      | inl lt ↦ absurd (ends_alike a a' i k k' w w' lt (s lt))
      | inr gt ↦ absurd (ends_alike a' a i k' k w' w gt (s' gt))
    ]
  ]

  seq_goes_on : (v w : A × B) (i j m : ℕ) → (seq f g).whole v i j → (seq f g).whole w i m → j < m → IsTrue (has seq_more (at j))
  seq_goes_on v w i j m (k, a, b) (k', a', b') h =
      let kj = le_span k j _ (G.span v.1 k j b) in
      let km = le_span k' m _ (G.span w.1 k' m b') in
      elim (cases_order k k') [
        | inl e ↦ has-append_left more_g _ (at j) (G.goes_on v.1 w.1 k j m b (subst (λ x. g.whole w.1 x m) (sym e) b') h)
        | inr q ↦ elim q [
          | inl lt ↦ elim (G.span v.1 k j b) [
            | inl n ↦ absurd (ends_alike v.0 w.0 i k k' a a' lt (G.start v.1 k j b n))
            | inr n ↦ more_on (at j) n.0 (subst (λ x. IsTrue (has more_f (at x))) n.1 (F.goes_on v.0 w.0 i k k' a a' lt))
          ]
          | inr gt ↦ absurd (ends_alike w.0 v.0 i k' k a' a gt (G.start w.1 k' m b' (omega arith)))
        ]
      ]

  seq_goes_on_part : (v : A × B) (i j m : ℕ) → (seq f g).whole v i j → (seq f g).part i m → j < m → IsTrue (has seq_more (at j))
  seq_goes_on_part v i j m (k, a, b) (inl p) h =
      let kj = le_span k j _ (G.span v.1 k j b) in
      let on : IsTrue (has more_f (at k)) = F.goes_on_part v.0 i k m a p (omega arith) in
      elim (G.span v.1 k j b) [
        | inl n ↦ absurd (clash k on (G.start v.1 k j b n))
        | inr n ↦ more_on (at j) n.0 (subst (λ x. IsTrue (has more_f (at x))) n.1 on)
      ]
  seq_goes_on_part v i j m (k, a, b) (inr (a', k', w, p)) h =
      let kj = le_span k j _ (G.span v.1 k j b) in
      elim (cases_order k k') [
        | inl e ↦ has-append_left more_g _ (at j) (G.goes_on_part v.1 k j m b (subst (λ x. g.part x m) (sym e) p) h)
        | inr q ↦ elim q [
          | inl lt ↦ elim (G.span v.1 k j b) [
            | inl n ↦ absurd (ends_alike v.0 a' i k k' a w lt (G.start v.1 k j b n))
            | inr n ↦ more_on (at j) n.0 (subst (λ x. IsTrue (has more_f (at x))) n.1 (F.goes_on v.0 a' i k k' a w lt))
          ]
          | inr gt ↦ absurd (ends_alike a' v.0 i k' k w a gt (G.start_part k' m p (omega arith)))
        ]
      ]

  seq_same : (v w : A × B) (i j : ℕ) → (seq f g).whole v i j → (seq f g).whole w i j → v ≡ w
  seq_same v w i j (k, a, b) (k', a', b') =
      let kj = le_span k j _ (G.span v.1 k j b) in
      let km = le_span k' j _ (G.span w.1 k' j b') in
      let e : k ≡ k' = same_end v.0 w.0 i k k' a a' (λ lt. G.start v.1 k j b (omega arith)) (λ gt. G.start w.1 k' j b' (omega arith)) in
      let x : v.0 ≡ w.0 = F.same v.0 w.0 i k a (subst (λ y. f.whole w.0 i y) (sym e) a') in
      let y : v.1 ≡ w.1 = G.same v.1 w.1 k j b (subst (λ z. g.whole w.1 z j) (sym e) b') in
      ap (λ (z : A). (z, v.1)) x ∙ ap (λ (z : B). (w.0, z)) y

  pub fine_seq : Fine at (nf && ng) seq_first seq_more (seq f g)
  fine_seq = record {
    span = seq_span;
    ahead = seq_ahead;
    start = seq_start;
    start_part = seq_start_part;
    closed = seq_closed;
    closed_part = seq_closed_part;
    goes_on = seq_goes_on;
    goes_on_part = seq_goes_on_part;
    same = seq_same;
  }

-- one token
module _ (at : ℕ → ℕ) (c : ℕ) where
  here : (i : ℕ) → at i ≡ c → IsTrue (has (c ∷ []) (at i))
  here i e = subst (λ n. IsTrue (eqb c n || false)) (sym e) (ap (λ b. b || false) (eq-eqb c c refl))

  pub fine_token : Fine at false (c ∷ []) [] (token at c)
  fine_token = record {
    span = λ v i j w. inl (omega (arith, w.1));
    ahead = λ i m p. omega (arith, p);
    start = λ v i j w h. here i w.0;
    start_part = λ i m p h. absurd (omega (arith, p));
    closed = λ v i j n w h u. omega (arith, w.1);
    closed_part = λ i m n p h u. absurd (omega (arith, p));
    goes_on = λ v w i j m p q h. absurd (omega (arith, p.1, q.1));
    goes_on_part = λ v i j m p q h. absurd (omega (arith, p.1, q));
    same = λ v w i j p q. refl;
  }

-- f or g, neither of which can be empty
module _ {V : Type 0} (at : ℕ → ℕ) (first_f more_f first_g more_g : List ℕ) (f g : Lang V)
    (F : Fine at false first_f more_f f) (G : Fine at false first_g more_g g) (clear : IsTrue (apart first_f first_g)) where
  some_f : (v : V) (i j : ℕ) → f.whole v i j → i < j
  some_f v i j w = elim (F.span v i j w) [ inl h ↦ h | inr h ↦ absurd (let e : false ≡ true = h.0 in cc) ]

  some_g : (v : V) (i j : ℕ) → g.whole v i j → i < j
  some_g v i j w = elim (G.span v i j w) [ inl h ↦ h | inr h ↦ absurd (let e : false ≡ true = h.0 in cc) ]

  not_both : (i : ℕ) → IsTrue (has first_f (at i)) → IsTrue (has first_g (at i)) → ⊥
  not_both i = apart-has first_f first_g (at i) clear

  either_goes_on : (v w : V) (i j m : ℕ) → (either f g).whole v i j → (either f g).whole w i m → j < m → IsTrue (has (more_f ++ more_g) (at j))
  either_goes_on v w i j m (inl p) (inl q) h = has-append_left more_f more_g (at j) (F.goes_on v w i j m p q h)
  either_goes_on v w i j m (inr p) (inr q) h = has-append_right more_f more_g (at j) (G.goes_on v w i j m p q h)
  either_goes_on v w i j m (inl p) (inr q) h = absurd (not_both i (F.start v i j p (some_f v i j p)) (G.start w i m q (some_g w i m q)))
  either_goes_on v w i j m (inr p) (inl q) h = absurd (not_both i (F.start w i m q (some_f w i m q)) (G.start v i j p (some_g v i j p)))

  either_goes_on_part : (v : V) (i j m : ℕ) → (either f g).whole v i j → (either f g).part i m → j < m → IsTrue (has (more_f ++ more_g) (at j))
  either_goes_on_part v i j m (inl p) (inl q) h = has-append_left more_f more_g (at j) (F.goes_on_part v i j m p q h)
  either_goes_on_part v i j m (inr p) (inr q) h = has-append_right more_f more_g (at j) (G.goes_on_part v i j m p q h)
  either_goes_on_part v i j m (inl p) (inr q) h = let u = some_f v i j p in absurd (not_both i (F.start v i j p u) (G.start_part i m q (omega arith)))
  either_goes_on_part v i j m (inr p) (inl q) h = let u = some_g v i j p in absurd (not_both i (F.start_part i m q (omega arith)) (G.start v i j p u))

  either_same : (v w : V) (i j : ℕ) → (either f g).whole v i j → (either f g).whole w i j → v ≡ w
  either_same v w i j (inl p) (inl q) = F.same v w i j p q
  either_same v w i j (inr p) (inr q) = G.same v w i j p q
  either_same v w i j (inl p) (inr q) = absurd (not_both i (F.start v i j p (some_f v i j p)) (G.start w i j q (some_g w i j q)))
  either_same v w i j (inr p) (inl q) = absurd (not_both i (F.start w i j q (some_f w i j q)) (G.start v i j p (some_g v i j p)))

  pub fine_either : Fine at false (first_f ++ first_g) (more_f ++ more_g) (either f g)
  fine_either = record {
    span = λ v i j w. elim w [ inl p ↦ F.span v i j p | inr p ↦ G.span v i j p ];
    ahead = λ i m w. elim w [ inl p ↦ F.ahead i m p | inr p ↦ G.ahead i m p ];
    start = λ v i j w h. elim w [ inl p ↦ has-append_left first_f first_g (at i) (F.start v i j p h) | inr p ↦ has-append_right first_f first_g (at i) (G.start v i j p h) ];
    start_part = λ i m w h. elim w [ inl p ↦ has-append_left first_f first_g (at i) (F.start_part i m p h) | inr p ↦ has-append_right first_f first_g (at i) (G.start_part i m p h) ];
    closed = λ v i j n w h u. elim w [ inl p ↦ inl (F.closed v i j n p h u) | inr p ↦ inr (G.closed v i j n p h u) ];
    closed_part = λ i m n w h u. elim w [ inl p ↦ inl (F.closed_part i m n p h u) | inr p ↦ inr (G.closed_part i m n p h u) ];
    goes_on = either_goes_on;
    goes_on_part = either_goes_on_part;
    same = either_same;
  }

-- what h makes of the value and the places
module _ {A B : Type 0} (at : ℕ → ℕ) (null : Bool) (first more : List ℕ) (h : A → ℕ → ℕ → B) (f : Lang A) (F : Fine at null first more f) where
  pub fine_made : Fine at null first more (made h f)
  fine_made = record {
    span = λ v i j w. F.span w.0 i j w.2;
    ahead = F.ahead;
    start = λ v i j w u. F.start w.0 i j w.2 u;
    start_part = F.start_part;
    closed = λ v i j n w u x. F.closed w.0 i j n w.2 u x;
    closed_part = F.closed_part;
    goes_on = λ v w i j m p q u. F.goes_on p.0 q.0 i j m p.2 q.2 u;
    goes_on_part = λ v i j m p q u. F.goes_on_part p.0 i j m p.2 q u;
    same = λ v w i j p q. p.1 ∙ ap (λ (a : A). h a i j) (F.same p.0 q.0 i j p.2 q.2) ∙ sym q.1;
  }

-- any number of f
module _ {V : Type 0} (at : ℕ → ℕ) (first more : List ℕ) (f : Lang V) (F : Fine at false first more f) (clear : IsTrue (apart more first)) where
  some_of : (v : V) (i j : ℕ) → f.whole v i j → i < j
  some_of v i j w = elim (F.span v i j w) [ inl h ↦ h | inr h ↦ absurd (let e : false ≡ true = h.0 in cc) ]

  no_turn : (k : ℕ) → IsTrue (has more (at k)) → IsTrue (has first (at k)) → ⊥
  no_turn k = apart-has more first (at k) clear

  star_span : (vs : List V) (i j : ℕ) → all_whole f vs i j → (i < j) ⊎ (IsTrue true × (i ≡ j))
  star_span [] i j e = inr (refl, e)
  star_span (v ∷ vs) i j (k, w, ws) = let a = some_of v i k w in let b = le_span k j _ (star_span vs k j ws) in inl (omega arith)

  star_le : (vs : List V) (i j : ℕ) → all_whole f vs i j → i ≤ j
  star_le vs i j w = le_span i j _ (star_span vs i j w)

  star_start : (vs : List V) (i j : ℕ) → all_whole f vs i j → i < j → IsTrue (has first (at i))
  star_start [] i j e h = absurd (omega arith)
  star_start (v ∷ vs) i j (k, w, ws) h = F.start v i k w (some_of v i k w)

  star_start_part : (i m : ℕ) → (star f).part i m → i < m → IsTrue (has first (at i))
  star_start_part i m ([], k, e, p) h = F.start_part i m (subst (λ x. f.part x m) (sym e) p) h
  star_start_part i m (v ∷ vs, k, (k', w, ws), p) h = F.start v i k' w (some_of v i k' w)

  star_closed : (vs : List V) (i j n : ℕ) → all_whole f vs i j → i ≤ n → n < j → (star f).part i n
  star_closed [] i j n e h u = absurd (omega arith)
  star_closed (v ∷ vs) i j n (k, w, ws) h u = elim (cases_lt n k) [
    | inl p ↦ ([], i, refl, F.closed v i k n w h p)
    | inr p ↦ let (us, k', x, y) = star_closed vs k j n ws p u in (v ∷ us, k', (k, w, x), y)
  ]

  star_goes_on : (vs us : List V) (i j m : ℕ) → all_whole f vs i j → all_whole f us i m → j < m → IsTrue (has (more ++ first) (at j))
  star_goes_on [] us i j m e w h = has-append_right more first (at j) (subst (λ x. IsTrue (has first (at x))) e (star_start us i m w (omega arith)))
  star_goes_on (v ∷ vs) [] i j m (k, w, ws) e h = absurd (let a = some_of v i k w in let b = star_le vs k j ws in omega arith)
  star_goes_on (v ∷ vs) (u ∷ us) i j m (k, w, ws) (k', x, xs) h =
      let b = star_le vs k j ws in
      elim (cases_order k k') [
        | inl e ↦ star_goes_on vs us k j m ws (subst (λ y. all_whole f us y m) (sym e) xs) h
        | inr q ↦ elim q [
          | inl lt ↦ (let on = F.goes_on v u i k k' w x lt in elim (star_span vs k j ws) [
            | inl n ↦ absurd (no_turn k on (star_start vs k j ws n))
            | inr n ↦ has-append_left more first (at j) (subst (λ y. IsTrue (has more (at y))) n.1 on)
          ])
          | inr gt ↦ absurd (no_turn k' (F.goes_on u v i k' k x w gt) (star_start us k' m xs (omega arith)))
        ]
      ]

  star_goes_on_part : (vs us : List V) (i j k m : ℕ) → all_whole f vs i j → all_whole f us i k → f.part k m → j < m → IsTrue (has (more ++ first) (at j))
  star_goes_on_part [] us i j k m e w p h = has-append_right more first (at j) (subst (λ x. IsTrue (has first (at x))) e (star_start_part i m (us, k, w, p) (omega arith)))
  star_goes_on_part (v ∷ vs) [] i j k0 m (k, w, ws) e p h =
      let b = star_le vs k j ws in
      let on = F.goes_on_part v i k m w (subst (λ x. f.part x m) (sym e) p) (omega arith) in
      elim (star_span vs k j ws) [
        | inl n ↦ absurd (no_turn k on (star_start vs k j ws n))
        | inr n ↦ has-append_left more first (at j) (subst (λ y. IsTrue (has more (at y))) n.1 on)
      ]
  star_goes_on_part (v ∷ vs) (u ∷ us) i j k0 m (k, w, ws) (k', x, xs) p h =
      let b = star_le vs k j ws in
      elim (cases_order k k') [
        | inl e ↦ star_goes_on_part vs us k j k0 m ws (subst (λ y. all_whole f us y k0) (sym e) xs) p h
        | inr q ↦ elim q [
          | inl lt ↦ (let on = F.goes_on v u i k k' w x lt in elim (star_span vs k j ws) [
            | inl n ↦ absurd (no_turn k on (star_start vs k j ws n))
            | inr n ↦ has-append_left more first (at j) (subst (λ y. IsTrue (has more (at y))) n.1 on)
          ])
          | inr gt ↦ absurd (no_turn k' (F.goes_on u v i k' k x w gt) (star_start_part k' m (us, k0, xs, p) (omega arith)))
        ]
      ]

  star_same : (vs us : List V) (i j : ℕ) → all_whole f vs i j → all_whole f us i j → vs ≡ us
  star_same [] [] i j p q = refl
  star_same [] (u ∷ us) i j e (k', x, xs) = absurd (let a = some_of u i k' x in let b = star_le us k' j xs in omega arith)
  star_same (v ∷ vs) [] i j (k, w, ws) e = absurd (let a = some_of v i k w in let b = star_le vs k j ws in omega arith)
  star_same (v ∷ vs) (u ∷ us) i j (k, w, ws) (k', x, xs) =
      let b = star_le vs k j ws in
      let b' = star_le us k' j xs in
      elim (cases_order k k') [
        | inl e ↦ (
            let p : v ≡ u = F.same v u i k w (subst (λ y. f.whole u i y) (sym e) x) in
            let q : vs ≡ us = star_same vs us k j ws (subst (λ y. all_whole f us y j) (sym e) xs) in
            cc)
        | inr q ↦ elim q [
          | inl lt ↦ absurd (no_turn k (F.goes_on v u i k k' w x lt) (star_start vs k j ws (omega arith)))
          | inr gt ↦ absurd (no_turn k' (F.goes_on u v i k' k x w gt) (star_start us k' j xs (omega arith)))
        ]
      ]

  pub fine_star : Fine at true first (more ++ first) (star f)
  fine_star = record {
    span = star_span;
    ahead = λ i m (vs, k, w, p). let a = star_le vs i k w in let b = F.ahead k m p in omega arith;
    start = star_start;
    start_part = star_start_part;
    closed = star_closed;
    closed_part = λ i m n (vs, k, w, p) h u. elim (cases_lt n k) [
      | inl q ↦ star_closed vs i k n w h q
      | inr q ↦ (vs, k, w, F.closed_part k m n p q u)
    ];
    goes_on = star_goes_on;
    goes_on_part = λ vs i j m w (us, k, x, p) h. star_goes_on_part vs us i j k m w x p h;
    same = star_same;
  }
