-- Any number of a form, and a form that may be left out.
use Rattle.std.proofs.Common.{◌≡◌, ℕ, suc, ◌+◌, ◌<◌, ◌≤◌, ◌⊎◌, inl, inr, max, Bool, true, false, IsTrue, List, [], ◌∷◌, ◌++◌, Option, Some, None, refl, sym, ap, subst, arith}
use Rattle.std.proofs.lemmas.Bool.{cases_order, cases_lt}
use Rattle.sp_grammar.specs.Lang.{Lang, Prefix, all_whole, star, maybe_whole, optional, has, apart, subset, Measures, Stops, Exceeds, Refusal, stops, exceeds, place, Refuses}
use Rattle.sp_grammar.proofs.Laws.{Fine, apart-has, le_span, has-cons, has-append_left, has-append_right, and_left, and_right}
use Rattle.sp_grammar.proofs.Chain.{Sub, sub_prefix, grow_to}

sub_all : {V : Type 0} (f g : Lang V) → Sub f g → (vs : List V) (i j : ℕ) → all_whole f vs i j → all_whole g vs i j
sub_all f g s [] i j e = e
sub_all f g s (v ∷ vs) i j (k, w, ws) = (k, s.whole v i k w, sub_all f g s vs k j ws)

pub sub_star : {V : Type 0} (f g : Lang V) → Sub f g → Sub (star f) (star g)
sub_star f g s = record { whole = sub_all f g s; part = λ i m (vs, k, w, p). (vs, k, sub_all f g s vs i k w, s.part k m p) }

add_one : {V : Type 0} (f : Lang V) (vs : List V) (v : V) (i k j : ℕ) → all_whole f vs i k → f.whole v k j → all_whole f (vs ++ v ∷ []) i j
add_one f [] v i k j e w = (j, subst (λ x. f.whole v x j) (sym e) w, refl)
add_one f (u ∷ us) v i k j (k', x, xs) w = (k', x, add_one f us v k' k j xs w)

module _ {V : Type 0} (at : ℕ → ℕ) (first more : List ℕ) (F : ℕ → Lang V)
    (fine : (b : ℕ) → Fine at false first more (F b)) (grows : (b : ℕ) → Sub (F b) (F (suc b))) (clear : IsTrue (apart more first)) where
  up : (b c : ℕ) → b ≤ c → Sub (F b) (F c)
  up b c h = grow_to F grows b c h

  clash : (k : ℕ) → IsTrue (has more (at k)) → IsTrue (has first (at k)) → ⊥
  clash k = apart-has more first (at k) clear

  mix : (b c : ℕ) (v : V) (i j m : ℕ) → (F b).whole v i j → Prefix (F c) i m → j < m → IsTrue (has more (at j))
  mix b c v i j m w (inl p) h = (fine (b + c)).goes_on_part v i j m ((up b (b + c) (omega arith)).whole v i j w) ((up c (b + c) (omega arith)).part i m p) h
  mix b c v i j m w (inr q) h = (fine (b + c)).goes_on v q.0 i j m ((up b (b + c) (omega arith)).whole v i j w) ((up c (b + c) (omega arith)).whole q.0 i m q.1) h

  some : (b : ℕ) (v : V) (i j : ℕ) → (F b).whole v i j → i < j
  some b v i j w = elim ((fine b).span v i j w) [ inl h ↦ h | inr h ↦ absurd (let e : false ≡ true = h.0 in cc) ]

  -- items end where they begin, or an item begins there
  items : (c : ℕ) (vs : List V) (i j : ℕ) → all_whole (F c) vs i j → (i ≡ j) ⊎ ((i < j) × IsTrue (has first (at i)))
  items c [] i j e = inl e
  items c (v ∷ vs) i j (k, w, ws) =
      let h = some c v i k w in
      inr (elim (items c vs k j ws) [ inl e ↦ omega arith | inr z ↦ (let u = z.0 in omega arith) ], (fine c).start v i k w h)

  -- the same of a part
  part_items : (c i m : ℕ) → (star (F c)).part i m → (m ≤ i) ⊎ IsTrue (has first (at i))
  part_items c i m ([], k, e, p) = elim (cases_lt k m) [
    | inl lt ↦ inr (subst (λ z. IsTrue (has first (at z))) (sym e) ((fine c).start_part k m p lt))
    | inr ge ↦ inl (omega arith)
  ]
  part_items c i m (v ∷ vs, k, (k', w, ws), p) = inr ((fine c).start v i k' w (some c v i k' w))

  -- The items from i to k are read, of height h. What goes on has an item there.
  pub record Many (vs : List V) (h i k : ℕ) : Type 0 where
    pub whole : all_whole (F h) vs i k
    pub wholes : (c : ℕ) (ws : List V) (m : ℕ) → all_whole (F c) ws i m → (m < k) ⊎ ((h ≤ c) × (us : List V) × all_whole (F c) us k m)
    pub parts : (c m : ℕ) → (star (F c)).part i m → (m ≤ k) ⊎ (star (F c)).part k m

  pub none : (i : ℕ) → Many [] 0 i i
  none i = record { whole = refl; wholes = λ c ws m w. inr (omega arith, ws, w); parts = λ c m p. inr p }

  module _ (vs : List V) (h i k : ℕ) (M : Many vs h i k) where
    pub one_more : (b h2 j : ℕ) (v : V) → Measures F b v h2 k j → Many (vs ++ v ∷ []) (max h h2) i j
    one_more b h2 j v N = record {
      whole = add_one (F (max h h2)) vs v i k j (sub_all (F h) (F (max h h2)) (up h (max h h2) (omega arith)) vs i k M.whole) ((up h2 (max h h2) (omega arith)).whole v k j N.whole);
      wholes = λ c ws m w. elim (M.wholes c ws m w) [
        | inl lt ↦ inl (let x = kj in omega arith)
        | inr z ↦ whole_on c m z.0 z.1 z.2
      ];
      parts = λ c m p. elim (M.parts c m p) [ inl le ↦ inl (let x = kj in omega arith) | inr q ↦ part_on c m q ];
    }
      where
        kj : k < j
        kj = some h2 v k j N.whole

        whole_on : (c m : ℕ) → h ≤ c → (us : List V) → all_whole (F c) us k m → (m < j) ⊎ ((max h h2 ≤ c) × (ts : List V) × all_whole (F c) ts j m)
        whole_on c m le [] e = inl (let x = kj in omega arith)
        whole_on c m le (u ∷ us) (k1, w, ws) = elim (cases_order k1 j) [
          | inl e ↦ inr (let y = N.least c u (subst (λ z. (F c).whole u k z) e w) in omega arith, us, subst (λ z. all_whole (F c) us z m) e ws)
          | inr q ↦ elim q [
            | inl lt ↦ elim (items c us k1 m ws) [ inl e ↦ inl (omega arith) | inr z ↦ absurd (clash k1 (mix c h2 u k k1 j w (inr (v, N.whole)) lt) z.1) ]
            | inr gt ↦ absurd (let x = N.front c k1 (inr (u, w)) in omega arith)
          ]
        ]

        part_on : (c m : ℕ) → (star (F c)).part k m → (m ≤ j) ⊎ (star (F c)).part j m
        part_on c m ([], k', e, p) = inl (N.front c m (inl (subst (λ z. (F c).part z m) (sym e) p)))
        part_on c m (u ∷ us, k', (k1, w, ws), p) = elim (cases_order k1 j) [
          | inl e ↦ inr (us, k', subst (λ z. all_whole (F c) us z k') e ws, p)
          | inr q ↦ elim q [
            | inl lt ↦ elim (part_items c k1 m (us, k', ws, p)) [ inl le ↦ inl (omega arith) | inr z ↦ absurd (clash k1 (mix c h2 u k k1 j w (inr (v, N.whole)) lt) z) ]
            | inr gt ↦ absurd (let x = N.front c k1 (inr (u, w)) in omega arith)
          ]
        ]

    -- no item begins there
    pub all_read : (b : ℕ) → h ≤ b → (IsTrue (has first (at k)) → ⊥) → Measures (λ c. star (F c)) b vs h i k
    all_read b fit off = record {
      whole = M.whole;
      fits = fit;
      least = λ c ws w. elim (M.wholes c ws k w) [ inl lt ↦ absurd (omega arith) | inr z ↦ z.0 ];
      front = λ c m p. elim p [
        | inl q ↦ elim (M.parts c m q) [ inl le ↦ le | inr x ↦ elim (part_items c k m x) [ inl le ↦ le | inr y ↦ absurd (off y) ] ]
        | inr q ↦ elim (M.wholes c q.0 m q.1) [
          | inl lt ↦ omega arith
          | inr z ↦ elim (items c z.1 k m z.2) [ inl e ↦ omega arith | inr y ↦ absurd (off y.1) ]
        ]
      ];
    }

    so_far : (b n : ℕ) → h ≤ b → Prefix (F b) k n → Prefix (star (F b)) i n
    so_far b n fit (inl p) = inl (vs, k, sub_all (F h) (F b) (up h b fit) vs i k M.whole, p)
    so_far b n fit (inr (v, w)) = inr (vs ++ v ∷ [], add_one (F b) vs v i k n (sub_all (F h) (F b) (up h b fit) vs i k M.whole) w)

    pub item_stops : (b n : ℕ) → h ≤ b → k < n → Stops F b k n → Stops (λ c. star (F c)) b i n
    item_stops b n fit kn S = record {
      so_far = so_far b n fit S.so_far;
      front = λ c m p. elim p [
        | inl q ↦ elim (M.parts c m q) [ inl le ↦ omega arith | inr x ↦ part_to c m x ]
        | inr q ↦ elim (M.wholes c q.0 m q.1) [ inl lt ↦ omega arith | inr z ↦ whole_to c m z.1 z.2 ]
      ];
      not_whole = λ c ws w. elim (M.wholes c ws n w) [ inl lt ↦ omega arith | inr z ↦ not_to c z.1 z.2 ];
    }
      where
        ends : (c k1 : ℕ) (u : V) → (F c).whole u k k1 → IsTrue (has first (at k1)) → ⊥
        ends c k1 u w f = elim (cases_lt k1 n) [
          | inl lt ↦ clash k1 (mix c b u k k1 n w S.so_far lt) f
          | inr ge ↦ (let x = S.front c k1 (inr (u, w)) in let e : k1 ≡ n = omega arith in S.not_whole c u (subst (λ z. (F c).whole u k z) e w))
        ]

        part_to : (c m : ℕ) → (star (F c)).part k m → m ≤ n
        part_to c m ([], k', e, p) = S.front c m (inl (subst (λ z. (F c).part z m) (sym e) p))
        part_to c m (u ∷ us, k', (k1, w, ws), p) = elim (part_items c k1 m (us, k', ws, p)) [
          | inl le ↦ (let x = S.front c k1 (inr (u, w)) in omega arith)
          | inr f ↦ absurd (ends c k1 u w f)
        ]

        whole_to : (c m : ℕ) (us : List V) → all_whole (F c) us k m → m ≤ n
        whole_to c m [] e = omega arith
        whole_to c m (u ∷ us) (k1, w, ws) = elim (items c us k1 m ws) [
          | inl e ↦ (let x = S.front c k1 (inr (u, w)) in omega arith)
          | inr z ↦ absurd (ends c k1 u w z.1)
        ]

        not_to : (c : ℕ) (us : List V) → all_whole (F c) us k n → ⊥
        not_to c [] e = omega arith
        not_to c (u ∷ us) (k1, w, ws) = elim (items c us k1 n ws) [
          | inl e ↦ S.not_whole c u (subst (λ z. (F c).whole u k z) e w)
          | inr z ↦ ends c k1 u w z.1
        ]

    pub item_exceeds : (b n : ℕ) → h ≤ b → k ≤ n → Exceeds F b k n → Exceeds (λ c. star (F c)) b i n
    item_exceeds b n fit kn E = record {
      so_far = so_far b n fit E.so_far;
      front = λ m p. elim p [
        | inl q ↦ elim (M.parts b m q) [ inl le ↦ omega arith | inr x ↦ part_to m x ]
        | inr q ↦ elim (M.wholes b q.0 m q.1) [ inl lt ↦ omega arith | inr z ↦ whole_to m z.1 z.2 ]
      ];
      over = (h + E.over.0, so_far (h + E.over.0) (suc n) (omega arith) (sub_prefix (F (E.over.0)) (F (h + E.over.0)) k (suc n) (up (E.over.0) (h + E.over.0) (omega arith)) E.over.1));
    }
      where
        ends : (k1 : ℕ) (u : V) → (F b).whole u k k1 → IsTrue (has first (at k1)) → ⊥
        ends k1 u w f = let x = E.front k1 (inr (u, w)) in clash k1 (mix b (E.over.0) u k k1 (suc n) w E.over.1 (omega arith)) f

        part_to : (m : ℕ) → (star (F b)).part k m → m ≤ n
        part_to m ([], k', e, p) = E.front m (inl (subst (λ z. (F b).part z m) (sym e) p))
        part_to m (u ∷ us, k', (k1, w, ws), p) = elim (part_items b k1 m (us, k', ws, p)) [
          | inl le ↦ (let x = E.front k1 (inr (u, w)) in omega arith)
          | inr f ↦ absurd (ends k1 u w f)
        ]

        whole_to : (m : ℕ) (us : List V) → all_whole (F b) us k m → m ≤ n
        whole_to m [] e = omega arith
        whole_to m (u ∷ us) (k1, w, ws) = elim (items b us k1 m ws) [
          | inl e ↦ (let x = E.front k1 (inr (u, w)) in omega arith)
          | inr z ↦ absurd (ends k1 u w z.1)
        ]

sub_maybe : {V : Type 0} (f g : Lang V) → Sub f g → (v : Option V) (i j : ℕ) → maybe_whole f v i j → maybe_whole g v i j
sub_maybe f g s None i j e = e
sub_maybe f g s (Some v) i j w = s.whole v i j w

-- a form that may be left out
module _ {V : Type 0} (at : ℕ → ℕ) (first more : List ℕ) where
  module _ (f : Lang V) (F : Fine at false first more f) where
    some_of : (v : V) (i j : ℕ) → f.whole v i j → i < j
    some_of v i j w = elim (F.span v i j w) [ inl h ↦ h | inr h ↦ absurd (let e : false ≡ true = h.0 in cc) ]

    opt_span : (v : Option V) (i j : ℕ) → maybe_whole f v i j → (i < j) ⊎ (IsTrue true × (i ≡ j))
    opt_span None i j e = inr (refl, e)
    opt_span (Some v) i j w = inl (some_of v i j w)

    opt_start : (v : Option V) (i j : ℕ) → maybe_whole f v i j → i < j → IsTrue (has first (at i))
    opt_start None i j e h = absurd (omega arith)
    opt_start (Some v) i j w h = F.start v i j w h

    opt_closed : (v : Option V) (i j n : ℕ) → maybe_whole f v i j → i ≤ n → n < j → f.part i n
    opt_closed None i j n e h u = absurd (omega arith)
    opt_closed (Some v) i j n w h u = F.closed v i j n w h u

    opt_goes_on : (v w : Option V) (i j m : ℕ) → maybe_whole f v i j → maybe_whole f w i m → j < m → IsTrue (has (more ++ first) (at j))
    opt_goes_on None w i j m e x h = has-append_right more first (at j) (subst (λ z. IsTrue (has first (at z))) e (opt_start w i m x (omega arith)))
    opt_goes_on (Some v) None i j m w e h = absurd (let a = some_of v i j w in omega arith)
    opt_goes_on (Some v) (Some u) i j m w x h = has-append_left more first (at j) (F.goes_on v u i j m w x h)

    opt_goes_on_part : (v : Option V) (i j m : ℕ) → maybe_whole f v i j → f.part i m → j < m → IsTrue (has (more ++ first) (at j))
    opt_goes_on_part None i j m e p h = has-append_right more first (at j) (subst (λ z. IsTrue (has first (at z))) e (F.start_part i m p (omega arith)))
    opt_goes_on_part (Some v) i j m w p h = has-append_left more first (at j) (F.goes_on_part v i j m w p h)

    opt_same : (v w : Option V) (i j : ℕ) → maybe_whole f v i j → maybe_whole f w i j → v ≡ w
    opt_same None None i j p q = refl
    opt_same None (Some u) i j e x = absurd (let a = some_of u i j x in omega arith)
    opt_same (Some v) None i j w e = absurd (let a = some_of v i j w in omega arith)
    opt_same (Some v) (Some u) i j w x = ap (λ (z : V). Some z) (F.same v u i j w x)

    pub fine_optional : Fine at true first (more ++ first) (optional f)
    fine_optional = record {
      span = opt_span;
      ahead = F.ahead;
      start = opt_start;
      start_part = F.start_part;
      closed = opt_closed;
      closed_part = F.closed_part;
      goes_on = opt_goes_on;
      goes_on_part = opt_goes_on_part;
      same = opt_same;
    }

  module _ (F : ℕ → Lang V) (fine : (b : ℕ) → Fine at false first more (F b)) (i : ℕ) where
    of_optional : (c m : ℕ) → Prefix (optional (F c)) i m → (m ≤ i) ⊎ Prefix (F c) i m
    of_optional c m (inl p) = inr (inl p)
    of_optional c m (inr (None, e)) = inl (omega arith)
    of_optional c m (inr (Some v, w)) = inr (inr (v, w))

    to_optional : (c m : ℕ) → Prefix (F c) i m → Prefix (optional (F c)) i m
    to_optional c m (inl p) = inl p
    to_optional c m (inr (v, w)) = inr (Some v, w)

    pub optional_reads : (b h j : ℕ) (v : V) → Measures F b v h i j → Measures (λ c. optional (F c)) b (Some v) h i j
    optional_reads b h j v M =
        let ij = some_of (F h) (fine h) v i j M.whole in
        record {
          whole = M.whole;
          fits = M.fits;
          least = least;
          front = λ c m p. elim (of_optional c m p) [ inl le ↦ omega arith | inr x ↦ M.front c m x ];
        }
      where
        least : (c : ℕ) (w : Option V) → maybe_whole (F c) w i j → h ≤ c
        least c None e = absurd (let x = some_of (F h) (fine h) v i j M.whole in omega arith)
        least c (Some w) x = M.least c w x

    pub optional_refuses : (b : ℕ) (r : Refusal) → i < place r → Refuses F b i r → Refuses (λ c. optional (F c)) b i r
    optional_refuses b (stops n) lt S = record {
      so_far = to_optional b n S.so_far;
      front = λ c m p. elim (of_optional c m p) [ inl le ↦ omega arith | inr x ↦ S.front c m x ];
      not_whole = not_whole;
    }
      where
        not_whole : (c : ℕ) (w : Option V) → maybe_whole (F c) w i n → ⊥
        not_whole c None e = omega arith
        not_whole c (Some w) x = S.not_whole c w x
    optional_refuses b (exceeds n) lt E = record {
      so_far = to_optional b n E.so_far;
      front = λ m p. elim (of_optional b m p) [ inl le ↦ omega arith | inr x ↦ E.front m x ];
      over = (E.over.0, to_optional (E.over.0) (suc n) E.over.1);
    }

    pub optional_exceeds_here : (b : ℕ) → Exceeds F b i i → Exceeds (λ c. optional (F c)) b i i
    optional_exceeds_here b E = record {
      so_far = to_optional b i E.so_far;
      front = λ m p. elim (of_optional b m p) [ inl le ↦ le | inr x ↦ E.front m x ];
      over = (E.over.0, to_optional (E.over.0) (suc i) E.over.1);
    }

    pub left_out : (b : ℕ) → (IsTrue (has first (at i)) → ⊥) → Measures (λ c. optional (F c)) b None 0 i i
    left_out b off = record {
      whole = refl;
      fits = omega arith;
      least = λ c w x. omega arith;
      front = λ c m p. elim (of_optional c m p) [
        | inl le ↦ le
        | inr x ↦ elim (cases_lt i m) [
          | inl lt ↦ absurd (off (elim x [ inl y ↦ (fine c).start_part i m y lt | inr y ↦ (fine c).start y.0 i m y.1 lt ]))
          | inr ge ↦ ge
        ]
      ];
    }

-- larger sets
pub subset-has : (xs ys : List ℕ) (n : ℕ) → IsTrue (subset xs ys) → IsTrue (has xs n) → IsTrue (has ys n)
subset-has [] ys n s h = absurd cc
subset-has (x ∷ xs) ys n s h = elim (has-cons x n xs h) [
  | inl e ↦ subst (λ z. IsTrue (has ys z)) e (and_left (has ys x) _ s)
  | inr r ↦ subset-has xs ys n (and_right (has ys x) _ s) r
]

pub fine_more : {V : Type 0} (at : ℕ → ℕ) (null : Bool) (first more first' more' : List ℕ) (f : Lang V)
    → IsTrue (subset first first') → IsTrue (subset more more') → Fine at null first more f → Fine at null first' more' f
fine_more at null first more first' more' f s t F = record {
  span = F.span;
  ahead = F.ahead;
  start = λ v i j w h. subset-has first first' (at i) s (F.start v i j w h);
  start_part = λ i m p h. subset-has first first' (at i) s (F.start_part i m p h);
  closed = F.closed;
  closed_part = F.closed_part;
  goes_on = λ v w i j m p q h. subset-has more more' (at j) t (F.goes_on v w i j m p q h);
  goes_on_part = λ v i j m p q h. subset-has more more' (at j) t (F.goes_on_part v i j m p q h);
  same = F.same;
}

pub sub_optional : {V : Type 0} (f g : Lang V) → Sub f g → Sub (optional f) (optional g)
sub_optional f g s = record { whole = sub_maybe f g s; part = s.part }
