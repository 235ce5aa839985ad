-- What is read and what is refused of a form with two budgets: of a sequence, a choice, a list, and a form that may be left out.
use Rattle.std.proofs.Common.{◌≡◌, ℕ, suc, ◌+◌, ◌<◌, ◌≤◌, ◌⊎◌, inl, inr, true, false, IsTrue, List, [], ◌∷◌, ◌++◌, Option, Some, None, refl, sym, subst, arith}
use Rattle.std.proofs.lemmas.Bool.{cases_order, cases_lt}
use Rattle.sp_grammar.specs.Lang.{Lang, Prefix, seq, either, made, all_whole, star, optional, maybe_whole, token, not_from, has, apart}
use Rattle.sp_grammar.specs.Within.{Limits, Budget, of_height, of_nesting, Keeps, Raises, ReadsWithin, StopsWithin, Halt, stops, exceeds, RefusesWithin}
use Rattle.sp_grammar.proofs.Laws.{apart-has, le_span}
use Rattle.sp_grammar.proofs.Chain.{Sub, sub_prefix}
use Rattle.sp_grammar.proofs.Forms.{Below, Form, some_form}

-- larger budgets

abbrev pub sum : Limits → Limits → Limits
sum l k = record { height = l.height + k.height; nesting = l.nesting + k.nesting }

below_left : (l k : Limits) → Below l (sum l k)
below_left l k = record { height = omega arith; nesting = omega arith }

below_right : (l k : Limits) → Below k (sum l k)
below_right l k = record { height = omega arith; nesting = omega arith }

pub raised : (q : Budget) (b l : Limits) → Raises q b l → Below b l
raised of_height b l r = let h = r.0 in let e = r.1 in record { height = omega arith; nesting = omega arith }
raised of_nesting b l r = let e = r.0 in let h = r.1 in record { height = omega arith; nesting = omega arith }

pub keeps_itself : (q : Budget) (b : Limits) → Keeps q b b
keeps_itself of_height b = refl
keeps_itself of_nesting b = refl

room_above : (b l : Limits) → 1 ≤ b.height → Below b l → 1 ≤ l.height
room_above b l h w = let x = w.height in omega arith

module _ (at : ℕ → ℕ) {V : Type 0} (f : Form at V) where
  -- two readings within different budgets
  pub mix : (l k : Limits) (v : V) (i j m : ℕ) → (f.form l).whole v i j → Prefix (f.form k) i m → j < m → IsTrue (has f.more (at j))
  mix l k v i j m w (inl p) h = (f.fine (sum l k)).goes_on_part v i j m ((f.grows l (sum l k) (below_left l k)).whole v i j w) ((f.grows k (sum l k) (below_right l k)).part i m p) h
  mix l k v i j m w (inr q) h = (f.fine (sum l k)).goes_on v q.0 i j m ((f.grows l (sum l k) (below_left l k)).whole v i j w) ((f.grows k (sum l k) (below_right l k)).whole q.0 i m q.1) h

  pub le_prefix : (l : Limits) (i m : ℕ) → Prefix (f.form l) i m → i ≤ m
  le_prefix l i m (inl p) = (f.fine l).ahead i m p
  le_prefix l i m (inr q) = le_span i m _ ((f.fine l).span q.0 i m q.1)

  pub begins : (l : Limits) (i m : ℕ) → Prefix (f.form l) i m → i < m → IsTrue (has f.first (at i))
  begins l i m (inl p) h = (f.fine l).start_part i m p h
  begins l i m (inr q) h = (f.fine l).start q.0 i m q.1 h

  pub some : f.null ≡ false → (l : Limits) (v : V) (i j : ℕ) → (f.form l).whole v i j → i < j
  some p l v i j w = elim ((some_form at f p l).span v i j w) [ inl h ↦ h | inr h ↦ absurd (let e : false ≡ true = h.0 in cc) ]

  pub shorter : (l : Limits) (i n m : ℕ) → Prefix (f.form l) i n → i ≤ m → m ≤ n → Prefix (f.form l) i m
  shorter l i n m p h k = elim (cases_lt m n) [
    | inl lt ↦ inl (elim p [ inl x ↦ (f.fine l).closed_part i n m x h lt | inr (v, w) ↦ (f.fine l).closed v i n m w h lt ])
    | inr ge ↦ (let e : n ≡ m = omega arith in subst (λ z. Prefix (f.form l) i z) e p)
  ]

  -- where no token of it is there, it stops
  pub none_begins : (b : Limits) → 1 ≤ b.height → f.null ≡ false → (i : ℕ) → (IsTrue (has f.first (at i)) → ⊥) → StopsWithin b f.form i i
  none_begins b h p i off = record {
    so_far = f.empty b h i;
    front = λ l m x. elim (cases_lt i m) [ inl lt ↦ absurd (off (begins l i m x lt)) | inr ge ↦ ge ];
    not_whole = λ l v w. let lt = some p l v i i w in omega arith;
  }

-- f, then g
module _ (at : ℕ → ℕ) {A B : Type 0} (f : Form at A) (g : Form at B) (clear : IsTrue (apart f.more g.first)) (b : Limits) (i : ℕ) where
  abbrev FG : Limits → Lang (A × B)
  FG l = seq (f.form l) (g.form l)

  clash : (k : ℕ) → IsTrue (has f.more (at k)) → IsTrue (has g.first (at k)) → ⊥
  clash k = apart-has f.more g.first (at k) clear

  split : (l : Limits) (m : ℕ) → Prefix (FG l) i m → (f.form l).part i m ⊎ ((a : A) × (k : ℕ) × (f.form l).whole a i k × Prefix (g.form l) k m)
  split l m (inl p) = elim p [ inl x ↦ inl x | inr (a, k, w, x) ↦ inr (a, k, w, inl x) ]
  split l m (inr (v, (k, a, x))) = inr (v.0, k, a, inr (v.1, x))

  joined : (l : Limits) (k m : ℕ) (a : A) → (f.form l).whole a i k → Prefix (g.form l) k m → Prefix (FG l) i m
  joined l k m a w (inl x) = inl (inr (a, k, w, x))
  joined l k m a w (inr (v, x)) = inr ((a, v), (k, w, x))

  -- where f is read up to k, what goes past k goes on from there
  module _ (a : A) (k : ℕ) (R : ReadsWithin b f.form a i k) where
    from : (l : Limits) (m : ℕ) → Prefix (FG l) i m → (m ≤ k) ⊎ Prefix (g.form l) k m
    from l m p = elim (split l m p) [
      | inl x ↦ inl (R.front l m (inl x))
      | inr (a', k', w', x) ↦ elim (cases_order k' k) [
        | inl e ↦ inr (subst (λ z. Prefix (g.form l) z m) e x)
        | inr q ↦ elim q [
          | inl lt ↦ elim (cases_lt k' m) [
            | inl less ↦ absurd (clash k' (mix at f l b a' i k' k w' (inr (a, R.whole)) lt) (begins at g l k' m x less))
            | inr ge ↦ inl (omega arith)
          ]
          | inr gt ↦ absurd (let u = R.front l k' (inr (a', w')) in omega arith)
        ]
      ]
    ]

    from_whole : (l : Limits) (m : ℕ) (v : A × B) → (FG l).whole v i m → (m < k) ⊎ (g.form l).whole v.1 k m
    from_whole l m v (k', w', x) = elim (cases_order k' k) [
      | inl e ↦ inr (subst (λ z. (g.form l).whole v.1 z m) e x)
      | inr q ↦ elim q [
        | inl lt ↦ elim (cases_lt k' m) [
          | inl less ↦ absurd (clash k' (mix at f l b v.0 i k' k w' (inr (a, R.whole)) lt) (begins at g l k' m (inr (v.1, x)) less))
          | inr ge ↦ inl (omega arith)
        ]
        | inr gt ↦ absurd (let u = R.front l k' (inr (v.0, w')) in omega arith)
      ]
    ]

    pub reads_both : (j : ℕ) (w : B) → ReadsWithin b g.form w k j → ReadsWithin b FG (a, w) i j
    reads_both j w N =
        let kj = le_prefix at g b k j (inr (w, N.whole)) in
        record {
          whole = (k, R.whole, N.whole);
          front = λ l m p. elim (from l m p) [ inl z ↦ omega arith | inr z ↦ N.front l m z ];
        }

    pub refuses_second : (r : Halt) → RefusesWithin b g.form k r → RefusesWithin b FG i r
    refuses_second (stops n) S =
        let kn = le_prefix at g b k n S.so_far in
        record {
          so_far = joined b k n a R.whole S.so_far;
          front = λ l m p. elim (from l m p) [ inl z ↦ omega arith | inr z ↦ S.front l m z ];
          not_whole = λ l v w. elim (from_whole l n v w) [ inl z ↦ omega arith | inr z ↦ S.not_whole l v.1 z ];
        }
    refuses_second (exceeds q n) E =
        let kn = le_prefix at g b k n E.so_far in
        let (d, up, p) = E.over in
        record {
          so_far = joined b k n a R.whole E.so_far;
          front = λ l m y p. elim (from l m p) [ inl z ↦ omega arith | inr z ↦ E.front l m y z ];
          over = (d, up, joined d k (suc n) a ((f.grows b d (raised q b d up)).whole a i k R.whole) p);
        }

  pub refuses_first : 1 ≤ b.height → (r : Halt) → RefusesWithin b f.form i r → RefusesWithin b FG i r
  refuses_first h (stops n) S = record {
    so_far = elim S.so_far [ inl x ↦ inl (inl x) | inr (a, w) ↦ joined b n n a w (g.empty b h n) ];
    front = λ l m p. elim (split l m p) [
      | inl x ↦ S.front l m (inl x)
      | inr (a, k, w, x) ↦ elim (cases_lt k m) [
        | inl lt ↦ absurd (ends l k a w (begins at g l k m x lt))
        | inr ge ↦ (let u = S.front l k (inr (a, w)) in omega arith)
      ]
    ];
    not_whole = λ l v (k, w, x). elim (cases_lt k n) [
      | inl lt ↦ ends l k v.0 w (begins at g l k n (inr (v.1, x)) lt)
      | inr ge ↦ (
          let u = S.front l k (inr (v.0, w)) in
          let e : k ≡ n = omega arith in
          S.not_whole l v.0 (subst (λ z. (f.form l).whole v.0 i z) e w))
    ];
  }
    where
      ends : (l : Limits) (k : ℕ) (a : A) → (f.form l).whole a i k → IsTrue (has g.first (at k)) → ⊥
      ends l k a w s = elim (cases_lt k n) [
        | inl lt ↦ clash k (mix at f l b a i k n w S.so_far lt) s
        | inr ge ↦ (
            let u = S.front l k (inr (a, w)) in
            let e : k ≡ n = omega arith in
            S.not_whole l a (subst (λ z. (f.form l).whole a i z) e w))
      ]
  refuses_first h (exceeds q n) E =
      let (d, up, o) = E.over in
      record {
        so_far = elim E.so_far [ inl x ↦ inl (inl x) | inr (a, w) ↦ joined b n n a w (g.empty b h n) ];
        front = λ l m y p. elim (split l m p) [
          | inl x ↦ E.front l m y (inl x)
          | inr (a, k, w, x) ↦ (
              let u = E.front l k y (inr (a, w)) in
              elim (cases_lt k m) [
                | inl lt ↦ absurd (clash k (mix at f l d a i k (suc n) w o (omega arith)) (begins at g l k m x lt))
                | inr ge ↦ omega arith
              ])
        ];
        over = (
          d,
          up,
          elim o [
            | inl x ↦ inl (inl x)
            | inr (a, w) ↦ joined d (suc n) (suc n) a w (g.empty d (room_above b d h (raised q b d up)) (suc n))
          ],
        );
      }

-- a made value
module _ {A B : Type 0} (h : A → ℕ → ℕ → B) (F : Limits → Lang A) (b : Limits) (i : ℕ) where
  of_made : (l : Limits) (m : ℕ) → Prefix (made h (F l)) i m → Prefix (F l) i m
  of_made l m (inl x) = inl x
  of_made l m (inr (v, (a, e, w))) = inr (a, w)

  to_made : (l : Limits) (m : ℕ) → Prefix (F l) i m → Prefix (made h (F l)) i m
  to_made l m (inl x) = inl x
  to_made l m (inr (a, w)) = inr (h a i m, (a, refl, w))

  pub reads_made : (j : ℕ) (v : A) → ReadsWithin b F v i j → ReadsWithin b (λ l. made h (F l)) (h v i j) i j
  reads_made j v R = record { whole = (v, refl, R.whole); front = λ l m p. R.front l m (of_made l m p) }

  pub refuses_made : (r : Halt) → RefusesWithin b F i r → RefusesWithin b (λ l. made h (F l)) i r
  refuses_made (stops n) S = record {
    so_far = to_made b n S.so_far;
    front = λ l m p. S.front l m (of_made l m p);
    not_whole = λ l v x. S.not_whole l x.0 x.2;
  }
  refuses_made (exceeds q n) E = record {
    so_far = to_made b n E.so_far;
    front = λ l m y p. E.front l m y (of_made l m p);
    over = (E.over.0, E.over.1, to_made (E.over.0) (suc n) E.over.2);
  }

-- two forms that are the same within each budget
module _ {V : Type 0} (F E : Limits → Lang V) (out : (l : Limits) → Sub (E l) (F l)) (back : (l : Limits) → Sub (F l) (E l)) (b : Limits) (i : ℕ) where
  pub reads_same : (j : ℕ) (v : V) → ReadsWithin b F v i j → ReadsWithin b E v i j
  reads_same j v R = record { whole = (back b).whole v i j R.whole; front = λ l m p. R.front l m (sub_prefix (E l) (F l) i m (out l) p) }

  pub refuses_same : (r : Halt) → RefusesWithin b F i r → RefusesWithin b E i r
  refuses_same (stops n) S = record {
    so_far = sub_prefix (F b) (E b) i n (back b) S.so_far;
    front = λ l m p. S.front l m (sub_prefix (E l) (F l) i m (out l) p);
    not_whole = λ l v w. S.not_whole l v ((out l).whole v i n w);
  }
  refuses_same (exceeds q n) X = record {
    so_far = sub_prefix (F b) (E b) i n (back b) X.so_far;
    front = λ l m y p. X.front l m y (sub_prefix (E l) (F l) i m (out l) p);
    over = (X.over.0, X.over.1, sub_prefix (F (X.over.0)) (E (X.over.0)) i (suc n) (back (X.over.0)) X.over.2);
  }

-- f or g, of which g can't begin here
module _ (at : ℕ → ℕ) {V : Type 0} (f g : Form at V) (p : f.null ≡ false) (q : g.null ≡ false) (b : Limits) (i : ℕ) (off : IsTrue (has g.first (at i)) → ⊥) where
  short : (l : Limits) (m : ℕ) → Prefix (g.form l) i m → m ≤ i
  short l m x = elim (cases_lt i m) [ inl lt ↦ absurd (off (begins at g l i m x lt)) | inr ge ↦ ge ]

  not_g : (l : Limits) (v : V) (j : ℕ) → (g.form l).whole v i j → ⊥
  not_g l v j w = let lt = some at g q l v i j w in off (begins at g l i j (inr (v, w)) lt)

  module _ (E : Limits → Lang V) (out : (l : Limits) → Sub (E l) (either (f.form l) (g.form l))) (back : (l : Limits) → Sub (either (f.form l) (g.form l)) (E l)) where
    of_either : (l : Limits) (m : ℕ) → Prefix (E l) i m → Prefix (f.form l) i m ⊎ Prefix (g.form l) i m
    of_either l m (inl x) = elim ((out l).part i m x) [ inl y ↦ inl (inl y) | inr y ↦ inr (inl y) ]
    of_either l m (inr (v, w)) = elim ((out l).whole v i m w) [ inl x ↦ inl (inr (v, x)) | inr x ↦ inr (inr (v, x)) ]

    to_either : (l : Limits) (m : ℕ) → Prefix (f.form l) i m → Prefix (E l) i m
    to_either l m (inl x) = inl ((back l).part i m (inl x))
    to_either l m (inr (v, w)) = inr (v, (back l).whole v i m (inl w))

    pub reads_chosen : (j : ℕ) (v : V) → ReadsWithin b f.form v i j → ReadsWithin b E v i j
    reads_chosen j v R =
        let ij = some at f p b v i j R.whole in
        record {
          whole = (back b).whole v i j (inl R.whole);
          front = λ l m x. elim (of_either l m x) [ inl y ↦ R.front l m y | inr y ↦ (let u = short l m y in omega arith) ];
        }

    pub refuses_chosen : (r : Halt) → RefusesWithin b f.form i r → RefusesWithin b E i r
    refuses_chosen (stops n) S =
        let le = le_prefix at f b i n S.so_far in
        record {
          so_far = to_either b n S.so_far;
          front = λ l m x. elim (of_either l m x) [ inl y ↦ S.front l m y | inr y ↦ (let u = short l m y in omega arith) ];
          not_whole = λ l v w. elim ((out l).whole v i n w) [ inl y ↦ S.not_whole l v y | inr y ↦ not_g l v n y ];
        }
    refuses_chosen (exceeds z n) X =
        let le = le_prefix at f b i n X.so_far in
        record {
          so_far = to_either b n X.so_far;
          front = λ l m k x. elim (of_either l m x) [ inl y ↦ X.front l m k y | inr y ↦ (let u = short l m y in omega arith) ];
          over = (X.over.0, X.over.1, to_either (X.over.0) (suc n) X.over.2);
        }

-- a token
module _ (at : ℕ → ℕ) (c : ℕ) (b : Limits) (i : ℕ) where
  pub reads_token : at i ≡ c → ReadsWithin b (λ (_ : Limits). token at c) tt i (suc i)
  reads_token e = record {
    whole = (e, refl);
    front = λ l m p. elim p [ inl x ↦ omega arith | inr x ↦ omega (arith, x.1.1) ];
  }

  pub stops_token : (at i ≡ c → ⊥) → StopsWithin b (λ (_ : Limits). token at c) i i
  stops_token ne = record {
    so_far = inl refl;
    front = λ l m p. elim p [ inl x ↦ omega arith | inr x ↦ absurd (ne x.1.0) ];
    not_whole = λ l v x. ne x.0;
  }

-- a form that may be left out
module _ (at : ℕ → ℕ) {V : Type 0} (f : Form at V) (p : f.null ≡ false) (b : Limits) (i : ℕ) where
  of_optional : (l : Limits) (m : ℕ) → Prefix (optional (f.form l)) i m → (m ≤ i) ⊎ Prefix (f.form l) i m
  of_optional l m (inl x) = inr (inl x)
  of_optional l m (inr (None, e)) = inl (omega arith)
  of_optional l m (inr (Some v, w)) = inr (inr (v, w))

  to_optional : (l : Limits) (m : ℕ) → Prefix (f.form l) i m → Prefix (optional (f.form l)) i m
  to_optional l m (inl x) = inl x
  to_optional l m (inr (v, w)) = inr (Some v, w)

  pub reads_omitted : (IsTrue (has f.first (at i)) → ⊥) → ReadsWithin b (λ l. optional (f.form l)) None i i
  reads_omitted off = record {
    whole = refl;
    front = λ l m x. elim (of_optional l m x) [
      | inl le ↦ le
      | inr y ↦ elim (cases_lt i m) [ inl lt ↦ absurd (off (begins at f l i m y lt)) | inr ge ↦ ge ]
    ];
  }

  pub reads_given : (j : ℕ) (v : V) → ReadsWithin b f.form v i j → ReadsWithin b (λ l. optional (f.form l)) (Some v) i j
  reads_given j v R =
      let ij = some at f p b v i j R.whole in
      record {
        whole = R.whole;
        front = λ l m x. elim (of_optional l m x) [ inl le ↦ omega arith | inr y ↦ R.front l m y ];
      }

  -- it begins, and is refused
  pub refuses_given : (l : Limits) → Prefix (f.form l) i (suc i) → (r : Halt) → RefusesWithin b f.form i r → RefusesWithin b (λ l. optional (f.form l)) i r
  refuses_given o y (stops n) S =
      let lt = S.front o (suc i) y in
      record {
        so_far = to_optional b n S.so_far;
        front = λ l m x. elim (of_optional l m x) [ inl le ↦ omega arith | inr z ↦ S.front l m z ];
        not_whole = not_whole;
      }
    where
      not_whole : (l : Limits) (w : Option V) → maybe_whole (f.form l) w i n → ⊥
      not_whole l None e = let lt = S.front o (suc i) y in omega arith
      not_whole l (Some w) x = S.not_whole l w x
  refuses_given o y (exceeds q n) X =
      let le = le_prefix at f b i n X.so_far in
      record {
        so_far = to_optional b n X.so_far;
        front = λ l m k x. elim (of_optional l m x) [ inl z ↦ omega arith | inr z ↦ X.front l m k z ];
        over = (X.over.0, X.over.1, to_optional (X.over.0) (suc n) X.over.2);
      }

-- any number of a form
module _ (at : ℕ → ℕ) {V : Type 0} (f : Form at V) (p : f.null ≡ false) (clear : IsTrue (apart f.more f.first)) (b : Limits) where
  clash2 : (k : ℕ) → IsTrue (has f.more (at k)) → IsTrue (has f.first (at k)) → ⊥
  clash2 k = apart-has f.more f.first (at k) clear

  -- items end where they begin, or an item begins there
  items : (l : Limits) (vs : List V) (i j : ℕ) → all_whole (f.form l) vs i j → (i ≡ j) ⊎ ((i < j) × IsTrue (has f.first (at i)))
  items l [] i j e = inl e
  items l (v ∷ vs) i j (k, w, ws) =
      let h = some at f p l v i k w in
      inr (elim (items l vs k j ws) [ inl e ↦ omega arith | inr z ↦ (let u = z.0 in omega arith) ], (f.fine l).start v i k w h)

  part_items : (l : Limits) (i m : ℕ) → (star (f.form l)).part i m → (m ≤ i) ⊎ IsTrue (has f.first (at i))
  part_items l i m ([], k, e, x) = elim (cases_lt k m) [
    | inl lt ↦ inr (subst (λ z. IsTrue (has f.first (at z))) (sym e) ((f.fine l).start_part k m x lt))
    | inr ge ↦ inl (omega arith)
  ]
  part_items l i m (v ∷ vs, k, (k', w, ws), x) = inr ((f.fine l).start v i k' w (some at f p l v i k' w))

  add_one : (l : Limits) (vs : List V) (v : V) (i k j : ℕ) → all_whole (f.form l) vs i k → (f.form l).whole v k j → all_whole (f.form l) (vs ++ v ∷ []) i j
  add_one l [] v i k j e w = (j, subst (λ x. (f.form l).whole v x j) (sym e) w, refl)
  add_one l (u ∷ us) v i k j (k', x, xs) w = (k', x, add_one l us v k' k j xs w)

  all_grow : (l k : Limits) → Below l k → (vs : List V) (i j : ℕ) → all_whole (f.form l) vs i j → all_whole (f.form k) vs i j
  all_grow l k w [] i j e = e
  all_grow l k w (v ∷ vs) i j (m, x, xs) = (m, (f.grows l k w).whole v i m x, all_grow l k w vs m j xs)

  -- The items from i to k are read. What goes on has an item there.
  pub record ManyWithin (vs : List V) (i k : ℕ) : Type 0 where
    pub whole : all_whole (f.form b) vs i k
    pub wholes : (l : Limits) (ws : List V) (m : ℕ) → all_whole (f.form l) ws i m → (m < k) ⊎ ((us : List V) × all_whole (f.form l) us k m)
    pub parts : (l : Limits) (m : ℕ) → (star (f.form l)).part i m → (m ≤ k) ⊎ (star (f.form l)).part k m

  pub none_yet : (i : ℕ) → ManyWithin [] i i
  none_yet i = record { whole = refl; wholes = λ l ws m w. inr (ws, w); parts = λ l m x. inr x }

  module _ {vs : List V} {i k : ℕ} (M : ManyWithin vs i k) where
    pub and_one : {j : ℕ} {v : V} → ReadsWithin b f.form v k j → ManyWithin (vs ++ v ∷ []) i j
    and_one {j} {v} N = record {
      whole = add_one b vs v i k j M.whole N.whole;
      wholes = λ l ws m w. elim (M.wholes l ws m w) [ inl lt ↦ inl (let x = kj in omega arith) | inr z ↦ whole_on l m z.0 z.1 ];
      parts = λ l m x. elim (M.parts l m x) [ inl le ↦ inl (let x = kj in omega arith) | inr q ↦ part_on l m q ];
    }
      where
        kj : k < j
        kj = some at f p b v k j N.whole

        whole_on : (l : Limits) (m : ℕ) (us : List V) → all_whole (f.form l) us k m → (m < j) ⊎ ((ts : List V) × all_whole (f.form l) ts j m)
        whole_on l m [] e = inl (let x = kj in omega arith)
        whole_on l m (u ∷ us) (k1, w, ws) = elim (cases_order k1 j) [
          | inl e ↦ inr (us, subst (λ z. all_whole (f.form l) us z m) e ws)
          | inr q ↦ elim q [
            | inl lt ↦ elim (items l us k1 m ws) [ inl e ↦ inl (omega arith) | inr z ↦ absurd (clash2 k1 (mix at f l b u k k1 j w (inr (v, N.whole)) lt) z.1) ]
            | inr gt ↦ absurd (let x = N.front l k1 (inr (u, w)) in omega arith)
          ]
        ]

        part_on : (l : Limits) (m : ℕ) → (star (f.form l)).part k m → (m ≤ j) ⊎ (star (f.form l)).part j m
        part_on l m ([], k', e, x) = inl (N.front l m (inl (subst (λ z. (f.form l).part z m) (sym e) x)))
        part_on l m (u ∷ us, k', (k1, w, ws), x) = elim (cases_order k1 j) [
          | inl e ↦ inr (us, k', subst (λ z. all_whole (f.form l) us z k') e ws, x)
          | inr q ↦ elim q [
            | inl lt ↦ elim (part_items l k1 m (us, k', ws, x)) [ inl le ↦ inl (omega arith) | inr z ↦ absurd (clash2 k1 (mix at f l b u k k1 j w (inr (v, N.whole)) lt) z) ]
            | inr gt ↦ absurd (let x = N.front l k1 (inr (u, w)) in omega arith)
          ]
        ]

    -- no item begins there
    pub reads_all : (IsTrue (has f.first (at k)) → ⊥) → ReadsWithin b (λ l. star (f.form l)) vs i k
    reads_all off = record {
      whole = M.whole;
      front = λ l m x. elim x [
        | inl q ↦ elim (M.parts l m q) [ inl le ↦ le | inr y ↦ elim (part_items l k m y) [ inl le ↦ le | inr z ↦ absurd (off z) ] ]
        | inr q ↦ elim (M.wholes l q.0 m q.1) [ inl lt ↦ omega arith | inr z ↦ elim (items l z.0 k m z.1) [ inl e ↦ omega arith | inr y ↦ absurd (off y.1) ] ]
      ];
    }

    so_far : (l : Limits) (n : ℕ) → Below b l → Prefix (f.form l) k n → Prefix (star (f.form l)) i n
    so_far l n w (inl x) = inl (vs, k, all_grow b l w vs i k M.whole, x)
    so_far l n w (inr (v, x)) = inr (vs ++ v ∷ [], add_one l vs v i k n (all_grow b l w vs i k M.whole) x)

    itself_below : Below b b
    itself_below = record { height = omega arith; nesting = omega arith }

    -- an item begins there, and is refused
    pub refuses_one : (l : Limits) → Prefix (f.form l) k (suc k) → (r : Halt) → RefusesWithin b f.form k r → RefusesWithin b (λ l. star (f.form l)) i r
    refuses_one o y (stops n) S =
        let kn = S.front o (suc k) y in
        record {
          so_far = so_far b n itself_below S.so_far;
          front = λ l m x. elim x [
            | inl q ↦ elim (M.parts l m q) [ inl le ↦ omega arith | inr z ↦ part_to l m z ]
            | inr q ↦ elim (M.wholes l q.0 m q.1) [ inl lt ↦ omega arith | inr z ↦ whole_to l m z.0 z.1 ]
          ];
          not_whole = λ l ws w. elim (M.wholes l ws n w) [ inl lt ↦ omega arith | inr z ↦ not_to l z.0 z.1 ];
        }
      where
        ends : (l : Limits) (k1 : ℕ) (u : V) → (f.form l).whole u k k1 → IsTrue (has f.first (at k1)) → ⊥
        ends l k1 u w h = elim (cases_lt k1 n) [
          | inl lt ↦ clash2 k1 (mix at f l b u k k1 n w S.so_far lt) h
          | inr ge ↦ (let x = S.front l k1 (inr (u, w)) in let e : k1 ≡ n = omega arith in S.not_whole l u (subst (λ z. (f.form l).whole u k z) e w))
        ]

        part_to : (l : Limits) (m : ℕ) → (star (f.form l)).part k m → m ≤ n
        part_to l m ([], k', e, x) = S.front l m (inl (subst (λ z. (f.form l).part z m) (sym e) x))
        part_to l m (u ∷ us, k', (k1, w, ws), x) = elim (part_items l k1 m (us, k', ws, x)) [
          | inl le ↦ (let z = S.front l k1 (inr (u, w)) in omega arith)
          | inr h ↦ absurd (ends l k1 u w h)
        ]

        whole_to : (l : Limits) (m : ℕ) (us : List V) → all_whole (f.form l) us k m → m ≤ n
        whole_to l m [] e = let kn = S.front o (suc k) y in omega arith
        whole_to l m (u ∷ us) (k1, w, ws) = elim (items l us k1 m ws) [
          | inl e ↦ (let x = S.front l k1 (inr (u, w)) in omega arith)
          | inr z ↦ absurd (ends l k1 u w z.1)
        ]

        not_to : (l : Limits) (us : List V) → all_whole (f.form l) us k n → ⊥
        not_to l [] e = let kn = S.front o (suc k) y in omega arith
        not_to l (u ∷ us) (k1, w, ws) = elim (items l us k1 n ws) [
          | inl e ↦ S.not_whole l u (subst (λ z. (f.form l).whole u k z) e w)
          | inr z ↦ ends l k1 u w z.1
        ]
    refuses_one o y (exceeds q n) X =
        let kn = le_prefix at f b k n X.so_far in
        let (d, up, g) = X.over in
        record {
          so_far = so_far b n itself_below X.so_far;
          front = λ l m t x. elim x [
            | inl z ↦ elim (M.parts l m z) [ inl le ↦ omega arith | inr z ↦ part_to l m t z ]
            | inr z ↦ elim (M.wholes l z.0 m z.1) [ inl lt ↦ omega arith | inr z ↦ whole_to l m t z.0 z.1 ]
          ];
          over = (d, up, so_far d (suc n) (raised q b d up) g);
        }
      where
        ends : (l : Limits) (k1 : ℕ) (u : V) → Keeps q b l → (f.form l).whole u k k1 → IsTrue (has f.first (at k1)) → ⊥
        ends l k1 u t w h = let x = X.front l k1 t (inr (u, w)) in clash2 k1 (mix at f l (X.over.0) u k k1 (suc n) w X.over.2 (omega arith)) h

        part_to : (l : Limits) (m : ℕ) → Keeps q b l → (star (f.form l)).part k m → m ≤ n
        part_to l m t ([], k', e, x) = X.front l m t (inl (subst (λ z. (f.form l).part z m) (sym e) x))
        part_to l m t (u ∷ us, k', (k1, w, ws), x) = elim (part_items l k1 m (us, k', ws, x)) [
          | inl le ↦ (let z = X.front l k1 t (inr (u, w)) in omega arith)
          | inr h ↦ absurd (ends l k1 u t w h)
        ]

        whole_to : (l : Limits) (m : ℕ) → Keeps q b l → (us : List V) → all_whole (f.form l) us k m → m ≤ n
        whole_to l m t [] e = let kn = le_prefix at f b k n X.so_far in omega arith
        whole_to l m t (u ∷ us) (k1, w, ws) = elim (items l us k1 m ws) [
          | inl e ↦ (let x = X.front l k1 t (inr (u, w)) in omega arith)
          | inr z ↦ absurd (ends l k1 u t w z.1)
        ]

-- f that begins with none of these, where none of these is there
module _ (at : ℕ → ℕ) (xs : List ℕ) {V : Type 0} (F : Limits → Lang V) (b : Limits) (i : ℕ) (off : IsTrue (has xs (at i)) → ⊥) where
  to_not : (l : Limits) (m : ℕ) → Prefix (F l) i m → Prefix (not_from at xs (F l)) i m
  to_not l m (inl x) = inl (x, λ lt. off)
  to_not l m (inr (v, w)) = inr (v, (w, off))

  of_not : (l : Limits) (m : ℕ) → Prefix (not_from at xs (F l)) i m → Prefix (F l) i m
  of_not l m (inl x) = inl x.0
  of_not l m (inr (v, w)) = inr (v, w.0)

  pub reads_not_from : (j : ℕ) (v : V) → ReadsWithin b F v i j → ReadsWithin b (λ l. not_from at xs (F l)) v i j
  reads_not_from j v R = record { whole = (R.whole, off); front = λ l m x. R.front l m (of_not l m x) }

  pub refuses_not_from : (r : Halt) → RefusesWithin b F i r → RefusesWithin b (λ l. not_from at xs (F l)) i r
  refuses_not_from (stops n) S = record {
    so_far = to_not b n S.so_far;
    front = λ l m x. S.front l m (of_not l m x);
    not_whole = λ l v w. S.not_whole l v w.0;
  }
  refuses_not_from (exceeds q n) X = record {
    so_far = to_not b n X.so_far;
    front = λ l m t x. X.front l m t (of_not l m x);
    over = (X.over.0, X.over.1, to_not (X.over.0) (suc n) X.over.2);
  }
