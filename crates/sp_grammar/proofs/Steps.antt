-- The steps of a reader of a chain: what it has read, and what each token after it means.
use Rattle.std.proofs.Common.{◌≡◌, ℕ, suc, zero, ◌+◌, ◌<◌, ◌≤◌, ◌⊎◌, inl, inr, max, true, false, IsTrue, List, [], ◌∷◌, refl, sym, ◌∙◌, ap, subst, arith}
use Rattle.std.proofs.lemmas.Bool.{cases_order, cases_lt}
use Rattle.sp_grammar.specs.Lang.{Lang, Prefix, nothing, all_whole, star, has, apart, binary, Measures, Stops, Exceeds}
use Rattle.sp_grammar.proofs.Laws.{apart-has}
use Rattle.sp_grammar.proofs.Chain.{Sub, sub_prefix, Ways, grow_to, Within, within_binary, turn, Turn}

module _ {V : Type 0} (at : ℕ → ℕ) (first more : List ℕ) (F : ℕ → Lang V) (W : Ways at first more F) where
  up : (b c : ℕ) → b ≤ c → Sub (F b) (F c)
  up b c h = grow_to F W.grows b c h

  -- a token behind a whole that goes on
  pub mix : (b c : ℕ) (v : V) (i j m : ℕ) → (F b).whole v i j → Prefix (F c) i m → j < m → IsTrue (has more (at j))
  mix b c v i j m w (inl p) h = (W.fine (b + c)).goes_on_part v i j m ((up b (b + c) (omega arith)).whole v i j w) ((up c (b + c) (omega arith)).part i m p) h
  mix b c v i j m w (inr q) h = (W.fine (b + c)).goes_on v q.0 i j m ((up b (b + c) (omega arith)).whole v i j w) ((up c (b + c) (omega arith)).whole q.0 i m q.1) h

  pub some : (b : ℕ) (v : V) (i j : ℕ) → (F b).whole v i j → i < j
  some b v i j w = elim ((W.fine b).span v i j w) [ inl h ↦ h | inr h ↦ absurd (let e : false ≡ true = h.0 in cc) ]

  pub ahead : (b i m : ℕ) → Prefix (F b) i m → i ≤ m
  ahead b i m (inl p) = (W.fine b).ahead i m p
  ahead b i m (inr q) = let h = some b q.0 i m q.1 in omega arith

module _ {V : Type 0} (at : ℕ → ℕ) (ops : List ℕ) (make : ℕ → V → V → ℕ → ℕ → V) (first more : List ℕ) (F G : ℕ → Lang V)
    (W : Ways at first more F) (clear : IsTrue (apart more ops))
    (out : (b : ℕ) → Sub (G (suc b)) (binary at ops make (F (suc b)) (G b) (F b)))
    (back : (b : ℕ) → Sub (binary at ops make (F (suc b)) (G b) (F b)) (G (suc b)))
    (none : Sub (G zero) nothing) (single : (b : ℕ) → Sub (F b) (G b)) (grows : (b : ℕ) → Sub (G b) (G (suc b))) where
  abbrev pub Op : ℕ → Type 0
  Op k = IsTrue (has ops (at k))

  abbrev T : ℕ → Lang (Turn at ops make)
  T c = turn at ops make (F c)

  clash : (k : ℕ) → Op k → IsTrue (has more (at k)) → ⊥
  clash k o m = apart-has more ops (at k) clear m o

  g_up : (b c : ℕ) → b ≤ c → Sub (G b) (G c)
  g_up b c h = grow_to G grows b c h

  f_up : (b c : ℕ) → b ≤ c → Sub (F b) (F c)
  f_up b c h = grow_to F W.grows b c h

  within_of : (b c : ℕ) → b ≤ c → Within at ops make (G b) (F c)
  within_of zero c h = record { whole = λ v i j w. absurd (none.whole v i j w); part = λ i m p. absurd (none.part i m p) }
  within_of (suc b) c h =
      let x = within_binary at ops make (F c) (F (suc b)) (G b) (F b) (f_up (suc b) c h) (within_of b c (omega arith)) (f_up b c (omega arith)) in
      record { whole = λ v i j w. x.whole v i j ((out b).whole v i j w); part = λ i m p. x.part i m ((out b).part i m p) }

  pub within : (b : ℕ) → Within at ops make (G b) (F b)
  within b = within_of b b (omega arith)

  mx : (b c : ℕ) (v : V) (i j m : ℕ) → (F b).whole v i j → Prefix (F c) i m → j < m → IsTrue (has more (at j))
  mx b c v i j m = mix at first more F W b c v i j m

  f_some : (b : ℕ) (v : V) (i j : ℕ) → (F b).whole v i j → i < j
  f_some b v i j = some at first more F W b v i j

  -- turns end where they begin, or an operator stands there
  turns : (c : ℕ) (ts : List (Turn at ops make)) (k m : ℕ) → all_whole (T c) ts k m → (k ≡ m) ⊎ ((k < m) × Op k)
  turns c [] k m e = inl e
  turns c (t ∷ ts) k m (k1, (a, e, (k2, (o, e1, e2), w)), ws) =
      let h = f_some c a.1 k2 k1 w in
      elim (turns c ts k1 m ws) [ inl e3 ↦ inr (omega (arith, e2), o) | inr z ↦ inr (let u = z.0 in omega (arith, e2), o) ]

  le_turns : (c : ℕ) (ts : List (Turn at ops make)) (k m : ℕ) → all_whole (T c) ts k m → k ≤ m
  le_turns c ts k m w = elim (turns c ts k m w) [ inl e ↦ omega arith | inr z ↦ (let u = z.0 in omega arith) ]

  -- what stands behind the first operator of turns
  first_turn : (c : ℕ) (ts : List (Turn at ops make)) (k m : ℕ) → all_whole (T c) ts k m → k < m
      → (r : V) × (k2 : ℕ) × (F c).whole r (suc k) k2 × (us : List (Turn at ops make)) × all_whole (T c) us k2 m
  first_turn c [] k m e h = absurd (omega arith)
  first_turn c (t ∷ ts) k m (k1, (a, e, (k2, (o, e1, e2), w)), ws) h = (a.1, k1, subst (λ x. (F c).whole a.1 x k1) e2 w, ts, ws)

  -- the same of a part of turns
  part_turn : (c k m : ℕ) → (star (T c)).part k m → (k ≡ m) ⊎ (Op k × ((F c).part (suc k) m ⊎ ((r : V) × (k2 : ℕ) × (F c).whole r (suc k) k2 × (star (T c)).part k2 m)))
  part_turn c k m ([], k', e, inl p) = inl (e ∙ p)
  part_turn c k m ([], k', e, inr (a, k2, (o, e1, e2), p)) =
      let e3 : k2 ≡ suc k = e2 ∙ ap suc (sym e) in
      inr (subst Op (sym e) o, inl (subst (λ x. (F c).part x m) e3 p))
  part_turn c k m (t ∷ ts, k', (k1, (a, e, (k2, (o, e1, e2), w)), ws), p) =
      inr (o, inr (a.1, k1, subst (λ x. (F c).whole a.1 x k1) e2 w, (ts, k', ws, p)))

  -- an operand that is read, and another one with turns behind it
  module _ (h : ℕ) (v : V) (s j : ℕ) (w : (F h).whole v s j) (front : (c m : ℕ) → Prefix (F c) s m → m ≤ j) where
    align : (c : ℕ) (x : V) (k m : ℕ) (ts : List (Turn at ops make)) → (F c).whole x s k → all_whole (T c) ts k m
        → (m < j) ⊎ ((us : List (Turn at ops make)) × all_whole (T c) us j m)
    align c x k m ts y ws = elim (cases_order k j) [
      | inl e ↦ inr (ts, subst (λ z. all_whole (T c) ts z m) e ws)
      | inr q ↦ elim q [
        | inl lt ↦ elim (turns c ts k m ws) [
          | inl e ↦ inl (omega arith)
          | inr z ↦ absurd (clash k z.1 (mx c h x s k j y (inr (v, w)) lt))
        ]
        | inr gt ↦ absurd (let u = front c k (inr (x, y)) in omega arith)
      ]
    ]

    align_part : (c : ℕ) (x : V) (k m : ℕ) → (F c).whole x s k → (star (T c)).part k m → (m ≤ j) ⊎ (star (T c)).part j m
    align_part c x k m y p = elim (cases_order k j) [
      | inl e ↦ inr (subst (λ z. (star (T c)).part z m) e p)
      | inr q ↦ elim q [
        | inl lt ↦ elim (part_turn c k m p) [
          | inl e ↦ inl (omega arith)
          | inr z ↦ absurd (clash k z.0 (mx c h x s k j y (inr (v, w)) lt))
        ]
        | inr gt ↦ absurd (let u = front c k (inr (x, y)) in omega arith)
      ]
    ]

  -- The chain that begins at i is read up to k, as v of height h. What reads on begins with an operator there.
  pub record Along (h : ℕ) (v : V) (i k : ℕ) : Type 0 where
    pub whole : (G h).whole v i k
    pub least : (c : ℕ) (w : V) → (G c).whole w i k → h ≤ c
    pub wholes : (c : ℕ) (w : V) (m : ℕ) → (G c).whole w i m → (m < k) ⊎ ((us : List (Turn at ops make)) × all_whole (T c) us k m)
    pub parts : (c m : ℕ) → (G c).part i m → (m ≤ k) ⊎ (star (T c)).part k m

  pub begin : (b : ℕ) (v : V) (h i k : ℕ) → Measures F b v h i k → Along h v i k
  begin b v h i k M = record {
    whole = (single h).whole v i k M.whole;
    least = λ c w x.
        let (r, e, (k1, y, ts)) = (within c).whole w i k x in
        let u = M.front c k1 (inr (r.0, y)) in
        elim (turns c r.1 k1 k ts) [
          | inl e1 ↦ M.least c r.0 (subst (λ z. (F c).whole r.0 i z) e1 y)
          | inr z ↦ absurd (let lt = z.0 in clash k1 z.1 (mx c h r.0 i k1 k y (inr (v, M.whole)) lt))
        ];
    wholes = λ c w m x.
        let (r, e, (k1, y, ts)) = (within c).whole w i m x in
        align h v i k M.whole M.front c r.0 k1 m r.1 y ts;
    parts = λ c m p. elim ((within c).part i m p) [
      | inl q ↦ inl (M.front c m (inl q))
      | inr (x, k1, y, q) ↦ align_part h v i k M.whole M.front c x k1 m y q
    ];
  }

  -- Where other turns pass the place of an operator, an operand begins behind it and ends at an operator or with them.
  resume : (c d : ℕ) (us ts : List (Turn at ops make)) (a k' k : ℕ) → all_whole (T c) us a k' → all_whole (T d) ts a k → k' < k → Op k'
      → (r : V) × (k2 : ℕ) × (F d).whole r (suc k') k2 × (k2 ≤ k) × ((k2 ≡ k) ⊎ Op k2)
  resume c d [] ts a k' k e ws lt o =
      let (r, k2, y, vs, zs) = first_turn d ts k' k (subst (λ z. all_whole (T d) ts z k) e ws) lt in
      (r, k2, y, le_turns d vs k2 k zs, elim (turns d vs k2 k zs) [ inl e1 ↦ inl e1 | inr z ↦ inr z.1 ])
  resume c d (u ∷ us) [] a k' k w e lt o = absurd (let x = le_turns c (u ∷ us) a k' w in omega arith)
  resume c d (u ∷ us) (t ∷ ts) a k' k (k1, (p, e, (k2, (o1, e1, e2), w)), ws) (l1, (q, f, (l2, (p1, f1, f2), x)), xs) lt o =
      let x' : (F d).whole q.1 k2 l1 = subst (λ z. (F d).whole q.1 z l1) (f2 ∙ sym e2) x in
      let le1 = le_turns c us k1 k' ws in
      let le2 = le_turns d ts l1 k xs in
      elim (cases_order k1 l1) [
        | inl g ↦ resume c d us ts k1 k' k ws (subst (λ z. all_whole (T d) ts z k) (sym g) xs) lt o
        | inr z ↦ elim z [
          | inl less ↦ (let on = mx c d p.1 k2 k1 l1 w (inr (q.1, x')) less in elim (turns c us k1 k' ws) [
            | inl g ↦ absurd (clash k' o (subst (λ y. IsTrue (has more (at y))) g on))
            | inr y ↦ absurd (clash k1 y.1 on)
          ])
          | inr gt ↦ (let on = mx d c q.1 k2 l1 k1 x' (inr (p.1, w)) gt in elim (turns d ts l1 k xs) [
            | inl g ↦ absurd (omega arith)
            | inr y ↦ absurd (clash l1 y.1 on)
          ])
        ]
      ]

  -- the same of chains from one place
  pass : (c d : ℕ) (v w : V) (i k' k : ℕ) → (G c).whole v i k' → (G d).whole w i k → k' < k → Op k'
      → (r : V) × (k2 : ℕ) × (F d).whole r (suc k') k2 × (k2 ≤ k) × ((k2 ≡ k) ⊎ Op k2)
  pass c d v w i k' k x y lt o =
      let (r, e, (k1, p, us)) = (within c).whole v i k' x in
      let (s, f, (l1, q, ts)) = (within d).whole w i k y in
      let le1 = le_turns c r.1 k1 k' us in
      let le2 = le_turns d s.1 l1 k ts in
      elim (cases_order k1 l1) [
        | inl g ↦ resume c d r.1 s.1 k1 k' k us (subst (λ z. all_whole (T d) s.1 z k) (sym g) ts) lt o
        | inr z ↦ elim z [
          | inl less ↦ (let on = mx c d r.0 i k1 l1 p (inr (s.0, q)) less in elim (turns c r.1 k1 k' us) [
            | inl g ↦ absurd (clash k' o (subst (λ y. IsTrue (has more (at y))) g on))
            | inr y ↦ absurd (clash k1 y.1 on)
          ])
          | inr gt ↦ (let on = mx d c s.0 i l1 k1 q (inr (r.0, p)) gt in elim (turns d s.1 l1 k ts) [
            | inl g ↦ absurd (omega arith)
            | inr y ↦ absurd (clash l1 y.1 on)
          ])
        ]
      ]

  module _ (h : ℕ) (l : V) (i k : ℕ) (A : Along h l i k) where
    pub stop : (b : ℕ) → h ≤ b → (Op k → ⊥) → Measures G b l h i k
    stop b fit off = record {
      whole = A.whole;
      fits = fit;
      least = A.least;
      front = λ c m p. elim p [
        | inl q ↦ elim (A.parts c m q) [
          | inl le ↦ le
          | inr s ↦ elim (part_turn c k m s) [ inl e ↦ omega arith | inr z ↦ absurd (off z.0) ]
        ]
        | inr q ↦ elim (A.wholes c q.0 m q.1) [
          | inl lt ↦ omega arith
          | inr us ↦ elim (turns c us.0 k m us.1) [ inl e ↦ omega arith | inr z ↦ absurd (off z.1) ]
        ]
      ];
    }

    module _ (o : Op k) where
      -- no operand alone reads past the operator
      no_single : (c m : ℕ) → Prefix (F c) i m → k < m → ⊥
      no_single c m p lt =
          let (r, e, (k1, y, ts)) = (within h).whole l i k A.whole in
          let le1 = le_turns h r.1 k1 k ts in
          let on = mx h c r.0 i k1 m y p (omega arith) in
          elim (turns h r.1 k1 k ts) [ inl g ↦ clash k o (subst (λ z. IsTrue (has more (at z))) g on) | inr z ↦ clash k1 z.1 on ]

      -- what reads past the operator has its last operator there or behind it
      right_of : (c d : ℕ) (w : V) (k' m : ℕ) → (G c).whole w i k' → Op k' → Prefix (F d) (suc k') m → k < m → (k' ≡ k) ⊎ (k < k')
      right_of c d w k' m x o' p lt = elim (cases_order k' k) [
        | inl e ↦ inl e
        | inr z ↦ elim z [
          | inl less ↦ (
              let (r, k2, y, le, q) = pass c h w l i k' k x A.whole less o' in
              let on = mx h d r (suc k') k2 m y p (omega arith) in
              elim q [ inl e ↦ absurd (clash k o (subst (λ z. IsTrue (has more (at z))) e on)) | inr o2 ↦ absurd (clash k2 o2 on) ])
          | inr gt ↦ inr gt
        ]
      ]

      pub step : (b h2 j : ℕ) (r : V) → Measures F b r h2 (suc k) j → Along (suc (max h h2)) (make (at k) l r i j) i j
      step b h2 j r M = record {
        whole = (back (max h h2)).whole _ i j (inr (l, r, k, (g_up h (max h h2) (omega arith)).whole l i k A.whole, o, (f_up h2 (max h h2) (omega arith)).whole r (suc k) j M.whole, refl));
        least = least;
        wholes = wholes;
        parts = parts;
      }
        where
          kj : k < j
          kj = let x = f_some h2 r (suc k) j M.whole in omega arith

          least : (c : ℕ) (w : V) → (G c).whole w i j → suc (max h h2) ≤ c
          least zero w x = absurd (none.whole w i j x)
          least (suc c) w x = elim ((out c).whole w i j x) [
            | inl y ↦ absurd (no_single (suc c) j (inr (w, y)) kj)
            | inr (l', r', k', p, o', q, e) ↦ elim (right_of c c l' k' j p o' (inr (r', q)) kj) [
              | inl e1 ↦ (
                  let a = A.least c l' (subst (λ z. (G c).whole l' i z) e1 p) in
                  let b' = M.least c r' (subst (λ z. (F c).whole r' (suc z) j) e1 q) in
                  omega arith)
              | inr gt ↦ (
                  let (r2, k2, y, le, q2) = pass h c l l' i k k' A.whole p gt o in
                  let kj' = f_some c r' (suc k') j q in
                  let on = mx c h2 r2 (suc k) k2 j y (inr (r, M.whole)) (omega arith) in
                  elim q2 [ inl e2 ↦ absurd (clash k' o' (subst (λ z. IsTrue (has more (at z))) e2 on)) | inr o2 ↦ absurd (clash k2 o2 on) ])
            ]
          ]

          wholes : (c : ℕ) (w : V) (m : ℕ) → (G c).whole w i m → (m < j) ⊎ ((us : List (Turn at ops make)) × all_whole (T c) us j m)
          wholes c w m x = elim (A.wholes c w m x) [
            | inl lt ↦ inl (let y = kj in omega arith)
            | inr us ↦ elim (turns c us.0 k m us.1) [
              | inl e ↦ inl (let y = kj in omega arith)
              | inr z ↦ (
                  let (r2, k2, y, vs, zs) = first_turn c us.0 k m us.1 z.0 in
                  align h2 r (suc k) j M.whole M.front c r2 k2 m vs y zs)
            ]
          ]

          parts : (c m : ℕ) → (G c).part i m → (m ≤ j) ⊎ (star (T c)).part j m
          parts c m x = elim (A.parts c m x) [
            | inl le ↦ inl (let y = kj in omega arith)
            | inr p ↦ elim (part_turn c k m p) [
              | inl e ↦ inl (let y = kj in omega arith)
              | inr z ↦ elim z.1 [
                | inl q ↦ inl (M.front c m (inl q))
                | inr (r2, k2, y, q) ↦ align_part h2 r (suc k) j M.whole M.front c r2 k2 m y q
              ]
            ]
          ]

      -- nothing within the height of what is read goes past the operator
      bounded : (d m : ℕ) → d ≤ h → Prefix (G d) i m → m ≤ k
      bounded zero m le (inl p) = absurd (none.part i m p)
      bounded zero m le (inr p) = absurd (none.whole p.0 i m p.1)
      bounded (suc d) m le (inr (w, x)) = elim (cases_lt k m) [
        | inl lt ↦ elim ((out d).whole w i m x) [
          | inl y ↦ absurd (no_single (suc d) m (inr (w, y)) lt)
          | inr (l', r', k', p, o', q, e) ↦ elim (right_of d d l' k' m p o' (inr (r', q)) lt) [
            | inl e1 ↦ absurd (let a = A.least d l' (subst (λ z. (G d).whole l' i z) e1 p) in omega arith)
            | inr gt ↦ absurd (let a = bounded d k' (omega arith) (inr (l', p)) in omega arith)
          ]
        ]
        | inr ge ↦ ge
      ]
      bounded (suc d) m le (inl x) = elim (cases_lt k m) [
        | inl lt ↦ elim ((out d).part i m x) [
          | inl y ↦ absurd (no_single (suc d) m (inl y) lt)
          | inr (l', k', p, q) ↦ elim q [
            | inl e ↦ absurd (let a = bounded d k' (omega arith) (inr (l', p)) in omega arith)
            | inr (o', y) ↦ elim (right_of d d l' k' m p o' (inl y) lt) [
              | inl e1 ↦ absurd (let a = A.least d l' (subst (λ z. (G d).whole l' i z) e1 p) in omega arith)
              | inr gt ↦ absurd (let a = bounded d k' (omega arith) (inr (l', p)) in omega arith)
            ]
          ]
        ]
        | inr ge ↦ ge
      ]

      pub high : (b : ℕ) → h ≤ b → b ≤ h → Exceeds G b i k
      high b p q = record {
        so_far = inr (l, (g_up h b p).whole l i k A.whole);
        front = λ m x. bounded b m q x;
        over = (suc (suc h), inl ((back (suc h)).part i (suc k) (inr (l, k, (grows h).whole l i k A.whole, inr (o, W.empty h (suc k))))));
      }

      so_far : (b m : ℕ) → h ≤ b → Prefix (F b) (suc k) m → Prefix (G (suc b)) i m
      so_far b m p (inl x) = inl ((back b).part i m (inr (l, k, (g_up h b p).whole l i k A.whole, inr (o, x))))
      so_far b m p (inr (r, x)) = inr (make (at k) l r i m, (back b).whole _ i m (inr (l, r, k, (g_up h b p).whole l i k A.whole, o, x, refl)))

      pub right_stops : (b n : ℕ) → h ≤ b → Stops F b (suc k) n → Stops G (suc b) i n
      right_stops b n fit S = record {
        so_far = so_far b n fit S.so_far;
        front = λ c m p. elim p [
          | inl q ↦ elim (A.parts c m q) [
            | inl le ↦ (let x = kn in omega arith)
            | inr s ↦ elim (part_turn c k m s) [
              | inl e ↦ (let x = kn in omega arith)
              | inr z ↦ elim z.1 [
                | inl y ↦ S.front c m (inl y)
                | inr (r, k2, y, t) ↦ elim (part_turn c k2 m t) [ inl e ↦ (let le = S.front c k2 (inr (r, y)) in omega arith) | inr u ↦ absurd (ends c r k2 y u.0) ]
              ]
            ]
          ]
          | inr q ↦ elim (A.wholes c q.0 m q.1) [
            | inl lt ↦ (let x = kn in omega arith)
            | inr us ↦ past c us.0 m us.1
          ]
        ];
        not_whole = λ c v x. elim (A.wholes c v n x) [
          | inl lt ↦ (let x = kn in omega arith)
          | inr us ↦ (
              let (r, k2, y, vs, zs) = first_turn c us.0 k n us.1 kn in
              elim (turns c vs k2 n zs) [ inl e ↦ S.not_whole c r (subst (λ z. (F c).whole r (suc k) z) e y) | inr u ↦ ends c r k2 y u.1 ])
        ];
      }
        where
          kn : k < n
          kn = let x = ahead at first more F W b (suc k) n S.so_far in omega arith

          ends : (c : ℕ) (r : V) (k2 : ℕ) → (F c).whole r (suc k) k2 → Op k2 → ⊥
          ends c r k2 y o2 = elim (cases_lt k2 n) [
            | inl lt ↦ clash k2 o2 (mx c b r (suc k) k2 n y S.so_far lt)
            | inr ge ↦ (
                let le = S.front c k2 (inr (r, y)) in
                let e : k2 ≡ n = omega arith in
                S.not_whole c r (subst (λ z. (F c).whole r (suc k) z) e y))
          ]

          past : (c : ℕ) (us : List (Turn at ops make)) (m : ℕ) → all_whole (T c) us k m → m ≤ n
          past c us m w = elim (turns c us k m w) [
            | inl e ↦ (let x = kn in omega arith)
            | inr z ↦ (
                let (r, k2, y, vs, zs) = first_turn c us k m w z.0 in
                elim (turns c vs k2 m zs) [ inl e ↦ (let le = S.front c k2 (inr (r, y)) in omega arith) | inr u ↦ absurd (ends c r k2 y u.1) ])
          ]

      pub right_exceeds : (b n : ℕ) → h ≤ b → Exceeds F b (suc k) n → Exceeds G (suc b) i n
      right_exceeds b n fit E = record {
        so_far = so_far b n fit E.so_far;
        front = λ m p. limit (suc b) m (omega arith) p;
        over = (suc (E.over.0 + h), so_far (E.over.0 + h) (suc n) (omega arith) (sub_prefix (F (E.over.0)) (F (E.over.0 + h)) (suc k) (suc n) (f_up (E.over.0) (E.over.0 + h) (omega arith)) E.over.1));
      }
        where
          kn : k < n
          kn = let x = ahead at first more F W b (suc k) n E.so_far in omega arith

          behind : (c : ℕ) (l' : V) (k' : ℕ) → (G c).whole l' i k' → Op k' → k < k' → k' ≤ n → ⊥
          behind c l' k' x o' lt le =
              let (r2, k2, y, le2, q2) = pass h c l l' i k k' A.whole x lt o in
              let on = mx c (E.over.0) r2 (suc k) k2 (suc n) y E.over.1 (omega arith) in
              elim q2 [ inl e2 ↦ clash k' o' (subst (λ z. IsTrue (has more (at z))) e2 on) | inr o2 ↦ clash k2 o2 on ]

          limit : (d m : ℕ) → d ≤ suc b → Prefix (G d) i m → m ≤ n
          limit zero m le (inl p) = absurd (none.part i m p)
          limit zero m le (inr p) = absurd (none.whole p.0 i m p.1)
          limit (suc d) m le (inr (w, x)) = elim (cases_lt k m) [
            | inl lt ↦ elim ((out d).whole w i m x) [
              | inl y ↦ absurd (no_single (suc d) m (inr (w, y)) lt)
              | inr (l', r', k', p, o', q, e) ↦ elim (right_of d d l' k' m p o' (inr (r', q)) lt) [
                | inl e1 ↦ E.front m (sub_prefix (F d) (F b) (suc k) m (f_up d b (omega arith)) (subst (λ z. Prefix (F d) (suc z) m) e1 (inr (r', q))))
                | inr gt ↦ absurd (behind d l' k' p o' gt (limit d k' (omega arith) (inr (l', p))))
              ]
            ]
            | inr ge ↦ (let x = kn in omega arith)
          ]
          limit (suc d) m le (inl x) = elim (cases_lt k m) [
            | inl lt ↦ elim ((out d).part i m x) [
              | inl y ↦ absurd (no_single (suc d) m (inl y) lt)
              | inr (l', k', p, q) ↦ elim q [
                | inl e ↦ (let a = limit d k' (omega arith) (inr (l', p)) in omega arith)
                | inr (o', y) ↦ elim (right_of d d l' k' m p o' (inl y) lt) [
                  | inl e1 ↦ E.front m (sub_prefix (F d) (F b) (suc k) m (f_up d b (omega arith)) (subst (λ z. Prefix (F d) (suc z) m) e1 (inl y)))
                  | inr gt ↦ absurd (behind d l' k' p o' gt (limit d k' (omega arith) (inr (l', p))))
                ]
              ]
            ]
            | inr ge ↦ (let x = kn in omega arith)
          ]

  -- the first operand doesn't read
  pub first_stops : (b i n : ℕ) → Stops F b i n → Stops G b i n
  first_stops b i n S = record {
    so_far = sub_prefix (F b) (G b) i n (single b) S.so_far;
    front = λ c m p. elim p [
      | inl q ↦ elim ((within c).part i m q) [
        | inl y ↦ S.front c m (inl y)
        | inr (x, k, y, t) ↦ elim (part_turn c k m t) [ inl e ↦ (let le = S.front c k (inr (x, y)) in omega arith) | inr u ↦ absurd (ends c x k y u.0) ]
      ]
      | inr q ↦ (
          let (r, e, (k, y, ts)) = (within c).whole q.0 i m q.1 in
          elim (turns c r.1 k m ts) [ inl e ↦ (let le = S.front c k (inr (r.0, y)) in omega arith) | inr u ↦ absurd (ends c r.0 k y u.1) ])
    ];
    not_whole = λ c v x.
        let (r, e, (k, y, ts)) = (within c).whole v i n x in
        elim (turns c r.1 k n ts) [ inl e1 ↦ S.not_whole c r.0 (subst (λ z. (F c).whole r.0 i z) e1 y) | inr u ↦ ends c r.0 k y u.1 ];
  }
    where
      ends : (c : ℕ) (r : V) (k : ℕ) → (F c).whole r i k → Op k → ⊥
      ends c r k y o = elim (cases_lt k n) [
        | inl lt ↦ clash k o (mx c b r i k n y S.so_far lt)
        | inr ge ↦ (
            let le = S.front c k (inr (r, y)) in
            let e : k ≡ n = omega arith in
            S.not_whole c r (subst (λ z. (F c).whole r i z) e y))
      ]

  pub first_exceeds : (b i n : ℕ) → Exceeds F b i n → Exceeds G b i n
  first_exceeds b i n E = record {
    so_far = sub_prefix (F b) (G b) i n (single b) E.so_far;
    front = λ m p. elim p [
      | inl q ↦ elim ((within b).part i m q) [
        | inl y ↦ E.front m (inl y)
        | inr (x, k, y, t) ↦ elim (part_turn b k m t) [ inl e ↦ (let le = E.front k (inr (x, y)) in omega arith) | inr u ↦ absurd (ends x k y u.0) ]
      ]
      | inr q ↦ (
          let (r, e, (k, y, ts)) = (within b).whole q.0 i m q.1 in
          elim (turns b r.1 k m ts) [ inl e ↦ (let le = E.front k (inr (r.0, y)) in omega arith) | inr u ↦ absurd (ends r.0 k y u.1) ])
    ];
    over = (E.over.0, sub_prefix (F (E.over.0)) (G (E.over.0)) i (suc n) (single (E.over.0)) E.over.1);
  }
    where
      ends : (r : V) (k : ℕ) → (F b).whole r i k → Op k → ⊥
      ends r k y o =
          let le = E.front k (inr (r, y)) in
          clash k o (mx b (E.over.0) r i k (suc n) y E.over.1 (omega arith))
