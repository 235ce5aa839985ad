-- A form of an operand alone, or of an operand, an operator and a right part: its laws, and the steps of its reader. The
-- right part is an operand again, where there is one operator at most, or the form itself, which then leans to the right.
use Rattle.std.proofs.Common.{◌≡◌, ℕ, suc, zero, ◌+◌, ◌<◌, ◌≤◌, ◌⊎◌, inl, inr, max, true, false, IsTrue, List, [], ◌++◌, Option, Some, None, refl, sym, subst, arith}
use Rattle.std.proofs.lemmas.Bool.{cases_lt, cases_order}
use Rattle.sp_grammar.specs.Lang.{Lang, Prefix, nothing, seq, made, optional, has, apart, subset, binary, Measures, Stops, Exceeds, Refusal, stops, exceeds, Refuses}
use Rattle.sp_grammar.proofs.Laws.{Fine, apart-has, fine_seq, fine_made}
use Rattle.sp_grammar.proofs.Lists.{fine_more, fine_optional}
use Rattle.sp_grammar.proofs.Chain.{Sub, sub_prefix, Ways, grow_to, operator, fine_operator}
use Rattle.sp_grammar.proofs.Steps as steps

pub record Pair (at : ℕ → ℕ) (V : Type 0) : Type 1 where
  pub ops : List ℕ
  pub make : ℕ → V → V → ℕ → ℕ → V
  pub first : List ℕ
  pub more : List ℕ
  pub right_more : List ℕ
  pub operand : ℕ → Lang V
  pub right : ℕ → Lang V
  pub form : ℕ → Lang V
  pub ways : Ways at first more operand
  pub right_ways : Ways at first right_more right
  pub clear : IsTrue (apart more ops)
  pub out : (b : ℕ) → Sub (form (suc b)) (binary at ops make (operand (suc b)) (operand b) (right b))
  pub back : (b : ℕ) → Sub (binary at ops make (operand (suc b)) (operand b) (right b)) (form (suc b))
  pub none : Sub (form zero) nothing
  pub single : (b : ℕ) → Sub (operand b) (form b)

module _ (at : ℕ → ℕ) {V : Type 0} (P : Pair at V) where
  abbrev F : ℕ → Lang V
  F = P.operand

  abbrev R : ℕ → Lang V
  R = P.right

  abbrev G : ℕ → Lang V
  G = P.form

  abbrev Op : ℕ → Type 0
  Op k = IsTrue (has P.ops (at k))

  up : (b c : ℕ) → b ≤ c → Sub (F b) (F c)
  up b c h = grow_to F P.ways.grows b c h

  right_up : (b c : ℕ) → b ≤ c → Sub (R b) (R c)
  right_up b c h = grow_to R P.right_ways.grows b c h

  mix : (b c : ℕ) (v : V) (i j m : ℕ) → (F b).whole v i j → Prefix (F c) i m → j < m → IsTrue (has P.more (at j))
  mix b c v i j m = steps.mix at P.first P.more F P.ways b c v i j m

  clash : (k : ℕ) → Op k → IsTrue (has P.more (at k)) → ⊥
  clash k o m = apart-has P.more P.ops (at k) P.clear m o

  -- What a prefix of the form is: one of the operand alone, or of a left part, an operator and a right part.
  parted : (c i m : ℕ) → Prefix (G c) i m
      → Prefix (F c) i m ⊎ ((d : ℕ) × (l : V) × (k : ℕ) × (c ≡ suc d) × (F d).whole l i k × ((k ≡ m) ⊎ (Op k × Prefix (R d) (suc k) m)))
  parted zero i m (inl p) = absurd (P.none.part i m p)
  parted zero i m (inr (v, w)) = absurd (P.none.whole v i m w)
  parted (suc d) i m (inl p) = elim ((P.out d).part i m p) [
    | inl x ↦ inl (inl x)
    | inr (l, k, x, q) ↦ inr (d, l, k, refl, x, elim q [ inl e ↦ inl e | inr (o, y) ↦ inr (o, inl y) ])
  ]
  parted (suc d) i m (inr (v, w)) = elim ((P.out d).whole v i m w) [
    | inl x ↦ inl (inr (v, x))
    | inr (l, r, k, x, o, y, e) ↦ inr (d, l, k, refl, x, inr (o, inr (r, y)))
  ]

  parted_whole : (c i m : ℕ) (v : V) → (G c).whole v i m
      → (F c).whole v i m ⊎ ((d : ℕ) × (l : V) × (r : V) × (k : ℕ) × (c ≡ suc d) × (F d).whole l i k × Op k × (R d).whole r (suc k) m)
  parted_whole zero i m v w = absurd (P.none.whole v i m w)
  parted_whole (suc d) i m v w = elim ((P.out d).whole v i m w) [
    | inl x ↦ inl x
    | inr (l, r, k, x, o, y, e) ↦ inr (d, l, r, k, refl, x, o, y)
  ]

  -- the left part is refused
  module _ (b i n : ℕ) where
    pub pair_first_stops : Stops F b i n → Stops G b i n
    pair_first_stops S = record {
      so_far = sub_prefix (F b) (G b) i n (P.single b) S.so_far;
      front = λ c m p. elim (parted c i m p) [
        | inl x ↦ S.front c m x
        | inr (d, l, k, e, x, q) ↦ elim q [
          | inl f ↦ (let u = S.front d k (inr (l, x)) in omega arith)
          | inr (o, y) ↦ absurd (ends d l k x o)
        ]
      ];
      not_whole = λ c v w. elim (parted_whole c i n v w) [
        | inl x ↦ S.not_whole c v x
        | inr (d, l, r, k, e, x, o, y) ↦ ends d l k x o
      ];
    }
      where
        ends : (d : ℕ) (l : V) (k : ℕ) → (F d).whole l i k → Op k → ⊥
        ends d l k x o = elim (cases_lt k n) [
          | inl lt ↦ clash k o (mix d b l i k n x S.so_far lt)
          | inr ge ↦ (
              let u = S.front d k (inr (l, x)) in
              let e : k ≡ n = omega arith in
              S.not_whole d l (subst (λ z. (F d).whole l i z) e x))
        ]

    pub pair_first_exceeds : Exceeds F b i n → Exceeds G b i n
    pair_first_exceeds E = record {
      so_far = sub_prefix (F b) (G b) i n (P.single b) E.so_far;
      front = λ m p. elim (parted b i m p) [
        | inl x ↦ E.front m x
        | inr (d, l, k, e, x, q) ↦ (
            let x' : (F b).whole l i k = (up d b (omega (arith, e))).whole l i k x in
            let u = E.front k (inr (l, x')) in
            elim q [
              | inl f ↦ omega arith
              | inr (o, y) ↦ absurd (clash k o (mix d (E.over.0) l i k (suc n) x E.over.1 (omega arith)))
            ])
      ];
      over = (E.over.0, sub_prefix (F (E.over.0)) (G (E.over.0)) i (suc n) (P.single (E.over.0)) E.over.1);
    }

  -- the left part is read
  module _ (b0 h : ℕ) (v : V) (i k : ℕ) (M : Measures F b0 v h i k) where
    -- another left part ends at the same place
    ends_there : (d : ℕ) (l : V) (k' : ℕ) → (F d).whole l i k' → Op k' → k' ≡ k
    ends_there d l k' x o =
        let u = M.front d k' (inr (l, x)) in
        elim (cases_lt k' k) [
          | inl lt ↦ absurd (clash k' o (mix d h l i k' k x (inr (v, M.whole)) lt))
          | inr ge ↦ omega arith
        ]

    pub pair_stop : (b : ℕ) → h ≤ b → (Op k → ⊥) → Measures G b v h i k
    pair_stop b fit off = record {
      whole = (P.single h).whole v i k M.whole;
      fits = fit;
      least = λ c w x. elim (parted_whole c i k w x) [
        | inl y ↦ M.least c w y
        | inr (d, l, r, k', e, y, o, z) ↦ absurd (off (subst Op (ends_there d l k' y o) o))
      ];
      front = λ c m p. elim (parted c i m p) [
        | inl x ↦ M.front c m x
        | inr (d, l, k', e, x, q) ↦ elim q [
          | inl f ↦ (let u = M.front d k' (inr (l, x)) in omega arith)
          | inr (o, y) ↦ absurd (off (subst Op (ends_there d l k' x o) o))
        ]
      ];
    }

    module _ (o : Op k) where
      -- no operand alone reads past the operator
      alone : (c m : ℕ) → Prefix (F c) i m → m ≤ k
      alone c m p = M.front c m p

      pub pair_high : (b : ℕ) → h ≤ b → b ≤ h → Exceeds G b i k
      pair_high b p q = record {
        so_far = inr (v, (P.single b).whole v i k ((up h b p).whole v i k M.whole));
        front = λ m x. elim (parted b i m x) [
          | inl y ↦ M.front b m y
          | inr (d, l, k', e, y, z) ↦ elim z [
            | inl f ↦ (let u = M.front d k' (inr (l, y)) in omega arith)
            | inr (o', w) ↦ absurd (let u = M.least d l (subst (λ n. (F d).whole l i n) (ends_there d l k' y o') y) in omega arith)
          ]
        ];
        over = (suc (suc h), inl ((P.back (suc h)).part i (suc k) (inr (v, k, (P.ways.grows h).whole v i k M.whole, inr (o, P.right_ways.empty h (suc k))))));
      }

      pub pair_reads : (b h2 j : ℕ) (r : V) → h ≤ b → Measures R b r h2 (suc k) j → Measures G (suc b) (P.make (at k) v r i j) (suc (max h h2)) i j
      pair_reads b h2 j r fit N =
          let kj = steps.some at P.first P.right_more R P.right_ways h2 r (suc k) j N.whole in
          let f2 = N.fits in
          record {
            whole = (P.back (max h h2)).whole _ i j (inr (v, r, k, (up h (max h h2) (omega arith)).whole v i k M.whole, o, (right_up h2 (max h h2) (omega arith)).whole r (suc k) j N.whole, refl));
            fits = omega arith;
            least = λ c w x. elim (parted_whole c i j w x) [
              | inl y ↦ absurd (let u = M.front c j (inr (w, y)) in omega arith)
              | inr (d, l, r', k', e, y, o', z) ↦ (
                  let f = ends_there d l k' y o' in
                  let a = M.least d l (subst (λ n. (F d).whole l i n) f y) in
                  let a2 = N.least d r' (subst (λ n. (R d).whole r' (suc n) j) f z) in
                  omega arith)
            ];
            front = λ c m p. elim (parted c i m p) [
              | inl x ↦ (let u = M.front c m x in omega arith)
              | inr (d, l, k', e, x, q) ↦ elim q [
                | inl f ↦ (let u = M.front d k' (inr (l, x)) in omega arith)
                | inr (o', y) ↦ N.front d m (subst (λ n. Prefix (R d) (suc n) m) (ends_there d l k' x o') y)
              ]
            ];
          }

      so_far : (b m : ℕ) → h ≤ b → Prefix (R b) (suc k) m → Prefix (G (suc b)) i m
      so_far b m p (inl x) = inl ((P.back b).part i m (inr (v, k, (up h b p).whole v i k M.whole, inr (o, x))))
      so_far b m p (inr (r, x)) = inr (P.make (at k) v r i m, (P.back b).whole _ i m (inr (v, r, k, (up h b p).whole v i k M.whole, o, x, refl)))

      pub pair_right_refuses : (b : ℕ) (r : Refusal) → h ≤ b → Refuses R b (suc k) r → Refuses G (suc b) i r
      pair_right_refuses b (stops n) fit S =
          let kn = steps.ahead at P.first P.right_more R P.right_ways b (suc k) n S.so_far in
          record {
            so_far = so_far b n fit S.so_far;
            front = λ c m p. elim (parted c i m p) [
              | inl x ↦ (let u = M.front c m x in omega arith)
              | inr (d, l, k', e, x, q) ↦ elim q [
                | inl f ↦ (let u = M.front d k' (inr (l, x)) in omega arith)
                | inr (o', y) ↦ S.front d m (subst (λ z. Prefix (R d) (suc z) m) (ends_there d l k' x o') y)
              ]
            ];
            not_whole = λ c w x. elim (parted_whole c i n w x) [
              | inl y ↦ (let u = M.front c n (inr (w, y)) in omega arith)
              | inr (d, l, r', k', e, y, o', z) ↦ S.not_whole d r' (subst (λ m. (R d).whole r' (suc m) n) (ends_there d l k' y o') z)
            ];
          }
      pair_right_refuses b (exceeds n) fit E =
          let kn = steps.ahead at P.first P.right_more R P.right_ways b (suc k) n E.so_far in
          record {
            so_far = so_far b n fit E.so_far;
            front = λ m p. elim (parted (suc b) i m p) [
              | inl x ↦ (let u = M.front (suc b) m x in omega arith)
              | inr (d, l, k', e, x, q) ↦ elim q [
                | inl f ↦ (let u = M.front d k' (inr (l, x)) in omega arith)
                | inr (o', y) ↦ E.front m (sub_prefix (R d) (R b) (suc k) m (right_up d b (omega (arith, e))) (subst (λ z. Prefix (R d) (suc z) m) (ends_there d l k' x o') y))
              ]
            ];
            over = (suc (E.over.0 + h), so_far (E.over.0 + h) (suc n) (omega arith) (sub_prefix (R (E.over.0)) (R (E.over.0 + h)) (suc k) (suc n) (right_up (E.over.0) (E.over.0 + h) (omega arith)) E.over.1));
          }

  pub pair_first_refuses : (b i : ℕ) (r : Refusal) → Refuses F b i r → Refuses G b i r
  pair_first_refuses b i (stops n) S = pair_first_stops b i n S
  pair_first_refuses b i (exceeds n) E = pair_first_exceeds b i n E

-- The laws of the form within a budget, from those of its parts. It is an operand, and an operator with a right part or nothing.
module _ {V : Type 0} (at : ℕ → ℕ) (ops : List ℕ) (make : ℕ → V → V → ℕ → ℕ → V) (first more right_more : List ℕ) (f left right : Lang V)
    (H : Fine at false first more f) (s : Sub left f) (L : (v : V) (i j n : ℕ) → left.whole v i j → i ≤ n → n < j → f.part i n)
    (K : Fine at false first right_more right) (clear : IsTrue (apart more (ops ++ []))) where
  abbrev turns : Lang (ℕ × V)
  turns = seq (operator at ops make) right

  abbrev two_tree : V × Option (ℕ × V) → ℕ → ℕ → V
  two_tree (v, None) i j = v
  two_tree (v, Some (c, r)) i j = make c v r i j

  abbrev two : Lang (V × Option (ℕ × V))
  two = seq f (optional turns)

  some_turns : Fine at false (ops ++ []) (right_more ++ []) turns
  some_turns = fine_seq at false false ops [] first right_more (operator at ops make) right (fine_operator at ops make) K refl

  laws : Fine at false (first ++ []) (((right_more ++ []) ++ (ops ++ [])) ++ more) (made two_tree two)
  laws = fine_made at false (first ++ []) (((right_more ++ []) ++ (ops ++ [])) ++ more) two_tree two
      (fine_seq at false true first more (ops ++ []) ((right_more ++ []) ++ (ops ++ [])) f (optional turns) H (fine_optional at (ops ++ []) (right_more ++ []) turns some_turns) clear)

  whole_as : (v : V) (i j : ℕ) → (binary at ops make f left right).whole v i j → (made two_tree two).whole v i j
  whole_as v i j (inl p) = ((v, None), refl, (j, p, refl))
  whole_as v i j (inr (l, r, k, x, o, y, e)) = ((l, Some (at k, r)), e, (k, s.whole l i k x, (suc k, (o, refl, refl), y)))

  part_as : (i m : ℕ) → (binary at ops make f left right).part i m → two.part i m
  part_as i m (inl p) = inl p
  part_as i m (inr (l, k, x, inl e)) = inr (l, k, s.whole l i k x, inl e)
  part_as i m (inr (l, k, x, inr (o, y))) = inr (l, k, s.whole l i k x, inr (at k, suc k, (o, refl, refl), y))

  fine_two : Fine at false (first ++ []) (((right_more ++ []) ++ (ops ++ [])) ++ more) (binary at ops make f left right)
  fine_two = record {
    span = λ v i j w. laws.span v i j (whole_as v i j w);
    ahead = λ i m p. laws.ahead i m (part_as i m p);
    start = λ v i j w h. laws.start v i j (whole_as v i j w) h;
    start_part = λ i m p h. laws.start_part i m (part_as i m p) h;
    closed = λ v i j n x h u. elim x [
      | inl p ↦ inl (H.closed v i j n p h u)
      | inr (a, b, k, p, o, q, e) ↦ elim (cases_order n k) [
        | inl e ↦ inr (a, k, p, inl (sym e))
        | inr z ↦ elim z [
          | inl lt ↦ inl (L a i k n p h lt)
          | inr gt ↦ inr (a, k, p, inr (o, K.closed b (suc k) j n q (omega arith) u))
        ]
      ]
    ];
    closed_part = λ i m n x h u. elim x [
      | inl p ↦ inl (H.closed_part i m n p h u)
      | inr (a, k, p, q) ↦ elim (cases_order n k) [
        | inl e ↦ inr (a, k, p, inl (sym e))
        | inr z ↦ elim z [
          | inl lt ↦ inl (L a i k n p h lt)
          | inr gt ↦ inr (a, k, p, inr (elim q [ inl e ↦ absurd (omega arith) | inr (o, y) ↦ (o, K.closed_part (suc k) m n y (omega arith) u) ]))
        ]
      ]
    ];
    goes_on = λ v w i j m x y h. laws.goes_on v w i j m (whole_as v i j x) (whole_as w i m y) h;
    goes_on_part = λ v i j m x p h. laws.goes_on_part v i j m (whole_as v i j x) (part_as i m p) h;
    same = λ v w i j x y. laws.same v w i j (whole_as v i j x) (whole_as w i j y);
  }

  pub fine_pair : (wide : List ℕ) → IsTrue (subset (first ++ []) first) → IsTrue (subset (((right_more ++ []) ++ (ops ++ [])) ++ more) wide)
      → Fine at false first wide (binary at ops make f left right)
  fine_pair wide t u = fine_more at false (first ++ []) (((right_more ++ []) ++ (ops ++ [])) ++ more) first wide (binary at ops make f left right) t u fine_two
