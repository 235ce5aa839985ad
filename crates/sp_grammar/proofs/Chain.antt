-- A chain that leans to the left, read from the left.
use Rattle.std.proofs.Common.{◌≡◌, ℕ, suc, zero, ◌+◌, ◌<◌, ◌≤◌, inl, inr, Bool, true, false, IsTrue, List, [], ◌∷◌, ◌++◌, ◌-◌, add-zero, add-suc, refl, sym, ◌∙◌, ap, subst, arith}
use Rattle.std.proofs.lemmas.Bool.{cases_order}
use Rattle.sp_grammar.specs.Lang.{Lang, Prefix, nothing, lower, seq, either, made, all_whole, star, has, apart, binary}
use Rattle.sp_grammar.proofs.Laws.{Fine, fine_seq, fine_made, fine_star}

-- one form is within another
pub record Sub {V : Type 0} (f g : Lang V) : Type 0 where
  pub whole : (v : V) (i j : ℕ) → f.whole v i j → g.whole v i j
  pub part : (i m : ℕ) → f.part i m → g.part i m

pub sub_refl : {V : Type 0} (f : Lang V) → Sub f f
sub_refl f = record { whole = λ v i j w. w; part = λ i m p. p }

pub sub_prefix : {V : Type 0} (f g : Lang V) (i m : ℕ) → Sub f g → Prefix f i m → Prefix g i m
sub_prefix f g i m s (inl p) = inl (s.part i m p)
sub_prefix f g i m s (inr p) = inr (p.0, s.whole p.0 i m p.1)

all_snoc : {V : Type 0} (f : Lang V) (vs : List V) (v : V) (i k j : ℕ) → all_whole f vs i k → f.whole v k j → all_whole f (vs ++ v ∷ []) i j
all_snoc f [] v i k j e w = (j, subst (λ x. f.whole v x j) (sym e) w, refl)
all_snoc f (u ∷ us) v i k j (k', x, xs) w = (k', x, all_snoc f us v k' k j xs w)

module _ {V : Type 0} (at : ℕ → ℕ) (ops : List ℕ) (make : ℕ → V → V → ℕ → ℕ → V) where
  -- one of the operators
  abbrev pub operator : Lang ℕ
  operator = record { whole = λ c i j. IsTrue (has ops (at i)) × (c ≡ at i) × (j ≡ suc i); part = λ i m. i ≡ m }

  pub fine_operator : Fine at false ops [] operator
  fine_operator = record {
    span = λ v i j w. inl (omega (arith, w.2));
    ahead = λ i m p. omega (arith, p);
    start = λ v i j w h. w.0;
    start_part = λ i m p h. absurd (omega (arith, p));
    closed = λ v i j n w h u. omega (arith, w.2);
    closed_part = λ i m n p h u. absurd (omega (arith, p));
    goes_on = λ v w i j m p q h. absurd (omega (arith, p.2, q.2));
    goes_on_part = λ v i j m p q h. absurd (omega (arith, p.2, q));
    same = λ v w i j p q. p.1 ∙ sym q.1;
  }

  -- an operator and what stands right of it, with the place behind
  abbrev pub Turn : Type 0
  Turn = (ℕ × V) × ℕ

  abbrev pub turn : Lang V → Lang Turn
  turn f = made (λ (p : ℕ × V) (i : ℕ) (j : ℕ). (p, j)) (seq operator f)

  abbrev pub fold : ℕ → V → List Turn → V
  fold i x [] = x
  fold i x (t ∷ ts) = fold i (make t.0.0 x t.0.1 i t.1) ts

  fold-snoc : (i : ℕ) (x : V) (ts : List Turn) (t : Turn) → fold i x (ts ++ t ∷ []) ≡ make t.0.0 (fold i x ts) t.0.1 i t.1
  fold-snoc i x [] t = refl
  fold-snoc i x (u ∷ us) t = fold-snoc i (make u.0.0 x u.0.1 i u.1) us t

  abbrev pub run : Lang V → Lang (V × List Turn)
  run f = seq f (star (turn f))

  -- each whole of g and each part is one of the run
  pub record Within (g f : Lang V) : Type 0 where
    pub whole : (v : V) (i j : ℕ) → g.whole v i j → (r : V × List Turn) × (v ≡ fold i r.0 r.1) × (run f).whole r i j
    pub part : (i m : ℕ) → g.part i m → (run f).part i m

  pub within_binary : (f single left right : Lang V) → Sub single f → Within left f → Sub right f → Within (binary at ops make single left right) f
  within_binary f single left right s l r = record {
    whole = λ v i j w. elim w [
      | inl p ↦ ((v, []), refl, (j, s.whole v i j p, refl))
      | inr (a, b, k, x, o, y, e) ↦ (
          let (t, te, (k0, t0, ts)) = l.whole a i k x in
          let u : Turn = ((at k, b), j) in (
            (t.0, t.1 ++ u ∷ []),
            e ∙ ap (λ (z : V). make (at k) z b i j) te ∙ sym (fold-snoc i t.0 t.1 u),
            (k0, t0, all_snoc (turn f) t.1 u k0 k j ts ((at k, b), refl, (suc k, (o, refl, refl), r.whole b (suc k) j y))),
          ))
    ];
    part = λ i m p. elim p [
      | inl q ↦ inl (s.part i m q)
      | inr (a, k, x, q) ↦ (
          let (t, te, (k0, t0, ts)) = l.whole a i k x in
          inr (t.0, k0, t0, (t.1, k, ts, elim q [ inl e ↦ inl e | inr z ↦ inr (at k, suc k, (z.0, refl, refl), r.part (suc k) m z.1) ])))
    ];
  }

-- The laws of a form whose wholes and parts are runs.
module _ {V : Type 0} (at : ℕ → ℕ) (ops : List ℕ) (make : ℕ → V → V → ℕ → ℕ → V) (first more : List ℕ) (f left right : Lang V)
    (F : Fine at false first more f) (L : (v : V) (i j n : ℕ) → left.whole v i j → i ≤ n → n < j → (binary at ops make f left right).part i n)
    (R : (v : V) (i j n : ℕ) → right.whole v i j → i ≤ n → n < j → right.part i n)
    (Rp : (i m n : ℕ) → right.part i m → i ≤ n → n < m → right.part i n)
    (clear : IsTrue (apart (more ++ []) (ops ++ []))) (clear2 : IsTrue (apart more (ops ++ [])))
    (l : Within at ops make left f) (r : Sub right f) where
  G : Lang V
  G = binary at ops make f left right

  abbrev chain_first : List ℕ
  chain_first = first ++ []

  abbrev chain_more : List ℕ
  chain_more = ((more ++ []) ++ (ops ++ [])) ++ more

  runs : Fine at false chain_first chain_more (run at ops make f)
  runs = fine_seq at false true first more (ops ++ []) ((more ++ []) ++ (ops ++ [])) f (star (turn at ops make f)) F
      (fine_star at (ops ++ []) (more ++ []) (turn at ops make f)
      (fine_made at false (ops ++ []) (more ++ []) _ (seq (operator at ops make) f) (fine_seq at false false ops [] first more (operator at ops make) f (fine_operator at ops make) F refl)) clear) clear2

  w : Within at ops make (binary at ops make f left right) f
  w = within_binary at ops make f f left right (sub_refl f) l r

  pub fine_binary : Fine at false chain_first chain_more (binary at ops make f left right)
  fine_binary = record {
    span = λ v i j x. let y = w.whole v i j x in runs.span y.0 i j y.2;
    ahead = λ i m p. runs.ahead i m (w.part i m p);
    start = λ v i j x h. let y = w.whole v i j x in runs.start y.0 i j y.2 h;
    start_part = λ i m p h. runs.start_part i m (w.part i m p) h;
    closed = λ v i j n x h u. elim x [
      | inl p ↦ inl (F.closed v i j n p h u)
      | inr (a, b, k, p, o, q, e) ↦ elim (cases_order n k) [
        | inl e ↦ inr (a, k, p, inl (sym e))
        | inr z ↦ elim z [
          | inl lt ↦ L a i k n p h lt
          | inr gt ↦ inr (a, k, p, inr (o, R b (suc k) j n q (omega arith) u))
        ]
      ]
    ];
    closed_part = λ i m n x h u. elim x [
      | inl p ↦ inl (F.closed_part i m n p h u)
      | inr (a, k, p, q) ↦ elim (cases_order n k) [
        | inl e ↦ inr (a, k, p, inl (sym e))
        | inr z ↦ elim z [
          | inl lt ↦ L a i k n p h lt
          | inr gt ↦ inr (a, k, p, inr (elim q [ inl e ↦ absurd (omega arith) | inr (o, y) ↦ (o, Rp (suc k) m n y (omega arith) u) ]))
        ]
      ]
    ];
    goes_on = λ v v' i j m x x' h. let y = w.whole v i j x in let y' = w.whole v' i m x' in runs.goes_on y.0 y'.0 i j m y.2 y'.2 h;
    goes_on_part = λ v i j m x p h. let y = w.whole v i j x in runs.goes_on_part y.0 i j m y.2 (w.part i m p) h;
    same = λ v v' i j x x'.
        let y = w.whole v i j x in
        let y' = w.whole v' i j x' in
        let e : y.0 ≡ y'.0 = runs.same y.0 y'.0 i j y.2 y'.2 in
        y.1 ∙ ap (λ (z : V × List (Turn at ops make)). fold at ops make i z.0 z.1) e ∙ sym y'.1;
  }

-- A form with a budget: what holds for a larger budget, too
pub record Ways {V : Type 0} (at : ℕ → ℕ) (first more : List ℕ) (F : ℕ → Lang V) : Type 0 where
  pub fine : (b : ℕ) → Fine at false first more (F b)
  pub grows : (b : ℕ) → Sub (F b) (F (suc b))
  pub empty : (b i : ℕ) → (F (suc b)).part i i

pub grow_by : {V : Type 0} (F : ℕ → Lang V) → ((b : ℕ) → Sub (F b) (F (suc b))) → (b d : ℕ) → Sub (F b) (F (b + d))
grow_by F s b zero = subst (λ n. Sub (F b) (F n)) (sym (add-zero b)) (sub_refl (F b))
grow_by F s b (suc d) = subst (λ n. Sub (F b) (F n)) (sym (add-suc b d)) (record {
  whole = λ v i j w. (s (b + d)).whole v i j ((grow_by F s b d).whole v i j w);
  part = λ i m p. (s (b + d)).part i m ((grow_by F s b d).part i m p);
})

pub grow_to : {V : Type 0} (F : ℕ → Lang V) → ((b : ℕ) → Sub (F b) (F (suc b))) → (b c : ℕ) → b ≤ c → Sub (F b) (F c)
grow_to F s b c h = let e : b + (c - b) ≡ c = omega arith in subst (λ n. Sub (F b) (F n)) e (grow_by F s b (c - b))

pub sub_seq : {A B : Type 0} (f f' : Lang A) (g g' : Lang B) → Sub f f' → Sub g g' → Sub (seq f g) (seq f' g')
sub_seq f f' g g' s t = record {
  whole = λ v i j (k, x, y). (k, s.whole v.0 i k x, t.whole v.1 k j y);
  part = λ i m p. elim p [ inl x ↦ inl (s.part i m x) | inr (a, k, x, y) ↦ inr (a, k, s.whole a i k x, t.part k m y) ];
}

pub sub_either : {V : Type 0} (f f' g g' : Lang V) → Sub f f' → Sub g g' → Sub (either f g) (either f' g')
sub_either f f' g g' s t = record {
  whole = λ v i j p. elim p [ inl x ↦ inl (s.whole v i j x) | inr x ↦ inr (t.whole v i j x) ];
  part = λ i m p. elim p [ inl x ↦ inl (s.part i m x) | inr x ↦ inr (t.part i m x) ];
}

pub swap_either : {V : Type 0} (f g : Lang V) → Sub (either f g) (either g f)
swap_either f g = record {
  whole = λ v i j p. elim p [ inl x ↦ inr x | inr x ↦ inl x ];
  part = λ i m p. elim p [ inl x ↦ inr x | inr x ↦ inl x ];
}

pub sub_made : {A B : Type 0} (h : A → ℕ → ℕ → B) (f f' : Lang A) → Sub f f' → Sub (made h f) (made h f')
sub_made h f f' s = record {
  whole = λ v i j (a, e, x). (a, e, s.whole a i j x);
  part = λ i m p. s.part i m p;
}

pub sub_binary : {V : Type 0} (at : ℕ → ℕ) (ops : List ℕ) (make : ℕ → V → V → ℕ → ℕ → V) (f f' l l' r r' : Lang V)
    → Sub f f' → Sub l l' → Sub r r' → Sub (binary at ops make f l r) (binary at ops make f' l' r')
sub_binary at ops make f f' l l' r r' s t u = record {
  whole = λ v i j p. elim p [ inl x ↦ inl (s.whole v i j x) | inr (a, b, k, x, o, y, e) ↦ inr (a, b, k, t.whole a i k x, o, u.whole b (suc k) j y, e) ];
  part = λ i m p. elim p [ inl x ↦ inl (s.part i m x) | inr (a, k, x, q) ↦ inr (a, k, t.whole a i k x, elim q [ inl e ↦ inl e | inr (o, y) ↦ inr (o, u.part (suc k) m y) ]) ];
}

pub sub_nothing : {V : Type 0} (f : Lang V) → Sub nothing f
sub_nothing f = record { whole = λ v i j w. absurd w; part = λ i m p. absurd p }

pub fine_nothing : {V : Type 0} (at : ℕ → ℕ) (null : Bool) (first more : List ℕ) → Fine at null first more (nothing {V = V})
fine_nothing at null first more = record {
  span = λ v i j w. absurd w;
  ahead = λ i m p. absurd p;
  start = λ v i j w h. absurd w;
  start_part = λ i m p h. absurd p;
  closed = λ v i j n w h u. absurd w;
  closed_part = λ i m n p h u. absurd p;
  goes_on = λ v w i j m p q h. absurd p;
  goes_on_part = λ v i j m p q h. absurd p;
  same = λ v w i j p q. absurd p;
}

pub lower_grows : {V : Type 0} (F : ℕ → Lang V) → ((b : ℕ) → Sub (F b) (F (suc b))) → (b : ℕ) → Sub (lower F b) (lower F (suc b))
lower_grows F s zero = sub_nothing (F zero)
lower_grows F s (suc b) = s b

pub fine_lower : {V : Type 0} (at : ℕ → ℕ) (null : Bool) (first more : List ℕ) (F : ℕ → Lang V) → ((b : ℕ) → Fine at null first more (F b)) → (b : ℕ) → Fine at null first more (lower F b)
fine_lower at null first more F f zero = fine_nothing at null first more
fine_lower at null first more F f (suc b) = f b

-- Each form of a chain is within the runs of each larger operand.
module _ {V : Type 0} (at : ℕ → ℕ) (ops : List ℕ) (make : ℕ → V → V → ℕ → ℕ → V) (F G : ℕ → Lang V)
    (grows : (b : ℕ) → Sub (F b) (F (suc b)))
    (out : (b : ℕ) → Sub (G (suc b)) (binary at ops make (F (suc b)) (G b) (F b)))
    (none : Sub (G zero) nothing) where
  pub within_chain : (b c : ℕ) → b ≤ c → Within at ops make (G b) (F c)
  within_chain zero c h = record { whole = λ v i j w. absurd (none.whole v i j w); part = λ i m p. absurd (none.part i m p) }
  within_chain (suc b) c h =
      let x = within_binary at ops make (F c) (F (suc b)) (G b) (F b) (grow_to F grows (suc b) c h) (within_chain b c (omega arith)) (grow_to F grows b c (omega arith)) in
      record { whole = λ v i j w. x.whole v i j ((out b).whole v i j w); part = λ i m p. x.part i m ((out b).part i m p) }
