-- The laws of the forms that only limit where another form may stand.
use Rattle.std.proofs.Common.{◌≡◌, ℕ, inl, inr, true, false, ◌||◌, eqb, IsTrue, List, [], ◌∷◌, if◌then◌else◌, refl, sym, ◌∙◌, ap, subst, arith}
use Rattle.std.proofs.lemmas.Bool.{eq-eqb}
use Rattle.sp_grammar.specs.Lang.{Lang, has, room, not_from, without}
use Rattle.sp_grammar.proofs.Laws.{Fine, has-cons}
use Rattle.sp_grammar.proofs.Chain.{Sub, Within}

pub fine_room : {V : Type 0} (at : ℕ → ℕ) (f : Lang V) → Fine at true [] [] (room f)
fine_room at f = record {
  span = λ v i j w. inr (refl, w.0);
  ahead = λ i m p. absurd p;
  start = λ v i j w h. absurd (omega (arith, w.0));
  start_part = λ i m p h. absurd p;
  closed = λ v i j n w h u. absurd (omega (arith, w.0));
  closed_part = λ i m n p h u. absurd p;
  goes_on = λ v w i j m p q h. absurd (omega (arith, p.0, q.0));
  goes_on_part = λ v i j m p q h. absurd q;
  same = λ v w i j p q. refl;
}

has-without : (xs ys : List ℕ) (n : ℕ) → (IsTrue (has xs n) → ⊥) → IsTrue (has ys n) → IsTrue (has (without xs ys) n)
has-without xs [] n off h = h
has-without xs (y ∷ ys) n off h = elim (has xs y) as (λ b. has xs y ≡ b → IsTrue (has (if b then without xs ys else y ∷ without xs ys) n)) [
  | true ↦ λ e. elim (has-cons y n ys h) [
    | inl f ↦ absurd (off (subst (λ z. IsTrue (has xs z)) f e))
    | inr r ↦ has-without xs ys n off r
  ]
  | false ↦ λ e. elim (has-cons y n ys h) [
    | inl f ↦ here y n (without xs ys) f
    | inr r ↦ there y n (without xs ys) (has-without xs ys n off r)
  ]
] refl
  where
    here : (y n : ℕ) (zs : List ℕ) → y ≡ n → IsTrue (has (y ∷ zs) n)
    here y n zs f = ap (λ b. b || has zs n) (eq-eqb y n f)

    there : (y n : ℕ) (zs : List ℕ) → IsTrue (has zs n) → IsTrue (has (y ∷ zs) n)
    there y n zs r = elim (eqb y n) as (λ b. IsTrue (b || has zs n)) [ true ↦ refl | false ↦ r ]

-- what the set without some holds, it held, and isn't one of these
pub without-has : (xs ys : List ℕ) (n : ℕ) → IsTrue (has (without xs ys) n) → IsTrue (has ys n) × (IsTrue (has xs n) → ⊥)
without-has xs [] n h = absurd cc
without-has xs (y ∷ ys) n h = elim (has xs y) as (λ b. has xs y ≡ b → IsTrue (has (if b then without xs ys else y ∷ without xs ys) n) → IsTrue (has (y ∷ ys) n) × (IsTrue (has xs n) → ⊥)) [
  | true ↦ λ e k. more (without-has xs ys n k)
  | false ↦ λ e k. elim (has-cons y n (without xs ys) k) [
    | inl f ↦ (ap (λ b. b || has ys n) (eq-eqb y n f), λ t. let z : has xs y ≡ true = subst (λ m. IsTrue (has xs m)) (sym f) t in let w : false ≡ true = sym e ∙ z in cc)
    | inr r ↦ more (without-has xs ys n r)
  ]
] refl h
  where
    more : IsTrue (has ys n) × (IsTrue (has xs n) → ⊥) → IsTrue (has (y ∷ ys) n) × (IsTrue (has xs n) → ⊥)
    more p = (elim (eqb y n) as (λ b. IsTrue (b || has ys n)) [ true ↦ refl | false ↦ p.0 ], p.1)

pub fine_not_from : {V : Type 0} (at : ℕ → ℕ) (xs first more : List ℕ) (f : Lang V) → Fine at false first more f → Fine at false (without xs first) more (not_from at xs f)
fine_not_from at xs first more f F = record {
  span = λ v i j w. F.span v i j w.0;
  ahead = λ i m p. F.ahead i m p.0;
  start = λ v i j w h. has-without xs first (at i) w.1 (F.start v i j w.0 h);
  start_part = λ i m p h. has-without xs first (at i) (p.1 h) (F.start_part i m p.0 h);
  closed = λ v i j n w h u. (F.closed v i j n w.0 h u, λ lt. w.1);
  closed_part = λ i m n p h u. (F.closed_part i m n p.0 h u, λ lt. p.1 (omega arith));
  goes_on = λ v w i j m p q h. F.goes_on v w i j m p.0 q.0 h;
  goes_on_part = λ v i j m p q h. F.goes_on_part v i j m p.0 q.0 h;
  same = λ v w i j p q. F.same v w i j p.0 q.0;
}
