-- A form that needs a budget of nesting of at least 1, and has one less to spend inside.
use Rattle.std.proofs.Common.{◌≡◌, ℕ, suc, zero, ◌≤◌, inl, inr, false, refl, subst, arith}
use Rattle.sp_grammar.specs.Lang.{Lang, Prefix}
use Rattle.sp_grammar.specs.Within.{Limits, Budget, of_height, of_nesting, Keeps, Raises, ReadsWithin, ExceedsWithin, Halt, stops, exceeds, RefusesWithin}
use Rattle.sp_grammar.proofs.Laws.{Fine}
use Rattle.sp_grammar.proofs.Chain.{Sub}
use Rattle.sp_grammar.proofs.Forms.{Form, some_form}

abbrev pub limits : ℕ → ℕ → Limits
limits h n = record { height = h; nesting = n }

-- f nested in base: f begins at each place, and base isn't empty
module _ (at : ℕ → ℕ) {V W : Type 0} (f : Form at V) (base : Form at W) (p : base.null ≡ false) (always : (l : Limits) (i : ℕ) → (f.form l).part i i) where
  abbrev pub nested : ℕ → ℕ → Lang V
  nested h zero = record { whole = λ v i j. ⊥; part = λ i m. (i ≡ m) × (base.form (limits h zero)).part i i }
  nested h (suc n) = f.form (limits h n)

  pub fine_nested : (h n : ℕ) → Fine at f.null f.first f.more (nested h n)
  fine_nested h zero = record {
    span = λ v i j w. absurd w;
    ahead = λ i m x. omega (arith, x.0);
    start = λ v i j w u. absurd w;
    start_part = λ i m x u. absurd (omega (arith, x.0));
    closed = λ v i j n w u x. absurd w;
    closed_part = λ i m n x u t. absurd (omega (arith, x.0));
    goes_on = λ v w i j m x y u. absurd x;
    goes_on_part = λ v i j m x y u. absurd x;
    same = λ v w i j x y. absurd x;
  }
  fine_nested h (suc n) = f.fine (limits h n)

  pub grows_nested : (h n g m : ℕ) → h ≤ g → n ≤ m → Sub (nested h n) (nested g m)
  grows_nested h zero g zero u v = record {
    whole = λ x i j w. w;
    part = λ i m x. (x.0, (base.grows (limits h zero) (limits g zero) (record { height = u; nesting = v })).part i i x.1);
  }
  grows_nested h zero g (suc m) u v = record {
    whole = λ x i j w. absurd w;
    part = λ i k x. subst (λ z. (f.form (limits g m)).part i z) x.0 (always (limits g m) i);
  }
  grows_nested h (suc n) g zero u v = absurd (omega arith)
  grows_nested h (suc n) g (suc m) u v = f.grows (limits h n) (limits g m) (record { height = u; nesting = omega arith })

  base_part : (l : Limits) → 1 ≤ l.height → (m : ℕ) → (base.form l).part m m
  base_part l h m = elim (base.empty l h m) [
    | inl x ↦ x
    | inr (v, w) ↦ elim ((some_form at base p l).span v m m w) [ inl lt ↦ absurd (omega arith) | inr e ↦ absurd (let z : false ≡ _ = e.0 in cc) ]
  ]

  pub empty_nested : (h n : ℕ) → 1 ≤ h → (m : ℕ) → Prefix (nested h n) m m
  empty_nested h zero e m = inl (refl, base_part (limits h zero) e m)
  empty_nested h (suc n) e m = inl (always (limits h n) m)

  abbrev pub nested_form : Form at V
  nested_form = record {
    null = f.null;
    first = f.first;
    more = f.more;
    form = λ l. nested l.height l.nesting;
    fine = λ l. fine_nested l.height l.nesting;
    grows = λ l k b. grows_nested l.height l.nesting k.height k.nesting b.height b.nesting;
    empty = λ l h m. empty_nested l.height l.nesting h m;
  }

  module _ (h n i : ℕ) where
    inner_front : (b : ℕ) → ((l : Limits) (m : ℕ) → Prefix (f.form l) i m → m ≤ b) → i ≤ b → (g k m : ℕ) → Prefix (nested g k) i m → m ≤ b
    inner_front b F le g zero m (inl x) = omega (arith, x.0)
    inner_front b F le g zero m (inr (v, w)) = absurd w
    inner_front b F le g (suc k) m x = F (limits g k) m x

    pub reads_nested : (v : V) (j : ℕ) → i ≤ j → ReadsWithin (limits h n) f.form v i j → ReadsWithin (limits h (suc n)) nested_form.form v i j
    reads_nested v j le R = record {
      whole = R.whole;
      front = λ l m x. inner_front j R.front le l.height l.nesting m x;
    }

    not_nested : (e : ℕ) → ((l : Limits) (v : V) → (f.form l).whole v i e → ⊥) → (g k : ℕ) (v : V) → (nested g k).whole v i e → ⊥
    not_nested e F g zero v w = w
    not_nested e F g (suc k) v w = F (limits g k) v w

    keeps_front : (q : Budget) (b : ℕ) → ((l : Limits) (m : ℕ) → Keeps q (limits h n) l → Prefix (f.form l) i m → m ≤ b) → i ≤ b
        → (g k m : ℕ) → Keeps q (limits h (suc n)) (limits g k) → Prefix (nested g k) i m → m ≤ b
    keeps_front q b F le g zero m y (inl x) = omega (arith, x.0)
    keeps_front q b F le g zero m y (inr (v, w)) = absurd w
    keeps_front of_height b F le g (suc k) m y x = F (limits g k) m y x
    keeps_front of_nesting b F le g (suc k) m y x = F (limits g k) m (omega arith) x

    pub refuses_nested : (r : Halt) → RefusesWithin (limits h n) f.form i r → RefusesWithin (limits h (suc n)) nested_form.form i r
    refuses_nested (stops e) S =
        let le = S.front (limits h n) i (inl (always (limits h n) i)) in
        record {
          so_far = S.so_far;
          front = λ l m x. inner_front e S.front le l.height l.nesting m x;
          not_whole = λ l v w. not_nested e S.not_whole l.height l.nesting v w;
        }
    refuses_nested (exceeds q e) X =
        let le = X.front (limits h n) i (itself q) (inl (always (limits h n) i)) in
        record {
          so_far = X.so_far;
          front = λ l m y x. keeps_front q e X.front le l.height l.nesting m y x;
          over = (limits (X.over.0).height (suc (X.over.0).nesting), more q (X.over.0) X.over.1, X.over.2);
        }
      where
        itself : (q : Budget) → Keeps q (limits h n) (limits h n)
        itself of_height = refl
        itself of_nesting = refl

        more : (q : Budget) (l : Limits) → Raises q (limits h n) l → Raises q (limits h (suc n)) (limits l.height (suc l.nesting))
        more of_height l r = (r.0, let e = r.1 in omega arith)
        more of_nesting l r = (r.0, let e = r.1 in omega arith)

  -- with no budget of nesting it exceeds it at its first token
  pub too_deep : (h i : ℕ) → 1 ≤ h → ((l : Limits) → 1 ≤ l.height → Prefix (f.form l) i (suc i)) → ExceedsWithin (limits h zero) nested_form.form of_nesting i i
  too_deep h i e o = record {
    so_far = inl (refl, base_part (limits h zero) e i);
    front = λ l m y x. none l.height l.nesting m y x;
    over = (limits h 1, (refl, omega arith), o (limits h zero) e);
  }
    where
      none : (g k m : ℕ) → k ≡ zero → Prefix (nested g k) i m → m ≤ i
      none g zero m y (inl x) = omega (arith, x.0)
      none g zero m y (inr (v, w)) = absurd w
      none g (suc k) m y x = absurd (omega arith)
