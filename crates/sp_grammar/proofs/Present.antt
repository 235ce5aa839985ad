-- Each token of a form, and of a viable prefix of it, is there: none stands past the end of a text, where the code is 0.
use Rattle.std.proofs.Common.{◌≡◌, ℕ, suc, ◌<◌, ◌≤◌, inl, inr, IsTrue, List, [], ◌∷◌, Option, None, Some, refl, sym, ◌∙◌, subst, arith}
use Rattle.std.proofs.lemmas.Bool.{cases_lt, cases_order}
use Rattle.sp_grammar.specs.Lang.{Lang, Prefix, nothing, seq, either, made, all_whole, star, optional, maybe_whole, token, room, binary, has}

module _ (at : ℕ → ℕ) where
  pub record Present {V : Type 0} (f : Lang V) : Type 0 where
    pub whole : (v : V) (i j : ℕ) → f.whole v i j → (k : ℕ) → i ≤ k → k < j → at k ≡ 0 → ⊥
    pub part : (i m : ℕ) → f.part i m → (k : ℕ) → i ≤ k → k < m → at k ≡ 0 → ⊥

  pub present_prefix : {V : Type 0} (f : Lang V) → Present f → (i m : ℕ) → Prefix f i m → (k : ℕ) → i ≤ k → k < m → at k ≡ 0 → ⊥
  present_prefix f F i m (inl p) = F.part i m p
  present_prefix f F i m (inr (v, w)) = F.whole v i m w

  pub present_nothing : {V : Type 0} → Present (nothing {V = V})
  present_nothing = record { whole = λ v i j w. absurd w; part = λ i m p. absurd p }

  -- one token, which isn't the end
  pub one_there : (i j k : ℕ) → (at i ≡ 0 → ⊥) → j ≡ suc i → i ≤ k → k < j → at k ≡ 0 → ⊥
  one_there i j k n e l u z = n (let q : k ≡ i = omega arith in subst (λ m. at m ≡ 0) q z)

  pub present_token : (c : ℕ) → (c ≡ 0 → ⊥) → Present (token at c)
  present_token c n = record {
    whole = λ v i j w k l u. one_there i j k (λ z. n (sym w.0 ∙ z)) w.1 l u;
    part = λ i m p k l u. absurd (omega (arith, p));
  }

  pub present_seq : {A B : Type 0} (f : Lang A) (g : Lang B) → Present f → Present g → Present (seq f g)
  present_seq f g F G = record {
    whole = λ v i j (m, x, y) k l u. elim (cases_lt k m) [ inl lt ↦ F.whole v.0 i m x k l lt | inr ge ↦ G.whole v.1 m j y k ge u ];
    part = λ i m p k l u. elim p [
      | inl x ↦ F.part i m x k l u
      | inr (a, n, x, y) ↦ elim (cases_lt k n) [ inl lt ↦ F.whole a i n x k l lt | inr ge ↦ G.part n m y k ge u ]
    ];
  }

  pub present_either : {V : Type 0} (f g : Lang V) → Present f → Present g → Present (either f g)
  present_either f g F G = record {
    whole = λ v i j w. elim w [ inl x ↦ F.whole v i j x | inr x ↦ G.whole v i j x ];
    part = λ i m p. elim p [ inl x ↦ F.part i m x | inr x ↦ G.part i m x ];
  }

  pub present_made : {A B : Type 0} (h : A → ℕ → ℕ → B) (f : Lang A) → Present f → Present (made h f)
  present_made h f F = record { whole = λ v i j (a, e, w). F.whole a i j w; part = λ i m p. F.part i m p }

  all_present : {V : Type 0} (f : Lang V) → Present f → (vs : List V) (i j : ℕ) → all_whole f vs i j → (k : ℕ) → i ≤ k → k < j → at k ≡ 0 → ⊥
  all_present f F [] i j e k l u z = absurd (omega (arith, e))
  all_present f F (v ∷ vs) i j (m, x, y) k l u z = elim (cases_lt k m) [ inl lt ↦ F.whole v i m x k l lt z | inr ge ↦ all_present f F vs m j y k ge u z ]

  pub present_star : {V : Type 0} (f : Lang V) → Present f → Present (star f)
  present_star f F = record {
    whole = all_present f F;
    part = λ i m (vs, n, x, y) k l u z. elim (cases_lt k n) [ inl lt ↦ all_present f F vs i n x k l lt z | inr ge ↦ F.part n m y k ge u z ];
  }

  maybe_present : {V : Type 0} (f : Lang V) → Present f → (o : Option V) (i j : ℕ) → maybe_whole f o i j → (k : ℕ) → i ≤ k → k < j → at k ≡ 0 → ⊥
  maybe_present f F None i j e k l u z = absurd (omega (arith, e))
  maybe_present f F (Some v) i j w k l u z = F.whole v i j w k l u z

  pub present_optional : {V : Type 0} (f : Lang V) → Present f → Present (optional f)
  present_optional f F = record { whole = maybe_present f F; part = F.part }

  pub present_room : {V : Type 0} (f : Lang V) → Present (room f)
  present_room f = record { whole = λ v i j w k l u z. absurd (omega (arith, w.0)); part = λ i m p. absurd p }

  pub present_binary : {V : Type 0} (ops : List ℕ) (make : ℕ → V → V → ℕ → ℕ → V) (f left right : Lang V) → (IsTrue (has ops 0) → ⊥) → Present f → Present left → Present right → Present (binary at ops make f left right)
  present_binary {V} ops make f left right off F L R = record {
    whole = λ v i j w. elim w [ inl x ↦ F.whole v i j x | inr (a, b, n, x, o, y, e) ↦ both a n o x j (λ k l u. R.whole b (suc n) j y k l u) ];
    part = λ i m p. elim p [
      | inl x ↦ F.part i m x
      | inr (a, n, x, q) ↦ elim q [ inl e ↦ (λ k l u. L.whole a i n x k l (omega (arith, e))) | inr (o, y) ↦ both a n o x m (λ k l u. R.part (suc n) m y k l u) ]
    ];
  }
    where
      both : {i : ℕ} (a : V) (n : ℕ) → IsTrue (has ops (at n)) → left.whole a i n → (j : ℕ) → ((k : ℕ) → suc n ≤ k → k < j → at k ≡ 0 → ⊥) → (k : ℕ) → i ≤ k → k < j → at k ≡ 0 → ⊥
      both {i} a n o x j after k l u z = elim (cases_order k n) [
        | inl e ↦ off (subst (λ c. IsTrue (has ops c)) z (subst (λ m. IsTrue (has ops (at m))) (sym e) o))
        | inr q ↦ elim q [ inl lt ↦ L.whole a i n x k l lt z | inr gt ↦ after k (omega arith) u z ]
      ]
