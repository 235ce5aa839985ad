-- Two runs compare in one way at most, and break off in one way, want of memory apart.
use Rattle.std.proofs.Common.{◌≡◌, ◌≢◌, ◌⊎◌, ◌∙◌, ℕ, zero, suc, ◌<◌, Bool, true, false, List, [], ◌∷◌, None, Some, ap, arith, inl, inr, length, refl, sym, subst, take}
use Rattle.std.specs.Prelude.{if◌then◌else◌, slice_get}
use Rattle.std.proofs.lemmas.Option.{none-some, same_Some}
use Rattle.sp_values.specs.declared.place.Invocation.{Invocation}
use Rattle.sp_core.specs.declared.function.Answer.{Answer}
use Rattle.sp_core.specs.Machine.{Machine}
use Rattle.sp_core.specs.Security.{is_seen, purge, seen}
use Rattle.sp_core.specs.Values.{Store}
use Rattle.sp_stepping.specs.Laws.{FaultLaw, OneFaultLaw}
use Rattle.sp_stepping.specs.declared.fault.StepFault.{StepFault}
use Rattle.sp_stepping.specs.declared.fault.StepFault.TheVariants as fault
use Rattle.sp_animator.specs.Comparing.{BreaksPurged, BreaksPurgedAt, BreaksWhole, BreaksWholeAt, Compares, IsCompareFault, IsComparison, IsDifferenceAt, IsKeptFault, IsWholeFault, kept_before}
use Rattle.sp_animator.specs.Runs.{RunsWithin}
use Rattle.sp_animator.specs.declared.comparing.CompareFault.{CompareFault}
use Rattle.sp_animator.specs.declared.comparing.Compared.{Compared}
use Rattle.sp_animator.specs.declared.comparing.Compared.TheVariants as compared
use Rattle.sp_run_command.proofs.Runs.{AreOne, IsBreak, breaks_one, refused_within, runs_one}

-- ---- lists

taken_there : {A : Type 0} (xs : List A) (n k : ℕ) (x : A) → n < k → slice_get xs n ≡ Some x → slice_get (take k xs) n ≡ Some x
taken_there [] n k x h e = absurd (none-some x e)
taken_there (y ∷ xs) n zero x h e = absurd (omega (arith, h))
taken_there (y ∷ xs) zero (suc k) x h e = e
taken_there (y ∷ xs) (suc n) (suc k) x h e = taken_there xs n k x (omega (arith, h)) e

taken_taken : {A : Type 0} (xs : List A) (n k : ℕ) → n < k → take n (take k xs) ≡ take n xs
taken_taken [] zero zero h = refl
taken_taken [] zero (suc k) h = refl
taken_taken [] (suc n) zero h = refl
taken_taken [] (suc n) (suc k) h = refl
taken_taken (y ∷ xs) n zero h = absurd (omega (arith, h))
taken_taken (y ∷ xs) zero (suc k) h = refl
taken_taken (y ∷ xs) (suc n) (suc k) h = ap (λ ys. y ∷ ys) (taken_taken xs n k (omega (arith, h)))

taken_has : {A : Type 0} (xs : List A) (k n : ℕ) (x : A) → slice_get (take k xs) n ≡ Some x → slice_get xs n ≡ Some x
taken_has [] zero n x e = e
taken_has [] (suc k) n x e = e
taken_has (y ∷ xs) zero n x e = absurd (none-some x e)
taken_has (y ∷ xs) (suc k) zero x e = e
taken_has (y ∷ xs) (suc k) (suc n) x e = taken_has xs k n x e

same_there : {A : Type 0} (xs : List A) (n : ℕ) (x y : A) → slice_get xs n ≡ Some x → slice_get xs n ≡ Some y → x ≡ y
same_there xs n x y p q = same_Some x y (sym p ∙ q)

take_none : {A : Type 0} (xs : List A) → take 0 xs ≡ []
take_none [] = refl
take_none (x ∷ xs) = refl

-- ---- kept invocations

module _ (m : Machine) (l : ℕ) where
  -- what is seen of a kept invocation
  kept_answer : (is' : List Invocation) (as' : List Answer) (n : ℕ) (i : Invocation) (x : Answer) → slice_get is' n ≡ Some i → is_seen m l i ≡ true → slice_get as' n ≡ Some x
      → slice_get (seen m l is' as') (kept_before m l is' n) ≡ Some x
  kept_answer [] as' n i x there kept has = absurd (none-some i there)
  kept_answer (j ∷ is') [] n i x there kept has = absurd (none-some x has)
  kept_answer (j ∷ is') (a ∷ as') zero i x there kept has =
      (λ k. slice_get (if (ap (is_seen m l) (same_Some j i there) ∙ kept) k then a ∷ seen m l is' as' else seen m l is' as') 0) ∙ has
  kept_answer (j ∷ is') (a ∷ as') (suc n) i x there kept has = by (is_seen m l j) (kept_answer is' as' n i x there kept has)
    where
      by : (b : Bool) → slice_get (seen m l is' as') (length (purge m l (take n is'))) ≡ Some x
          → slice_get (if b then a ∷ seen m l is' as' else seen m l is' as') (length (if b then j ∷ purge m l (take n is') else purge m l (take n is'))) ≡ Some x
      by true h = h
      by false h = h

  kept_there : (list : List Invocation) (n : ℕ) (i : Invocation) → slice_get list n ≡ Some i → is_seen m l i ≡ true → slice_get (purge m l list) (kept_before m l list n) ≡ Some i
  kept_there [] n i there kept = absurd (none-some i there)
  kept_there (j ∷ list) zero i there kept = (λ k. slice_get (if (ap (is_seen m l) (same_Some j i there) ∙ kept) k then j ∷ purge m l list else purge m l list) 0) ∙ there
  kept_there (j ∷ list) (suc n) i there kept = by (is_seen m l j) (kept_there list n i there kept)
    where
      by : (b : Bool) → slice_get (purge m l list) (length (purge m l (take n list))) ≡ Some i
          → slice_get (if b then j ∷ purge m l list else purge m l list) (length (if b then j ∷ purge m l (take n list) else purge m l (take n list))) ≡ Some i
      by true h = h
      by false h = h

  kept_front : (list : List Invocation) (n : ℕ) → take (kept_before m l list n) (purge m l list) ≡ purge m l (take n list)
  kept_front [] zero = refl
  kept_front [] (suc n) = refl
  kept_front (j ∷ list) zero = take_none (purge m l (j ∷ list))
  kept_front (j ∷ list) (suc n) = by (is_seen m l j) (kept_front list n)
    where
      by : (b : Bool) → take (length (purge m l (take n list))) (purge m l list) ≡ purge m l (take n list)
          → take (length (if b then j ∷ purge m l (take n list) else purge m l (take n list))) (if b then j ∷ purge m l list else purge m l list) ≡ (if b then j ∷ purge m l (take n list) else purge m l (take n list))
      by true h = ap (λ js. j ∷ js) h
      by false h = h

  -- a kept invocation is told by how many are kept before it
  kept_number : (list : List Invocation) (n k : ℕ) (i j : Invocation) → slice_get list n ≡ Some i → slice_get list k ≡ Some j → is_seen m l i ≡ true → is_seen m l j ≡ true
      → kept_before m l list n ≡ kept_before m l list k → n ≡ k
  kept_number [] n k i j there also kept too e = absurd (none-some i there)
  kept_number (x ∷ list) zero zero i j there also kept too e = refl
  kept_number (x ∷ list) zero (suc k) i j there also kept too e = absurd (by (is_seen m l x) (ap (is_seen m l) (same_Some x i there) ∙ kept) e)
    where
      by : (b : Bool) → b ≡ true → 0 ≡ length (if b then x ∷ purge m l (take k list) else purge m l (take k list)) → ⊥
      by true h d = omega (arith, d)
      by false h d = absurd cc
  kept_number (x ∷ list) (suc n) zero i j there also kept too e = absurd (by (is_seen m l x) (ap (is_seen m l) (same_Some x j also) ∙ too) e)
    where
      by : (b : Bool) → b ≡ true → length (if b then x ∷ purge m l (take n list) else purge m l (take n list)) ≡ 0 → ⊥
      by true h d = omega (arith, d)
      by false h d = absurd cc
  kept_number (x ∷ list) (suc n) (suc k) i j there also kept too e = ap suc (kept_number list n k i j there also kept too (by (is_seen m l x) e))
    where
      by : (b : Bool) → length (if b then x ∷ purge m l (take n list) else purge m l (take n list)) ≡ length (if b then x ∷ purge m l (take k list) else purge m l (take k list))
          → length (purge m l (take n list)) ≡ length (purge m l (take k list))
      by true h = omega (arith, h)
      by false h = h

  -- ---- comparisons

  module _ (list : List Invocation) (as' bs : List Answer) where
    -- no difference is before another one
    sooner : (n k : ℕ) (x y u v : Answer) (i j : Invocation) → n < k → IsDifferenceAt m l list as' bs n x y i → IsDifferenceAt m l list as' bs k u v j → ⊥
    sooner n k x y u v i j h d e =
        let seen_at = kept_answer (take k list) (take k as') n i x (taken_there list n k i h d.there) d.kept (taken_there as' n k x h d.whole) in
        let number : kept_before m l (take k list) n ≡ kept_before m l list n = ap (λ (ks : List Invocation). length (purge m l ks)) (taken_taken list n k h) in
        let there : slice_get (take (kept_before m l list k) bs) (kept_before m l list n) ≡ Some x =
        (λ q. slice_get (sym e.earlier q) (sym number q)) ∙ seen_at in
        d.differ (same_there bs (kept_before m l list n) x y (taken_has bs (kept_before m l list k) (kept_before m l list n) x there) d.purged)

    not_same : (k : ℕ) (u v : Answer) (j : Invocation) → seen m l list as' ≡ bs → IsDifferenceAt m l list as' bs k u v j → ⊥
    not_same k u v j same e =
        let seen_at = kept_answer list as' k j u e.there e.kept e.whole in
        e.differ (same_there bs (kept_before m l list k) u v (ap (λ (xs : List Answer). slice_get xs (kept_before m l list k)) (sym same) ∙ seen_at) e.purged)

    difference_one : (n k : ℕ) (x y u v : Answer) (i j : Invocation) → IsDifferenceAt m l list as' bs n x y i → IsDifferenceAt m l list as' bs k u v j → compared.Differs n x y ≡ compared.Differs k u v
    difference_one n k x y u v i j d e =
        let before : n < k → ⊥ = λ h. sooner n k x y u v i j h d e in
        let after : k < n → ⊥ = λ h. sooner k n u v x y j i h e d in
        let number : n ≡ k = omega arith in
        let whole : x ≡ u = same_there as' k x u (subst (λ a. slice_get as' a ≡ Some x) number d.whole) e.whole in
        let purged : y ≡ v = same_there bs (kept_before m l list k) y v (subst (λ a. slice_get bs (kept_before m l list a) ≡ Some y) number d.purged) e.purged in
        cc

    comparison_one : (c d : Compared) → IsComparison m l list as' bs c → IsComparison m l list as' bs d → c ≡ d
    comparison_one (compared.Same n) (compared.Same k) p q = ap compared.Same (p.0 ∙ sym q.0)
    comparison_one (compared.Same n) (compared.Differs k u v) p q = absurd (not_same k u v q.0 p.1 q.1)
    comparison_one (compared.Differs n x y) (compared.Same k) p q = absurd (not_same n x y p.0 q.1 p.1)
    comparison_one (compared.Differs n x y) (compared.Differs k u v) p q = difference_one n k x y u v p.0 q.0 p.1 q.1

  module _ (s : Store) (list : List Invocation) where
    pub compares_one : (c d : Compared) → Compares m s l list c → Compares m s l list d → c ≡ d
    compares_one c d (as', bs, h) (cs, ds, k) =
        let whole = runs_one m list s as' cs h.whole.0 k.whole.0 h.whole.1 k.whole.1 in
        let purged = runs_one m (purge m l list) s bs ds h.purged.0 k.purged.0 h.purged.1 k.purged.1 in
        comparison_one list cs ds c d (subst (λ xs. IsComparison m l list cs xs c) purged.0 (subst (λ xs. IsComparison m l list xs bs c) whole.0 h.comparison)) k.comparison

    module _ (law : FaultLaw) (one_law : OneFaultLaw) where
      -- where both runs end, neither breaks off but for want of memory
      pub compared_fault : (c : Compared) (f : CompareFault) → Compares m s l list c → IsCompareFault m s l list f → f.fault ≡ fault.Memory
      compared_fault c f (as', bs, h) (inl w) = elim w.why [
        | inl e ↦ e
        | inr (cs, u, i, b) ↦ refused_within m law list s as' h.whole.0 f.at cs u i f.fault h.whole.1 b.run b.refused.there b.refused.fault
      ]
      compared_fault c f (as', bs, h) (inr (ends, k)) = elim k.why [
        | inl e ↦ e
        | inr (cs, u, i, b) ↦
            refused_within m law (purge m l list) s bs h.purged.0 (kept_before m l list f.at) cs u i f.fault h.purged.1 (subst (λ js. RunsWithin m s js cs u) (sym (kept_front list f.at)) b.run)
            (kept_there list f.at i b.refused.there b.kept) b.refused.fault
      ]

      -- two faults that aren't want of memory are one
      pub record AreSame (f g : CompareFault) : Type 0 where
        pub purged : f.purged ≡ g.purged
        pub at : f.at ≡ g.at
        pub fault : f.fault ≡ g.fault

      module _ (f g : CompareFault) (is : f.fault ≢ fault.Memory) (also : g.fault ≢ fault.Memory) where
        whole_one : IsWholeFault m s list f → IsWholeFault m s list g → AreSame f g
        whole_one v w = by v.why w.why
          where
            at_both : (cs ds : List Answer) (t u : Store) (i j : Invocation) → BreaksWholeAt m s list f.at f.fault cs t i → BreaksWholeAt m s list g.at g.fault ds u j → AreSame f g
            at_both cs ds t u i j b d =
                let one = breaks_one m law one_law list s f.at g.at cs ds t u i j f.fault g.fault
                (record { run = b.run; there = b.refused.there; refused = b.refused.fault; definite = is })
                (record { run = d.run; there = d.refused.there; refused = d.refused.fault; definite = also }) in
                record { purged = v.whole ∙ sym w.whole; at = one.number; fault = one.fault }

            by : (f.fault ≡ fault.Memory) ⊎ BreaksWhole m s list f.at f.fault → (g.fault ≡ fault.Memory) ⊎ BreaksWhole m s list g.at g.fault → AreSame f g
            by (inl e) d = absurd (is e)
            by (inr b) (inl e) = absurd (also e)
            by (inr (cs, t, i, b)) (inr (ds, u, j, d)) = at_both cs ds t u i j b d

        kept_one : IsKeptFault m s l list f → IsKeptFault m s l list g → AreSame f g
        kept_one v w = by v.why w.why
          where
            at_both : (cs ds : List Answer) (t u : Store) (i j : Invocation) → BreaksPurgedAt m s l list f.at f.fault cs t i → BreaksPurgedAt m s l list g.at g.fault ds u j → AreSame f g
            at_both cs ds t u i j b d =
                let one = breaks_one m law one_law (purge m l list) s (kept_before m l list f.at) (kept_before m l list g.at) cs ds t u i j f.fault g.fault
                (record {
                  run = subst (λ js. RunsWithin m s js cs t) (sym (kept_front list f.at)) b.run;
                  there = kept_there list f.at i b.refused.there b.kept;
                  refused = b.refused.fault;
                  definite = is;
                })
                (record {
                  run = subst (λ js. RunsWithin m s js ds u) (sym (kept_front list g.at)) d.run;
                  there = kept_there list g.at j d.refused.there d.kept;
                  refused = d.refused.fault;
                  definite = also;
                }) in
                record { purged = v.purged ∙ sym w.purged; at = kept_number list f.at g.at i j b.refused.there d.refused.there b.kept d.kept one.number; fault = one.fault }

            by : (f.fault ≡ fault.Memory) ⊎ BreaksPurged m s l list f.at f.fault → (g.fault ≡ fault.Memory) ⊎ BreaksPurged m s l list g.at g.fault → AreSame f g
            by (inl e) d = absurd (is e)
            by (inr b) (inl e) = absurd (also e)
            by (inr (cs, t, i, b)) (inr (ds, u, j, d)) = at_both cs ds t u i j b d

        -- a whole run that ends doesn't break off
        ended : (h : CompareFault) → h.fault ≢ fault.Memory → (as' : List Answer) (t : Store) → RunsWithin m s list as' t → IsWholeFault m s list h → ⊥
        ended h definite as' t run v = elim v.why [
          | inl e ↦ definite e
          | inr (cs, u, i, b) ↦ definite (refused_within m law list s as' t h.at cs u i h.fault run b.run b.refused.there b.refused.fault)
        ]

        pub faults_one : IsCompareFault m s l list f → IsCompareFault m s l list g → AreSame f g
        faults_one (inl v) (inl w) = whole_one v w
        faults_one (inl v) (inr (ends, w)) = absurd (ended f is ends.0 ends.1.0 ends.1.1 v)
        faults_one (inr (ends, v)) (inl w) = absurd (ended g also ends.0 ends.1.0 ends.1.1 w)
        faults_one (inr (ends, v)) (inr (others, w)) = kept_one v w
