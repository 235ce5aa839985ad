-- The index of records: what looking for words tells, and what adding a record and giving up the last one leaves.
use Rattle.std.proofs.Common.{◌≡◌, ℕ, zero, suc, ◌+◌, ◌-◌, ◌*◌, ◌%◌, ◌<◌, ◌≤◌, ◌⊎◌, ⊎_elim, inl, inr, List, [], ◌∷◌, ◌++◌, Option, Some, None, replicate, length, take, set, get_or, unwrap_or, fold, refl, sym, ap, ◌∙◌, subst, arith, get_or-set_other, get_or-set_same}
use Rattle.std.specs.List.{slice_get}
use Rattle.std.proofs.Math.ListN.{length-set}
use Rattle.std.proofs.lemmas.Bool.{cases_lt, cases_eq, cases_order}
use Rattle.std.proofs.lemmas.List.{length-replicate, length_push, length-take-le, get_or-take, get_or_push, get_or_append_left, get_or_past}
use Rattle.std.proofs.lemmas.Option.{none-some, same_Some, slice_get_within, get_or_from_slice_get}
use Rattle.sp_pool.specs.Index.{hash, probe, number_in, IsPlaced, IsIndex, IsVacantFor}
use Rattle.sp_pool.proofs.Pigeons.{pigeons}

-- the hash is a slot of the ring
hash_within : (words : List ℕ) → hash words < 1024
unfolding hash
hash_within words = from words 0 (omega arith)
  where
    from : (ws : List ℕ) (start : ℕ) → start < 1024 → fold (λ hash word. (hash * 33 + word) % 1024) start ws < 1024
    from [] start h = h
    from (w ∷ ws) start h = from ws ((start * 33 + w) % 1024) (omega arith)

-- the slots probed so far are occupied, by records with other words
abbrev pub AreSeen : List (List ℕ) → List (Option ℕ) → List ℕ → ℕ → Type 0
AreSeen records slots words s =
    (t : ℕ) → t < s → (j : ℕ) × (number_in slots (probe words t) ≡ Some j) × (slice_get records j ≡ Some words → ⊥)

-- what is no number is vacant
pub none_from : (o : Option ℕ) → ((k : ℕ) → o ≡ Some k → ⊥) → o ≡ None
none_from None h = refl
none_from (Some k) h = absurd (h k refl)

module _ (records : List (List ℕ)) (slots : List (Option ℕ)) (index : IsIndex records slots) (words : List ℕ) where
  -- the slot of a record with these words
  standing : (k : ℕ) → slice_get records k ≡ Some words → IsPlaced slots words k
  standing k e =
      subst (λ ws. IsPlaced slots ws k) (get_or_from_slice_get records k words [] e) (index.placed k (slice_get_within records k words e))

  -- a vacant slot tells that no record has the words
  pub absent_at : (s : ℕ) → AreSeen records slots words s → number_in slots (probe words s) ≡ None → (k : ℕ) → slice_get records k ≡ Some words → ⊥
  absent_at s seen empty k e = by (standing k e)
    where
      by : IsPlaced slots words k → ⊥
      by h = ⊎_elim at_it (λ apart. ⊎_elim before after apart) (cases_order h.0 s)
        where
          at_it : h.0 ≡ s → ⊥
          at_it same = none-some k (sym empty ∙ ap (λ t. number_in slots (probe words t)) (sym same) ∙ h.2)

          before : h.0 < s → ⊥
          before less =
              let there = seen h.0 less in
              there.2 (subst (λ j. slice_get records j ≡ Some words) (same_Some k there.0 (sym h.2 ∙ there.1)) e)

          after : s < h.0 → ⊥
          after less = let there = h.3 s less in none-some there.0 (sym empty ∙ there.2)

  pub next_at : (s : ℕ) → s < 1024 → AreSeen records slots words s → number_in slots (probe words s) ≡ None → IsVacantFor records slots words (probe words s)
  next_at s within seen empty = record {
    absent = absent_at s seen empty;
    vacant = (s, within, refl, empty, λ t less. let there = seen t less in (there.0, index.held (probe words t) there.0 there.1, there.1));
  }

  -- not all slots are occupied, where there are few records
  pub some_vacant : length records ≤ 512 → AreSeen records slots words 1024 → ⊥
  some_vacant few seen =
      let many = pigeons (length records) 1024 number (λ p inside. index.held p (number p) (numbered p inside)) (λ p q inside outside e. index.once p q (number p) (numbered p inside) (numbered q outside ∙ ap Some (sym e))) in
      omega (arith, many, few)
    where
      number : ℕ → ℕ
      number p = unwrap_or (number_in slots p) 0

      number_at : (o : Option ℕ) (j : ℕ) → o ≡ Some j → o ≡ Some (unwrap_or o 0)
      number_at None j e = e ∙ absurd (none-some j e)
      number_at (Some i) j e = refl

      around : (start p : ℕ) → start < 1024 → p < 1024 → (start + (p + (1024 - start)) % 1024) % 1024 ≡ p
      around start p low inside = omega arith

      numbered : (p : ℕ) → p < 1024 → number_in slots p ≡ Some (number p)
      numbered p inside =
          let t = (p + (1024 - hash words)) % 1024 in
          let there = seen t (omega arith) in
          let slot : probe words t ≡ p = around (hash words) p (hash_within words) inside in
          number_at (number_in slots p) there.0 (ap (number_in slots) (sym slot) ∙ there.1)

-- a number stays where another slot is written
other : (slots : List (Option ℕ)) (p q k : ℕ) (o : Option ℕ) → (q ≡ p → ⊥) → number_in slots q ≡ Some k → number_in (set slots p o) q ≡ Some k
other slots p q k o apart e = get_or-set_other slots p q o None apart ∙ e

-- a written number is in its slot or was there before
written : (slots : List (Option ℕ)) (p q k : ℕ) (o : Option ℕ) → p < length slots → number_in (set slots p o) q ≡ Some k
    → ((q ≡ p) × (o ≡ Some k)) ⊎ ((q ≡ p → ⊥) × (number_in slots q ≡ Some k))
written slots p q k o within e = ⊎_elim
    (λ same. inl (same, sym (get_or-set_same slots p o None within) ∙ ap (number_in (set slots p o)) (sym same) ∙ e))
    (λ apart. inr (apart, sym (get_or-set_other slots p q o None apart) ∙ e))
    (cases_eq q p)

-- a slot with another number, or with none, is another slot
elsewhere : (slots : List (Option ℕ)) (p q k : ℕ) → (number_in slots p ≡ Some k → ⊥) → number_in slots q ≡ Some k → q ≡ p → ⊥
elsewhere slots p q k apart e same = apart (ap (number_in slots) (sym same) ∙ e)

module _ (records : List (List ℕ)) (slots : List (Option ℕ)) (index : IsIndex records slots) (words : List ℕ) (p : ℕ) (next : IsVacantFor records slots words p) where
  step_within : p < length slots
  step_within = let h = next.vacant in omega (arith, h.2, index.ring)

  vacant : (k : ℕ) → number_in slots p ≡ Some k → ⊥
  vacant k e = none-some k (sym next.vacant.3 ∙ e)

  kept : (q k : ℕ) → number_in slots q ≡ Some k → number_in (set slots p (Some (length records))) q ≡ Some k
  kept q k e = other slots p q k (Some (length records)) (elsewhere slots p q k (vacant k) e) e

  fresh : (q k : ℕ) → number_in slots q ≡ Some k → k ≡ length records → ⊥
  fresh q k e same = omega (arith, index.held q k e, same)

  placed_old : (k : ℕ) → k < length records → IsPlaced (set slots p (Some (length records))) (get_or (records ++ words ∷ []) k []) k
  placed_old k below =
      let h = index.placed k below in
      subst (λ ws. IsPlaced (set slots p (Some (length records))) ws k) (sym (get_or_append_left records (words ∷ []) [] k below))
      (h.0, h.1, kept (probe (get_or records k []) h.0) k h.2, λ t less. let there = h.3 t less in (there.0, there.1, kept (probe (get_or records k []) t) there.0 there.2))

  placed_last : IsPlaced (set slots p (Some (length records))) (get_or (records ++ words ∷ []) (length records) []) (length records)
  placed_last =
      let h = next.vacant in
      subst (λ ws. IsPlaced (set slots p (Some (length records))) ws (length records)) (sym (get_or_push records words [] (length records) refl)) (
        h.0,
        h.1,
        ap (number_in (set slots p (Some (length records)))) (sym h.2) ∙ get_or-set_same slots p (Some (length records)) None step_within,
        λ t less. let there = h.4 t less in (there.0, there.1, kept (probe words t) there.0 there.2),
      )

  -- adding the record
  pub added : IsIndex (records ++ words ∷ []) (set slots p (Some (length records)))
  added = record {
    ring = length-set slots p (Some (length records)) ∙ index.ring;
    held = λ q k e. ⊎_elim
        (λ (h : (q ≡ p) × (Some (length records) ≡ Some k)). omega (arith, same_Some (length records) k h.1, length_push records words))
        (λ (h : (q ≡ p → ⊥) × (number_in slots q ≡ Some k)). omega (arith, index.held q k h.1, length_push records words))
        (written slots p q k (Some (length records)) step_within e);
    once = λ q r k e f. ⊎_elim
        (λ (h : (q ≡ p) × (Some (length records) ≡ Some k)). ⊎_elim
        (λ (i : (r ≡ p) × (Some (length records) ≡ Some k)). h.0 ∙ sym i.0)
        (λ (i : (r ≡ p → ⊥) × (number_in slots r ≡ Some k)). absurd (fresh r k i.1 (sym (same_Some (length records) k h.1))))
        (written slots p r k (Some (length records)) step_within f))
        (λ (h : (q ≡ p → ⊥) × (number_in slots q ≡ Some k)). ⊎_elim
        (λ (i : (r ≡ p) × (Some (length records) ≡ Some k)). absurd (fresh q k h.1 (sym (same_Some (length records) k i.1))))
        (λ (i : (r ≡ p → ⊥) × (number_in slots r ≡ Some k)). index.once q r k h.1 i.1)
        (written slots p r k (Some (length records)) step_within f))
        (written slots p q k (Some (length records)) step_within e);
    placed = λ k below. ⊎_elim
        (λ old. placed_old k old)
        (λ past. let same : length records ≡ k = omega (arith, below, length_push records words) in
        subst (λ i. IsPlaced (set slots p (Some (length records))) (get_or (records ++ words ∷ []) i []) i) same placed_last)
        (cases_lt k (length records));
  }

module _ (records : List (List ℕ)) (slots : List (Option ℕ)) (n : ℕ) (below : n < length records) (index : IsIndex (take (n + 1) records) slots)
    (p : ℕ) (there : number_in slots p ≡ Some n) where
  count_more : length (take (n + 1) records) ≡ n + 1
  count_more = length-take-le (n + 1) records (omega arith)

  count_less : length (take n records) ≡ n
  count_less = length-take-le n records (omega arith)

  slot_within : p < length slots
  slot_within = ⊎_elim (λ h. h) (λ past. absurd (none-some n (sym (get_or_past slots p None past) ∙ there))) (cases_lt p (length slots))

  stays : (q k : ℕ) → k < n → number_in slots q ≡ Some k → number_in (set slots p None) q ≡ Some k
  stays q k less e = other slots p q k None (elsewhere slots p q k (λ f. let same : n ≡ k = same_Some n k (sym there ∙ f) in omega arith) e) e

  was : (q k : ℕ) → number_in (set slots p None) q ≡ Some k → (q ≡ p → ⊥) × (number_in slots q ≡ Some k)
  was q k e = ⊎_elim (λ (h : (q ≡ p) × (None ≡ Some k)). absurd (none-some k h.1)) (λ h. h) (written slots p q k None slot_within e)

  -- vacating the slot of the last record
  pub vacated : IsIndex (take n records) (set slots p None)
  vacated = record {
    ring = length-set slots p None ∙ index.ring;
    held = λ q k e.
        let h = was q k e in
        let apart : k ≡ n → ⊥ = λ same. h.0 (index.once q p k h.1 (there ∙ ap Some (sym same))) in
        grind (arith, apart, index.held q k h.1, count_more, count_less);
    once = λ q r k e f. index.once q r k (was q k e).1 (was r k f).1;
    placed = λ k inside.
        let less : k < n = omega (arith, inside, count_less) in
        let h = index.placed k (omega (arith, less, count_more)) in
        let words : get_or (take (n + 1) records) k [] ≡ get_or (take n records) k [] = get_or-take (n + 1) records k [] (omega arith) ∙ sym (get_or-take n records k [] less) in
        subst (λ ws. IsPlaced (set slots p None) ws k) words (
          h.0,
          h.1,
          stays (probe (get_or (take (n + 1) records) k []) h.0) k less h.2,
          λ t before. let found = h.3 t before in (found.0, found.1, stays (probe (get_or (take (n + 1) records) k []) t) found.0 (omega (arith, found.1, less)) found.2),
        );
  }

-- the slot of the last of the first records
pub standing_last : (records : List (List ℕ)) (slots : List (Option ℕ)) (n : ℕ) → n < length records → IsIndex (take (n + 1) records) slots
    → IsPlaced slots (get_or records n []) n
standing_last records slots n below index =
    subst (λ ws. IsPlaced slots ws n) (get_or-take (n + 1) records n [] (omega arith)) (index.placed n (omega (arith, length-take-le (n + 1) records (omega arith))))

-- without records all slots are empty
pub empty_index : IsIndex [] (replicate 1024 None)
empty_index = record {
  ring = length-replicate {A = Option ℕ} 1024 None;
  held = λ p k e. absurd (none 1024 p k e);
  once = λ p q k e f. absurd (none 1024 p k e);
  placed = λ k below. absurd (omega arith);
}
  where
    none : (n p k : ℕ) → number_in (replicate n None) p ≡ Some k → ⊥
    none zero p k e = none-some k e
    none (suc n) zero k e = none-some k e
    none (suc n) (suc p) k e = none n p k e
