-- Records in a block of words: what placing one more and giving up the last ones leaves.
use Rattle.std.proofs.Common.{◌≡◌, ℕ, zero, suc, ◌+◌, ◌-◌, ◌<◌, ◌≤◌, ⊎_elim, List, [], ◌∷◌, ◌++◌, length, map, take, drop, slice_index, sum_by, Some, refl, sym, ap, ◌∙◌, subst, arith, add-zero, length-append, length-drop}
use Rattle.std.specs.List.{range_with_len, slice_range, slice_get}
use Rattle.std.proofs.lemmas.Bool.{cases_lt}
use Rattle.std.proofs.lemmas.List.{length-take, length-take-le, get_or-take, take-take, take-append-le, take_all, get_or_push, length_push, get_or_append_left, drop_at}
use Rattle.std.proofs.lemmas.List.FromFn.{length-map-range_with_len, get_or-map-range_with_len, take-map-range_with_len, map-range_with_len_more, fill_by_all, sum_by-map-range_with_len_more}
use Rattle.std.proofs.lemmas.Option.{slice_get-get_or}
use Rattle.std.proofs.lemmas.Slice.{between_is}
use Rattle.sp_pool.specs.Records.{words_held, HasRoom, record_at, records_between, AreBounds}

pub map_range_same : {X : Type 0} (d : X) (f g : ℕ → X) (n : ℕ) → ((k : ℕ) → k < n → f k ≡ g k) → map f (range_with_len 0 n) ≡ map g (range_with_len 0 n)
map_range_same d f g n h =
    fill_by_all g (map f (range_with_len 0 n)) n d (length-map-range_with_len f 0 n) (λ k below. get_or-map-range_with_len f 0 n k k d below (omega arith) ∙ h k below)

record_same : (words others bounds more : List ℕ) (k : ℕ) → slice_index bounds k ≡ slice_index more k → slice_index bounds (k + 1) ≡ slice_index more (k + 1)
    → take (slice_index bounds (k + 1)) words ≡ take (slice_index bounds (k + 1)) others → record_at words bounds k ≡ record_at others more k
record_same words others bounds more k low high front =
    between_is words (slice_index bounds k) (slice_index bounds (k + 1))
    ∙ ap (λ xs. drop (slice_index bounds k) xs) front
    ∙ sym (between_is others (slice_index bounds k) (slice_index bounds (k + 1)))
    ∙ ap (λ n. slice_range others n (slice_index bounds (k + 1))) low ∙ ap (λ n. slice_range others (slice_index more k) n) high

-- the part behind a list in the list with more
whole : (xs ys : List ℕ) → slice_range (xs ++ ys) (length xs) (length xs + length ys) ≡ ys
whole xs ys =
    let count : (length xs + length ys) - length xs ≡ length ys = omega arith in
    ap (λ n. take n (drop (length xs) (xs ++ ys))) count ∙ ap (take (length ys)) (drop_at xs ys (length xs) refl) ∙ take_all (length ys) ys (omega arith)

module _ (words bounds : List ℕ) (are : AreBounds words bounds) where
  -- no bound falls behind an earlier one
  rising_by : (i n : ℕ) → i + n < length bounds → slice_index bounds i ≤ slice_index bounds (i + n)
  rising_by i zero within = rw add-zero (omega arith)
  rising_by i (suc n) within = omega (arith, rising_by i n (omega arith), are.rising (i + n) (omega arith), ap (slice_index bounds) (assoc i n))
    where
      assoc : (i n : ℕ) → (i + n) + 1 ≡ i + suc n
      assoc i n = omega arith

  pub rising : (i j : ℕ) → i ≤ j → j < length bounds → slice_index bounds i ≤ slice_index bounds j
  rising i j low within =
      let there : i + (j - i) ≡ j = omega arith in
      subst (λ n. slice_index bounds i ≤ slice_index bounds n) there (rising_by i (j - i) (omega arith))

  pub bound_within : (i : ℕ) → i < length bounds → slice_index bounds i ≤ length words
  bound_within i within = omega (arith, rising i (length bounds - 1) (omega arith) (omega arith), are.end)

  pub count_is : length (records_between words bounds) ≡ length bounds - 1
  count_is = length-map-range_with_len (record_at words bounds) 0 (length bounds - 1)

  pub record_get : (k : ℕ) → k < length bounds - 1 → slice_get (records_between words bounds) k ≡ Some (record_at words bounds k)
  record_get k below =
      slice_get-get_or (records_between words bounds) k [] (rw count_is below)
      ∙ ap Some (get_or-map-range_with_len (record_at words bounds) 0 (length bounds - 1) k k [] below (omega arith))

  record_length : (k : ℕ) → k + 1 < length bounds → length (record_at words bounds k) ≡ slice_index bounds (k + 1) - slice_index bounds k
  record_length k within =
      length-take (slice_index bounds (k + 1) - slice_index bounds k) (drop (slice_index bounds k) words)
      ∙ omega (arith, length-drop (slice_index bounds k) words, bound_within (k + 1) within)

  held_first : (n : ℕ) → n < length bounds → sum_by length (map (record_at words bounds) (range_with_len 0 n)) ≡ slice_index bounds n
  held_first zero within = sym are.start
  held_first (suc n) within =
      subst (λ m. sum_by length (map (record_at words bounds) (range_with_len 0 m)) ≡ slice_index bounds m) (add_one n)
      (sum_by-map-range_with_len_more length (record_at words bounds) 0 n n (omega arith)
      ∙ omega (arith, held_first n (omega arith), record_length n (omega arith), are.rising n (omega arith)))
    where
      add_one : (n : ℕ) → n + 1 ≡ suc n
      add_one n = omega arith

  -- the records have all the words
  pub words_held_is : words_held (records_between words bounds) ≡ length words
  words_held_is = held_first (length bounds - 1) (omega (arith, are.some)) ∙ are.end

  -- what room for a record tells of the block of words, and the other way round
  pub room_told : (most_words most_records count : ℕ) → HasRoom (record { records = records_between words bounds; most_words = most_words; most_records = most_records }) count
      → (length words + count ≤ most_words) × (length bounds ≤ most_records)
  room_told most_words most_records count h = (omega (arith, h.words, words_held_is), omega (arith, h.one_more, count_is))

  pub room_from : (most_words most_records count : ℕ) → length words + count ≤ most_words → length bounds ≤ most_records
      → HasRoom (record { records = records_between words bounds; most_words = most_words; most_records = most_records }) count
  room_from most_words most_records count p q = record { words = omega (arith, p, words_held_is); one_more = omega (arith, q, count_is, are.some) }

  module _ (added : List ℕ) where
    -- placing one more record
    new_words : List ℕ
    new_words = words ++ added

    new_bounds : List ℕ
    unfolding new_words
    new_bounds = bounds ++ length new_words ∷ []

    length_words : length new_words ≡ length words + length added
    unfolding new_words
    length_words = length-append words added

    length_bounds : length new_bounds ≡ length bounds + 1
    unfolding new_bounds
    length_bounds = length_push bounds (length new_words)

    kept_bound : (k : ℕ) → k < length bounds → slice_index new_bounds k ≡ slice_index bounds k
    unfolding new_bounds
    kept_bound k within = get_or_append_left bounds (length new_words ∷ []) 0 k within

    last_bound : slice_index new_bounds (length bounds) ≡ length words + length added
    unfolding new_bounds
    last_bound = get_or_push bounds (length new_words) 0 (length bounds) refl ∙ length_words

    new_are : AreBounds new_words new_bounds
    new_are = record {
      some = omega (arith, length_bounds);
      start = kept_bound 0 are.some ∙ are.start;
      rising = λ k within. ⊎_elim
          (λ inner. omega (arith, kept_bound k (omega arith), kept_bound (k + 1) inner, are.rising k inner))
          (λ outer.
          let last : k + 1 ≡ length bounds = omega (arith, length_bounds) in
          omega (arith, kept_bound k (omega arith), bound_within k (omega arith), ap (slice_index new_bounds) last, last_bound))
          (cases_lt (k + 1) (length bounds));
      end =
          let last : length new_bounds - 1 ≡ length bounds = omega (arith, length_bounds) in
          ap (slice_index new_bounds) last ∙ last_bound ∙ sym length_words;
    }

    kept_record : (k : ℕ) → k < length bounds - 1 → record_at new_words new_bounds k ≡ record_at words bounds k
    unfolding new_words
    kept_record k below =
        sym (record_same words new_words bounds new_bounds k (sym (kept_bound k (omega arith))) (sym (kept_bound (k + 1) (omega arith)))
        (sym (take-append-le (slice_index bounds (k + 1)) words added (bound_within (k + 1) (omega arith)))))

    last_record : record_at new_words new_bounds (length bounds - 1) ≡ added
    unfolding new_words
    last_record =
        let from : slice_index new_bounds (length bounds - 1) ≡ length words = kept_bound (length bounds - 1) (omega (arith, are.some)) ∙ are.end in
        let after : (length bounds - 1) + 1 ≡ length bounds = omega (arith, are.some) in
        let to : slice_index new_bounds ((length bounds - 1) + 1) ≡ length words + length added = ap (slice_index new_bounds) after ∙ last_bound in
        ap (λ n. slice_range new_words n (slice_index new_bounds ((length bounds - 1) + 1))) from
        ∙ ap (λ n. slice_range new_words (length words) n) to
        ∙ whole words added

    new_records : records_between new_words new_bounds ≡ records_between words bounds ++ added ∷ []
    new_records =
        let count : length new_bounds - 1 ≡ (length bounds - 1) + 1 = omega (arith, length_bounds, are.some) in
        ap (λ n. map (record_at new_words new_bounds) (range_with_len 0 n)) count
        ∙ map-range_with_len_more (record_at new_words new_bounds) 0 (length bounds - 1) (length bounds - 1) (omega arith)
        ∙ ap (λ rs. rs ++ record_at new_words new_bounds (length bounds - 1) ∷ []) (map_range_same [] (record_at new_words new_bounds) (record_at words bounds) (length bounds - 1) kept_record)
        ∙ ap (λ r. records_between words bounds ++ r ∷ []) last_record

    pub placed_bounds : AreBounds (words ++ added) (bounds ++ length (words ++ added) ∷ [])
    unfolding new_words new_bounds
    placed_bounds = new_are

    pub placed_records : records_between (words ++ added) (bounds ++ length (words ++ added) ∷ []) ≡ records_between words bounds ++ added ∷ []
    unfolding new_words new_bounds
    placed_records = new_records

  module _ (k : ℕ) (below : k < length bounds) where
    -- giving up the records from the k-th on
    first_bound : (i : ℕ) → i ≤ k → slice_index (take (k + 1) bounds) i ≡ slice_index bounds i
    first_bound i low = get_or-take (k + 1) bounds i 0 (omega arith)

    count_bounds : length (take (k + 1) bounds) ≡ k + 1
    count_bounds = length-take-le (k + 1) bounds (omega arith)

    count_words : length (take (slice_index bounds k) words) ≡ slice_index bounds k
    count_words = length-take-le (slice_index bounds k) words (bound_within k below)

    pub kept_bounds : AreBounds (take (slice_index bounds k) words) (take (k + 1) bounds)
    kept_bounds = record {
      some = omega (arith, count_bounds);
      start = first_bound 0 (omega arith) ∙ are.start;
      rising = λ i within. omega (arith, first_bound i (omega (arith, count_bounds)), first_bound (i + 1) (omega (arith, count_bounds)), are.rising i (omega (arith, count_bounds)));
      end =
          let last : length (take (k + 1) bounds) - 1 ≡ k = omega (arith, count_bounds) in
          ap (slice_index (take (k + 1) bounds)) last ∙ first_bound k (omega arith) ∙ sym count_words;
    }

    kept_one : (i : ℕ) → i < k → record_at (take (slice_index bounds k) words) (take (k + 1) bounds) i ≡ record_at words bounds i
    kept_one i inner =
        sym (record_same words (take (slice_index bounds k) words) bounds (take (k + 1) bounds) i (sym (first_bound i (omega arith))) (sym (first_bound (i + 1) (omega arith)))
        (sym (take-take (slice_index bounds (i + 1)) (slice_index bounds k) words (rising (i + 1) k (omega arith) below))))

    pub kept_records : records_between (take (slice_index bounds k) words) (take (k + 1) bounds) ≡ take k (records_between words bounds)
    kept_records =
        let count : length (take (k + 1) bounds) - 1 ≡ k = omega (arith, count_bounds) in
        ap (λ n. map (record_at (take (slice_index bounds k) words) (take (k + 1) bounds)) (range_with_len 0 n)) count
        ∙ map_range_same [] (record_at (take (slice_index bounds k) words) (take (k + 1) bounds)) (record_at words bounds) k kept_one
        ∙ sym (take-map-range_with_len (record_at words bounds) 0 (length bounds - 1) k (omega arith))
