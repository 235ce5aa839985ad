-- A region as contracts see it: its records in order, and how many words and records it has room for.
-- For those who place records in one.
use Rattle.std.specs.Prelude.{ℕ, ◌+◌, ◌-◌, ◌^◌, ◌<◌, ◌≤◌, ◌≡◌, List, length, map, slice_index, sum_by}
use Rattle.std.specs.List.{range_with_len, slice_range}

pub record Records : Type 0 where
  pub records : List (List ℕ)
  pub most_words : ℕ
  pub most_records : ℕ

-- how many words the records have together
abbrev pub words_held : List (List ℕ) → ℕ
words_held records = sum_by length records

-- one more record of this many words has room
pub record HasRoom (r : Records) (count : ℕ) : Type 0 where
  pub words : words_held r.records + count ≤ r.most_words
  pub one_more : length r.records < r.most_records

-- the k-th record, between two bounds in the block of words
abbrev pub record_at : List ℕ → List ℕ → ℕ → List ℕ
record_at words bounds k = slice_range words (slice_index bounds k) (slice_index bounds (k + 1))

-- the records between each bound and the next
abbrev pub records_between : List ℕ → List ℕ → List (List ℕ)
records_between words bounds = map (record_at words bounds) (range_with_len 0 (length bounds - 1))

-- the bounds begin at 0, never fall, and end at the end of the words
pub record AreBounds (words bounds : List ℕ) : Type 0 where
  pub some : 0 < length bounds
  pub start : slice_index bounds 0 ≡ 0
  pub rising : (k : ℕ) → k + 1 < length bounds → slice_index bounds k ≤ slice_index bounds (k + 1)
  pub end : slice_index bounds (length bounds - 1) ≡ length words

-- what a region keeps: its bounds, no more than it may hold, and room for all that it may hold
pub record IsRegion (words bounds : List ℕ) (most_words most_records word_room bound_room : ℕ) : Type 0 where
  pub bounds_are : AreBounds words bounds
  pub few_words : length words ≤ most_words
  pub few_records : length bounds ≤ most_records + 1
  pub words_fit : most_words < 2 ^ 32
  pub records_fit : most_records < 2 ^ 32
  pub room_for_words : most_words ≤ word_room
  pub room_for_bounds : most_records + 1 ≤ bound_room
