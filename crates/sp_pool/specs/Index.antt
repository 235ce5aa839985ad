-- The index that finds a record by its words, for the pool's own calls: a ring of slots, each vacant or occupied by the
-- number of a record, and probed from the hash of the words on.
use Rattle.std.specs.Prelude.{◌≡◌, ℕ, ◌+◌, ◌*◌, ◌%◌, ◌<◌, ◌⊎◌, ◌++◌, List, [], ◌∷◌, Option, Some, None, Result, Ok, Err, length, fold, slice_index_or, slice_get}
use Rattle.sp_pool.specs.declared.node.Full.{Full}
use Rattle.sp_pool.specs.declared.index.Lookup.{Lookup}
use Rattle.sp_pool.specs.declared.index.Lookup.TheVariants.{Occupied, Vacant}

-- the hash of a record's words: the slot that the first probe looks at
unfoldable pub hash : List ℕ → ℕ
hash words = fold (λ hash word. (hash * 33 + word) % 1024) 0 words

-- the slot that a later probe looks at, this many steps on
abbrev pub probe : List ℕ → ℕ → ℕ
probe words step = (hash words + step) % 1024

-- the number that occupies a slot
abbrev pub number_in : List (Option ℕ) → ℕ → Option ℕ
number_in slots p = slice_index_or slots p None

-- the number of a record before the k-th occupies the slot
abbrev pub IsOccupiedBefore : List (Option ℕ) → ℕ → ℕ → Type 0
IsOccupiedBefore slots k p = (j : ℕ) × (j < k) × (number_in slots p ≡ Some j)

-- the k-th record, of these words, occupies the first slot of its probes that the records before it left vacant
abbrev pub IsPlaced : List (Option ℕ) → List ℕ → ℕ → Type 0
IsPlaced slots words k =
    (s : ℕ) × (s < 1024) × (number_in slots (probe words s) ≡ Some k)
    × ((t : ℕ) → t < s → IsOccupiedBefore slots k (probe words t))

-- the index is what placing these records in order gives
pub record IsIndex (records : List (List ℕ)) (slots : List (Option ℕ)) : Type 0 where
  pub ring : length slots ≡ 1024
  pub held : (p k : ℕ) → number_in slots p ≡ Some k → k < length records
  pub once : (p q k : ℕ) → number_in slots p ≡ Some k → number_in slots q ≡ Some k → p ≡ q
  pub placed : (k : ℕ) → k < length records → IsPlaced slots (slice_index_or records k []) k

-- no record has these words, and the first vacant slot of their probes is this one
pub record IsVacantFor (records : List (List ℕ)) (slots : List (Option ℕ)) (words : List ℕ) (p : ℕ) : Type 0 where
  pub absent : (k : ℕ) → slice_get records k ≡ Some words → ⊥
  pub vacant : (s : ℕ) × (s < 1024) × (p ≡ probe words s) × (number_in slots p ≡ None)
      × ((t : ℕ) → t < s → IsOccupiedBefore slots (length records) (probe words t))

-- what looking for words tells
abbrev pub IsLookup : List (List ℕ) → List (Option ℕ) → List ℕ → Lookup → Type 0
IsLookup records slots words (Occupied k) = slice_get records k ≡ Some words
IsLookup records slots words (Vacant p) = IsVacantFor records slots words p

-- what interning a record of these words tells, and what it leaves
abbrev pub IsInterned : List (List ℕ) → List (List ℕ) → List ℕ → Result ℕ Full → Type 0
IsInterned old new words (Ok k) =
    ((new ≡ old) × (slice_get old k ≡ Some words))
    ⊎ (((i : ℕ) → slice_get old i ≡ Some words → ⊥) × (length old < 512) × (new ≡ old ++ words ∷ []) × (k ≡ length old))
IsInterned old new words (Err fault) = ((i : ℕ) → slice_get old i ≡ Some words → ⊥) × (length old ≡ 512) × (new ≡ old)
