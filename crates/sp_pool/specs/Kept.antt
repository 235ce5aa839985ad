-- What a pool keeps of its region and its index, for the pool's own calls.
use Rattle.std.specs.Prelude.{◌≡◌, ℕ, List, Option, map}
use Rattle.sp_pool.specs.Index.{IsIndex}
use Rattle.sp_pool.specs.Nodes.{IsPool}
use Rattle.sp_pool.specs.Spelling.{AreSpelled, node_of}

-- the records spell a pool's nodes, and the index finds them, in a region of 6,144 words and 512 records
pub record IsKept (records : List (List ℕ)) (slots : List (Option ℕ)) (most_words most_records : ℕ) : Type 0 where
  pub nodes : IsPool (map node_of records)
  pub spelled : AreSpelled records
  pub index : IsIndex records slots
  pub words_fixed : most_words ≡ 6144
  pub records_fixed : most_records ≡ 512
