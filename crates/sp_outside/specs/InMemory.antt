-- What contracts see of the library and the sink in memory, for their own clauses.
use Rattle.std.specs.Prelude.{ℕ, List}
use Rattle.sp_outside.specs.Files.{Files}

-- a library in memory: its files, the numbers of the loads that fail, how many loads there were and how many failed
pub record Shelf : Type 0 where
  pub files : Files
  pub failing : List ℕ
  pub calls : ℕ
  pub faults : ℕ

-- a sink in memory: the bytes written, the greatest number of bytes, and how many writes failed
pub record Page : Type 0 where
  pub bytes : List ℕ
  pub limit : ℕ
  pub faults : ℕ
