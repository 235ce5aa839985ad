use Rattle.std.proofs.Common.{◌≤◌, take}
use Rattle.sp_pool.specs.Index.{IsIndex}
use Rattle.sp_pool.proofs.index.release.Given as goal

abbrev pub invariant-loop-number : goal.invariant-loop-number
invariant-loop-number l = record {
  low : l.mark ≤ l.number;
  index : IsIndex (take l.number l.region.records) l.slots;
}
