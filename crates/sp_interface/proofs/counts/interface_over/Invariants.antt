use Rattle.std.proofs.Common.{◌≡◌, ◌≤◌, ◌-◌, [], drop}
use Rattle.std.specs.Prelude.{slice_get, vec_len}
use Rattle.sp_interface.specs.Counts.{first_mentions, mentioned}
use Rattle.sp_interface.proofs.counts.interface_over.Given as goal

abbrev pub invariant-loop-row : goal.invariant-loop-row
invariant-loop-row l = record {
  room : vec_len l.counted ≤ 16;
  over : slice_get (first_mentions [] (mentioned l.fn.tree.rows)) 16 ≡ slice_get (first_mentions l.counted.items (mentioned (drop l.row-index l.fn.tree.rows))) (16 - vec_len l.counted);
}
