use Rattle.std.proofs.Common.{◌≡◌}
use Rattle.sp_mapping_rules.specs.Lattices.{all_below, is_pair_alike}
use Rattle.sp_mapping_rows.proofs.lattices.is_ordered.Given as goal

abbrev pub invariant-loop-y : goal.invariant-loop-y
invariant-loop-y l = l.alike ≡ all_below l.y (is_pair_alike l.upper l.lower l.x)
