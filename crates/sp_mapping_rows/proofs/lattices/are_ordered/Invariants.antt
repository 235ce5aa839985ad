use Rattle.std.proofs.Common.{◌≡◌}
use Rattle.sp_mapping_rules.specs.Lattices.{all_below, is_ordered_alike}
use Rattle.sp_mapping_rows.proofs.lattices.are_ordered.Given as goal

abbrev pub invariant-loop-x : goal.invariant-loop-x
invariant-loop-x l = l.alike ≡ all_below l.x (is_ordered_alike l.upper l.lower)
