use Rattle.std.proofs.Common.{◌≡◌}
use Rattle.sp_mapping_rules.specs.Lattices.{all_below, is_named_alike}
use Rattle.sp_mapping_rows.proofs.lattices.are_named.Given as goal

abbrev pub invariant-loop-k : goal.invariant-loop-k
invariant-loop-k l = l.alike ≡ all_below l.k (is_named_alike l.upper l.lower)
