use Rattle.std.proofs.Common.{◌≡◌}
use Rattle.sp_examples.specs.Counting.{count_functions}
use Rattle.sp_report_tests.proofs.counting.count_functions.Given as goal

abbrev pub invariant-loop-k : goal.invariant-loop-k
invariant-loop-k l = l.all.items ≡ count_functions l.k
