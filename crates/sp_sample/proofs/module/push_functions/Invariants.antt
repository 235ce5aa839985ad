use Rattle.std.proofs.Common.{◌≡◌, ◌++◌}
use Rattle.sp_sample.specs.Module.{functions_text}
use Rattle.sp_sample.specs.Pieces.{each_below}
use Rattle.sp_sample.proofs.module.push_functions.Given as goal

-- the texts of the numbers so far are appended
abbrev pub invariant-loop-k : goal.invariant-loop-k
invariant-loop-k l = l.out.items ≡ l.initial.out.items ++ each_below functions_text l.k
