use Rattle.std.proofs.Common.{◌≡◌, length}
use Rattle.sp_cert.specs.Tree.{trees}
use Rattle.sp_verify_command.proofs.Progress.{Lifting}
use Rattle.sp_verify_command.proofs.lifting.lift_all.Given as goal

-- the pool holds TRUE and FALSE alone, and the certificates so far are migrated
abbrev pub invariant-loop-k : goal.invariant-loop-k
invariant-loop-k l = (length l.pool ≡ 2) × Lifting l.spec l.formulas l.certs l.k (trees l.all)
