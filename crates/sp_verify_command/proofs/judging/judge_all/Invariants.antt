use Rattle.std.proofs.Common.{◌≡◌, length, map}
use Rattle.sp_cert.specs.Tree.{tree}
use Rattle.sp_verify_command.proofs.Progress.{Judging}
use Rattle.sp_verify_command.proofs.judging.judge_all.Given as goal

-- the pool holds TRUE and FALSE alone, and the certificates so far are judged
abbrev pub invariant-loop-k : goal.invariant-loop-k
invariant-loop-k l = (length l.pool ≡ 2) × Judging l.spec l.formulas (map tree l.certs) l.k l.all.items
