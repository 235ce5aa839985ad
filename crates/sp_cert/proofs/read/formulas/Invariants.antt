use Rattle.std.proofs.Common.{◌≡◌, ◌+◌, ◌-◌, length}
use Rattle.sp_cert.specs.Reader as spec
use Rattle.sp_cert.specs.Tree.{trees}
use Rattle.sp_cert.proofs.Turns.{after}
use Rattle.sp_cert.proofs.read.formulas.Given as goal

abbrev pub invariant-loop-turn : goal.invariant-loop-turn
invariant-loop-turn l = spec.formulas l.format 64 (length l.fn.lines.rest) 1 l.fn.lines ≡ after (trees l.certs) (spec.formulas l.format 64 (l.turn-end - l.turn) (l.turn + 1) l.lines)
