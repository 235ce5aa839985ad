use Rattle.std.proofs.Common.{◌≡◌, ◌+◌, ◌≤◌, drop}
use Rattle.sp_verify_command.specs.Judged.{refused_count}
use Rattle.sp_verify_command.proofs.judging.refused_count.Given as goal

-- those so far, with those that are left, are all
abbrev pub invariant-loop-judgement : goal.invariant-loop-judgement
invariant-loop-judgement l = (l.count + refused_count (drop l.judgement-index l.judgements) ≡ refused_count l.judgements) × (l.count ≤ l.judgement-index)
