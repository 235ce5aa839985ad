use Rattle.std.proofs.Common.{◌-◌, ◌≤◌, length}
use Rattle.sp_lexer.specs.Scans.{NoneCloses}
use Rattle.sp_lexer.proofs.scan.comment_end.Given as goal

abbrev pub invariant-loop-end : goal.invariant-loop-end
invariant-loop-end l = record {
  onwards : l.start ≤ l.end;
  within : l.end ≤ length l.text;
  between : NoneCloses l.text l.start l.end;
}

abbrev pub decreases-loop-end : goal.decreases-loop-end
decreases-loop-end l = length l.text - l.end
