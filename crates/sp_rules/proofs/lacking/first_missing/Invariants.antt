use Rattle.std.proofs.Common.{◌≡◌, None}
use Rattle.sp_rules.specs.Table.{first_apart}
use Rattle.sp_rules.specs.Facts.{holds_in}
use Rattle.sp_rules.proofs.lacking.first_missing.Given as goal

abbrev pub invariant-loop-k : goal.invariant-loop-k
invariant-loop-k l = first_apart l.terms (holds_in l.eq l.le) l.i l.j l.k ≡ None
