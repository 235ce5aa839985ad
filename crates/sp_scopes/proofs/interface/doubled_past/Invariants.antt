use Rattle.std.proofs.Common.{◌≡◌, ◌≤◌, drop}
use Rattle.sp_scopes.specs.Interfaces.{doubled_past}
use Rattle.sp_scopes.proofs.interface.doubled_past.Given as goal

abbrev pub invariant-loop-c : goal.invariant-loop-c
invariant-loop-c l = record {
  rest : doubled_past l.levels (drop l.c-index l.categories) ≡ doubled_past l.fn.levels l.categories;
  few : l.levels ≤ 256;
}
