use Rattle.std.proofs.Common.{◌≡◌, take}
use Rattle.std.specs.List.{flat_map}
use Rattle.sp_text.specs.Violations.{first}
use Rattle.sp_scopes.specs.Headers.{formal_type, see_of}
use Rattle.sp_scopes.proofs.headers.types_rule.Given as goal

abbrev pub invariant-loop-formal : goal.invariant-loop-formal
invariant-loop-formal l = l.found ≡ first (flat_map (formal_type (see_of l.declared l.k l.names)) (take l.formal-index l.formals))
