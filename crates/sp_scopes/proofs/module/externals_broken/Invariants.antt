use Rattle.std.proofs.Common.{◌≡◌, take}
use Rattle.std.specs.List.{flat_map}
use Rattle.sp_text.specs.Violations.{first}
use Rattle.sp_scopes.specs.Modules.{row_broken}
use Rattle.sp_scopes.proofs.module.externals_broken.Given as goal

abbrev pub invariant-loop-row : goal.invariant-loop-row
invariant-loop-row l = l.found ≡ first (flat_map (row_broken l.declared l.modules) (take l.row-index l.externals))
