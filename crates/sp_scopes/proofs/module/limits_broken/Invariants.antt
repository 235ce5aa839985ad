use Rattle.std.proofs.Common.{◌≡◌, take}
use Rattle.std.specs.List.{flat_map}
use Rattle.sp_text.specs.Violations.{first_in_files}
use Rattle.sp_scopes.specs.Modules.{limit_broken}
use Rattle.sp_scopes.proofs.module.limits_broken.Given as goal

abbrev pub invariant-loop-d : goal.invariant-loop-d
invariant-loop-d l = l.found ≡ first_in_files (flat_map limit_broken (take l.d-index l.all))
