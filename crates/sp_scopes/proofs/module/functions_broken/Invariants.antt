use Rattle.std.proofs.Common.{◌≡◌, take}
use Rattle.std.specs.List.{flat_map}
use Rattle.sp_text.specs.Violations.{first}
use Rattle.sp_scopes.specs.Headers.{see_of}
use Rattle.sp_scopes.specs.Modules.{function_broken}
use Rattle.sp_scopes.proofs.module.functions_broken.Given as goal

abbrev pub invariant-loop-function : goal.invariant-loop-function
invariant-loop-function l = l.found ≡ first (flat_map (function_broken (see_of l.declared l.k l.names)) (take l.function-index l.functions))
