use Rattle.std.proofs.Common.{◌∙◌, ap, take}
use Rattle.std.specs.List.{flat_map}
use Rattle.sp_text.specs.Violations.{first}
use Rattle.sp_naming.proofs.Gathering.{gather_next}
use Rattle.sp_scopes.specs.Headers.{see_of}
use Rattle.sp_scopes.specs.Modules.{function_broken}
use Rattle.sp_scopes.proofs.module.functions_broken.Goals as goal

pub loop-function-preserved : goal.loop-function-preserved
loop-function-preserved c =
    let rule = (function_broken (see_of c.args.declared.now c.args.k c.args.names.now)) in
    let xs = c.args.functions.now in
    let i = c.loop-function.function-index in
    let x = c.function-item.result in
    c.earlier-found.ensures (flat_map rule (take i xs)) (rule x) c.loop-function.invariant c.in_ok-header_broken.ensures ∙ ap first (gather_next rule xs i x c.loop-function-test.true c.function-item.is)
