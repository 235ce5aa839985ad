use Rattle.std.proofs.Common.{◌∙◌, IfOk, ap, subst}
use Rattle.sp_naming.specs.Numbers.{counted}
use Rattle.sp_specification.specs.Ends.{whole_view}
use Rattle.sp_specification.specs.Meaning.{AreFunctions, function_texts}
use Rattle.sp_making.specs.Seen.{at_module}
use Rattle.sp_making.proofs.Viewed.{seen_whole}
use Rattle.sp_making.proofs.functions.make_functions.Goals as goal

pub returns : goal.returns
returns c =
    let s = c.args.scopes.now in
    let xs = function_texts c.args.modules.now in
    let seen = seen_whole s c.args.bottom c.args.top c.counted.result c.args.cores.now (c.counted.ensures ∙ ap (counted 0) c.modules.ensures) c.requires.cores in
    let v = whole_view s c.args.bottom c.args.top in
    subst (λ qs. IfOk c.functions_seen.result (λ all. AreFunctions (at_module v) v qs 0 xs all.items)) c.items.ensures
    (subst (λ v. IfOk c.functions_seen.result (λ all. AreFunctions (at_module v) v c.items.result.now 0 xs all.items)) seen c.functions_seen.ensures)
