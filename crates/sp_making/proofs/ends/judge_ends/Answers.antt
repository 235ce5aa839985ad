use Rattle.std.proofs.Common.{◌≡◌, ◌∙◌, IfOk, ap, subst}
use Rattle.sp_text.specs.Violations.{first_in_files}
use Rattle.sp_naming.specs.Numbers.{counted}
use Rattle.sp_specification.specs.Ends.{whole_view}
use Rattle.sp_making.specs.Seen.{ends_broken}
use Rattle.sp_making.proofs.Viewed.{same_ends, seen_whole}
use Rattle.sp_making.proofs.ends.judge_ends.Goals as goal

pub returns : goal.returns
returns c =
    let s = c.args.scopes.now in
    let ms = c.args.modules.now in
    let qs = c.args.interface.now.levels in
    let seen = seen_whole s c.args.bottom c.args.top c.counted.result c.args.cores.now (c.counted.ensures ∙ ap (counted 0) c.modules.ensures) c.requires.cores in
    let same = ap (λ v. ends_broken v c.items.result.now ms) seen ∙ ap (λ qs. ends_broken (whole_view s c.args.bottom c.args.top) qs ms) c.items.ensures ∙ same_ends s c.args.bottom c.args.top qs ms in
    subst (λ vs. IfOk c.judge_seen.result (λ r. r ≡ first_in_files vs)) same c.judge_seen.ensures
