use Rattle.std.proofs.Common.{◌≡◌, ◌∙◌, ap, subst}
use Rattle.sp_text.specs.Violations.{Judges}
use Rattle.sp_naming.specs.Numbers.{counted}
use Rattle.sp_making.proofs.Viewed.{seen_whole}
use Rattle.sp_mapping_rules.specs.Mappings.{seen_broken, seen_mapping}
use Rattle.sp_mapping.proofs.mapping.elaborate_between.Goals as goal

pub returns : goal.returns
returns c =
    let s = c.args.scopes.now in
    let u = c.args.upper.now in
    let p = c.args.lower.now in
    let m = c.args.m.now in
    let seen = seen_whole s c.args.bottom c.args.top c.counted.result c.args.cores.now (c.counted.ensures ∙ ap (counted 0) c.modules.ensures) c.requires.cores in
    subst (λ v. Judges (seen_broken u p v m) (λ r. r ≡ seen_mapping u v m) c.elaborate_seen.result) seen c.elaborate_seen.ensures
