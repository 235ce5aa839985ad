use Rattle.std.proofs.Common.{◌-◌, drop, length, map, subst, take}
use Rattle.sp_naming.specs.Numbers.{after, numbered}
use Rattle.sp_specification.specs.Meaning.{numbered_assertions}
use Rattle.sp_making.specs.Grown.{AddsAssertions}
use Rattle.sp_making.proofs.Growing.{adds_assertions, split}
use Rattle.sp_making.proofs.assertions.+push_modules.Goals as goal

pub returns-in_ok-push_modules : goal.returns-in_ok-push_modules
returns-in_ok-push_modules t c =
    let v = c.args.whole.now in
    let k = c.args.k in
    let ms = c.args.modules.now in
    let m = c.first-item.result in
    let rest = take (length ms - 1) (drop 1 ms) in
    let old = c.args.all.now.items in
    let middle = c.push_all.new.all.items in
    let new = c.push_modules.new.all.items in
    let one = subst (λ xs. AddsAssertions v (map (λ x. (k, x)) xs) old middle) c.items.ensures c.in_ok-push_all.ensures in
    let others = subst (λ n. AddsAssertions v (numbered numbered_assertions n rest) middle new) c.after.ensures c.in_ok-push_modules.ensures in
    subst (λ xs. AddsAssertions v (numbered numbered_assertions k xs) old new) (split ms m c.in-len1-up.len_at_least c.first-item.is)
    (adds_assertions v (numbered_assertions k m) (numbered numbered_assertions (after k) rest) old middle new one others)
