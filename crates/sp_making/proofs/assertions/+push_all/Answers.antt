use Rattle.std.proofs.Common.{◌-◌, drop, length, map, subst, take}
use Rattle.sp_making.specs.Grown.{AddsAssertions}
use Rattle.sp_making.proofs.Growing.{adds_next_assertion, split}
use Rattle.sp_making.proofs.assertions.+push_all.Goals as goal

pub returns-in_ok-push_all : goal.returns-in_ok-push_all
returns-in_ok-push_all t c =
    let v = c.args.whole.now in
    let k = c.args.k in
    let es = c.args.es.now in
    let e = c.first-item.result in
    let old = c.args.all.now.items in
    let new = c.push_all.new.all.items in
    subst (λ xs. AddsAssertions v (map (λ x. (k, x)) xs) old new) (split es e c.in-len1-up.len_at_least c.first-item.is)
    (adds_next_assertion v (k, e) (map (λ x. (k, x)) (take (length es - 1) (drop 1 es))) old c.push_assertion.new.all.items new c.in_ok-push_assertion.ensures
    c.in_ok-push_all.ensures)
