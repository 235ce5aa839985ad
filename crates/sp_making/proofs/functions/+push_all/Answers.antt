use Rattle.std.proofs.Common.{◌-◌, drop, length, map, subst, take}
use Rattle.sp_making.specs.Grown.{AddsFunctions}
use Rattle.sp_making.proofs.Growing.{adds_next_function, split}
use Rattle.sp_making.proofs.functions.+push_all.Goals as goal

pub returns-in_ok-push_all : goal.returns-in_ok-push_all
returns-in_ok-push_all t c =
    let v = c.args.whole.now in
    let k = c.args.k in
    let qs = c.args.equations.now in
    let xs = c.args.xs.now in
    let x = c.first-item.result in
    let old = c.args.all.now.items in
    let new = c.push_all.new.all.items in
    subst (λ ys. AddsFunctions v qs (map (λ y. (k, y)) ys) old new) (split xs x c.in-len1-up.len_at_least c.first-item.is)
    (adds_next_function v qs (k, x) (map (λ y. (k, y)) (take (length xs - 1) (drop 1 xs))) old c.push_function.new.all.items new c.in_ok-push_function.ensures
    c.in_ok-push_all.ensures)
