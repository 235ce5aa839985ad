use Rattle.std.proofs.Common.{◌≡◌, ◌∙◌, ap, subst, ◌++◌, ◌∷◌, [], take, length, ◌+◌, arith, length-take}
use Rattle.sp_naming.specs.Names.{at_name, IsIndex}
use Rattle.sp_naming.proofs.Gathering.{next_item}
use Rattle.sp_instance.proofs.names.indexed.Goals as goal

pub loop-place-preserved : goal.loop-place-preserved
loop-place-preserved c =
    let xs = c.args.all.now in
    let i = c.loop-place.place in
    let x = c.index-all-place.result in
    let before = take i xs in
    let next : before ++ x ∷ [] ≡ take (i + 1) xs = next_item xs i x c.loop-place-test.true c.index-all-place.is in
    let count : i ≡ length before = omega (arith, length-take i xs) in
    let noted = c.in_ok-note.ensures before c.loop-place.invariant count in
    subst (λ z. IsIndex z (at_name c.note.new.index)) (ap (λ z. before ++ z ∷ []) c.bytes.ensures ∙ next) noted
