use Rattle.std.proofs.Common.{◌≡◌, ◌<◌, ◌∙◌, ap, arith, [], length}
use Rattle.std.proofs.lemmas.List.{take_all}
use Rattle.sp_instance.proofs.Lists.{copied_as, length_map}
use Rattle.sp_instance.proofs.members.members_of.Goals as goal

pub overflow_cast-count : goal.overflow_cast-count
overflow_cast-count c =
    let n : length c.types.result.now ≡ length c.args.spec.now.types = ap length c.types.ensures.value in
    omega (arith, n, c.types.ensures.well_formed.few_types)

pub names-requires : goal.names-requires
names-requires c =
    let n : length c.types.result.now ≡ length c.args.spec.now.types = ap length c.types.ensures.value in
    omega (arith, n, length_map (λ names. length names) c.args.inst.now.members, c.requires.instance.sizes, c.loop-ty-test.true)

pub loop-ty-preserved : goal.loop-ty-preserved
loop-ty-preserved c =
    let all = c.args.inst.now.members in
    let n : length c.types.result.now ≡ length c.args.spec.now.types = ap length c.types.ensures.value in
    let lt : c.loop-ty.ty < length all = omega (arith, n, length_map (λ names. length names) all, c.requires.instance.sizes, c.loop-ty-test.true) in
    copied_as (λ names. names.items) all c.loop-ty.ty [] _ _ _ lt c.loop-ty.invariant c.in_ok-push.ensures.items c.in_ok-names.ensures

pub returns : goal.returns
returns c =
    let all = c.args.inst.now.members in
    let n : length c.types.result.now ≡ length c.args.spec.now.types = ap length c.types.ensures.value in
    c.loop-ty.invariant ∙ take_all c.loop-ty.ty all (omega (arith, n, length_map (λ names. length names) all, c.requires.instance.sizes, c.loop-ty-test.false))
