use Rattle.std.proofs.Common.{◌≡◌, ◌+◌, ◌-◌, take, subst, arith}
use Rattle.std.proofs.lemmas.List.{take_all}
use Rattle.sp_pool.specs.Index.{IsIndex}
use Rattle.sp_pool.proofs.Indexes.{vacated}
use Rattle.sp_pool.proofs.index.release.Goals as goal

pub loop-number-init : goal.loop-number-init
loop-number-init c =
    let whole : take c.count-number.result c.args.region.now.records ≡ c.args.region.now.records = take_all c.count-number.result c.args.region.now.records (omega (arith, c.count-number.ensures)) in
    record { low = omega (arith, c.requires.held, c.count-number.ensures); index = rw whole c.requires.index }

pub loop-number-preserved : goal.loop-number-preserved
loop-number-preserved c =
    let n = c.loop-number.number - 1 in
    let after : c.loop-number.number ≡ n + 1 = omega arith in
    record {
      low = omega arith;
      index = vacated c.args.region.now.records c.loop-number.slots n (omega (arith, c.count-number.ensures, c.loop-number.auto.number))
          (subst (λ m. IsIndex (take m c.args.region.now.records) c.loop-number.slots) after c.loop-number.invariant.index) c.slot_of-slot.result c.slot_of-slot.ensures;
    }

pub returns : goal.returns
returns c =
    let same : c.loop-number.number ≡ c.args.mark = omega arith in
    subst (λ m. IsIndex (take m c.args.region.now.records) c.loop-number.slots) same c.loop-number.invariant.index
