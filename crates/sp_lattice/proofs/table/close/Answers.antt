use Rattle.std.proofs.Common.{◌<◌, arith}
use Rattle.sp_lattice.specs.Closure.{here, step}
use Rattle.sp_lattice.proofs.Closing.{kept, only_paths, through_more}
use Rattle.sp_lattice.proofs.table.close.Goals as goal

pub loop-middle-init : goal.loop-middle-init
loop-middle-init c = record {
  kept = λ a b r. r;
  only = λ a b r. step r here;
  through = λ j a b below r s. absurd (omega (arith, below));
}

pub loop-middle-preserved : goal.loop-middle-preserved
loop-middle-preserved c =
    let level : c.loop-middle.middle < c.args.count = omega arith in
    let h = c.loop-middle.invariant in
    let added = c.relate_through.ensures in
    let now = c.loop-middle.table in
    let new = c.relate_through.new.table in
    record {
      kept = λ a b r. kept c.args.count c.args.table.now now new c.loop-middle.middle level added a b (h.kept a b r);
      only = only_paths c.args.count c.args.table.now now new c.loop-middle.middle level added h.only;
      through = through_more c.args.count c.args.table.now now new c.loop-middle.middle level added h.through;
    }
