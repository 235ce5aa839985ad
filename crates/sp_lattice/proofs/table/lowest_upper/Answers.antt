use Rattle.std.proofs.Common.{sym, ◌∙◌}
use Rattle.sp_lattice.proofs.Uppers.{upper_taken, only_taken, only_left}
use Rattle.sp_lattice.proofs.table.lowest_upper.Goals as goal
use Rattle.sp_lattice.proofs.table.lowest_upper.Goals.{then-is_lower_upper, else-is_lower_upper}

pub loop-z-preserved : goal.loop-z-preserved
loop-z-preserved c =
    let n = c.args.count in
    let table = c.args.table.now in
    let z = c.loop-z.z in
    let lowest = c.loop-z.lowest in
    let h = c.loop-z.invariant in
    elim c.if-is_lower_upper.branch [
      | then-is_lower_upper w ↦
          let taken = sym c.is_lower_upper.ensures ∙ w.if-is_lower_upper.true in
          rw w.lowest-is (record {
            upper = upper_taken n table c.requires.partial c.args.x c.args.y z c.requires.x c.requires.y c.loop-z-test.true lowest taken;
            only = only_taken n table c.requires.partial c.args.x c.args.y z c.requires.x c.requires.y c.loop-z-test.true lowest taken h.only;
          })
      | else-is_lower_upper w ↦
          let left = sym c.is_lower_upper.ensures ∙ w.if-is_lower_upper.false in
          rw w.lowest-is (record {
            upper = h.upper;
            only = only_left n table c.requires.partial c.args.x c.args.y z c.requires.x c.requires.y c.loop-z-test.true lowest left h.upper h.only;
          })
    ]
