use Rattle.sp_lattice.proofs.Closing.{closed_only, closed_whole}
use Rattle.sp_lattice.proofs.table.fill.Goals as goal

pub returns : goal.returns
returns c = λ x y p q. (
  closed_only c.args.count c.args.pairs.now c.args.table.now c.relate_same.new.table c.relate_pairs.new.table c.close.new.table
      c.requires.levels c.requires.empty c.relate_same.ensures c.relate_pairs.ensures.kept c.relate_pairs.ensures.whole c.relate_pairs.ensures.only
      c.close.ensures.kept c.close.ensures.only c.close.ensures.transitive x y,
  closed_whole c.args.count c.args.pairs.now c.args.table.now c.relate_same.new.table c.relate_pairs.new.table c.close.new.table
      c.requires.levels c.requires.empty c.relate_same.ensures c.relate_pairs.ensures.kept c.relate_pairs.ensures.whole c.relate_pairs.ensures.only
      c.close.ensures.kept c.close.ensures.only c.close.ensures.transitive p,
)
