use Rattle.std.proofs.Common.{◌≡◌, map, drop}
use Rattle.sp_core.specs.Tree.{tree, trees_of}
use Rattle.sp_sequent.specs.Numbers.{nodes_of}
use Rattle.sp_sequent.specs.Subterms.{truths}
use Rattle.sp_formulas.specs.Formulas.{reference_formulas}
use Rattle.sp_formulas.specs.Generated.{IsUnderWay, hypothesis_tree, spot_of}
use Rattle.sp_formulas.specs.References.{references_in}
use Rattle.sp_formulas.proofs.targets.walk_each.Given as goal

abbrev pub invariant-loop-e : goal.invariant-loop-e
invariant-loop-e l = record {
  way : IsUnderWay l.spec l.fn.out.items l.out.items (reference_formulas l.spec (spot_of l.place l.bound) (map hypothesis_tree l.hyps) (references_in (trees_of (drop l.e-index (map tree l.exprs)))))
      (reference_formulas l.spec (spot_of l.place l.bound) (map hypothesis_tree l.hyps) (references_in (trees_of (map tree l.exprs))));
  two : l.pool ≡ nodes_of truths;
}
