use Rattle.std.proofs.Common.{◌≡◌, ◌++◌, map, drop, take}
use Rattle.sp_core.specs.Tree.{tree}
use Rattle.sp_sequent.specs.Numbers.{nodes_of}
use Rattle.sp_sequent.specs.Subterms.{truths}
use Rattle.sp_formulas.specs.Formulas.{guard_formulas}
use Rattle.sp_formulas.specs.Generated.{IsUnderWay, hypothesis_tree, spot_of}
use Rattle.sp_formulas.proofs.guards.add_guards.Given as goal

abbrev pub invariant-loop-guard : goal.invariant-loop-guard
invariant-loop-guard l = record {
  way : IsUnderWay l.spec l.fn.out.items l.out.items (guard_formulas l.spec (spot_of l.place l.bound) (map hypothesis_tree l.before.items) (drop l.guard-index (map tree l.guards)))
      (guard_formulas l.spec (spot_of l.place l.bound) (map hypothesis_tree l.fn.before.items) (map tree l.guards));
  assumed : map hypothesis_tree l.before.items ≡ map hypothesis_tree l.fn.before.items ++ map tree (take l.guard-index l.guards);
  two : l.pool ≡ nodes_of truths;
}
