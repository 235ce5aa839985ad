use Rattle.std.proofs.Common.{◌+◌, ◌*◌, map, take}
use Rattle.sp_core.specs.Measures.{nodes, nodes_in}
use Rattle.sp_core.specs.Tree.{tree, trees_of}
use Rattle.sp_expand.specs.Parts.{AreParts}
use Rattle.sp_mapping_rules.specs.Levels as spec
use Rattle.sp_mapping_rows.proofs.levels.+level.Given as goal

abbrev pub decreases-level_over : goal.decreases-level_over
decreases-level_over l = 3 * nodes (tree l.e.now)

abbrev pub decreases-param_over : goal.decreases-param_over
decreases-param_over l = 3 * nodes_in (trees_of (map tree l.args.now)) + 2

abbrev pub decreases-levels_over : goal.decreases-levels_over
decreases-levels_over l = 3 * nodes_in (trees_of (map tree l.args.now)) + 1

abbrev pub invariant-levels_over-loop-arg : goal.invariant-levels_over-loop-arg
invariant-levels_over-loop-arg l = AreParts (spec.levels_over l.types l.cores l.n (trees_of (map tree (take l.arg-index l.args)))) l.all.items
