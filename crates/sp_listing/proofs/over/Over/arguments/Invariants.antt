use Rattle.std.proofs.Common.{◌≡◌, map, take}
use Rattle.sp_core.specs.Tree.{tree, trees_of}
use Rattle.sp_eval.specs.Settings.{tree_values}
use Rattle.sp_listing.proofs.over.Over.arguments.Given as goal

abbrev pub invariant-loop-part : goal.invariant-loop-part
invariant-loop-part l = l.args ≡ tree_values l.self l.env (trees_of (map tree (take l.part-index l.parts)))
