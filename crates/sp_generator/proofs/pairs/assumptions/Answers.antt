use Rattle.std.proofs.Common.{◌^◌, subst, sym}
use Rattle.std.specs.Prelude.{All}
use Rattle.sp_core.specs.Tree.{tree}
use Rattle.sp_formulas.specs.Moves.{IsBelow}
use Rattle.sp_generator.proofs.Rooms.{All-of_map}
use Rattle.sp_generator.proofs.pairs.assumptions.Goals as goal

pub push_raised-requires-clause-low : goal.push_raised-requires-clause-low
push_raised-requires-clause-low c = All-of_map (IsBelow (2 ^ 31)) tree c.args.guards.now (subst (All (IsBelow (2 ^ 31))) (sym c.requires.guards) c.requires.second.settled)
