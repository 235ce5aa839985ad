use Rattle.std.proofs.Common.{◌^◌, subst, sym}
use Rattle.std.specs.Prelude.{All}
use Rattle.sp_core.specs.Tree.{tree}
use Rattle.sp_formulas.specs.Moves.{IsBelow}
use Rattle.sp_formulas.specs.declared.spot.Hypothesis.{Hypothesis}
use Rattle.sp_generator.proofs.Rooms.{hypotheses_low}
use Rattle.sp_generator.proofs.effects.settled_guards.Goals as goal

pub push_settled-requires-clause-low : goal.push_settled-requires-clause-low
push_settled-requires-clause-low c =
    subst (All (λ (h : Hypothesis). IsBelow (2 ^ 31) (tree h.e.now))) (sym c.deref.ensures.value) (hypotheses_low (2 ^ 31) c.args.item.now.guards.items c.requires.room.guards)
