use Rattle.std.proofs.Common.{sym, ◌∙◌}
use Rattle.std.proofs.lemmas.Result.{err_from_is_err_and}
use Rattle.sp_cursor.proofs.Turns.{item_refuses, item_reads, none_begins, no_turn}
use Rattle.sp_forms.specs.Grammars.{again}
use Rattle.sp_forms.specs.Readers.{read_in}
use Rattle.sp_parser.specs.Modules.{effects_line, nested_effects}
use Rattle.sp_parser.proofs.effect.+effect.Goals as goal
use Rattle.sp_parser.proofs.effect.+effect.Goals.{effects-else-loop-turn-test, effects-then-loop-turn-test+then-not-begins_effect}

pub effects-returns-in_err-effect : goal.effects-returns-in_err-effect
unfolding effects_line
effects-returns-in_err-effect t c =
    let (d, u, v) = err_from_is_err_and c.from_residual.result c.from_residual.ensures.1 in
    item_refuses nested_effects.begin (read_in nested_effects c.args.nesting again) _ c.loop-turn._turn c.loop-turn.items.items c.loop-turn.tokens c.loop-turn-test.true (sym c.if-not-begins_effect.false ∙ c.begins_effect.ensures) _ _
    c.in_err-effect.was c.effect.ensures u v c.loop-turn.invariant

pub effects-loop-turn-preserved : goal.effects-loop-turn-preserved
effects-loop-turn-preserved t c = item_reads nested_effects.begin (read_in nested_effects c.args.nesting again) _ c.loop-turn._turn c.loop-turn.items.items c.loop-turn.tokens c.loop-turn-test.true (sym c.if-not-begins_effect.false ∙ c.begins_effect.ensures) _
    c.in_ok-effect.was c.effect.ensures c.in_ok-push.ensures.items c.loop-turn.invariant

pub effects-returns : goal.effects-returns
unfolding effects_line
effects-returns t c = rw c.from_vec.ensures (elim c.loop-turn-test.branch [
  | effects-else-loop-turn-test w ↦ no_turn nested_effects.begin (read_in nested_effects c.args.nesting again) _ c.loop-turn._turn c.loop-turn.items.items c.loop-turn.tokens w.loop-turn-test.false c.loop-turn.invariant
  | effects-then-loop-turn-test+then-not-begins_effect w ↦ none_begins nested_effects.begin (read_in nested_effects c.args.nesting again) _ c.loop-turn._turn c.loop-turn.items.items c.loop-turn.tokens w.loop-turn-test.true (sym w.if-not-begins_effect.true ∙ w.begins_effect.ensures) c.loop-turn.invariant
])
