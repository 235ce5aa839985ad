use Rattle.std.proofs.Common.{◌≡◌, ◌+◌, ◌-◌, ◌*◌}
use Rattle.sp_cursor.specs.Items.{many_of}
use Rattle.sp_forms.specs.Grammars.{again}
use Rattle.sp_forms.specs.Readers.{items, read_in}
use Rattle.sp_parser.specs.Modules.{nested_effects}
use Rattle.sp_parser.proofs.effect.+effect.Given as goal

abbrev pub decreases-effect : goal.decreases-effect
decreases-effect l = 3 * l.nesting

abbrev pub decreases-effects : goal.decreases-effects
decreases-effects l = 3 * l.nesting + 1

abbrev pub decreases-if_effect : goal.decreases-if_effect
decreases-if_effect l = 3 * l.nesting + 2

abbrev pub decreases-forall_effect : goal.decreases-forall_effect
decreases-forall_effect l = 3 * l.nesting + 2

abbrev pub invariant-effects-loop-turn : goal.invariant-effects-loop-turn
invariant-effects-loop-turn l = many_of nested_effects.begin (read_in nested_effects l.nesting again) l.fn.tokens ≡ items nested_effects.begin (read_in nested_effects l.nesting again) (l._turn-end - l._turn) l.items.items l.tokens
