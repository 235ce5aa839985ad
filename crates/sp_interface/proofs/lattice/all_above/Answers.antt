use Rattle.std.proofs.Common.{[], ◌∷◌, ◌++◌, refl, sym, ◌∙◌, ap, append_assoc}
use Rattle.std.proofs.lemmas.Result.{err_from_is_err_and}
use Rattle.sp_cursor.proofs.Turns.{item_reads}
use Rattle.sp_forms.specs.Grammars.{first}
use Rattle.sp_forms.specs.Readers.{read_line}
use Rattle.sp_interface.specs.Lattices.{above_line, all_above_line}
use Rattle.sp_interface.proofs.Above.{onto_no_turn, onto_none_begins, onto_refuses}
use Rattle.sp_interface.proofs.lattice.all_above.Goals as goal
use Rattle.sp_interface.proofs.lattice.all_above.Goals.{else-loop-turn-test, then-loop-turn-test+then-not-begins_above}

pub returns-in_err-above : goal.returns-in_err-above
unfolding all_above_line
returns-in_err-above c =
    let (d, u, v) = err_from_is_err_and c.from_residual.result c.from_residual.ensures.1 in
    let (found, e, x) = c.loop-turn.invariant in
    onto_refuses (first [] above_line) (read_line above_line) c.args.below.items _ c.loop-turn._turn found c.loop-turn.tokens c.loop-turn-test.true (sym c.if-not-begins_above.false ∙ c.begins_above.ensures) _ _
    c.in_err-above.was c.above.ensures u v x

pub loop-turn-preserved : goal.loop-turn-preserved
loop-turn-preserved c =
    let (found, e, x) = c.loop-turn.invariant in (
      found ++ c.in_ok-above.field-0 ∷ [],
      c.in_ok-push.ensures.items ∙ (ap (λ vs. vs ++ c.in_ok-above.field-0 ∷ []) e ∙ append_assoc c.args.below.items found (c.in_ok-above.field-0 ∷ [])),
      item_reads (first [] above_line) (read_line above_line) _ c.loop-turn._turn found c.loop-turn.tokens c.loop-turn-test.true (sym c.if-not-begins_above.false ∙ c.begins_above.ensures) _
          c.in_ok-above.was c.above.ensures refl x,
    )

pub returns : goal.returns
unfolding all_above_line
returns c =
    let (found, e, x) = c.loop-turn.invariant in
    rw (c.new.ensures, e) (elim c.loop-turn-test.branch [
      | else-loop-turn-test w ↦ onto_no_turn (first [] above_line) (read_line above_line) c.args.below.items _ c.loop-turn._turn found c.loop-turn.tokens w.loop-turn-test.false x
      | then-loop-turn-test+then-not-begins_above w ↦ onto_none_begins (first [] above_line) (read_line above_line) c.args.below.items _ c.loop-turn._turn found c.loop-turn.tokens w.loop-turn-test.true (sym w.if-not-begins_above.true ∙ w.begins_above.ensures) x
    ])
