use Rattle.std.proofs.Common.{◌*◌, ◌+◌, ap, ◌∙◌}
use Rattle.std.specs.Prelude.{slice_index}
use Rattle.sp_bits.specs.Table.{has_bit}
use Rattle.sp_bits.proofs.Tables.{word_bit}
use Rattle.sp_bits.proofs.BitTable.word.Goals as goal

pub returns : goal.returns
returns c =
    let s = c.self.inside in
    rw (← c.self.view_is) (λ r r_in i_in column_in. ap (λ x. has_bit x r) (c.word_at.ensures ∙ ap (λ ws. slice_index ws (c.args.i * s.width + c.args.k)) c.deref.ensures.value) ∙ word_bit s.words.items s.count s.width c.args.i c.args.k r c.self.invariant.0 i_in r_in column_in)
