use Rattle.std.proofs.Common.{◌≡◌, ◌∙◌, ap, sym, true}
use Rattle.sp_words.specs.Size.{is_numeral}
use Rattle.sp_words.proofs.Numerals.{parsed_none}
use Rattle.sp_words.proofs.size.size_of.Goals as goal

pub returns-in-Err : goal.returns-in-Err
returns-in-Err c =
    let is : is_numeral c.args.word.now ≡ true = ap is_numeral (sym c.as_bytes.ensures.value) ∙ sym c.is_numeral.ensures ∙ c.if-not-is_numeral.false in
    parsed_none c.args.word.now is c.in-Err.field-0 c.parse.result c.parse.ensures.value.0 c.in-Err.is
