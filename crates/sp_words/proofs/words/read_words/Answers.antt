use Rattle.std.proofs.Common.{◌≡◌, ◌∙◌, ap, sym, None, Some, option_map}
use Rattle.clap.specs.Words.{subcommand_rows_of}
use Rattle.sp_words.specs.Given.{given_of}
use Rattle.sp_words.specs.Meant.{command_meant}
use Rattle.sp_words.specs.Verb.{arguments_of, verb_of}
use Rattle.sp_words.specs.Words.{texts_of}
use Rattle.sp_words.proofs.Verbs.{command_is, form_of}
use Rattle.sp_words.proofs.words.read_words.Goals as goal

pub returns-in-Some-command_in-clause-command : goal.returns-in-Some-command_in-clause-command
returns-in-Some-command_in-clause-command c =
    let verb : verb_of c.as_str.result.now ≡ Some c.in-Some.verb = sym c.named.ensures ∙ c.in-Some.is in
    let form = form_of c.args.words.now c.first-item.result c.as_str.result.now c.in-Some.verb c.in-len1-up.len_at_least c.first-item.is c.as_str.ensures.value verb
    (sym c.are_plain.ensures ∙ c.if-not-are_plain.false)
    in
    command_is c.in-Some.verb (texts_of c.args.words.now) form.0 (given_of (arguments_of c.in-Some.verb) (subcommand_rows_of c.in_ok-matches.matches)) _ form.1 form.2
    c.in_ok-matches.ensures.given (ap (option_map command_meant) (sym c.in-Some-command_in.is) ∙ c.command_in.ensures)

pub returns-clause-refused : goal.returns-clause-refused
returns-clause-refused c = λ _.
    let verb : verb_of c.as_str.result.now ≡ Some c.in-Some.verb = sym c.named.ensures ∙ c.in-Some.is in
    let form = form_of c.args.words.now c.first-item.result c.as_str.result.now c.in-Some.verb c.in-len1-up.len_at_least c.first-item.is c.as_str.ensures.value verb
    (sym c.are_plain.ensures ∙ c.if-not-are_plain.false)
    in
    command_is c.in-Some.verb (texts_of c.args.words.now) form.0 (given_of (arguments_of c.in-Some.verb) (subcommand_rows_of c.in_ok-matches.matches)) _ form.1 form.2
    c.in_ok-matches.ensures.given (ap (option_map command_meant) (sym c.in-None.is) ∙ c.command_in.ensures)
