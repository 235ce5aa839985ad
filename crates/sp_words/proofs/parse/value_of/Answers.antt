use Rattle.std.proofs.Common.{rules, ◌≡◌, ◌∙◌, Some, option_map}
use Rattle.clap.specs.Words.{found_of, rows_of, subcommand_rows_of}
use Rattle.clap.proofs.WalkLemmas.{first_value-rows}
use Rattle.sp_words.proofs.Verbs.{second_row}
use Rattle.sp_words.proofs.parse.value_of.Goals as goal

pub returns : goal.returns
returns c =
    let rows : Some (rows_of (found_of c.in_ok-inner.inner.now)) ≡ option_map (λ p. p.1) (subcommand_rows_of c.args.matches.now) = search rules in
    c.get_str.ensures ∙ first_value-rows (found_of c.in_ok-inner.inner.now) c.args.name.now ∙ second_row c.args.name.now (subcommand_rows_of c.args.matches.now) _ rows
