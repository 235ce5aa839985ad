use Rattle.std.proofs.Common.{◌∙◌}
use Rattle.clap.specs.Words.{app_of}
use Rattle.sp_words.specs.Words.{texts_of}
use Rattle.sp_words.proofs.Verbs.{memory_alone, parse_matches, parse_taken}
use Rattle.sp_words.proofs.parse.parse.Goals as goal

pub returns-in-Ok-try_get_matches_from-clause-taken : goal.returns-in-Ok-try_get_matches_from-clause-taken
returns-in-Ok-try_get_matches_from-clause-taken c =
    parse_taken (app_of c.in-Ok.command) c.in-Ok.ensures (texts_of c.args.words.now) c.in-Ok-try_get_matches_from.ensures.kinds

pub returns-in-Ok-try_get_matches_from-clause-matches : goal.returns-in-Ok-try_get_matches_from-clause-matches
returns-in-Ok-try_get_matches_from-clause-matches c =
    parse_matches (app_of c.in-Ok.command) c.in-Ok.ensures (texts_of c.args.words.now) c.in-Ok-try_get_matches_from.matches c.in-Ok-try_get_matches_from.ensures.matches

pub returns : goal.returns
returns c = record {
  taken = tt;
  matches = tt;
  refused = λ _ none.
      c.in_default-kind.not-OutOfMemory
      (c.kind.ensures ∙ memory_alone (app_of c.in-Ok.command) c.in-Ok.ensures (texts_of c.args.words.now) c.in-Err.error c.in-Err.ensures.kinds none);
}
