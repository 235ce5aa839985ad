use Rattle.sp_words.specs.Words.{texts_of}
use Rattle.sp_words.proofs.Verbs.{words_read, words_refused}
use Rattle.sp_words.proofs.parse.arguments.Goals as goal

pub returns-clause-given : goal.returns-clause-given
returns-clause-given c =
    let form = c.requires.verb in
    words_read c.args.verb (texts_of c.args.words.now) form.0 form.1 form.2 c.parse.result c.parse.ensures.taken c.parse.ensures.matches

pub returns-clause-refused : goal.returns-clause-refused
returns-clause-refused c = λ is.
    let form = c.requires.verb in
    words_refused c.args.verb (texts_of c.args.words.now) form.0 form.1 form.2 (c.parse.ensures.refused is)
