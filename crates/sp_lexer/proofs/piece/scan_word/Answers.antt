use Rattle.std.proofs.Common.{slice_range, refl}
use Rattle.sp_lexer.specs.Pieces.{keyword, name}
use Rattle.sp_lexer.proofs.Longest.{word_longest, word_at}
use Rattle.sp_lexer.proofs.piece.scan_word.Goals as goal

pub returns-in-Some-clause-scanned : goal.returns-in-Some-clause-scanned
returns-in-Some-clause-scanned c =
    let text = c.args.text.now in
    let end = c.word_end-end in
    let word = word_at text c.args.place end.result c.requires.inside c.requires.letter end.ensures in
    record {
      piece = keyword c.in-Some.keyword;
      stands = word_longest text (keyword c.in-Some.keyword) c.args.place end.result (word, c.in-Some.ensures) refl end.ensures;
      in_range = tt;
      is_kind = refl;
    }

pub returns-in-None-clause-scanned : goal.returns-in-None-clause-scanned
returns-in-None-clause-scanned c =
    let text = c.args.text.now in
    let end = c.word_end-end in
    let word = word_at text c.args.place end.result c.requires.inside c.requires.letter end.ensures in
    let bytes = slice_range text c.args.place end.result in
    record {
      piece = name bytes;
      stands = word_longest text (name bytes) c.args.place end.result (word, refl, c.in-None.ensures) refl end.ensures;
      in_range = tt;
      is_kind = refl;
    }
