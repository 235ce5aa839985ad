use Rattle.std.proofs.Common.{◌≡◌, drop}
use Rattle.std.specs.List.{list_all}
use Rattle.sp_words.specs.Words.{is_plain, texts_of}
use Rattle.sp_words.proofs.words.are_plain.Given as goal

-- the words so far are plain
abbrev pub invariant-loop-word : goal.invariant-loop-word
invariant-loop-word l = list_all is_plain (texts_of l.words) ≡ list_all is_plain (texts_of (drop l.word-index l.words))
