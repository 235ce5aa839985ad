-- The command line of the program, as `clap` is told it.
use Rattle.std.specs.Prelude.{List, ℕ, true, codes}
use Rattle.clap.specs.Words.{App, Rule, new_app, new_rule, with_rule, with_subcommand}

-- an argument that must be given
abbrev pub word_rule : List ℕ → Rule
word_rule name = record (new_rule name) { required = true }

-- a command with one argument, of that name
abbrev pub named_word : List ℕ → List ℕ → App
named_word name verb = with_rule (new_app verb) (word_rule name)

-- the commands over an interface take its name first
abbrev pub one_word : List ℕ → App
one_word = named_word (codes "I")

abbrev pub two_words : List ℕ → App
two_words verb = with_rule (one_word verb) (word_rule (codes "CERT"))

abbrev pub three_words : List ℕ → App
three_words verb = with_rule (with_rule (one_word verb) (word_rule (codes "INST"))) (word_rule (codes "SCRIPT"))

abbrev pub four_words : List ℕ → App
four_words verb = with_rule (three_words verb) (word_rule (codes "LEVEL"))

-- the words come without the name of the program
abbrev pub nameless : App → App
nameless app = record app { top = record app.top { no_binary_name = true } }

-- the commands over an interface alone
abbrev pub interfaces_app : App
interfaces_app =
    with_subcommand (with_subcommand (with_subcommand (nameless (new_app (codes "special"))) (one_word (codes "check")).top)
    (one_word (codes "formulas")).top) (one_word (codes "prove")).top

-- these, and those over certificates
abbrev pub certificates_app : App
certificates_app = with_subcommand (with_subcommand interfaces_app (two_words (codes "verify")).top) (two_words (codes "migrate")).top

-- these, and those over scripts
abbrev pub scripts_app : App
scripts_app = with_subcommand (with_subcommand certificates_app (three_words (codes "run")).top) (four_words (codes "compare")).top

abbrev pub special_app : App
special_app = with_subcommand (with_subcommand scripts_app (named_word (codes "H") (codes "hierarchy")).top) (named_word (codes "N") (codes "sample")).top
