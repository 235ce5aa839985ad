-- The first words of the commands, and what arguments each has.
use Rattle.std.specs.Prelude.{ℕ, List, [], ◌∷◌, Option, Some, None, codes, if◌then◌else◌}
use Rattle.std.specs.Str.{bytes_eq}
use Rattle.sp_words.specs.declared.verb.Verb.{Verb}
use Rattle.sp_words.specs.declared.verb.Verb.TheVariants.{Check, Formulas, Prove, Verify, Migrate, Run, Compare, Hierarchy, Sample}

abbrev pub name_of : Verb → List ℕ
name_of Check = codes "check"
name_of Formulas = codes "formulas"
name_of Prove = codes "prove"
name_of Verify = codes "verify"
name_of Migrate = codes "migrate"
name_of Run = codes "run"
name_of Compare = codes "compare"
name_of Hierarchy = codes "hierarchy"
name_of Sample = codes "sample"

-- the verb that a word is, if any
abbrev pub verb_of : List ℕ → Option Verb
verb_of word =
    if bytes_eq word (codes "check") then Some Check
    else if bytes_eq word (codes "formulas") then Some Formulas
    else if bytes_eq word (codes "prove") then Some Prove
    else if bytes_eq word (codes "verify") then Some Verify
    else if bytes_eq word (codes "migrate") then Some Migrate
    else if bytes_eq word (codes "run") then Some Run
    else if bytes_eq word (codes "compare") then Some Compare
    else if bytes_eq word (codes "hierarchy") then Some Hierarchy
    else if bytes_eq word (codes "sample") then Some Sample
    else None

-- the arguments, over an interface by the number of words
abbrev pub one_argument : List (List ℕ)
one_argument = codes "I" ∷ []

abbrev pub two_arguments : List (List ℕ)
two_arguments = codes "I" ∷ codes "CERT" ∷ []

abbrev pub three_arguments : List (List ℕ)
three_arguments = codes "I" ∷ codes "INST" ∷ codes "SCRIPT" ∷ []

abbrev pub four_arguments : List (List ℕ)
four_arguments = codes "I" ∷ codes "INST" ∷ codes "SCRIPT" ∷ codes "LEVEL" ∷ []

abbrev pub arguments_of : Verb → List (List ℕ)
arguments_of Check = one_argument
arguments_of Formulas = one_argument
arguments_of Prove = one_argument
arguments_of Verify = two_arguments
arguments_of Migrate = two_arguments
arguments_of Run = three_arguments
arguments_of Compare = four_arguments
arguments_of Hierarchy = codes "H" ∷ []
arguments_of Sample = codes "N" ∷ []
