-- What words the arguments of a command are given, as `clap` tells it.
use Rattle.std.specs.Prelude.{ℕ, List, [], ◌∷◌, Option, Some, None, map, option_map, option_and_then}
use Rattle.clap.specs.Words.{Row, Text, first_of}
use Rattle.sp_words.specs.Words.{Command, check, formulas, prove, verify, migrate, run, compare, hierarchy, sample}
use Rattle.sp_words.specs.Size.{size_of}
use Rattle.sp_words.specs.declared.verb.Verb.{Verb}
use Rattle.sp_words.specs.declared.verb.Verb.TheVariants.{Check, Formulas, Prove, Verify, Migrate, Run, Compare, Hierarchy, Sample}

-- the word of each argument, in the matches of a subcommand
abbrev pub given_of : List Text → Option (Text × List Row) → List (Option Text)
given_of ids met = map (λ id. option_and_then (λ p. first_of id p.1) met) ids

-- the command of a verb, where each of its arguments has a word
abbrev pub command_given : Verb → List (Option Text) → Option Command
command_given Check (Some i ∷ []) = Some (check i)
command_given Formulas (Some i ∷ []) = Some (formulas i)
command_given Prove (Some i ∷ []) = Some (prove i)
command_given Verify (Some i ∷ Some c ∷ []) = Some (verify i c)
command_given Migrate (Some i ∷ Some c ∷ []) = Some (migrate i c)
command_given Run (Some i ∷ Some n ∷ Some s ∷ []) = Some (run i n s)
command_given Compare (Some i ∷ Some n ∷ Some s ∷ Some l ∷ []) = Some (compare i n s l)
command_given Hierarchy (Some h ∷ []) = Some (hierarchy h)
command_given Sample (Some n ∷ []) = option_map sample (size_of n)
command_given _ _ = None
