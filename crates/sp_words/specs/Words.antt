-- Which words are a command, for the top call and for what a report is.
use Rattle.std.specs.Prelude.{ℕ, ◌≤◌, ◌&&◌, ◌==◌, Bool, false, not, List, [], ◌∷◌, Option, Some, None, String, map, string_bytes, if◌then◌else◌, option_and_then, option_map}
use Rattle.std.specs.List.{list_all}
use Rattle.sp_words.specs.Size.{size_of}
use Rattle.sp_words.specs.Verb.{verb_of}
use Rattle.sp_words.specs.declared.verb.Verb.{Verb}
use Rattle.sp_words.specs.declared.verb.Verb.TheVariants.{Check, Formulas, Prove, Verify, Migrate, Run, Compare, Hierarchy, Sample}

-- a command, with the names of an interface, of certificates, of an instance, of a script, and the word of a level; the name
-- of a hierarchy; the size of a sample
pub data Command : Type 0 where
  check : List ℕ → Command
  formulas : List ℕ → Command
  prove : List ℕ → Command
  verify : List ℕ → List ℕ → Command
  migrate : List ℕ → List ℕ → Command
  run : List ℕ → List ℕ → List ℕ → Command
  compare : List ℕ → List ℕ → List ℕ → List ℕ → Command
  hierarchy : List ℕ → Command
  sample : ℕ → Command

-- a command that names a size names one from 1 to 100
abbrev pub IsSized : Command → Type 0
IsSized (sample n) = (1 ≤ n) × (n ≤ 100)
IsSized command = Unit {0}

-- the words as lists of bytes
module _ {A : Type 0} where
  abbrev pub texts_of : List (String A) → List (List ℕ)
  texts_of words = map string_bytes words

-- the byte isn't a line feed
abbrev pub is_no_line_feed : ℕ → Bool
is_no_line_feed b = not (b == 10)

-- the word isn't empty, doesn't begin with `-` and holds no line feed
abbrev pub is_plain : List ℕ → Bool
is_plain [] = false
is_plain (first ∷ rest) = not (first == 45) && list_all is_no_line_feed (first ∷ rest)

-- the command of a verb, where it has as many words as it asks for, and a size where it asks for one
abbrev pub command_with : Verb → List (List ℕ) → Option Command
command_with Check (interface ∷ []) = Some (check interface)
command_with Formulas (interface ∷ []) = Some (formulas interface)
command_with Prove (interface ∷ []) = Some (prove interface)
command_with Verify (interface ∷ certificates ∷ []) = Some (verify interface certificates)
command_with Migrate (interface ∷ certificates ∷ []) = Some (migrate interface certificates)
command_with Run (interface ∷ instance ∷ script ∷ []) = Some (run interface instance script)
command_with Compare (interface ∷ instance ∷ script ∷ level ∷ []) = Some (compare interface instance script level)
command_with Hierarchy (whole ∷ []) = Some (hierarchy whole)
command_with Sample (size ∷ []) = option_map sample (size_of size)
command_with _ _ = None

-- the command that the words are, if any: its name, and then plain words
abbrev pub command_of : List (List ℕ) → Option Command
command_of [] = None
command_of (first ∷ words) = if list_all is_plain words then option_and_then (λ verb. command_with verb words) (verb_of first) else None
