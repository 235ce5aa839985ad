-- The words of a command hold no line feed.
use Rattle.std.proofs.Common.{◌≡◌, ℕ, Bool, true, false, not, ◌&&◌, ◌==◌, List, [], ◌∷◌, Option, None, Some, if◌then◌else◌, refl}
use Rattle.std.specs.Prelude.{option_and_then, option_map}
use Rattle.std.specs.List.{list_all}
use Rattle.sp_cert.specs.Answers.{feed_free}
use Rattle.sp_headline.specs.Refused.{IsInLine}
use Rattle.sp_words.specs.Size.{size_of}
use Rattle.sp_words.specs.Verb.{verb_of}
use Rattle.sp_words.specs.Words.{Command, check, command_of, command_with, hierarchy, is_no_line_feed, is_plain, prove, sample, verify}
use Rattle.sp_words.specs.declared.verb.Verb.{Verb}
use Rattle.sp_words.specs.declared.verb.Verb.TheVariants.{Check, Formulas, Prove, Verify, Migrate, Run, Compare, Hierarchy, Sample}

-- the names that a command is given which asks whether an interface is secure
abbrev pub HasWordsInLine : Command → Type 0
HasWordsInLine (check interface) = IsInLine interface
HasWordsInLine (prove interface) = IsInLine interface
HasWordsInLine (verify interface certificates) = IsInLine interface × IsInLine certificates
HasWordsInLine (hierarchy whole) = IsInLine whole
HasWordsInLine c = Unit {0}

abbrev pub AreInLine : Option Command → Type 0
AreInLine None = Unit {0}
AreInLine (Some command) = HasWordsInLine command

first_true : (x y : Bool) → (x && y) ≡ true → x ≡ true
first_true true y e = refl
first_true false y e = absurd cc

second_true : (x y : Bool) → (x && y) ≡ true → y ≡ true
second_true true y e = e
second_true false y e = absurd cc

both_true : (x y : Bool) → x ≡ true → y ≡ true → (x && y) ≡ true
both_true true y e h = h
both_true false y e h = absurd cc

bytes_in_line : (word : List ℕ) → list_all is_no_line_feed word ≡ true → IsInLine word
bytes_in_line [] e = refl
bytes_in_line (b ∷ word) e =
    both_true (not (b == 10)) (feed_free word) (first_true (not (b == 10)) (list_all is_no_line_feed word) e)
    (bytes_in_line word (second_true (not (b == 10)) (list_all is_no_line_feed word) e))

plain_in_line : (word : List ℕ) → is_plain word ≡ true → IsInLine word
plain_in_line [] e = absurd cc
plain_in_line (b ∷ word) e = bytes_in_line (b ∷ word) (second_true (not (b == 45)) (list_all is_no_line_feed (b ∷ word)) e)

first_in_line : (word : List ℕ) (words : List (List ℕ)) → list_all is_plain (word ∷ words) ≡ true → IsInLine word
first_in_line word words e = plain_in_line word (first_true (is_plain word) (list_all is_plain words) e)

sized_in_line : (o : Option ℕ) → AreInLine (option_map sample o)
sized_in_line None = tt
sized_in_line (Some n) = tt

given_in_line : (verb : Verb) (words : List (List ℕ)) → list_all is_plain words ≡ true → AreInLine (command_with verb words)
given_in_line Check [] e = tt
given_in_line Check (i ∷ []) e = first_in_line i [] e
given_in_line Check (i ∷ c ∷ words) e = tt
given_in_line Formulas [] e = tt
given_in_line Formulas (i ∷ []) e = tt
given_in_line Formulas (i ∷ c ∷ words) e = tt
given_in_line Prove [] e = tt
given_in_line Prove (i ∷ []) e = first_in_line i [] e
given_in_line Prove (i ∷ c ∷ words) e = tt
given_in_line Verify [] e = tt
given_in_line Verify (i ∷ []) e = tt
given_in_line Verify (i ∷ c ∷ []) e = (first_in_line i (c ∷ []) e, first_in_line c [] (second_true (is_plain i) (list_all is_plain (c ∷ [])) e))
given_in_line Verify (i ∷ c ∷ x ∷ words) e = tt
given_in_line Migrate [] e = tt
given_in_line Migrate (i ∷ []) e = tt
given_in_line Migrate (i ∷ c ∷ []) e = tt
given_in_line Migrate (i ∷ c ∷ x ∷ words) e = tt
given_in_line Run [] e = tt
given_in_line Run (i ∷ []) e = tt
given_in_line Run (i ∷ n ∷ []) e = tt
given_in_line Run (i ∷ n ∷ s ∷ []) e = tt
given_in_line Run (i ∷ n ∷ s ∷ x ∷ words) e = tt
given_in_line Compare [] e = tt
given_in_line Compare (i ∷ []) e = tt
given_in_line Compare (i ∷ n ∷ []) e = tt
given_in_line Compare (i ∷ n ∷ s ∷ []) e = tt
given_in_line Compare (i ∷ n ∷ s ∷ l ∷ []) e = tt
given_in_line Compare (i ∷ n ∷ s ∷ l ∷ x ∷ words) e = tt
given_in_line Hierarchy [] e = tt
given_in_line Hierarchy (h ∷ []) e = first_in_line h [] e
given_in_line Hierarchy (h ∷ x ∷ words) e = tt
given_in_line Sample [] e = tt
given_in_line Sample (n ∷ []) e = sized_in_line (size_of n)
given_in_line Sample (n ∷ x ∷ words) e = tt

pub words_in_line : (words : List (List ℕ)) → AreInLine (command_of words)
words_in_line [] = tt
words_in_line (first ∷ words) = by (list_all is_plain words) refl
  where
    of_verb : (o : Option Verb) → list_all is_plain words ≡ true → AreInLine (option_and_then (λ verb. command_with verb words) o)
    of_verb None e = tt
    of_verb (Some verb) e = given_in_line verb words e

    by : (t : Bool) → list_all is_plain words ≡ t → AreInLine (if t then option_and_then (λ verb. command_with verb words) (verb_of first) else None)
    by true e = of_verb (verb_of first) e
    by false e = tt
