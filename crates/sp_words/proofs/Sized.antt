-- A command that names a size names one from 1 to 100.
use Rattle.std.proofs.Common.{◌≡◌, ◌≤◌, ℕ, Bool, List, [], ◌∷◌, Some, None, Option, Result, Ok, Err, IfOk, cond, option_map, refl, subst, sym, true, false}
use Rattle.std.specs.Prelude.{◌&&◌, nat_le, option_and_then}
use Rattle.std.specs.List.{list_all}
use Rattle.std.specs.Str.Parse.{digits_value}
use Rattle.std.proofs.lemmas.Bool.{leb-true}
use Rattle.clap.specs.Walk.{Text}
use Rattle.clap.proofs.WalkLemmas.{both}
use Rattle.sp_words.specs.Meant.{command_meant}
use Rattle.sp_words.specs.Size.{is_numeral, is_size, size_of, sized}
use Rattle.sp_words.specs.Verb.{verb_of}
use Rattle.sp_words.specs.Words.{Command, IsSized, check, command_of, command_with, compare, formulas, hierarchy, is_plain, migrate, prove, run, sample, verify}
use Rattle.sp_words.specs.declared.words.Command.{Command as Form}
use Rattle.sp_words.specs.declared.words.WordsFault.{WordsFault}
use Rattle.sp_words.specs.declared.verb.Verb.{Verb}
use Rattle.sp_words.specs.declared.verb.Verb.TheVariants.{Check, Formulas, Prove, Verify, Migrate, Run, Compare, Hierarchy, Sample}

bounds : (n : ℕ) → is_size n ≡ true → (1 ≤ n) × (n ≤ 100)
bounds n is = (leb-true 1 n (both (nat_le 1 n) _ is).0, leb-true n 100 (both (nat_le 1 n) _ is).1)

module _ (c : Command) where
  of_size : (b : Bool) (n : ℕ) → b ≡ is_size n → option_map sample (cond b (Some n) None) ≡ Some c → IsSized c
  of_size true n is e = let same : sample n ≡ c = cc in subst IsSized same (bounds n (sym is))
  of_size false n is e = absurd cc

  of_numeral : (b : Bool) (n : ℕ) → option_map sample (cond b (sized n) None) ≡ Some c → IsSized c
  of_numeral true n e = of_size (is_size n) n refl e
  of_numeral false n e = absurd cc

  with_size : (word : Text) → option_map sample (size_of word) ≡ Some c → IsSized c
  with_size word e = of_numeral (is_numeral word) (digits_value 10 word) e

  with_words : (v : Verb) (ws : List Text) → command_with v ws ≡ Some c → IsSized c
  with_words Check (a ∷ []) same = let is : check a ≡ c = cc in subst IsSized is tt
  with_words Formulas (a ∷ []) same = let is : formulas a ≡ c = cc in subst IsSized is tt
  with_words Prove (a ∷ []) same = let is : prove a ≡ c = cc in subst IsSized is tt
  with_words Verify (a ∷ b ∷ []) same = let is : verify a b ≡ c = cc in subst IsSized is tt
  with_words Migrate (a ∷ b ∷ []) same = let is : migrate a b ≡ c = cc in subst IsSized is tt
  with_words Run (a ∷ b ∷ d ∷ []) same = let is : run a b d ≡ c = cc in subst IsSized is tt
  with_words Compare (a ∷ b ∷ d ∷ e ∷ []) same = let is : compare a b d e ≡ c = cc in subst IsSized is tt
  with_words Hierarchy (a ∷ []) same = let is : hierarchy a ≡ c = cc in subst IsSized is tt
  with_words Sample (a ∷ []) e = with_size a e
  with_words Check [] e = absurd cc
  with_words Check (a ∷ x ∷ ws) e = absurd cc
  with_words Formulas [] e = absurd cc
  with_words Formulas (a ∷ x ∷ ws) e = absurd cc
  with_words Prove [] e = absurd cc
  with_words Prove (a ∷ x ∷ ws) e = absurd cc
  with_words Verify [] e = absurd cc
  with_words Verify (a ∷ []) e = absurd cc
  with_words Verify (a ∷ b ∷ x ∷ ws) e = absurd cc
  with_words Migrate [] e = absurd cc
  with_words Migrate (a ∷ []) e = absurd cc
  with_words Migrate (a ∷ b ∷ x ∷ ws) e = absurd cc
  with_words Run [] e = absurd cc
  with_words Run (a ∷ []) e = absurd cc
  with_words Run (a ∷ b ∷ []) e = absurd cc
  with_words Run (a ∷ b ∷ d ∷ x ∷ ws) e = absurd cc
  with_words Compare [] e = absurd cc
  with_words Compare (a ∷ []) e = absurd cc
  with_words Compare (a ∷ b ∷ []) e = absurd cc
  with_words Compare (a ∷ b ∷ d ∷ []) e = absurd cc
  with_words Compare (a ∷ b ∷ d ∷ f ∷ x ∷ ws) e = absurd cc
  with_words Hierarchy [] e = absurd cc
  with_words Hierarchy (a ∷ x ∷ ws) e = absurd cc
  with_words Sample [] e = absurd cc
  with_words Sample (a ∷ x ∷ ws) e = absurd cc

  of_verb : (plain : Bool) (v : Option Verb) (ws : List Text) → cond plain (option_and_then (λ u. command_with u ws) v) None ≡ Some c → IsSized c
  of_verb true (Some v) ws e = with_words v ws e
  of_verb true None ws e = absurd cc
  of_verb false v ws e = absurd cc

  words_sized : (words : List Text) → command_of words ≡ Some c → IsSized c
  words_sized [] e = absurd cc
  words_sized (first ∷ ws) e = of_verb (list_all is_plain ws) (verb_of first) ws e

-- of what is read from words
pub read_sized : (words : List Text) (r : Result Form WordsFault) → IfOk r (λ command. command_of words ≡ Some (command_meant command)) → IfOk r (λ command. IsSized (command_meant command))
read_sized words (Ok command) is = words_sized (command_meant command) words is
read_sized words (Err fault) is = tt
