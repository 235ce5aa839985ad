-- What the callers of `clap` cite.
use Rattle.std.proofs.Common.{◌≡◌, ◌∙◌, ◌+◌, ◌-◌, ◌≤◌, ℕ, List, [], ◌∷◌, Some, None, Option, Result, Ok, Err, IfOk, inl, inr, subst, String, Bool, refl, sym, ap, ap₂, codes, cond, drop, length, map, option_map, string_bytes, take, take_all, true, false, arith}
use Rattle.std.specs.Prelude.{option_and_then}
use Rattle.std.specs.List.{list_all, slice_index_or}
use Rattle.std.specs.Str.{bytes_eq}
use Rattle.std.proofs.lemmas.Slice.Eq.{bytes_eq-Decides}
use Rattle.std.proofs.lemmas.List.{length-map}
use Rattle.clap.specs.Walk.{Row, Text}
use Rattle.clap.specs.declared.parser.matches.ArgMatches.{ArgMatches}
use Rattle.clap.specs.Words.{App, HasKind, HasMatchesOf, first_of, is_simple, is_simple_and_free, kind_of, subcommand_of, subcommand_rows_of}
use Rattle.clap.specs.declared.error.Error.{Error}
use Rattle.clap.specs.declared.error.kind.ErrorKind.TheVariants as kind
use Rattle.clap.specs.Faults.{fault_of}
use Rattle.sp_words.specs.App.{special_app}
use Rattle.sp_words.specs.Given.{command_given, given_of}
use Rattle.sp_words.specs.Verb.{arguments_of, name_of, verb_of}
use Rattle.sp_words.specs.Words.{Command, command_of, command_with, is_plain, texts_of}
use Rattle.sp_words.specs.declared.verb.Verb.{Verb}
use Rattle.sp_words.specs.declared.words.WordsFault.{WordsFault}
use Rattle.sp_words.specs.declared.verb.Verb.TheVariants.{Check, Formulas, Prove, Verify, Migrate, Run, Compare, Hierarchy, Sample}
use Rattle.sp_words.proofs.Top.{free, simple, verb_given, verb_takes}

-- what `clap` answers of the program's command
module _ (a : App) (is : a ≡ special_app) (ws : List Text) where
  pub parse_taken : (is_simple_and_free a ≡ true → fault_of a ws ≡ []) → fault_of special_app ws ≡ []
  parse_taken none = ap (λ b. fault_of b ws) (sym is) ∙ none (ap is_simple_and_free is ∙ free)

  pub parse_matches : (m : ArgMatches) → HasMatchesOf a ws m → subcommand_rows_of m ≡ subcommand_of special_app ws
  parse_matches m has = (has (ap is_simple is ∙ simple)).1 ∙ ap (λ b. subcommand_of b ws) is

  -- where no fault is due, an error is for want of memory
  pub memory_alone : (e : Error) → (is_simple_and_free a ≡ true → HasKind (fault_of a ws) e) → fault_of special_app ws ≡ [] → kind_of e ≡ kind.OutOfMemory
  memory_alone e has none =
      let among : HasKind [] e = subst (λ k. HasKind k e) (ap (λ b. fault_of b ws) is ∙ none) (has (ap is_simple_and_free is ∙ free)) in
      elim among [ inl memory ↦ memory | inr bad ↦ absurd bad ]

pub second_row : (id : Text) (met : Option (Text × List Row)) (rows : List Row) → Some rows ≡ option_map (λ p. p.1) met → first_of id rows ≡ option_and_then (λ p. first_of id p.1) met
second_row id None rows e = cc
second_row id (Some p) rows e = ap (λ o. option_and_then (first_of id) o) e

module _ (v : Verb) (words rest : List Text) (is : words ≡ name_of v ∷ rest) (plain : list_all is_plain rest ≡ true) where
  pub words_refused : (fault_of special_app words ≡ [] → ⊥) → length words ≡ length (arguments_of v) + 1 → ⊥
  words_refused due e = due (ap (fault_of special_app) is ∙ verb_takes v rest plain (omega (arith, ap length is)))

  pub words_given : fault_of special_app words ≡ [] → given_of (arguments_of v) (subcommand_of special_app words) ≡ map Some (drop 1 words)
  words_given none =
      ap (λ ws. given_of (arguments_of v) (subcommand_of special_app ws)) is ∙ verb_given v rest plain (sym (ap (fault_of special_app) is) ∙ none)
      ∙ ap (λ ws. map Some (drop 1 ws)) (sym is)

  pub words_read : (r : Result ArgMatches WordsFault) → IfOk r (λ _. fault_of special_app words ≡ []) → IfOk r (λ m. subcommand_rows_of m ≡ subcommand_of special_app words)
      → IfOk r (λ m. given_of (arguments_of v) (subcommand_rows_of m) ≡ map Some (drop 1 words))
  words_read (Ok m) none rows = ap (given_of (arguments_of v)) rows ∙ words_given none
  words_read (Err fault) none rows = tt

verb_by : (t : Text) (v : Verb) (a b c d e f g h i : Bool)
    → bytes_eq t (codes "check") ≡ a → bytes_eq t (codes "formulas") ≡ b → bytes_eq t (codes "prove") ≡ c → bytes_eq t (codes "verify") ≡ d
    → bytes_eq t (codes "migrate") ≡ e → bytes_eq t (codes "run") ≡ f → bytes_eq t (codes "compare") ≡ g → bytes_eq t (codes "hierarchy") ≡ h
    → bytes_eq t (codes "sample") ≡ i
    → cond a (Some Check) (cond b (Some Formulas) (cond c (Some Prove) (cond d (Some Verify) (cond e (Some Migrate) (cond f (Some Run) (cond g (Some Compare) (cond h (Some Hierarchy) (cond i (Some Sample) None))))))))
    ≡ Some v → t ≡ name_of v
verb_by t v true b c d e f g h i pa pb pc pd pe pf pg ph pi e1 = let is : Check ≡ v = cc in (bytes_eq-Decides t (codes "check")).0 pa ∙ ap name_of is
verb_by t v false true c d e f g h i pa pb pc pd pe pf pg ph pi e1 = let is : Formulas ≡ v = cc in (bytes_eq-Decides t (codes "formulas")).0 pb ∙ ap name_of is
verb_by t v false false true d e f g h i pa pb pc pd pe pf pg ph pi e1 = let is : Prove ≡ v = cc in (bytes_eq-Decides t (codes "prove")).0 pc ∙ ap name_of is
verb_by t v false false false true e f g h i pa pb pc pd pe pf pg ph pi e1 = let is : Verify ≡ v = cc in (bytes_eq-Decides t (codes "verify")).0 pd ∙ ap name_of is
verb_by t v false false false false true f g h i pa pb pc pd pe pf pg ph pi e1 = let is : Migrate ≡ v = cc in (bytes_eq-Decides t (codes "migrate")).0 pe ∙ ap name_of is
verb_by t v false false false false false true g h i pa pb pc pd pe pf pg ph pi e1 = let is : Run ≡ v = cc in (bytes_eq-Decides t (codes "run")).0 pf ∙ ap name_of is
verb_by t v false false false false false false true h i pa pb pc pd pe pf pg ph pi e1 = let is : Compare ≡ v = cc in (bytes_eq-Decides t (codes "compare")).0 pg ∙ ap name_of is
verb_by t v false false false false false false false true i pa pb pc pd pe pf pg ph pi e1 = let is : Hierarchy ≡ v = cc in (bytes_eq-Decides t (codes "hierarchy")).0 ph ∙ ap name_of is
verb_by t v false false false false false false false false true pa pb pc pd pe pf pg ph pi e1 = let is : Sample ≡ v = cc in (bytes_eq-Decides t (codes "sample")).0 pi ∙ ap name_of is
verb_by t v false false false false false false false false false pa pb pc pd pe pf pg ph pi e1 = cc

-- the words of a command stand behind its name
module _ {A : Type 0} where
  pub form_of : (ws : List (String A)) (s : String A) (t : Text) (v : Verb) → 1 ≤ length ws → s ≡ slice_index_or ws 0 s → t ≡ string_bytes s → verb_of t ≡ Some v
      → list_all is_plain (texts_of (take (length ws - 1) (drop 1 ws))) ≡ true → (rest : List Text) × (texts_of ws ≡ name_of v ∷ rest) × (list_all is_plain rest ≡ true)
  form_of [] s t v le is text verb plain = absurd (omega arith)
  form_of (w ∷ ws) s t v le is text verb plain =
      let first : string_bytes w ≡ name_of v = ap string_bytes (sym is) ∙ sym text ∙ verb_by t v _ _ _ _ _ _ _ _ _ refl refl refl refl refl refl refl refl refl verb in
      let all : take (length (w ∷ ws) - 1) ws ≡ ws = take_all _ ws (omega arith) in
      (texts_of ws, ap (λ x. x ∷ texts_of ws) first, ap (λ us. list_all is_plain (texts_of us)) (sym all) ∙ plain)

-- a verb's command over given words
pub given_command : (v : Verb) (ws : List Text) → command_given v (map Some ws) ≡ command_with v ws
given_command Check [] = refl
given_command Check (a ∷ []) = refl
given_command Check (a ∷ b ∷ ws) = refl
given_command Formulas [] = refl
given_command Formulas (a ∷ []) = refl
given_command Formulas (a ∷ b ∷ ws) = refl
given_command Prove [] = refl
given_command Prove (a ∷ []) = refl
given_command Prove (a ∷ b ∷ ws) = refl
given_command Verify [] = refl
given_command Verify (a ∷ []) = refl
given_command Verify (a ∷ b ∷ []) = refl
given_command Verify (a ∷ b ∷ c ∷ ws) = refl
given_command Migrate [] = refl
given_command Migrate (a ∷ []) = refl
given_command Migrate (a ∷ b ∷ []) = refl
given_command Migrate (a ∷ b ∷ c ∷ ws) = refl
given_command Run [] = refl
given_command Run (a ∷ []) = refl
given_command Run (a ∷ b ∷ []) = refl
given_command Run (a ∷ b ∷ c ∷ []) = refl
given_command Run (a ∷ b ∷ c ∷ d ∷ ws) = refl
given_command Compare [] = refl
given_command Compare (a ∷ []) = refl
given_command Compare (a ∷ b ∷ []) = refl
given_command Compare (a ∷ b ∷ c ∷ []) = refl
given_command Compare (a ∷ b ∷ c ∷ d ∷ []) = refl
given_command Compare (a ∷ b ∷ c ∷ d ∷ e ∷ ws) = refl
given_command Hierarchy [] = refl
given_command Hierarchy (a ∷ []) = refl
given_command Hierarchy (a ∷ b ∷ ws) = refl
given_command Sample [] = refl
given_command Sample (a ∷ []) = refl
given_command Sample (a ∷ b ∷ ws) = refl

verb_named : (v : Verb) → verb_of (name_of v) ≡ Some v
verb_named Check = refl
verb_named Formulas = refl
verb_named Prove = refl
verb_named Verify = refl
verb_named Migrate = refl
verb_named Run = refl
verb_named Compare = refl
verb_named Hierarchy = refl
verb_named Sample = refl

-- what the given words come to is what the words are
pub command_is : (v : Verb) (words rest : List Text) (given : List (Option Text)) (m : Option Command) → words ≡ name_of v ∷ rest → list_all is_plain rest ≡ true
    → given ≡ map Some (drop 1 words) → m ≡ command_given v given → command_of words ≡ m
command_is v words rest given m is plain all one =
    let with : command_with v rest ≡ m =
    sym (given_command v rest) ∙ ap (command_given v) (sym (all ∙ ap (λ ws. map Some (drop 1 ws)) is)) ∙ sym one
    in
    ap command_of is ∙ ap (λ b. cond b (option_and_then (λ u. command_with u rest) (verb_of (name_of v))) None) plain
    ∙ ap (option_and_then (λ u. command_with u rest)) (verb_named v) ∙ with
