-- The words after a verb are judged by its command alone.
use Rattle.std.proofs.Common.{◌≡◌, ◌∙◌, ◌++◌, ℕ, List, [], ◌∷◌, Some, None, Option, refl, sym, ap, ap₂, codes, fold, is_some, length, map, append-nil, append_assoc, true, false}
use Rattle.std.specs.List.{list_all}
use Rattle.clap.specs.Faults.{check_fault, defaults_fault, entered_fault, fault_of, level_fault, settle_fault, turn_fault, walk_fault}
use Rattle.clap.specs.Kinds.{Kinds, or_else}
use Rattle.clap.specs.Simple.{App, Shape, built, entered, names_of}
use Rattle.clap.specs.Walk.{Names, Row, Rule, Text, Walk, finished, nothing_held, rows_after, settled, walk_from, walked}
use Rattle.clap.specs.Words.{is_simple, is_simple_and_free, subcommand_of}
use Rattle.clap.proofs.FaultLemmas.{stopped_fault}
use Rattle.clap.proofs.OnLiterals.{clap_on_literals}
use Rattle.sp_words.specs.App.{four_words, named_word, one_word, special_app, three_words, two_words}
use Rattle.sp_words.specs.Given.{given_of}
use Rattle.sp_words.specs.Verb.{arguments_of, name_of}
use Rattle.sp_words.specs.Words.{is_plain}
use Rattle.sp_words.specs.declared.verb.Verb.{Verb}
use Rattle.sp_words.specs.declared.verb.Verb.TheVariants.{Check, Formulas, Prove, Verify, Migrate, Run, Compare, Hierarchy, Sample}
use Rattle.sp_words.proofs.Leaves.{Takes, an_interface, a_hierarchy, a_size, leaf_of, takes_one, takes_two, takes_three, takes_four}

abbrev app_of_verb : Verb → App
app_of_verb Check = one_word (name_of Check)
app_of_verb Formulas = one_word (name_of Formulas)
app_of_verb Prove = one_word (name_of Prove)
app_of_verb Verify = two_words (name_of Verify)
app_of_verb Migrate = two_words (name_of Migrate)
app_of_verb Run = three_words (name_of Run)
app_of_verb Compare = four_words (name_of Compare)
app_of_verb Hierarchy = named_word (codes "H") (name_of Hierarchy)
app_of_verb Sample = named_word (codes "N") (name_of Sample)

abbrev shape_of_verb : Verb → Shape
shape_of_verb v = leaf_of (app_of_verb v)

takes : (v : Verb) → Takes (shape_of_verb v) (arguments_of v)
takes Check = takes_one an_interface (name_of Check)
takes Formulas = takes_one an_interface (name_of Formulas)
takes Prove = takes_one an_interface (name_of Prove)
takes Verify = takes_two (name_of Verify)
takes Migrate = takes_two (name_of Migrate)
takes Run = takes_three (name_of Run)
takes Compare = takes_four (name_of Compare)
takes Hierarchy = takes_one a_hierarchy (name_of Hierarchy)
takes Sample = takes_one a_size (name_of Sample)

-- its matches and its faults are those that `clap` promises of a simple command
pub free : is_simple_and_free special_app ≡ true
unfolding clap_on_literals
free = refl

pub simple : is_simple special_app ≡ true
unfolding clap_on_literals
simple = refl

-- the program's command as it is built
abbrev app : App
app = built special_app

abbrev top : Shape
top = app.top

abbrev names : Names
names = names_of app

abbrev start : Walk
start = walk_from nothing_held

-- once a subcommand is met, the walk only keeps the words
walk_stopped : (c : List Rule) (ns : Names) (w : Walk) (name : Text) (met rest : List Text)
    → fold (walked c ns) (record w { stopped = Some (name, met) }) rest ≡ record w { stopped = Some (name, met ++ rest) }
unfolding walked
walk_stopped c ns w name met [] = ap (λ ws. record w { stopped = Some (name, ws) }) (sym (append-nil met))
walk_stopped c ns w name met (x ∷ rest) =
    walk_stopped c ns w name (met ++ x ∷ []) rest ∙ ap (λ ws. record w { stopped = Some (name, ws) }) (append_assoc met (x ∷ []) rest)

-- what the words come to, by where the walk over them ends
abbrev fault_from : Walk → Kinds → Kinds
fault_from w faults = or_else faults
    (or_else (entered_fault app w.stopped) (or_else (settle_fault top.rules top.args_override_self w.held)
    (or_else (defaults_fault (settled top.rules w.held).rows top.rules)
    (check_fault top (finished top.rules w.held) (is_some (entered app w.stopped))))))

fault_is : (first : Text) (ws : List Text) → fault_of special_app (first ∷ ws) ≡ fault_from (fold (walked top.rules names) (walked top.rules names start first) ws)
    (or_else (turn_fault top names start first) (walk_fault top names (walked top.rules names start first) ws))
unfolding walk_fault
fault_is first ws = refl

met : (v : Verb) → walked top.rules names start (name_of v) ≡ record start { stopped = Some (name_of v, []) }
unfolding clap_on_literals
met Check = refl
met Formulas = refl
met Prove = refl
met Verify = refl
met Migrate = refl
met Run = refl
met Compare = refl
met Hierarchy = refl
met Sample = refl

turn : (v : Verb) → turn_fault top names start (name_of v) ≡ []
unfolding clap_on_literals
turn Check = refl
turn Formulas = refl
turn Prove = refl
turn Verify = refl
turn Migrate = refl
turn Run = refl
turn Compare = refl
turn Hierarchy = refl
turn Sample = refl

top_fault : (v : Verb) (ws : List Text) → fault_from (record start { stopped = Some (name_of v, ws) }) [] ≡ or_else (level_fault (shape_of_verb v) [] nothing_held ws false []) []
unfolding clap_on_literals
top_fault Check ws = refl
top_fault Formulas ws = refl
top_fault Prove ws = refl
top_fault Verify ws = refl
top_fault Migrate ws = refl
top_fault Run ws = refl
top_fault Compare ws = refl
top_fault Hierarchy ws = refl
top_fault Sample ws = refl

entered_is : (v : Verb) (ws : List Text) → entered app (Some (name_of v, ws)) ≡ Some (name_of v, rows_after (shape_of_verb v).rules [] ws)
unfolding clap_on_literals
entered_is Check ws = refl
entered_is Formulas ws = refl
entered_is Prove ws = refl
entered_is Verify ws = refl
entered_is Migrate ws = refl
entered_is Run ws = refl
entered_is Compare ws = refl
entered_is Hierarchy ws = refl
entered_is Sample ws = refl

verb_fault : (v : Verb) (ws : List Text) → fault_of special_app (name_of v ∷ ws) ≡ or_else (level_fault (shape_of_verb v) [] nothing_held ws false []) []
verb_fault v ws =
    fault_is (name_of v) ws
    ∙ ap (λ (w : Walk). fault_from (fold (walked top.rules names) w ws) (or_else (turn_fault top names start (name_of v)) (walk_fault top names w ws))) (met v)
    ∙ ap₂ (λ (w : Walk) (f : Kinds). fault_from w (or_else (turn_fault top names start (name_of v)) f))
    (walk_stopped top.rules names start (name_of v) [] ws) (stopped_fault top names start (name_of v, []) ws)
    ∙ ap (λ (t : Kinds). fault_from (record start { stopped = Some (name_of v, ws) }) (or_else t [])) (turn v)
    ∙ top_fault v ws

verb_rows : (v : Verb) (ws : List Text) → subcommand_of special_app (name_of v ∷ ws) ≡ Some (name_of v, rows_after (shape_of_verb v).rules [] ws)
verb_rows v ws =
    ap (λ (w : Walk). entered app (fold (walked top.rules names) w ws).stopped) (met v)
    ∙ ap (λ (w : Walk). entered app w.stopped) (walk_stopped top.rules names start (name_of v) [] ws)
    ∙ entered_is v ws

or_else_left : (k : Kinds) → or_else k [] ≡ [] → k ≡ []
or_else_left [] e = refl
or_else_left (x ∷ k) e = e

-- a verb takes as many plain words as it has arguments
pub verb_takes : (v : Verb) (ws : List Text) → list_all is_plain ws ≡ true → length ws ≡ length (arguments_of v) → fault_of special_app (name_of v ∷ ws) ≡ []
verb_takes v ws p e = verb_fault v ws ∙ ap (λ k. or_else k []) ((takes v).right ws p e)

-- what it takes it gives its arguments
pub verb_given : (v : Verb) (ws : List Text) → list_all is_plain ws ≡ true → fault_of special_app (name_of v ∷ ws) ≡ []
    → given_of (arguments_of v) (subcommand_of special_app (name_of v ∷ ws)) ≡ map Some ws
verb_given v ws p e =
    ap (given_of (arguments_of v)) (verb_rows v ws) ∙ (takes v).given ws p (or_else_left _ (sym (verb_fault v ws) ∙ e))
