-- Plain words that the arguments of a command take one after the other, as `clap` walks over them.
use Rattle.std.proofs.Common.{◌≡◌, ◌==◌, ◌∙◌, ◌+◌, ◌++◌, ℕ, List, [], ◌∷◌, Some, None, Option, refl, sym, ap, ap₂, true, false, true≢false, fold, append-nil}
use Rattle.std.specs.Str.{bytes_eq}
use Rattle.clap.specs.Faults.{check_fault, defaults_fault, level_fault, settle_fault, step_fault, turn_fault, walk_fault}
use Rattle.clap.specs.Kinds.{Kinds, or_else}
use Rattle.clap.specs.Lexer.{long_of, short_of}
use Rattle.clap.specs.Simple.{Shape}
use Rattle.clap.specs.Walk.{Held, Rule, Text, Walk, arg_by_index, finished, idle, nothing_held, settled, to_positional, value, walked}
use Rattle.clap.specs.declared.error.kind.ErrorKind.TheVariants as kind
use Rattle.clap.proofs.SimpleLemmas.{is_false}
use Rattle.clap.proofs.WalkLemmas.{both}
use Rattle.sp_words.specs.Words.{is_plain}

-- a word that `clap` takes for no flag
pub record IsNoFlag (x : Text) : Type 0 where
  pub no_long : long_of x ≡ None
  pub no_short : short_of x ≡ None
  pub no_dashes : bytes_eq x (45 ∷ 45 ∷ []) ≡ false

pub plain_no_flag : (x : Text) → is_plain x ≡ true → IsNoFlag x
plain_no_flag [] p = absurd (true≢false (sym p))
plain_no_flag (b ∷ rest) p =
    let no : (b == 45) ≡ false = is_false (b == 45) (both _ _ p).0 in
    record { no_long = rw no refl; no_short = rw no refl; no_dashes = rw no refl }

-- the walk before the argument of number k
abbrev pub at : Held → ℕ → Walk
at h k = record { held = h; waiting = idle; position = k; is_trailing = false; stopped = None }

-- what is held once that argument has taken a word
abbrev pub held_after : Shape → ℕ → Text → Held → Held
held_after s k x h = (to_positional s.rules (arg_by_index s.rules k) x (at h k) h).held

plain_step : (c : List Rule) (h : Held) (k : ℕ) (x : Text) → IsNoFlag x → walked c [] (at h k) x ≡ to_positional c (arg_by_index c k) x (at h k) h
unfolding walked
plain_step c h k x n = simp (n.no_long, n.no_short, n.no_dashes)

plain_turn : (s : Shape) (h : Held) (k : ℕ) (x : Text) → IsNoFlag x → turn_fault s [] (at h k) x ≡ step_fault s k h value
plain_turn s h k x n = simp (n.no_long, n.no_short, n.no_dashes)

-- from one place the walk comes to another over these words, without a fault
pub record Walks (s : Shape) (h : Held) (k : ℕ) (ws : List Text) (last : Held) (end : ℕ) : Type 0 where
  pub walk : fold (walked s.rules []) (at h k) ws ≡ at last end
  pub faults : (rest : List Text) → walk_fault s [] (at h k) (ws ++ rest) ≡ walk_fault s [] (at last end) rest

pub stay : (s : Shape) (h : Held) (k : ℕ) → Walks s h k [] h k
stay s h k = record { walk = refl; faults = λ rest. refl }

pub go : (s : Shape) (h : Held) (k : ℕ) (x : Text) (ws : List Text) (last : Held) (end : ℕ) → IsNoFlag x
    → to_positional s.rules (arg_by_index s.rules k) x (at h k) h ≡ at (held_after s k x h) (k + 1) → step_fault s k h value ≡ []
    → Walks s (held_after s k x h) (k + 1) ws last end → Walks s h k (x ∷ ws) last end
unfolding walk_fault
go s h k x ws last end n step turn w =
    let one : walked s.rules [] (at h k) x ≡ at (held_after s k x h) (k + 1) = plain_step s.rules h k x n ∙ step in
    record {
      walk = ap (λ v. fold (walked s.rules []) v ws) one ∙ w.walk;
      faults = λ rest. ap₂ or_else (plain_turn s h k x n ∙ turn) (ap (λ v. walk_fault s [] v (ws ++ rest)) one) ∙ w.faults rest;
    }

-- what the words come to, by where the walk over them ends
abbrev pub leaf_from : Shape → Walk → Kinds → Kinds
leaf_from s w faults = or_else faults (or_else [] (or_else (settle_fault s.rules s.args_override_self w.held)
    (or_else (defaults_fault (settled s.rules w.held).rows s.rules) (check_fault s (finished s.rules w.held) false))))

pub ends : (s : Shape) (ws : List Text) (last : Held) (end : ℕ) → Walks s nothing_held 1 ws last end
    → level_fault s [] nothing_held ws false [] ≡ leaf_from s (at last end) []
unfolding walk_fault
ends s ws last end w = ap₂ (leaf_from s) w.walk (ap (walk_fault s [] (at nothing_held 1)) (sym (append-nil ws)) ∙ w.faults [])

-- a word behind the last argument is none of its own
pub strays : (s : Shape) (ws : List Text) (last : Held) (end : ℕ) (x : Text) (rest : List Text) → Walks s nothing_held 1 ws last end → IsNoFlag x
    → step_fault s end last value ≡ kind.UnknownArgument ∷ []
    → level_fault s [] nothing_held (ws ++ x ∷ rest) false [] ≡ kind.UnknownArgument ∷ []
unfolding walk_fault
strays s ws last end x rest w n stray =
    let turn : turn_fault s [] (at last end) x ≡ kind.UnknownArgument ∷ [] = plain_turn s last end x n ∙ stray in
    let all : walk_fault s [] (at nothing_held 1) (ws ++ x ∷ rest) ≡ kind.UnknownArgument ∷ [] =
    w.faults (x ∷ rest) ∙ ap (λ k. or_else k (walk_fault s [] (walked s.rules [] (at last end) x) rest)) turn in
    ap (leaf_from s (fold (walked s.rules []) (at nothing_held 1) (ws ++ x ∷ rest))) all
