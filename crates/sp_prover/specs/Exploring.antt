-- What the search answers below what is assumed. For its own functions.
use Rattle.std.specs.Prelude.{◌≡◌, ℕ, ◌+◌, ◌<◌, ◌≤◌, ◌⊎◌, Bool, List, length, slice_index, Result, Ok, Err}
use Rattle.either.specs.declared.Either.{Either}
use Rattle.either.specs.Either.{MatchEither}
use Rattle.sp_rules.specs.Branches.{HasClash, valued}
use Rattle.sp_rules.specs.Facts.{has_truth, is_one_of}
use Rattle.sp_rules.specs.Laws.{AreIn}
use Rattle.sp_rules.specs.Questions.{IsQuestion}
use Rattle.sp_saturate.specs.Situations.{IsFollowing, Situation, supposed}
use Rattle.sp_cert.specs.declared.cert.Cert.{Cert}
use Rattle.sp_cert.specs.Checks.{fault}
use Rattle.sp_cert.specs.Tree.{Tree, tree}
use Rattle.sp_cert.specs.Within.{IsTree}
use Rattle.sp_checker.specs.Known.{judge}
use Rattle.sp_checker.specs.Migration.{IsPlain}
use Rattle.sp_claims.specs.Laws.{IsOpenIn}
use Rattle.sp_prover.specs.declared.branch.Branch.{Branch}
use Rattle.sp_prover.specs.declared.branch.DecideFault.{DecideFault}
use Rattle.sp_prover.specs.declared.branch.DecideFault.TheVariants.{Memory}
use Rattle.sp_prover.specs.Deciding.{HasTruths, IsDetermined, IsShort, SplitsUndetermined, no_fault, values_of}
use Rattle.sp_prover.specs.Order.{IsNotAfter}

abbrev pub atom_at : Situation → ℕ → ℕ
atom_at s a = slice_index s.question.atoms a

-- the truth value of an atom follows
abbrev pub IsSettled : Situation → ℕ → Type 0
IsSettled s a = IsDetermined s.question.terms (supposed s) (atom_at s a)

-- a clash follows
abbrev pub IsClosed : Situation → Type 0
IsClosed s = HasClash s.question.terms (supposed s)

-- what is given or assumed is given, or is among the values of w
abbrev pub Allows : Situation → (ℕ → Bool) → Type 0
Allows s w = AreIn (supposed s) (valued s.question.atoms w (is_one_of s.question.given))

-- the tree checks below the assumptions, which no open branch has
pub record IsRefuted (s : Situation) (t : Tree) : Type 0 where
  pub checks : (nodes steps : ℕ) → fault (judge s.question.terms s.question.atoms) t (supposed s) (length s.assumed) nodes steps ≡ no_fault
  pub plain : IsPlain t
  pub short : IsShort 524288 t
  pub lean : SplitsUndetermined s.question.terms s.question.atoms (supposed s) t
  pub spelled : (v b : ℕ) → 20 ≤ b + length s.assumed → IsTree v b t
  pub closed : (w : ℕ → Bool) → Allows s w → IsOpenIn s.question w → ⊥

-- v is open and has each value that follows, and no open branch that has the assumptions is before it
pub record IsFirst (s : Situation) (v : ℕ → Bool) : Type 0 where
  pub is_open : IsOpenIn s.question v
  pub keeps : (k : ℕ) (b : Bool) → k < length s.question.atoms → IsFollowing s (has_truth (atom_at s k) b) → v k ≡ b
  pub least : (w : ℕ → Bool) → IsOpenIn s.question w → Allows s w → IsNotAfter (length s.question.atoms) v w

pub record IsFirstBranch (s : Situation) (b : Branch) : Type 0 where
  pub as_many : length b.values.items ≡ length s.question.atoms
  pub first : IsFirst s (values_of b)

-- a certificate, or the first open branch
abbrev pub Finds : Situation → Either Cert Branch → Type 0
Finds s e = MatchEither e (λ c. IsRefuted s (tree c)) (λ b. IsFirstBranch s b)

-- these are indices of atoms in order, at most twenty
pub record ArePlaces (atoms places : List ℕ) : Type 0 where
  pub within : (i : ℕ) → i < length places → slice_index places i < length atoms
  pub rising : (i j : ℕ) → i < j → j < length places → slice_index places i < slice_index places j
  pub few : length places ≤ 20

-- each atom's value follows but for some at the places from this one on
pub record IsPrepared (s : Situation) (places : List ℕ) (at : ℕ) : Type 0 where
  pub truths : HasTruths s.question.terms
  pub question : IsQuestion s.question
  pub few_atoms : length s.question.atoms ≤ 512
  pub chosen : ArePlaces s.question.atoms places
  pub place : at ≤ length places
  pub assumed : length s.assumed ≤ at
  pub rest : (k : ℕ) → k < length s.question.atoms → IsSettled s k ⊎ ((i : ℕ) × (at ≤ i) × (i < length places) × (slice_index places i ≡ k))

-- the same answer, or that memory is short
abbrev pub with_memory : {A B : Type 0} → Result A B → Result A DecideFault
with_memory (Ok a) = Ok a
with_memory (Err e) = Err Memory
