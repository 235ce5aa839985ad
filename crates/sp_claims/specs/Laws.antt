-- What makes a formula's hypotheses TRUE and its goal FALSE is an open branch of it.
use Rattle.std.specs.Prelude.{ℕ, Bool, slice_index}
use Rattle.sp_core.specs.Parts.{Parts}
use Rattle.sp_core.specs.Values.{is_true}
use Rattle.sp_core.specs.WellFormed.{IsWellFormed}
use Rattle.sp_rules.specs.Branches.{IsOpen}
use Rattle.sp_rules.specs.Facts.{is_one_of}
use Rattle.sp_rules.specs.Questions.{Question}
use Rattle.sp_sequent.specs.Claims.{Claim, IsTypedClaim, question_of, terms_in}
use Rattle.sp_claims.specs.Models.{ClaimHolds, IsAgainst, Moment, worth_at}

-- a branch is open over the given facts
abbrev pub IsOpenIn : Question → (ℕ → Bool) → Type 0
IsOpenIn q v = IsOpen q.terms q.atoms (is_one_of q.given) v

-- the values of a formula's atoms
abbrev pub atom_values : Parts → Claim → Moment → ℕ → Bool
atom_values p c m k = is_true (worth_at p m (terms_in c) (slice_index (question_of p c).atoms k))

-- the law: where all hypotheses are TRUE and the goal is FALSE, the values of the atoms are an open branch
abbrev pub CounterexamplesAreOpen : Type 0
CounterexamplesAreOpen = (p : Parts) (c : Claim) → IsWellFormed p → IsTypedClaim p c → (m : Moment) → IsAgainst p c m → IsOpenIn (question_of p c) (atom_values p c m)

-- no branch is open
abbrev pub HasNoOpenBranch : Question → Type 0
HasNoOpenBranch q = (v : ℕ → Bool) → IsOpenIn q v → ⊥

-- the law: a formula without an open branch holds
abbrev pub ClosedClaimsHold : Type 0
ClosedClaimsHold = (p : Parts) (c : Claim) → IsWellFormed p → IsTypedClaim p c → HasNoOpenBranch (question_of p c) → ClaimHolds p c
