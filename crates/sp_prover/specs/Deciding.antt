-- What deciding a formula answers: a certificate that checks, the first open branch, or that too many atoms are undetermined.
-- For those who decide formulas, and those who report what was decided.
use Rattle.std.specs.Prelude.{◌≡◌, ℕ, ◌<◌, ◌≤◌, ◌⊎◌, Bool, true, false, List, length, slice_index, slice_index_or, Option, None}
use Rattle.either.specs.declared.Either.{Either}
use Rattle.either.specs.Either.{MatchEither}
use Rattle.sp_rules.specs.Branches.{HasClash}
use Rattle.sp_rules.specs.Clash.{is_clash}
use Rattle.sp_rules.specs.Facts.{has_truth, is_one_of, with_fact}
use Rattle.sp_rules.specs.Follows.{Follows}
use Rattle.sp_rules.specs.Questions.{Question}
use Rattle.sp_rules.specs.Terms.{Terms}
use Rattle.sp_rules.specs.declared.fact.Fact.{Fact}
use Rattle.sp_rules.specs.declared.fact.Fact.TheVariants.{Eq}
use Rattle.sp_cert.specs.declared.cert.Cert.{Cert}
use Rattle.sp_cert.specs.declared.cert.CertFault.{CertFault}
use Rattle.sp_cert.specs.Tree.{Tree, Split, Leaf, Steps, tree}
use Rattle.sp_cert.specs.Within.{IsTree}
use Rattle.sp_checker.specs.Accepting.{fault_for}
use Rattle.sp_checker.specs.Migration.{IsPlain}
use Rattle.sp_core.specs.Parts.{Parts}
use Rattle.sp_sequent.specs.Claims.{Claim}
use Rattle.sp_claims.specs.Laws.{HasNoOpenBranch, IsOpenIn}
use Rattle.sp_claims.specs.Models.{ClaimHolds}
use Rattle.sp_prover.specs.declared.branch.Branch.{Branch}
use Rattle.sp_prover.specs.declared.branch.DecideFault.{DecideFault}
use Rattle.sp_prover.specs.declared.branch.DecideFault.TheVariants.{TooManyAtoms, Memory}
use Rattle.sp_prover.specs.Order.{IsNotAfter}

-- the constants TRUE, which is term 0, and FALSE, which is term 1, clash
abbrev pub HasTruths : Terms → Type 0
HasTruths ts = is_clash ts (Eq 0 1) ≡ true

-- the truth value of a term follows from a set of facts
abbrev pub IsDetermined : Terms → (Fact → Bool) → ℕ → Type 0
IsDetermined ts h t = Follows ts h (has_truth t true) ⊎ Follows ts h (has_truth t false)

-- the indices, in order, of those of the first n atoms that a set of facts leaves undetermined
pub record AreUndeterminedBelow (ts : Terms) (h : Fact → Bool) (atoms : List ℕ) (n : ℕ) (places : List ℕ) : Type 0 where
  pub within : (i : ℕ) → i < length places → slice_index places i < n
  pub rising : (i j : ℕ) → i < j → j < length places → slice_index places i < slice_index places j
  pub free : (i : ℕ) → i < length places → IsDetermined ts h (slice_index atoms (slice_index places i)) → ⊥
  pub all : (k : ℕ) → k < n → IsDetermined ts h (slice_index atoms k) ⊎ ((i : ℕ) × (i < length places) × (slice_index places i ≡ k))

abbrev pub AreUndetermined : Terms → (Fact → Bool) → List ℕ → List ℕ → Type 0
AreUndetermined ts h atoms places = AreUndeterminedBelow ts h atoms (length atoms) places

-- the given facts alone leave so many atoms undetermined
abbrev pub LeavesUndetermined : Question → ℕ → Type 0
LeavesUndetermined q n = (places : List ℕ) × AreUndetermined q.terms (is_one_of q.given) q.atoms places × (length places ≡ n)

-- a clash follows from the given facts alone
abbrev pub IsClashing : Question → Type 0
IsClashing q = HasClash q.terms (is_one_of q.given)

-- Certificates

-- each leaf has at most m steps
abbrev pub IsShort : ℕ → Tree → Type 0
IsShort m (Leaf steps) = length steps ≤ m
IsShort m (Split a t f) = IsShort m t × IsShort m f
IsShort m (Steps steps t) = IsShort m t

-- each split is at an atom that what is given and the splits around it leave undetermined
abbrev pub SplitsUndetermined : Terms → List ℕ → (Fact → Bool) → Tree → Type 0
SplitsUndetermined ts atoms h (Leaf steps) = Unit {0}
SplitsUndetermined ts atoms h (Split a t f) =
    (IsDetermined ts h (slice_index atoms a) → ⊥) × SplitsUndetermined ts atoms (with_fact (has_truth (slice_index atoms a) true) h) t
    × SplitsUndetermined ts atoms (with_fact (has_truth (slice_index atoms a) false) h) f
SplitsUndetermined ts atoms h (Steps steps t) = SplitsUndetermined ts atoms h t

abbrev pub no_fault : Option CertFault
no_fault = None

-- the certificate checks and has no STEPS nodes, its leaves are short, it splits no atom that is determined, and a text can
-- spell it in each format; and no branch is open
pub record IsProof (q : Question) (t : Tree) : Type 0 where
  pub checks : fault_for q t ≡ no_fault
  pub plain : IsPlain t
  pub short : IsShort 524288 t
  pub lean : SplitsUndetermined q.terms q.atoms (is_one_of q.given) t
  pub spelled : (v : ℕ) → IsTree v 64 t
  pub closed : HasNoOpenBranch q

-- Branches

-- a branch's value of the k-th atom
abbrev pub values_of : Branch → ℕ → Bool
values_of b k = slice_index_or b.values.items k false

-- the branch has a value for each atom and is open, and no open branch is before it
pub record IsFirstOpen (q : Question) (b : Branch) : Type 0 where
  pub as_many : length b.values.items ≡ length q.atoms
  pub is_open : IsOpenIn q (values_of b)
  pub least : (w : ℕ → Bool) → IsOpenIn q w → IsNotAfter (length q.atoms) (values_of b) w

-- Answers

-- a certificate that checks, where no branch is open; else the first open branch
abbrev pub Decides : Question → Either Cert Branch → Type 0
Decides q e = MatchEither e (λ c. IsProof q (tree c)) (λ b. IsFirstOpen q b)

-- a clash follows from the given facts alone, or they leave at most twenty atoms undetermined
abbrev pub LeavesFew : Question → Type 0
LeavesFew q = IsClashing q ⊎ ((n : ℕ) × LeavesUndetermined q n × (n ≤ 20))

-- no clash follows from the given facts alone, and they leave this many atoms undetermined, more than twenty
abbrev pub IsRefused : Question → DecideFault → Type 0
IsRefused q (TooManyAtoms n) = (IsClashing q → ⊥) × LeavesUndetermined q n × (20 < n)
IsRefused q Memory = Unit {0}

-- a certificate tells that the formula holds in every instance
abbrev pub Tells : Parts → Claim → Either Cert Branch → Type 0
Tells p c e = MatchEither e (λ cert. ClaimHolds p c) (λ b. Unit {0})
