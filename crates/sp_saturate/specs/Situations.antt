-- What is given and what is assumed, and the facts that follow, as contracts see them.
use Rattle.std.specs.Prelude.{◌≡◌, ℕ, ◌<◌, ◌≤◌, ◌↔◌, Bool, false, List, [], ◌∷◌, ◌++◌, All, IsTrue, length, take, slice_index, slice_index_or}
use Rattle.sp_rules.specs.Terms.{Terms, count}
use Rattle.sp_rules.specs.Facts.{has_truth, is_one_of}
use Rattle.sp_rules.specs.Follows.{Follows}
use Rattle.sp_rules.specs.Laws.{IsClosed, AreIn}
use Rattle.sp_rules.specs.Questions.{IsQuestion, Question, is_truth_below}
use Rattle.sp_rules.specs.declared.fact.Fact.{Fact}
use Rattle.sp_rules.specs.declared.fact.Fact.TheVariants.{Eq}
use Rattle.sp_rules.specs.declared.fact.Step.{Step}
use Rattle.sp_saturate.specs.Steps.{on, given_on}

-- a formula, and the truth values of atoms that are assumed besides, in order
pub record Situation : Type 0 where
  pub question : Question
  pub assumed : List Fact

-- the same with one assumption more: that the atom of this index has this truth value
abbrev pub assuming : Situation → ℕ → Bool → Situation
assuming s a b = record s { assumed = s.assumed ++ has_truth (slice_index s.question.atoms a) b ∷ [] }

-- the fact is given or assumed
abbrev pub supposed : Situation → Fact → Bool
supposed s = is_one_of (s.question.given ++ s.assumed)

-- the fact follows from the given ones and the assumptions
abbrev pub IsFollowing : Situation → Fact → Type 0
IsFollowing s f = Follows s.question.terms (supposed s) f

-- the facts of the list are those that follow, and none stands twice
pub record AreFollowing (s : Situation) (facts : List Fact) : Type 0 where
  pub each : (f : Fact) → IsTrue (is_one_of facts f) ↔ IsFollowing s f
  pub once : (k : ℕ) → k < length facts → is_one_of (take k facts) (slice_index_or facts k (Eq 0 0)) ≡ false

-- so many facts follow
abbrev pub FollowAsMany : Situation → ℕ → Type 0
FollowAsMany s n = (facts : List Fact) × AreFollowing s facts × (length facts ≡ n)

-- the steps have these facts given, no others, and are closed
pub record IsLevel (ts : Terms) (steps : List Step) (facts : List Fact) : Type 0 where
  pub given_only : AreIn (given_on steps) (is_one_of facts)
  pub has : AreIn (is_one_of facts) (on steps)
  pub closed : IsClosed ts (on steps)

-- what the facts keep: each assumption's trail before it, and the whole one
pub record AreKept (q : Question) (steps : List Step) (assumed : List Fact) (starts : List ℕ) : Type 0 where
  pub question : IsQuestion q
  pub truths : All (λ f. IsTrue (is_truth_below (count q.terms) f)) assumed
  pub as_many : length starts ≡ length assumed
  pub few : length assumed ≤ 20
  pub within : (k : ℕ) → k < length starts → slice_index starts k ≤ length steps
  pub rising : (j k : ℕ) → j < k → k < length starts → slice_index starts j ≤ slice_index starts k
  pub before : (k : ℕ) → k < length starts → IsLevel q.terms (take (slice_index starts k) steps) (q.given ++ take k assumed)
  pub whole : IsLevel q.terms steps (q.given ++ assumed)
