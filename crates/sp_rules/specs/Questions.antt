-- A formula as the closure sees it. For those who open a closure, a search or a checker.
use Rattle.std.specs.Prelude.{◌++◌, ◌∷◌, [], ◌<◌, ◌&&◌, ℕ, Bool, true, false, All, IsTrue, List, map, nat_lt}
use Rattle.sp_pool.specs.declared.node.TermId.{TermId}
use Rattle.sp_rules.specs.Terms.{Terms, AreSmall, count}
use Rattle.sp_rules.specs.Facts.{has_truth}
use Rattle.sp_rules.specs.declared.fact.Fact.{Fact}
use Rattle.sp_rules.specs.declared.fact.Fact.TheVariants.{Eq, Le}

-- its terms, what is given of them, and its atoms in order
pub record Question : Type 0 where
  pub terms : Terms
  pub given : List Fact
  pub atoms : List ℕ

abbrev pub numbers : List TermId → List ℕ
numbers terms = map (λ t. t.0) terms

-- each hypothesis is TRUE, and the goal is FALSE
abbrev pub given_facts : List ℕ → ℕ → List Fact
given_facts hypotheses goal = map (λ h. has_truth h true) hypotheses ++ has_truth goal false ∷ []

-- that a term below n is TRUE or FALSE
abbrev pub is_truth_below : ℕ → Fact → Bool
is_truth_below n (Eq i j) = nat_lt i n && nat_lt j 2
is_truth_below n (Le i j) = false

-- the terms are few, the given facts are truth values of terms, and the atoms are terms
pub record IsQuestion (q : Question) : Type 0 where
  pub small : AreSmall q.terms
  pub given : All (λ f. IsTrue (is_truth_below (count q.terms) f)) q.given
  pub atoms : All (λ a. a < count q.terms) q.atoms
