-- The limits of one formula.
use Rattle.std.specs.Prelude.{ℕ, ◌+◌, ◌≤◌, List, [], ◌∷◌, ◌++◌, length}
use Rattle.sp_text.specs.declared.limits.TheConstants.{MOST_FORMULA_NODES, MOST_TERMS}
use Rattle.sp_core.specs.Measures.{nodes, nodes_in}
use Rattle.sp_core.specs.Tree.{Tree, trees_of}
use Rattle.sp_sequent.specs.Subterms.{subterms}

-- how many nodes these hypotheses and this goal have together
abbrev pub formula_nodes : List Tree → Tree → ℕ
formula_nodes hypotheses goal = nodes_in (trees_of hypotheses) + nodes goal

-- their different subterms, TRUE and FALSE first
abbrev pub formula_terms : List Tree → Tree → List Tree
formula_terms hypotheses goal = subterms (hypotheses ++ goal ∷ [])

-- the nodes of a formula are few
abbrev pub HasFewNodes : List Tree → Tree → Type 0
HasFewNodes hypotheses goal = formula_nodes hypotheses goal ≤ MOST_FORMULA_NODES

-- its terms are few
abbrev pub HasFewTerms : List Tree → Tree → Type 0
HasFewTerms hypotheses goal = length (formula_terms hypotheses goal) ≤ MOST_TERMS
