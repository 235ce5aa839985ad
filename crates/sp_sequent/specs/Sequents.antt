-- A formula in numbers: its hypotheses, its goal, its atoms and its level terms by the numbers of its subterms. For those
-- who search for open branches and those who check certificates.
use Rattle.std.specs.Prelude.{◌<◌, ℕ, Bool, List, All, length, map}
use Rattle.sp_pool.specs.declared.node.Node.{Node}
use Rattle.sp_core.specs.Parts.{Parts}
use Rattle.sp_rules.specs.Questions.{Question, given_facts}

-- the numbers of its hypotheses, its goal and its atoms, and of each term, by its number, whether it is a level term
pub record TermNumbers : Type 0 where
  pub hypotheses : List ℕ
  pub goal : ℕ
  pub atoms : List ℕ
  pub levels : List Bool

-- the numbers are those of terms
pub record AreTerms (s : TermNumbers) : Type 0 where
  pub hypotheses : All (λ t. t < length s.levels) s.hypotheses
  pub goal : s.goal < length s.levels
  pub atoms : All (λ t. t < length s.levels) s.atoms

-- The same as closure, search and checker see it, over the nodes of a pool: each hypothesis is given as TRUE and the goal
-- as FALSE.
abbrev pub question_over : Parts → List Node → TermNumbers → Question
question_over p nodes s = record { terms = record { nodes = nodes; levels = s.levels; lattice = p.lattice }; given = given_facts s.hypotheses s.goal; atoms = s.atoms }
