-- What a formula says, and the numbers of its parts among its subterms. For whoever numbers a formula, and for the law that
-- a formula without an open branch is true.
use Rattle.std.specs.Prelude.{ℕ, List, All, map}
use Rattle.sp_values.specs.declared.value.Ty.{Ty}
use Rattle.sp_values.specs.declared.value.Ty.TheVariants as ty
use Rattle.sp_core.specs.Machine.{types_of}
use Rattle.sp_core.specs.Parts.{Parts, signature}
use Rattle.sp_core.specs.Tree.{Tree, tree}
use Rattle.sp_core.specs.Typing.{HasType}
use Rattle.sp_rules.specs.Questions.{Question}
use Rattle.sp_sequent.specs.declared.formula.Formula.{Formula}
use Rattle.sp_sequent.specs.Limits.{formula_terms}
use Rattle.sp_sequent.specs.Numbers.{nodes_of}
use Rattle.sp_sequent.specs.OwnTypes.{atoms_from, is_level}
use Rattle.sp_sequent.specs.Sequents.{TermNumbers, question_over}
use Rattle.sp_sequent.specs.Subterms.{number}

-- the types of its variables, its hypotheses and its goal
pub record Claim : Type 0 where
  pub types : List Ty
  pub hypotheses : List Tree
  pub goal : Tree

abbrev pub claim_of : Formula → Claim
claim_of f = record { types = types_of f.vars; hypotheses = map tree f.hyps; goal = tree f.goal }

-- hypotheses and goal are of type BOOLEAN over the variables
pub record IsTypedClaim (p : Parts) (c : Claim) : Type 0 where
  pub hypotheses : All (λ h. HasType (signature p) c.types h ty.Boolean) c.hypotheses
  pub goal : HasType (signature p) c.types c.goal ty.Boolean

-- its subterms in the order of their numbers: TRUE, FALSE, then the others in the order of their first end
abbrev pub terms_in : Claim → List Tree
terms_in c = formula_terms c.hypotheses c.goal

-- its numbers
abbrev pub numbers_of : Parts → Claim → TermNumbers
numbers_of p c = record {
  hypotheses = map (number (terms_in c)) c.hypotheses;
  goal = number (terms_in c) c.goal;
  atoms = atoms_from (signature p) c.types 0 (terms_in c);
  levels = map (is_level (signature p) c.types) (terms_in c);
}

-- the same as closure, search and checker see it
abbrev pub question_of : Parts → Claim → Question
question_of p c = question_over p (nodes_of (terms_in c)) (numbers_of p c)
