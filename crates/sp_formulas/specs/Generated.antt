-- What a part of the generator has added to the list, and when it refuses.
use Rattle.std.specs.Prelude.{◌≡◌, ℕ, ◌+◌, if◌then◌else◌, List, ◌++◌, length, map, Option, Some, None}
use denote.Bor.{Bor}
use Rattle.sp_values.specs.declared.value.Ty.{Ty}
use Rattle.sp_core.specs.Parts.{Parts}
use Rattle.sp_values.specs.declared.value.Op.TheVariants as op
use Rattle.sp_core.specs.Tree.{Tree, Not, Two, tree, trees_of}
use Rattle.sp_core.specs.declared.expr.Expr.{Expr}
use Rattle.sp_sequent.specs.declared.formula.Formula.{Formula as Made}
use Rattle.sp_formulas.specs.Formulas.{About, Formula, Spot, formula, formula_as}
use Rattle.sp_formulas.specs.Limits.{first_fault}
use Rattle.sp_formulas.specs.Moves.{put}
use Rattle.sp_formulas.specs.declared.fault.FormulaFault.{FormulaFault}
use Rattle.sp_formulas.specs.declared.fault.FormulaFault.TheVariants as fault
use Rattle.sp_formulas.specs.declared.spot.Hypothesis.{Hypothesis}
use Rattle.sp_formulas.specs.declared.spot.Level.{Level}
use Rattle.sp_formulas.specs.declared.spot.Place.{Place}
use Rattle.sp_formulas.specs.declared.spot.Subject.{Subject}
use Rattle.sp_formulas.specs.declared.spot.Goal.{Goal}
use Rattle.sp_formulas.specs.declared.spot.Goal.TheVariants as how

-- a hypothesis: a condition, or its denial
abbrev pub hypothesis_tree : Hypothesis → Tree
hypothesis_tree h = if h.denied then Not (tree h.e.now) else tree h.e.now

-- a level term, at arguments where there are some
abbrev pub level_tree : Level → Tree
level_tree l = by l.args
  where
    by : Option (Bor (List Expr)) → Tree
    by None = tree l.term.now
    by (Some ds) = put (trees_of (map tree ds.now)) (tree l.term.now)

-- a goal: one level is at or below another, or two values are the same
abbrev pub goal_tree : Goal → Tree
goal_tree (how.Below a b) = Two op.LevelLe (level_tree a) (level_tree b)
goal_tree (how.Equal a b) = Two op.Same (tree a.now) (tree b.now)

-- what a formula is about
abbrev pub about_of : Subject → About
about_of o = record { kind = o.kind; fun = o.fun; name = o.name.now; formals = o.formals.now }

-- the formula about it, over these bound variables
abbrev pub formula_of : Parts → Subject → List Ty → List Hypothesis → Goal → Formula
formula_of p o bound hyps goal = formula p (about_of o) o.known bound (map hypothesis_tree hyps) (goal_tree goal)

-- where references stand, with these bound variables around
abbrev pub spot_of : Place → List Ty → Spot
spot_of o bound = record { about = about_of o.subject; known = o.subject.known; bound = bound; upper = level_tree o.upper }

-- these formulas stand at the end, and none of them exceeds a limit
pub record IsAdded (p : Parts) (old new : List Made) (fs : List Formula) : Type 0 where
  pub made : map formula_as new ≡ map formula_as old ++ fs
  pub within : first_fault p (length old + 1) fs ≡ None

-- the first limit that the formulas exceed, behind n others; want of memory has no cause
abbrev pub IsRefused : Parts → ℕ → List Formula → FormulaFault → Type 0
IsRefused p n fs fault.Memory = Unit {0}
IsRefused p n fs e = first_fault p (n + 1) fs ≡ Some e

-- what is added so far, with what is still to come, is all
abbrev pub IsUnderWay : Parts → List Made → List Made → List Formula → List Formula → Type 0
IsUnderWay p old now todo all = (fs : List Formula) × IsAdded p old now fs × (fs ++ todo ≡ all)
