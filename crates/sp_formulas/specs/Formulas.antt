-- The flow formulas of a specification: what must hold so that it is secure.
use Rattle.std.specs.Prelude.{ℕ, ◌+◌, ◌==◌, if◌then◌else◌, List, [], ◌∷◌, ◌++◌, length, map, drop, Option, Some, None, slice_get}
use Rattle.std.specs.List.{flat_map}
use Rattle.std.specs.Fmt.{decimal}
use Rattle.sp_values.specs.declared.value.Value.TheVariants as value
use Rattle.sp_values.specs.declared.value.Ty.{Ty}
use Rattle.sp_values.specs.declared.value.Op.TheVariants as op
use Rattle.sp_core.specs.declared.function.Formal.{Formal}
use Rattle.sp_core.specs.declared.function.Function.{Function}
use Rattle.sp_core.specs.declared.function.Kind.{Kind}
use Rattle.sp_core.specs.declared.function.Kind.TheVariants as kind
use Rattle.sp_core.specs.Effects.{effect_trees}
use Rattle.sp_core.specs.Machine.{types_of}
use Rattle.sp_core.specs.Parts.{Parts}
use Rattle.sp_core.specs.Tree.{Tree, Trees, Const, Not, Two, none, more, tree}
use Rattle.sp_sequent.specs.declared.formula.Formula.{Formula as Made}
use Rattle.sp_sequent.specs.declared.formula.FormulaKind.{FormulaKind}
use Rattle.sp_sequent.specs.declared.formula.FormulaKind.TheVariants as is
use Rattle.sp_values.specs.Domains.{has_unknown}
use Rattle.sp_formulas.specs.Assertions.{instances, is_unknown}
use Rattle.sp_formulas.specs.Items.{Item, Deed, Change, Answer, items_in}
use Rattle.sp_formulas.specs.Moves.{put, raise, raise_all, settle}
use Rattle.sp_formulas.specs.References.{Reference, references, references_in}

-- a formula over plain trees
pub record Formula : Type 0 where
  pub kind : FormulaKind
  pub fun : ℕ
  pub name : List ℕ
  pub vars : List Formal
  pub hypotheses : List Tree
  pub goal : Tree

-- what a made formula is
abbrev pub formula_as : Made → Formula
formula_as f = record { kind = f.kind; fun = f.fun; name = f.name; vars = f.vars; hypotheses = map tree f.hyps; goal = tree f.goal }

-- Variables

-- a bound variable has no name in the specification; number k is called #k
abbrev pub bound_from : ℕ → List Ty → List Formal
bound_from k [] = []
bound_from k (t ∷ ts) = record { name = 35 ∷ decimal k; ty = t } ∷ bound_from (k + 1) ts

-- NOT (x = ?) for each variable from k on whose type has `?`
abbrev pub known_from : ℕ → List Ty → List Tree
known_from k [] = []
known_from k (t ∷ ts) = if has_unknown t then Not (is_unknown k) ∷ known_from (k + 1) ts else known_from (k + 1) ts

-- Making a formula

-- what kind of formula it is, and the function that it is about: its number, its name and its formals
pub record About : Type 0 where
  pub kind : FormulaKind
  pub fun : ℕ
  pub name : List ℕ
  pub formals : List Formal

-- the types of the variables of a formula: the formals, then bound variables from the outermost
abbrev pub types_with : About → List Ty → List Ty
types_with o ts = types_of o.formals ++ ts

-- A formula over the formals and bound variables of types ts, of which those from number k on are assumed proper. Each
-- hypothesis and the goal may be in the numbering in which it stands in the specification.
abbrev pub formula : Parts → About → ℕ → List Ty → List Tree → Tree → Formula
formula p o k ts hyps goal = record {
  kind = o.kind;
  fun = o.fun;
  name = o.name;
  vars = o.formals ++ bound_from (length o.formals) ts;
  hypotheses =
      known_from k (drop k (types_with o ts)) ++ (map (settle (length (types_with o ts))) hyps
      ++ instances p.assertions (types_with o ts));
  goal = settle (length (types_with o ts)) goal;
}

-- the level term of a function
abbrev pub level_term : Option Function → Tree
level_term None = Const (value.Level 0)
level_term (Some f) = tree f.level

-- L(g(ds))
abbrev pub level_at : Parts → ℕ → Trees → Tree
level_at p g ds = put ds (level_term (slice_get p.functions g))

-- References

-- where references stand: what they are about, from where on variables are assumed proper, the bound variables around,
-- and the level that bounds them
pub record Spot : Type 0 where
  pub about : About
  pub known : ℕ
  pub bound : List Ty
  pub upper : Tree

-- the formula of a reference to function g at these arguments, with no further variable and no path
abbrev pub own_formula : Parts → Spot → List Tree → ℕ → Trees → Formula
own_formula p o hyps g ds = formula p o.about o.known o.bound hyps (Two op.LevelLe (level_at p g ds) o.upper)

abbrev pub reference_formula : Parts → Spot → List Tree → Reference → Formula
reference_formula p o hyps r = formula p o.about o.known (o.bound ++ r.vars) (hyps ++ r.path) (Two op.LevelLe (level_at p r.fun r.args) o.upper)

abbrev pub reference_formulas : Parts → Spot → List Tree → List Reference → List Formula
reference_formulas p o hyps rs = map (reference_formula p o hyps) rs

-- the references of each expression, where the earlier ones are false
abbrev pub exception_formulas : Parts → Spot → List Tree → List Tree → List Formula
exception_formulas p o before [] = []
exception_formulas p o before (e ∷ es) = reference_formulas p o before (references e) ++ exception_formulas p o (before ++ Not e ∷ []) es

-- the references of each guard, where those outside of it are true
abbrev pub guard_formulas : Parts → Spot → List Tree → List Tree → List Formula
guard_formulas p o before [] = []
guard_formulas p o before (c ∷ cs) = reference_formulas p o before (references c) ++ guard_formulas p o (before ++ c ∷ []) cs

-- Functions

-- the conditions of a function's exceptions
abbrev pub conditions : Function → List Tree
conditions f = map (λ e. tree e.1) f.exceptions

-- no exception
abbrev pub denied : Function → List Tree
denied f = map Not (conditions f)

-- the guards of an item, with quantifiers numbered behind all its variables
abbrev pub guards_of : Function → Item → List Tree
guards_of f i = map (settle (length f.formals + length i.vars)) i.guards

abbrev pub about : FormulaKind → ℕ → Function → About
about k g f = record { kind = k; fun = g; name = f.name; formals = f.formals }

abbrev pub spot : FormulaKind → ℕ → Function → List Ty → Tree → Spot
spot k g f bound upper = record { about = about k g f; known = 0; bound = bound; upper = upper }

-- A change, over bound variables of types ts and with guards gs, gives its own formula, those of its guards, of its value
-- and of its arguments; a result those of its guards and of its value.
abbrev pub deed_formulas : Parts → ℕ → Function → List Ty → List Tree → Deed → List Formula
deed_formulas p g f ts gs (Change h ds e) =
    formula p (about is.Change g f) 0 ts (denied f ++ gs) (Two op.LevelLe (tree f.level) (level_at p h ds))
    ∷ (guard_formulas p (spot is.GuardReference g f ts (level_at p h ds)) (denied f) gs
    ++ (reference_formulas p (spot is.ValueReference g f ts (level_at p h ds)) (denied f ++ gs) (references e)
    ++ reference_formulas p (spot is.TargetReference g f ts (tree f.level)) (denied f) (references_in ds)))
deed_formulas p g f ts gs (Answer e) =
    guard_formulas p (spot is.ResultGuardReference g f ts (tree f.level)) (denied f) gs
    ++ reference_formulas p (spot is.ResultReference g f ts (tree f.level)) (denied f ++ gs) (references e)

abbrev pub item_formulas : Parts → ℕ → Function → Item → List Formula
item_formulas p g f i = deed_formulas p g f i.vars (guards_of f i) i.deed

-- two changes of one V-function: where both are made at one place, the values are equal; the second one's own variables
-- stand behind those of the first
abbrev pub equal_all : Trees → Trees → List Tree
equal_all none es = []
equal_all (more d ds) none = []
equal_all (more d ds) (more e es) = Two op.Same d e ∷ equal_all ds es

abbrev pub agreement_of : Parts → ℕ → Function → Item → Item → Deed → Deed → List Formula
agreement_of p g f i j (Change h ds e) (Change k es d) =
    if h == k
    then
    formula p (about is.Agreement g f) 0 (i.vars ++ j.vars)
    (denied f ++ (i.guards ++ (map (raise (length f.formals) (length i.vars)) (guards_of f j) ++ equal_all ds (raise_all (length f.formals) (length i.vars) es))))
    (Two op.Same e (raise (length f.formals) (length i.vars) d)) ∷ []
    else []
agreement_of p g f i j d e = []

abbrev pub agreements_with : Parts → ℕ → Function → Item → List Item → List Formula
agreements_with p g f i js = flat_map (λ j. agreement_of p g f i j i.deed j.deed) js

abbrev pub agreements : Parts → ℕ → Function → List Item → List Formula
agreements p g f [] = []
agreements p g f (i ∷ is') = agreements_with p g f i is' ++ agreements p g f is'

-- a derivation's arguments may be `?`
abbrev pub derivation_formulas : Parts → ℕ → Function → Kind → List Formula
derivation_formulas p g f (kind.Derived t e) =
    reference_formulas p (record { about = about is.DerivationReference g f; known = length f.formals; bound = []; upper = tree f.level }) [] (references (tree e))
derivation_formulas p g f k = []

abbrev pub function_formulas : Parts → ℕ → Function → List Formula
function_formulas p g f =
    exception_formulas p (spot is.ExceptionReference g f [] (tree f.level)) [] (conditions f)
    ++ (derivation_formulas p g f f.kind
    ++ (flat_map (item_formulas p g f) (items_in (effect_trees f.kind))
    ++ agreements p g f (items_in (effect_trees f.kind))))

abbrev pub formulas_from : Parts → ℕ → List Function → List Formula
formulas_from p g [] = []
formulas_from p g (f ∷ fs) = function_formulas p g f ++ formulas_from p (g + 1) fs

-- the list of a specification
abbrev pub formulas : Parts → List Formula
formulas p = formulas_from p 0 p.functions
