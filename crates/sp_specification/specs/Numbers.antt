-- The numbers in the texts of an interface and its modules, which are in range.
use Rattle.std.specs.Prelude.{List}
use Rattle.std.specs.List.{All}
use Rattle.sp_tree.specs.declared.expr.ExprTree.{ExprTree}
use Rattle.sp_tree.specs.declared.interface.Equation.{Equation}
use Rattle.sp_tree.specs.declared.module.Body.{Body}
use Rattle.sp_tree.specs.declared.module.Body.TheVariants as body
use Rattle.sp_tree.specs.declared.module.FunDecl.{FunDecl}
use Rattle.sp_tree.specs.declared.module.Module.{Module}
use Rattle.sp_plain.specs.Text.{text}
use Rattle.sp_scopes.specs.declared.lent.Definition.{Definition}
use Rattle.sp_typed.specs.Fits.{AreNumbers}
use Rattle.sp_effect_laws.specs.Numbers.{AreEffectNumbersIn}
use Rattle.sp_functions.specs.Laws.{HaveNumbers}
use Rattle.sp_specification.specs.Functions.{texts}

abbrev pub IsNumbered : ExprTree → Type 0
IsNumbered e = AreNumbers (text e)

abbrev pub IsDefinitionNumbered : Definition → Type 0
IsDefinitionNumbered d = AreNumbers (text d.text)

abbrev pub IsEquationNumbered : Equation → Type 0
IsEquationNumbered q = AreNumbers (text q.value)

abbrev pub IsBodyNumbered : Body → Type 0
IsBodyNumbered (body.Initially e) = AreNumbers (text e)
IsBodyNumbered (body.Derivation e) = AreNumbers (text e)
IsBodyNumbered (body.Effects ws) = AreEffectNumbersIn (texts ws)

pub record IsFunctionNumbered (x : FunDecl) : Type 0 where
  pub exceptions : HaveNumbers x.exceptions
  pub body : IsBodyNumbered x.body

-- the numbers of a module's assertions and functions are in range, as those of every text are
pub record IsModuleNumbered (m : Module) : Type 0 where
  pub assertions : All IsNumbered m.assertions
  pub functions : All IsFunctionNumbered m.functions

-- those of definitions, modules and level equations
pub record AreAllNumbered (ds : List Definition) (qs : List Equation) (ms : List Module) : Type 0 where
  pub definitions : All IsDefinitionNumbered ds
  pub equations : All IsEquationNumbered qs
  pub modules : All IsModuleNumbered ms
