-- What rows of functions are judged by: the names of the upper specification, and functions whose levels can be translated.
use Rattle.std.specs.Prelude.{◌≡◌, ◌≤◌, length, map}
use Rattle.sp_text.specs.declared.limits.TheConstants.{MOST_ARGUMENTS}
use Rattle.sp_core.specs.declared.function.Function.{Function}
use Rattle.sp_core.specs.Parts.{Parts}
use Rattle.sp_core.specs.Tree.{tree}
use Rattle.sp_core.specs.WellFormed.{names_of}
use Rattle.sp_expand.specs.Expansion.{IsScoped}
use Rattle.sp_instance.specs.Scripts.{function_name}
use Rattle.sp_mapping_rules.specs.Functions.{primitive_names}
use Rattle.sp_mapping_rows.specs.declared.functions.FunctionNames.{FunctionNames}

-- the names are those of the specification
pub record IsNamedBy (u : Parts) (n : FunctionNames) : Type 0 where
  pub all : n.all ≡ names_of u
  pub primitives : n.primitives ≡ primitive_names u.functions
  pub functions : n.functions ≡ map function_name u.functions

-- the level keeps to the formals, which are few
pub record IsLevelled (f : Function) : Type 0 where
  pub few : length f.formals ≤ MOST_ARGUMENTS
  pub scoped : IsScoped (length f.formals) (tree f.level)
