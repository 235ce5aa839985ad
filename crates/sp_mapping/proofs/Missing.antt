-- What lacks a row, by the names that rows are of.
use Rattle.std.proofs.Common.{◌≡◌, ◌∙◌, ap, ℕ, List, Option, map}
use Rattle.std.specs.List.{flat_map}
use Rattle.sp_text.specs.declared.fault.Span.{Span}
use Rattle.sp_text.specs.declared.violation.Violation.{Violation}
use Rattle.sp_text.specs.Violations.{first}
use Rattle.sp_tree.specs.declared.interface.Equation.{Equation}
use Rattle.sp_core.specs.declared.function.Function.{Function}
use Rattle.sp_core.specs.declared.function.Param.{Param}
use Rattle.sp_core.specs.declared.function.TypeInfo.{TypeInfo}
use Rattle.sp_core.specs.Typing.{primitive_type}
use Rattle.sp_functions.specs.Equations.{equation_name}
use Rattle.sp_instance.specs.Heads.{names_in}
use Rattle.sp_mapping_rules.specs.Functions.{functions_missing, primitive_missing}
use Rattle.sp_mapping_rules.specs.Parameters.{params_missing}
use Rattle.sp_mapping_rules.specs.Types.{TypeRow, missing, type_head, types_missing}

module _ (p : Span) (names : List (List ℕ)) (o : Option Violation) where
  pub same_types : (rows : List TypeRow) (ts us : List TypeInfo) → names ≡ names_in (map type_head rows) → ts ≡ us →
      o ≡ first (flat_map (λ (i : TypeInfo). missing p names i.name) ts) → o ≡ first (types_missing p rows us)
  same_types rows ts us n s h = h ∙ (λ j. first (flat_map (λ (i : TypeInfo). missing p (n j) i.name) (s j)))

  pub same_params : (rows : List Equation) (ts us : List Param) → names ≡ names_in (map equation_name rows) → ts ≡ us →
      o ≡ first (flat_map (λ (q : Param). missing p names q.name) ts) → o ≡ first (params_missing p rows us)
  same_params rows ts us n s h = h ∙ (λ j. first (flat_map (λ (q : Param). missing p (n j) q.name) (s j)))

  pub same_functions : (rows : List Equation) (ts us : List Function) → names ≡ names_in (map equation_name rows) → ts ≡ us →
      o ≡ first (flat_map (λ (f : Function). primitive_missing p names f.name (primitive_type f.kind)) ts) → o ≡ first (functions_missing p rows us)
  same_functions rows ts us n s h = h ∙ (λ j. first (flat_map (λ (f : Function). primitive_missing p (n j) f.name (primitive_type f.kind)) (s j)))
