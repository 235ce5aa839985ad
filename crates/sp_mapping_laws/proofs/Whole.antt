-- A mapping's text that breaks nothing stands for a mapping.
use Rattle.std.proofs.Common.{◌≡◌, refl, sym, ◌∙◌, ap, subst, ℕ, List, [], ◌∷◌, ◌++◌, Some, length, map}
use Rattle.std.specs.Prelude.{IsTrue, slice_get}
use Rattle.sp_values.specs.declared.value.Ty.{Ty}
use Rattle.sp_core.specs.declared.function.Param.{Param}
use Rattle.sp_core.specs.declared.function.TypeInfo.{TypeInfo}
use Rattle.sp_core.specs.Typing.{is_type}
use Rattle.sp_mapping_rules.specs.Levels.{type_over}
use Rattle.sp_mapping_laws.proofs.Levels.{IsParamCore}
use Rattle.sp_tree.specs.declared.interface.MappingTree.{MappingTree}
use Rattle.sp_text.specs.declared.violation.Violation.{Violation}
use Rattle.sp_core.specs.declared.expr.Expr.{Expr}
use Rattle.sp_core.specs.Mappings.{IsMappingTo}
use Rattle.sp_core.specs.Parts.{Parts, signature}
use Rattle.sp_core.specs.WellFormed.{IsWellFormed}
use Rattle.sp_scopes.specs.declared.scopes.Scopes.{Scopes}
use Rattle.sp_scopes.specs.Laws.{FoundAreLent, LentAreFound}
use Rattle.sp_judge.specs.Visible.{Visible}
use Rattle.sp_typed.proofs.Fitting.{append_left, append_right, behind_inner, behind_own}
use Rattle.sp_functions.specs.Laws.{IsSeenBy}
use Rattle.sp_well_formed.specs.Laws.{SeenLaw}
use Rattle.sp_mapping_rules.specs.Functions.{functions_broken, functions_missing}
use Rattle.sp_mapping_rules.specs.Lattices.{lattice_broken}
use Rattle.sp_mapping_rules.specs.Lower.{lower_view}
use Rattle.sp_mapping_rules.specs.Mappings.{cores_in, front_broken, mapping_of, rows_broken, seen_broken, types_in}
use Rattle.sp_mapping_rules.specs.Parameters.{params_broken, params_missing}
use Rattle.sp_mapping_rules.specs.Types.{type_number, types_broken, types_missing}
use Rattle.sp_mapping_rules.specs.Upper.{IsMappingFrom}
use Rattle.sp_mapping_laws.specs.Laws.{AreNumbered, MappingLaw}
use Rattle.sp_mapping_laws.proofs.Functions as functions
use Rattle.sp_mapping_laws.proofs.Lattices.{HaveOneLattice, one_lattice}
use Rattle.sp_mapping_laws.proofs.Lists.{map_length}
use Rattle.sp_mapping_laws.proofs.Lower as lower
use Rattle.sp_mapping_laws.proofs.Parameters.{core_there}
use Rattle.sp_mapping_laws.proofs.Types.{IsTypeRow, type_there, typed_row, types_there}

module _ (u p : Parts) (w : IsWellFormed u) (v : IsWellFormed p) (names : Scopes) (t : MappingTree) (seen : IsSeenBy (signature p) (lower_view p names))
    (numbers : AreNumbered names t) (none : seen_broken u p (lower_view p names) t ≡ []) where
  abbrev s : Visible
  s = lower_view p names

  abbrev ts : List ℕ
  ts = types_in u s t

  abbrev ps : List Expr
  ps = cores_in u s t

  abbrev lattice : List Violation
  lattice = lattice_broken t.name.span u p

  abbrev types : List Violation
  types = types_broken u p s t.types

  abbrev no_types : List Violation
  no_types = types_missing t.name.span t.types u.types

  abbrev no_params : List Violation
  no_params = params_missing t.name.span t.parameters u.params

  abbrev no_functions : List Violation
  no_functions = functions_missing t.name.span t.functions u.functions

  front : lattice ++ (types ++ (no_types ++ (no_params ++ no_functions))) ≡ []
  front = behind_inner (front_broken u p s t) (rows_broken u s t) none

  rows : rows_broken u s t ≡ []
  rows = behind_own (front_broken u p s t) (rows_broken u s t) none

  after_lattice : types ++ (no_types ++ (no_params ++ no_functions)) ≡ []
  after_lattice = append_right lattice (types ++ (no_types ++ (no_params ++ no_functions))) front

  after_types : no_types ++ (no_params ++ no_functions) ≡ []
  after_types = append_right types (no_types ++ (no_params ++ no_functions)) after_lattice

  after_missing : no_params ++ no_functions ≡ []
  after_missing = append_right no_types (no_params ++ no_functions) after_types

  one : HaveOneLattice u p
  one = one_lattice t.name.span u p w v (append_left lattice (types ++ (no_types ++ (no_params ++ no_functions))) front)

  types_none : types_broken u p s t.types ≡ []
  types_none = append_left types (no_types ++ (no_params ++ no_functions)) after_lattice

  no_types_none : types_missing t.name.span t.types u.types ≡ []
  no_types_none = append_left no_types (no_params ++ no_functions) after_types

  params_none : params_broken u s ts t.parameters ≡ []
  params_none = behind_inner (params_broken u s ts t.parameters) (functions_broken u s ts ps t.functions) rows

  functions_none : functions_broken u s ts ps t.functions ≡ []
  functions_none = behind_own (params_broken u s ts t.parameters) (functions_broken u s ts ps t.functions) rows

  no_params_none : params_missing t.name.span t.parameters u.params ≡ []
  no_params_none = append_left no_params no_functions after_missing

  no_functions_none : functions_missing t.name.span t.functions u.functions ≡ []
  no_functions_none = append_right no_params no_functions after_missing

  count : u.lattice.count ≡ p.lattice.count
  count = ap (λ o. o.count) one.lattice

  there : (x : Ty) → IsTrue (is_type (signature u) x) → IsTrue (is_type (signature p) (type_over ts x))
  there = type_there u p w s seen t.name.span t.types types_none no_types_none

  type_rows : (k : ℕ) (a : TypeInfo) → slice_get u.types k ≡ Some a → IsTypeRow p ts k a
  type_rows = typed_row u p w s seen t.name.span t.types types_none no_types_none

  cores : (k : ℕ) (q : Param) → slice_get u.params k ≡ Some q → (e : Expr) × (slice_get ps k ≡ Some e) × IsParamCore p ts q e
  cores = core_there u p w s seen ts there t.name.span t.parameters numbers.parameters params_none no_params_none

  pub to : IsMappingTo p (mapping_of u p names t)
  to = record {
    types = types_there u p w s seen t.name.span t.types types_none no_types_none;
    rows = functions.rows_to u p w s seen ts ps count there type_rows cores t.name.span t.functions numbers.functions functions_none no_functions_none;
    different = functions.different u p w s seen ts ps count there type_rows cores t.name.span t.functions numbers.functions functions_none no_functions_none;
  }

  pub from : IsMappingFrom u p (mapping_of u p names t)
  from = record {
    level_names = one.names;
    lattice = one.lattice;
    count = map_length (type_number s t.types) u.types;
    types = λ k a at. let r = type_rows k a at in record { lower = r.lower; there = r.there; sort = r.sort };
    complete = λ g f y at is. functions.complete u p w s seen ts ps count there type_rows cores t.name.span t.functions numbers.functions functions_none no_functions_none g f y at is ts t.name.name;
    rows = functions.rows_from u p w s seen ts ps count there type_rows cores t.name.span t.functions numbers.functions functions_none no_functions_none;
  }

pub law : FoundAreLent → LentAreFound → SeenLaw → MappingLaw
law found lent see u p names t w v is numbers none =
    let seen = lower.seen found lent see p names v is numbers.definitions in
    (to u p w v names t seen numbers none, from u p w v names t seen numbers none)
