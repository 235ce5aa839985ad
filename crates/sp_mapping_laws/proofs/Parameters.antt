-- Where the rows of parameters break nothing, each upper parameter has an expression of its type, translated, over lower parameters.
use Rattle.std.proofs.Common.{◌≡◌, refl, sym, ◌∙◌, ap, subst, arith, ℕ, ◌≤◌, List, [], ◌∷◌, ◌++◌, Option, Some, None, length, map}
use Rattle.std.specs.Prelude.{IsTrue, slice_get}
use Rattle.std.specs.List.{All, flat_map}
use Rattle.std.specs.Option.{option_map}
use Rattle.sp_text.specs.declared.fault.Span.{Span}
use Rattle.sp_values.specs.declared.value.Ty.{Ty}
use Rattle.sp_tree.specs.declared.interface.Equation.{Equation}
use Rattle.sp_core.specs.declared.expr.Expr.{Expr}
use Rattle.sp_core.specs.declared.function.Param.{Param}
use Rattle.sp_core.specs.Machine.{types_of}
use Rattle.sp_core.specs.Measures.{LooksAt, Nothing}
use Rattle.sp_core.specs.Parts.{Parts, signature}
use Rattle.sp_core.specs.Tree.{Tree, tree}
use Rattle.sp_core.specs.Typing.{HasType, is_type}
use Rattle.sp_core.specs.WellFormed.{AreDifferent, IsParam, IsWellFormed, members_of, names_of}
use Rattle.sp_plain.specs.Text.{text}
use Rattle.sp_naming.specs.Names.{repeated_names}
use Rattle.sp_judge.specs.Visible.{Visible}
use Rattle.sp_typed.specs.Fits.{types}
use Rattle.sp_typed.proofs.Fitting.{append_right, behind_inner, behind_own}
use Rattle.sp_elaborate.specs.Expressions.{expression_of}
use Rattle.sp_functions.specs.Equations.{equation_name}
use Rattle.sp_functions.specs.Judged.{initial_broken, made}
use Rattle.sp_functions.specs.Laws.{IsSeenBy}
use Rattle.sp_functions.proofs.Known.{initial}
use Rattle.sp_instance.specs.Heads.{kind_broken, names_in}
use Rattle.sp_instance.specs.Words.{place_of}
use Rattle.sp_specification.specs.Numbers.{IsEquationNumbered}
use Rattle.sp_mapping_rules.specs.Levels.{type_over}
use Rattle.sp_mapping_rules.specs.Parameters.{core_given, param_core, param_cores, param_count, param_missing, param_name, param_row_broken, param_value_broken, params_broken, params_missing, upper_param}
use Rattle.sp_mapping_rules.specs.Rows.{count_broken, row_head_broken, row_heads, with_types}
use Rattle.sp_mapping_rules.specs.Types.{at_place}
use Rattle.sp_mapping_laws.proofs.Levels.{IsParamCore}
use Rattle.sp_mapping_laws.proofs.Lists.{IsFound, item_found, makes_nothing, map_got, map_same, of_all, params_different, place_is}
use Rattle.sp_mapping_laws.proofs.Rows.{counted, locals_typed, tree_of, types_over}
use Rattle.sp_mapping_laws.proofs.Types.{is_known}

module _ (u p : Parts) (w : IsWellFormed u) (s : Visible) (seen : IsSeenBy (signature p) s) (ts : List ℕ)
    (there : (t : Ty) → IsTrue (is_type (signature u) t) → IsTrue (is_type (signature p) (type_over ts t))) (place : Span) (rows : List Equation)
    (numbers : All IsEquationNumbered rows) (fine : params_broken u s ts rows ≡ []) (all : params_missing place rows u.params ≡ []) where
  names : AreDifferent (map param_name u.params)
  names = subst AreDifferent (map_same (λ q. q.name) param_name u.params (λ x. refl)) (params_different u w.names)

  each : (j : ℕ) (r : Equation) → slice_get rows j ≡ Some r → param_row_broken u s ts r ≡ []
  each j r e = makes_nothing (param_row_broken u s ts) rows (append_right (repeated_names [] (row_heads rows)) (flat_map (param_row_broken u s ts) rows) fine) j r e

  -- the row of a parameter
  core_of : (q : Param) → IsParam (signature u) q → (j : ℕ) (r : Equation) → slice_get rows j ≡ Some r → upper_param u.params r ≡ Some q →
      IsParamCore p ts q (expression_of (made s (with_types ts r.formals q.formals) (text r.value)))
  core_of q is j r at upper =
      let locals = with_types ts r.formals q.formals in
      let own : param_row_broken u s ts r ≡ [] = each j r at in
      let head = row_head_broken (map param_name u.params) (names_of u) (option_map param_count (upper_param u.params r)) r in
      let value : initial_broken s locals (type_over ts q.ty) (text r.value) ≡ [] = sym (ap (param_value_broken s ts r) upper) ∙ behind_own head (param_value_broken s ts r (upper_param u.params r)) own in
      let inner = kind_broken (map param_name u.params) (names_of u) r.name ++ repeated_names [] r.formals in
      let count = sym (ap (λ o. count_broken r.name.span (option_map param_count o) (length r.formals)) upper) ∙ behind_own inner (count_broken r.name.span (option_map param_count (upper_param u.params r)) (length r.formals)) (behind_inner head (param_value_broken s ts r (upper_param u.params r)) own) in
      let same : types locals ≡ map (type_over ts) (types_of q.formals) = types_over ts r.formals q.formals (counted r.name.span (length q.formals) (length r.formals) count) in
      let x = expression_of (made s locals (text r.value)) in
      let i = initial (signature p) s seen locals (locals_typed (signature p) ts r.formals q.formals (λ k t e. there t (of_all (λ t. IsTrue (is_type (signature u) t)) (types_of q.formals) is.formals.types k t e)))
      (type_over ts q.ty) (there q.ty is.type) (text r.value) (of_all IsEquationNumbered rows numbers j r at) value x (tree_of (made s locals (text r.value))) in
      record { typed = subst (λ z. HasType (signature p) z (tree x) (type_over ts q.ty)) same i.expression.typed; nothing = i.reads_nothing }

  pub core_there : (k : ℕ) (q : Param) → slice_get u.params k ≡ Some q → (e : Expr) × (slice_get (param_cores s ts rows u.params) k ≡ Some e) × IsParamCore p ts q e
  core_there k q at =
      let f : IsFound equation_name rows q.name = item_found equation_name rows q.name (is_known place (names_in (row_heads rows)) q.name (makes_nothing (param_missing place rows) u.params all k q at)) in
      let r = f.item in
      let upper : upper_param u.params r ≡ Some q = ap (λ x. at_place u.params (place_of (map param_name u.params) x)) f.name ∙ ap (at_place u.params) (place_is (map param_name u.params) names k q.name (map_got param_name u.params k q at)) ∙ at in
      let e = expression_of (made s (with_types ts r.formals q.formals) (text r.value)) in
      (e, map_got (param_core s ts rows) u.params k q at ∙ ap (λ o. Some (core_given s ts q o)) f.found, core_of q (of_all (IsParam (signature u)) u.params w.params k q at) f.place r f.there upper)
