-- Each sort of text reads bytes in one way at most.
use Rattle.std.proofs.Common.{◌≡◌, ◌≢◌, ◌∙◌, ℕ, List, Option, None, Some, Result, Ok, Err, inl, inr, refl, sym, ap, length}
use Rattle.sp_text.specs.declared.fault.Limit.{Limit}
use Rattle.sp_text.specs.declared.fault.TextFault.{TextFault}
use Rattle.sp_text.specs.declared.fault.TextFault.TheVariants as fault
use Rattle.sp_text.specs.declared.token.Token.{Token}
use Rattle.sp_lexer.proofs.Unique.{no_fault_with_tokens, same_first_fault, same_tokens}
use Rattle.sp_grammar.specs.Lang.{Lang}
use Rattle.sp_grammar.specs.Texts.{AnswersCounted, IsRead, RefusesCounted}
use Rattle.sp_grammar.specs.Within.{Limits}
use Rattle.sp_grammar.proofs.OneAnswer.{answered_once, refused_once, unread}
use Rattle.sp_forms.proofs.Whole.{one_tree, one_tree_in}
use Rattle.sp_cursor.specs.Lines.{formal_line, names_line, type_line}
use Rattle.sp_parser.specs.Modules.{assertions_line, bound_line, definition_line, definitions_line, effects_line, exception_line, exceptions_line, external_line, externals_line, forall_effect_line, formals_line, function_line, functions_line, header_line, if_effect_line, marks_line, maybe_exceptions, members_line, module_grammar, module_line, named_line, nested_effects, operation_body, operation_line, parameter_line, parameters_line, plain_line, returned_line, some_formals, statement_line, type_decl_line, types_line, value_body, value_function_line, value_operation_line}
use Rattle.sp_interface.specs.Counts.{over_interfaces, over_modules}
use Rattle.sp_interface.specs.Equations.{equation_line, formal_names_line}
use Rattle.sp_interface.specs.Hierarchies.{hierarchy_grammar, hierarchy_line}
use Rattle.sp_interface.specs.Hierarchies as rows
use Rattle.sp_interface.specs.Interfaces.{interface_grammar, interface_line, level_line, levels_line, modules_line, sample_line}
use Rattle.sp_interface.specs.Lattices.{above_line, all_above_line, categories_line, chain_line, declared_order_line, lattice_line, order_line, orders_line, product_line}
use Rattle.sp_interface.specs.Mappings.{mapping_grammar, mapping_line, type_pair_line}
use Rattle.sp_interface.specs.Mappings as sections
use Rattle.sp_instance_text.specs.Instances.{instance_grammar, instance_line, other_line, population_line, populations_line, row_line, rows_line, table_line, tables_line}
use Rattle.sp_instance_text.specs.Instances as texts
use Rattle.sp_instance_text.specs.Scripts.{call_line, calls_line, script_grammar, script_line}
use Rattle.sp_instance_text.specs.Values.{constant_line, node_line, number_line, some_values, value_line, values_line}
use Rattle.sp_frame.specs.Laws.{IsOnce}
use Rattle.sp_frame.proofs.Lawful.{gives_once, then_once}
use Rattle.sp_sorts.specs.Sorts.{hierarchies, instances, interfaces, mappings, modules, scripts}
use Rattle.sp_sorts.specs.Texts.{Answered, Grammar, Lexed, Read}
use Rattle.sp_sorts.proofs.Definite.{answered_by}

pub lexed_once : (text : List ℕ) → IsOnce (Lexed text)
lexed_once text (Ok a) (Ok b) p q = ap Ok (same_tokens text a b p q)
lexed_once text (Ok a) (Err f) p q = absurd (no_fault_with_tokens text a f p q)
lexed_once text (Err f) (Ok a) p q = absurd (no_fault_with_tokens text a f q p)
lexed_once text (Err f) (Err g) p q = ap Err (same_first_fault text f g p q)

-- ---- texts whose trees may exceed a number

module _ {T : Type 0} (F : Limits → Lang T) (ts : List Token) (end : ℕ) (one : (u v : T) → IsRead F ts u → IsRead F ts v → u ≡ v) (over : T → Option Limit) where
  apart : (f : TextFault) → f ≢ fault.Memory → (u : T) → IsRead F ts u → over u ≡ None → RefusesCounted F over ts end f → ⊥
  apart (fault.Malformed m) is u read none p = unread F ts end (fault.Malformed m) is p u read
  apart (fault.Limit l) is u read none (inl p) = unread F ts end (fault.Limit l) is p u read
  apart (fault.Limit l) is u read none (inr (v, p, e)) =
      let x : Some l ≡ None = sym e ∙ ap over (one v u p read) ∙ none in
      absurd cc
  apart fault.Memory is u read none p = is refl

  faults_once : (f g : TextFault) → f ≢ fault.Memory → g ≢ fault.Memory → RefusesCounted F over ts end f → RefusesCounted F over ts end g → f ≡ g
  faults_once (fault.Malformed f) (fault.Malformed g) m k p q = refused_once F ts end _ _ m k p q
  faults_once (fault.Malformed f) (fault.Limit g) m k p (inl q) = refused_once F ts end _ _ m k p q
  faults_once (fault.Malformed f) (fault.Limit g) m k p (inr (v, read, e)) = absurd (unread F ts end _ m p v read)
  faults_once (fault.Limit f) (fault.Malformed g) m k (inl p) q = refused_once F ts end _ _ m k p q
  faults_once (fault.Limit f) (fault.Malformed g) m k (inr (v, read, e)) q = absurd (unread F ts end _ k q v read)
  faults_once (fault.Limit f) (fault.Limit g) m k (inl p) (inl q) = refused_once F ts end _ _ m k p q
  faults_once (fault.Limit f) (fault.Limit g) m k (inl p) (inr (v, read, e)) = absurd (unread F ts end _ m p v read)
  faults_once (fault.Limit f) (fault.Limit g) m k (inr (v, read, e)) (inl q) = absurd (unread F ts end _ k q v read)
  faults_once (fault.Limit f) (fault.Limit g) m k (inr (v, read, e)) (inr (w, again, d)) =
      let x : Some f ≡ Some g = sym e ∙ ap over (one v w read again) ∙ d in
      cc
  faults_once fault.Memory g m k p q = absurd (m refl)
  faults_once f fault.Memory m k p q = absurd (k refl)

  counted_once : (a b : Result T TextFault) → a ≢ Err fault.Memory → b ≢ Err fault.Memory → AnswersCounted F over ts end a → AnswersCounted F over ts end b → a ≡ b
  counted_once (Ok u) (Ok v) m k p q = ap Ok (one u v p.0 q.0)
  counted_once (Ok u) (Err f) m k p q = absurd (apart f (λ e. k (ap Err e)) u p.0 p.1 q)
  counted_once (Err f) (Ok v) m k p q = absurd (apart f (λ e. m (ap Err e)) v q.0 q.1 p)
  counted_once (Err f) (Err g) m k p q = ap Err (faults_once f g (λ e. m (ap Err e)) (λ e. k (ap Err e)) p q)

-- ---- the sorts

module _ {T : Type 0} (grammar : Grammar T) (once : (ts : List Token) (end : ℕ) → IsOnce (Answered (grammar ts end))) where
  read_once : (text : List ℕ) → IsOnce (Read grammar text)
  read_once text = then_once _ _ (lexed_once text) (λ ts. then_once _ _ (once ts (length text)) (λ tree. gives_once _))

pub interface_once : (text : List ℕ) → IsOnce (Read interfaces text)
unfolding names_line equation_line formal_names_line interface_grammar level_line levels_line modules_line sample_line above_line all_above_line categories_line chain_line declared_order_line lattice_line order_line orders_line product_line
interface_once = read_once interfaces (λ ts end. answered_by _ (counted_once (interface_line ts) ts end (one_tree interface_grammar refl ts) over_modules))

pub module_once : (text : List ℕ) → IsOnce (Read modules text)
unfolding formal_line names_line type_line assertions_line bound_line definition_line definitions_line effects_line exception_line exceptions_line external_line externals_line forall_effect_line formals_line function_line functions_line header_line if_effect_line marks_line maybe_exceptions members_line module_grammar named_line nested_effects operation_body operation_line parameter_line parameters_line plain_line returned_line some_formals statement_line type_decl_line types_line value_body value_function_line value_operation_line
module_once = read_once modules (λ ts end. answered_by _ (answered_once (module_line ts) ts end (one_tree_in nested_effects module_grammar refl ts)))

pub instance_once : (text : List ℕ) → IsOnce (Read instances text)
unfolding names_line instance_grammar texts.members_line other_line population_line populations_line row_line rows_line table_line tables_line constant_line node_line number_line some_values value_line values_line
instance_once = read_once instances (λ ts end. answered_by _ (answered_once (instance_line ts) ts end (one_tree instance_grammar refl ts)))

pub script_once : (text : List ℕ) → IsOnce (Read scripts text)
unfolding call_line calls_line script_grammar constant_line node_line number_line some_values value_line values_line
script_once = read_once scripts (λ ts end. answered_by _ (answered_once (script_line ts) ts end (one_tree script_grammar refl ts)))

pub hierarchy_once : (text : List ℕ) → IsOnce (Read hierarchies text)
unfolding rows.row_line rows.rows_line hierarchy_grammar
hierarchy_once = read_once hierarchies (λ ts end. answered_by _ (counted_once (hierarchy_line ts) ts end (one_tree hierarchy_grammar refl ts) over_interfaces))

pub mapping_once : (text : List ℕ) → IsOnce (Read mappings text)
unfolding names_line equation_line formal_names_line type_pair_line sections.types_line sections.parameters_line sections.functions_line mapping_grammar
mapping_once = read_once mappings (λ ts end. answered_by _ (answered_once (mapping_line ts) ts end (one_tree mapping_grammar refl ts)))
