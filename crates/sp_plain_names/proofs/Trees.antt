-- The names that the trees of interfaces and modules declare are plain, where the texts were read.
use Rattle.std.proofs.Common.{◌≡◌, ◌⊎◌, inl, inr, ℕ, List, [], ◌∷◌, Option, None, Some, Result, Ok, Err, ap, sym, subst}
use Rattle.std.specs.List.{All}
use Rattle.std.proofs.lemmas.List.Elements.{All-nil, All-cons}
use Rattle.sp_text.specs.declared.fault.TextFault.{TextFault}
use Rattle.sp_text.specs.declared.token.Token.{Token}
use Rattle.sp_tree.specs.declared.effect.EffectTree.{EffectTree}
use Rattle.sp_tree.specs.declared.expr.ExprTree.{ExprTree}
use Rattle.sp_tree.specs.declared.interface.InterfaceTree.{InterfaceTree}
use Rattle.sp_tree.specs.declared.interface.LatticeTree.{LatticeTree}
use Rattle.sp_tree.specs.declared.interface.LatticeTree.TheVariants as lattice
use Rattle.sp_tree.specs.declared.module.FunDecl.{FunDecl}
use Rattle.sp_tree.specs.declared.module.Header.{Header}
use Rattle.sp_tree.specs.declared.module.Module.{Module}
use Rattle.sp_tree.specs.declared.module.TypeDecl.{TypeDecl}
use Rattle.sp_tree.specs.declared.names.FormalTree.{FormalTree}
use Rattle.sp_tree.specs.declared.names.Ident.{Ident}
use Rattle.sp_grammar.specs.Codes.{comma, less, semicolon, word_assertions, word_categories, word_definitions, word_external_refs, word_functions, word_is, word_parameters, word_types, left_brace, arrow}
use Rattle.sp_grammar.specs.Lang.{Lang}
use Rattle.sp_grammar.specs.Texts.{IsRead, most}
use Rattle.sp_expression.specs.Grammar as expressions
use Rattle.sp_forms.specs.Grammars.{Gram, levels, meaning, no_form}
use Rattle.sp_forms.specs.Grammars as form
use Rattle.sp_cursor.specs.Lines.{formal_line, names_line, type_line}
use Rattle.sp_parser.specs.Modules.{definition_line, definitions_line, externals_line, assertions_line, formals_line, function_line, functions_line, header_line, members_line, module_grammar, module_line, named_line, nested_effects, operation_body, operation_line, parameter_line, parameters_line, returned_line, some_formals, type_decl_line, types_line, value_function_line, value_operation_line}
use Rattle.sp_interface.specs.Interfaces.{interface_grammar, interface_line, levels_line, modules_line, sample_line}
use Rattle.sp_interface.specs.Lattices.{categories_line, chain_line, declared_order_line, lattice_line, orders_line, product_line}
use Rattle.sp_sorts.specs.Sorts.{interfaces, modules}
use Rattle.sp_sorts.specs.Texts.{IsTree}
use Rattle.sp_sorts.specs.declared.reading.Reading.{Reading}
use Rattle.sp_plain_names.specs.Names.{IsPlain}
use Rattle.sp_plain_names.proofs.Tokens.{ArePlainTokens, plain_at, tokens_plain}
use Rattle.sp_plain_names.proofs.Forms.{Anything, Means, Says, WhereSome, means_behind, means_ended, means_list, means_section, means_separated, says_anything, says_either, says_made, says_optional, says_seq, says_star}

-- ---- what is declared

abbrev pub IsPlainIdent : Ident → Type 0
IsPlainIdent x = IsPlain x.name

abbrev pub IsPlainFormal : FormalTree → Type 0
IsPlainFormal f = IsPlain f.name.name

abbrev pub IsPlainHeader : Header → Type 0
IsPlainHeader h = IsPlain h.name.name × All IsPlainFormal h.formals

abbrev pub IsPlainType : TypeDecl → Type 0
IsPlainType d = IsPlain d.name.name × WhereSome (All IsPlainIdent) d.members

abbrev pub IsPlainDefinition : Header × ExprTree → Type 0
IsPlainDefinition d = IsPlainHeader d.0

abbrev pub IsPlainFunction : FunDecl → Type 0
IsPlainFunction x = IsPlainHeader x.head

pub record IsPlainModule (m : Module) : Type 0 where
  pub types : All IsPlainType m.types
  pub parameters : All IsPlainHeader m.parameters
  pub definitions : All IsPlainDefinition m.definitions
  pub functions : All IsPlainFunction m.functions

abbrev pub IsPlainLattice : LatticeTree → Type 0
IsPlainLattice (lattice.Order p names chains) = All IsPlainIdent names
IsPlainLattice (lattice.Product p chain categories) = All IsPlainIdent chain × All IsPlainIdent categories

pub record IsPlainInterface (i : InterfaceTree) : Type 0 where
  pub name : IsPlain i.name.name
  pub modules : All IsPlainIdent i.modules
  pub lattice : IsPlainLattice i.lattice
  pub sample : IsPlainIdent i.sample

module _ (ts : List Token) (plain : ArePlainTokens ts) (b : ℕ) where
  idents : Says (expressions.ident ts) IsPlainIdent
  idents x i j h = plain_at ts i x.name x.span plain h.0

  module _ {R : Type 0} (ρ : Lang R) where
    abbrev Of : {V : Type 0} → Gram R V → (V → Type 0) → Type 0
    Of f P = Means ρ ts b f P

    formal_says : Says (meaning formal_line no_form ts b) IsPlainFormal
    unfolding formal_line
    formal_says v i j (a, e, (k, t, n)) = subst IsPlainFormal (sym e) (idents a.1 k j n)

    names_says : Says (meaning names_line no_form ts b) (All IsPlainIdent)
    unfolding names_line
    names_says = means_separated {R = ⊥} no_form ts b comma form.name IsPlainIdent idents

    some_formals_say : Says (meaning some_formals no_form ts b) (All IsPlainFormal)
    unfolding some_formals
    some_formals_say = means_separated {R = ⊥} no_form ts b semicolon formal_line IsPlainFormal formal_says

    formals_say : Says (meaning formals_line no_form ts b) (All IsPlainFormal)
    unfolding formals_line
    formals_say v i j (a, e, (k, t, (l, o, u))) =
        subst (All IsPlainFormal) (sym e) (by a.1.0 k l o)
      where
        by : (o : Option (List FormalTree)) (k l : ℕ) → (meaning (form.optional some_formals) no_form ts b).whole o k l → All IsPlainFormal (form.list_or o)
        by None k l h = All-nil IsPlainFormal
        by (Some fs) k l h = some_formals_say fs k l h

    named_says : Says (meaning named_line no_form ts b) (λ p. IsPlainIdent p.0 × All IsPlainFormal p.1)
    unfolding named_line
    named_says = says_seq (expressions.ident ts) (meaning formals_line no_form ts b) IsPlainIdent (All IsPlainFormal) idents formals_say

    header_says : Says (meaning header_line no_form ts b) IsPlainHeader
    unfolding header_line
    header_says v i j (a, e, (k, t, n)) = subst IsPlainHeader (sym e) (named_says a.1 k j n)

    parameter_says : Says (meaning parameter_line no_form ts b) IsPlainHeader
    unfolding parameter_line
    parameter_says v i j (a, e, (k, h, t)) = subst IsPlainHeader (sym e) (header_says a.0 i k h)

    definition_says : Says (meaning definition_line no_form ts b) IsPlainDefinition
    unfolding definition_line
    definition_says v i j (k, h, t) = header_says v.0 i k h

    members_say : Says (meaning members_line no_form ts b) (WhereSome (All IsPlainIdent))
    unfolding members_line
    members_say v i j (inl (a, e, t)) = subst (WhereSome (All IsPlainIdent)) (sym e) tt
    members_say v i j (inr (a, e, (k, ns, t))) = subst (WhereSome (All IsPlainIdent)) (sym e) (means_behind {R = ⊥} no_form ts b left_brace names_line (All IsPlainIdent) names_says a.0 i k ns)

    type_says : Says (meaning type_decl_line no_form ts b) IsPlainType
    unfolding type_decl_line
    type_says v i j (a, e, (k, n, (l, c, (m, ms, t)))) = subst IsPlainType (sym e) (idents a.0 i k n, members_say a.1.1.0 l m ms)

    types_say : Says (meaning types_line no_form ts b) (All IsPlainType)
    unfolding types_line
    types_say = means_section {R = ⊥} no_form ts b word_types type_decl_line IsPlainType type_says

    parameters_say : Says (meaning parameters_line no_form ts b) (All IsPlainHeader)
    unfolding parameters_line
    parameters_say = means_section {R = ⊥} no_form ts b word_parameters parameter_line IsPlainHeader parameter_says

    definitions_say : Says (meaning definitions_line no_form ts b) (All IsPlainDefinition)
    unfolding definitions_line
    definitions_say = means_section {R = ⊥} no_form ts b word_definitions definition_line IsPlainDefinition definition_says

  module _ (ρ : Lang EffectTree) where
    value_function_says : Says (meaning value_function_line no_form ts b) IsPlainFunction
    unfolding value_function_line
    value_function_says v i j (a, e, (k, t, (l, n, rest))) = subst IsPlainFunction (sym e) (named_says (no_form {V = EffectTree}) a.1.0 k l n)

    operation_says : Says (meaning operation_line ρ ts b) IsPlainFunction
    unfolding operation_line
    operation_says v i j (a, e, (k, t, (l, n, rest))) = subst IsPlainFunction (sym e) (named_says (no_form {V = EffectTree}) a.1.0 k l n)

    value_operation_says : Says (meaning value_operation_line ρ ts b) IsPlainFunction
    unfolding value_operation_line
    value_operation_says v i j (a, e, (k, t, (l, n, rest))) = subst IsPlainFunction (sym e) (named_says (no_form {V = EffectTree}) a.1.0 k l n)

    function_says : Says (meaning function_line ρ ts b) IsPlainFunction
    unfolding function_line
    function_says v i j (inl h) = value_function_says v i j h
    function_says v i j (inr (inl h)) = operation_says v i j h
    function_says v i j (inr (inr h)) = value_operation_says v i j h

    functions_say : Says (meaning functions_line ρ ts b) (All IsPlainFunction)
    unfolding functions_line
    functions_say = means_section ρ ts b word_functions function_line IsPlainFunction function_says

    module_says : Says (meaning module_grammar ρ ts b) IsPlainModule
    unfolding module_grammar
    module_says v i j (a, e, (k1, t, (k2, n, (k3, types, (k4, params, (k5, defs, (k6, exts, (k7, asserts, (k8, funs, end))))))))) =
        subst IsPlainModule (sym e) (record {
          types = types_say ρ a.1.1.0 k2 k3 types;
          parameters = parameters_say ρ a.1.1.1.0 k3 k4 params;
          definitions = definitions_say ρ a.1.1.1.1.0 k4 k5 defs;
          functions = functions_say a.1.1.1.1.1.1.1.0 k7 k8 funs;
        })

  module _ where
    chain_says : Says (meaning chain_line no_form ts b) (All IsPlainIdent)
    unfolding chain_line
    chain_says = means_separated {R = ⊥} no_form ts b less form.name IsPlainIdent idents

    categories_say : Says (meaning categories_line no_form ts b) (All IsPlainIdent)
    unfolding categories_line
    categories_say =
        means_list {R = ⊥} no_form ts b (form.behind word_categories (form.ended names_line semicolon)) IsPlainIdent
        (means_behind {R = ⊥} no_form ts b word_categories (form.ended names_line semicolon) (All IsPlainIdent)
        (means_ended {R = ⊥} no_form ts b names_line semicolon (All IsPlainIdent) (names_says (no_form {V = Ident}))))

    lattice_says : Says (meaning lattice_line no_form ts b) IsPlainLattice
    unfolding lattice_line declared_order_line product_line
    lattice_says v i j (inl (a, e, (k, t, (l, ns, rest)))) = subst IsPlainLattice (sym e) (names_says (no_form {V = Ident}) a.1.0 k l ns)
    lattice_says v i j (inr (a, e, (k, t, (l, ns, (m, u, cs))))) = subst IsPlainLattice (sym e) (chain_says a.1.0 k l ns, categories_say a.1.1.1 m j cs)

    modules_say : Says (meaning modules_line no_form ts b) (All IsPlainIdent)
    unfolding modules_line
    modules_say v i j (a, e, (k, t, (l, ns, end))) = subst (All IsPlainIdent) (sym e) (names_says (no_form {V = Ident}) a.1.0 k l ns)

    sample_says : Says (meaning sample_line no_form ts b) IsPlainIdent
    unfolding sample_line
    sample_says v i j (a, e, (k, t, (l, n, end))) = subst IsPlainIdent (sym e) (idents a.1.0 k l n)

    interface_says : Says (meaning interface_grammar no_form ts b) IsPlainInterface
    unfolding interface_grammar
    interface_says v i j (a, e, (k1, t, (k2, n, (k3, ms, (k4, l, (k5, levels, (k6, s, end))))))) =
        subst IsPlainInterface (sym e) (record {
          name = idents a.1.0 k1 k2 n;
          modules = modules_say a.1.1.0 k2 k3 ms;
          lattice = lattice_says a.1.1.1.0 k3 k4 l;
          sample = sample_says a.1.1.1.1.1.0 k5 k6 s;
        })

-- the tree of an answer, where there is one
abbrev tree_or : {T : Type 0} → T → Result (Reading T) TextFault → T
tree_or t (Ok x) = x.tree
tree_or t (Err f) = t

pub interface_plain : (i : InterfaceTree) → IsTree interfaces i → IsPlainInterface i
interface_plain i (text, (Err f, lexed, e)) = absurd cc
interface_plain i (text, (Ok tokens, lexed, (Err f, read, e))) = absurd cc
interface_plain i (text, (Ok tokens, lexed, (Ok u, read, e))) =
    let same : u ≡ i = ap (tree_or i) (sym e) in
    subst IsPlainInterface same (interface_says tokens (tokens_plain text tokens lexed) most.height u 0 _ read.0)

pub module_plain : (m : Module) → IsTree modules m → IsPlainModule m
module_plain m (text, (Err f, lexed, e)) = absurd cc
module_plain m (text, (Ok tokens, lexed, (Err f, read, e))) = absurd cc
module_plain m (text, (Ok tokens, lexed, (Ok u, read, e))) =
    let same : u ≡ m = ap (tree_or m) (sym e) in
    subst IsPlainModule same (module_says tokens (tokens_plain text tokens lexed) most.height _ u 0 _ read)
