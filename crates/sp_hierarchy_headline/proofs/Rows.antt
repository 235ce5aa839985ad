-- The names in the text of a mapping that was read are words, and so its flow formulas are named.
use Rattle.std.proofs.Common.{◌≡◌, ℕ, ◌+◌, List, [], ◌∷◌, ◌++◌, Option, None, Some, Result, Ok, Err, ap, length, map, refl, sym, subst}
use Rattle.std.specs.Fmt.{decimal}
use Rattle.std.specs.List.{All, flat_map}
use Rattle.std.proofs.lemmas.List.Elements.{All-append, All-cons, All-head, All-nil, All-tail}
use Rattle.sp_text.specs.declared.fault.TextFault.{TextFault}
use Rattle.sp_text.specs.declared.token.Token.{Token}
use Rattle.sp_values.specs.declared.value.Ty.{Ty}
use Rattle.sp_tree.specs.declared.interface.Equation.{Equation}
use Rattle.sp_tree.specs.declared.interface.MappingTree.{MappingTree}
use Rattle.sp_tree.specs.declared.names.Ident.{Ident}
use Rattle.sp_grammar.specs.Codes.{comma, word_functions}
use Rattle.sp_grammar.specs.Texts.{most}
use Rattle.sp_expression.specs.Grammar as expressions
use Rattle.sp_forms.specs.Grammars.{meaning, no_form}
use Rattle.sp_forms.specs.Grammars as form
use Rattle.sp_cursor.specs.Lines.{names_line}
use Rattle.sp_interface.specs.Equations.{equation_line, formal_names_line}
use Rattle.sp_interface.specs.Mappings.{functions_line, mapping_grammar}
use Rattle.sp_core.specs.declared.expr.Expr.{Expr}
use Rattle.sp_core.specs.declared.function.Formal.{Formal}
use Rattle.sp_core.specs.declared.mapping.MapRow.{MapRow}
use Rattle.sp_core.specs.Parts.{Parts}
use Rattle.sp_core.specs.Tree.{tree}
use Rattle.sp_scopes.specs.declared.scopes.Scopes.{Scopes}
use Rattle.sp_judge.specs.Visible.{Visible}
use Rattle.sp_functions.specs.Assertions.{formal_of}
use Rattle.sp_formulas.specs.Formulas.{Spot, bound_from, reference_formula, reference_formulas}
use Rattle.sp_formulas.specs.References.{Reference, references}
use Rattle.sp_map_formulas.specs.Rows.{map_formulas, row_formulas, row_spot}
use Rattle.sp_mapping_rules.specs.Functions.{formals_given, row_of, upper_function}
use Rattle.sp_mapping_rules.specs.Lower.{lower_view}
use Rattle.sp_mapping_rules.specs.Mappings.{cores_in, mapping_of, types_in}
use Rattle.sp_mapping_rules.specs.Rows.{with_types}
use Rattle.sp_sorts.specs.Sorts.{mappings}
use Rattle.sp_sorts.specs.Texts.{IsTree}
use Rattle.sp_sorts.specs.declared.reading.Reading.{Reading}
use Rattle.sp_plain_names.specs.Names.{IsPlain}
use Rattle.sp_plain_names.proofs.Forms.{Says, means_section, means_separated}
use Rattle.sp_plain_names.proofs.Tokens.{ArePlainTokens, plain_at, tokens_plain}
use Rattle.sp_plain_names.proofs.Trees.{IsPlainIdent}
use Rattle.sp_headline.proofs.Digits.{decimal_free}
use Rattle.sp_headline.proofs.Expressions.{HasFreeName, plain_free}
use Rattle.sp_headline.proofs.Named.{IsNamed}
use Rattle.sp_headline.proofs.Texts.{free_cons}

-- ---- texts

-- its name and those of its formals are words
abbrev pub IsPlainRow : Equation → Type 0
IsPlainRow r = IsPlain r.name.name × All IsPlainIdent r.formals

pub record IsPlainMapping (t : MappingTree) : Type 0 where
  pub name : IsPlain t.name.name
  pub functions : All IsPlainRow t.functions

module _ (ts : List Token) (plain : ArePlainTokens ts) (b : ℕ) where
  pub idents : Says (expressions.ident ts) IsPlainIdent
  idents x i j h = plain_at ts i x.name x.span plain h.0

  names_say : Says (meaning names_line no_form ts b) (All IsPlainIdent)
  unfolding names_line
  names_say = means_separated {R = ⊥} no_form ts b comma form.name IsPlainIdent idents

  formals_say : Says (meaning formal_names_line no_form ts b) (All IsPlainIdent)
  unfolding formal_names_line
  formals_say v i j (a, e, (k, t, (l, o, u))) =
      subst (All IsPlainIdent) (sym e) (by a.1.0 k l o)
    where
      by : (o : Option (List Ident)) (k l : ℕ) → (meaning (form.optional names_line) no_form ts b).whole o k l → All IsPlainIdent (form.list_or o)
      by None k l h = All-nil IsPlainIdent
      by (Some xs) k l h = names_say xs k l h

  row_says : Says (meaning equation_line no_form ts b) IsPlainRow
  unfolding equation_line
  row_says v i j (a, e, (k, n, (l, f, rest))) = subst IsPlainRow (sym e) (idents a.0 i k n, formals_say a.1.0 k l f)

  functions_say : Says (meaning functions_line no_form ts b) (All IsPlainRow)
  unfolding functions_line
  functions_say = means_section {R = ⊥} no_form ts b word_functions equation_line IsPlainRow row_says

  mapping_says : Says (meaning mapping_grammar no_form ts b) IsPlainMapping
  unfolding mapping_grammar
  mapping_says v i j (a, e, (k1, t, (k2, n, (k3, f, (k4, u, (k5, o, (k6, l, (k7, types, (k8, params, (k9, funs, end)))))))))) =
      subst IsPlainMapping (sym e) (record { name = idents a.1.0 k1 k2 n; functions = functions_say a.1.1.1.1.1.1.1.1.0 k8 k9 funs })

-- the tree of an answer, where there is one
abbrev tree_or : MappingTree → Result (Reading MappingTree) TextFault → MappingTree
tree_or t (Ok x) = x.tree
tree_or t (Err f) = t

pub mapping_plain : (t : MappingTree) → IsTree mappings t → IsPlainMapping t
mapping_plain t (text, (Err f, lexed, e)) = absurd cc
mapping_plain t (text, (Ok tokens, lexed, (Err f, read, e))) = absurd cc
mapping_plain t (text, (Ok tokens, lexed, (Ok u, read, e))) =
    let same : u ≡ t = ap (tree_or t) (sym e) in
    subst IsPlainMapping same (mapping_says tokens (tokens_plain text tokens lexed) most.height u 0 _ read)

-- ---- formulas

-- so it is with the row that it stands for
record IsNamedRow (r : MapRow) : Type 0 where
  pub name : IsPlain r.name
  pub formals : All HasFreeName r.formals

module _ (ts : List ℕ) where
  locals_free : (xs : List Ident) (fs : List Formal) → All IsPlainIdent xs → All HasFreeName (map formal_of (with_types ts xs fs))
  locals_free [] fs h = All-nil HasFreeName
  locals_free (x ∷ xs) [] h = All-nil HasFreeName
  locals_free (x ∷ xs) (f ∷ fs) h =
      All-cons HasFreeName _ _ (plain_free x.name (All-head IsPlainIdent x xs h)) (locals_free xs fs (All-tail IsPlainIdent x xs h))

rows_named : (u : Parts) (s : Visible) (ts : List ℕ) (ps : List Expr) (rows : List Equation) → All IsPlainRow rows → All IsNamedRow (map (row_of u s ts ps) rows)
rows_named u s ts ps [] h = All-nil IsNamedRow
rows_named u s ts ps (r ∷ rows) h =
    let own = All-head IsPlainRow r rows h in
    All-cons IsNamedRow (row_of u s ts ps r) (map (row_of u s ts ps) rows)
    (record { name = own.0; formals = locals_free ts r.formals (formals_given (upper_function u.functions r)) own.1 })
    (rows_named u s ts ps rows (All-tail IsPlainRow r rows h))

module _ (p : Parts) where
  bound_named : (k : ℕ) (ts : List Ty) → All HasFreeName (bound_from k ts)
  bound_named k [] = All-nil HasFreeName
  bound_named k (t ∷ ts) = All-cons HasFreeName _ _ (free_cons 35 (decimal k) refl (decimal_free k)) (bound_named (k + 1) ts)

  references_named : (o : Spot) (rs : List Reference) → IsPlain o.about.name → All HasFreeName o.about.formals → All IsNamed (reference_formulas p o [] rs)
  references_named o [] name formals = All-nil IsNamed
  references_named o (r ∷ rs) name formals =
      All-cons IsNamed (reference_formula p o [] r) (reference_formulas p o [] rs) (record {
        name = plain_free o.about.name name;
        vars = All-append HasFreeName o.about.formals (bound_from (length o.about.formals) (o.bound ++ r.vars)) formals (bound_named (length o.about.formals) (o.bound ++ r.vars));
      }) (references_named o rs name formals)

  row_named : (r : MapRow) → IsNamedRow r → All IsNamed (row_formulas p r)
  row_named r h = references_named (row_spot r) (references (tree r.value)) h.name h.formals

  all_named : (rs : List MapRow) → All IsNamedRow rs → All IsNamed (flat_map (row_formulas p) rs)
  all_named [] h = All-nil IsNamed
  all_named (r ∷ rs) h =
      All-append IsNamed (row_formulas p r) (flat_map (row_formulas p) rs) (row_named r (All-head IsNamedRow r rs h)) (all_named rs (All-tail IsNamedRow r rs h))

-- of a mapping that the text stands for
pub map_formulas_named : (p upper lower : Parts) (names : Scopes) (t : MappingTree) → IsPlainMapping t → All IsNamed (map_formulas p (mapping_of upper lower names t))
map_formulas_named p upper lower names t h =
    let s = lower_view lower names in
    all_named p (map (row_of upper s (types_in upper s t) (cores_in upper s t)) t.functions) (rows_named upper s (types_in upper s t) (cores_in upper s t) t.functions h.functions)
