-- The names in the text of a hierarchy that was read are words.
use Rattle.std.proofs.Common.{◌≡◌, ℕ, Bool, true, false, if◌then◌else◌, List, [], ◌∷◌, ◌++◌, Some, Result, Ok, Err, ap, refl, slice_get, subst, sym}
use Rattle.std.specs.List.{All, list_any}
use Rattle.std.specs.Str.{bytes_eq}
use Rattle.std.proofs.lemmas.List.Elements.{All-append, All-cons, All-get_or, All-head, All-nil, All-tail}
use Rattle.std.proofs.lemmas.Option.{get_or_from_slice_get, slice_get_within}
use Rattle.sp_text.specs.declared.fault.TextFault.{TextFault}
use Rattle.sp_text.specs.declared.token.Token.{Token}
use Rattle.sp_tree.specs.declared.interface.HierarchyTree.{HierarchyTree}
use Rattle.sp_tree.specs.declared.names.Ident.{Ident}
use Rattle.sp_grammar.specs.Texts.{most}
use Rattle.sp_forms.specs.Grammars.{meaning, no_form}
use Rattle.sp_interface.specs.Hierarchies.{hierarchy_grammar, row_line, rows_line}
use Rattle.sp_sorts.specs.Sorts.{hierarchies}
use Rattle.sp_sorts.specs.Texts.{IsTree}
use Rattle.sp_sorts.specs.declared.reading.Reading.{Reading}
use Rattle.sp_plain_names.specs.Names.{IsPlain}
use Rattle.sp_plain_names.proofs.Forms.{Says, says_star}
use Rattle.sp_plain_names.proofs.Tokens.{ArePlainTokens, tokens_plain}
use Rattle.sp_plain_names.proofs.Trees.{IsPlainIdent}
use Rattle.sp_hierarchy_rows.specs.Names.{interface_names, with_name, with_rows}
use Rattle.sp_hierarchy_headline.proofs.Rows.{idents}

-- the three names of a row are words
abbrev pub HasPlainRow : Ident × Ident × Ident → Type 0
HasPlainRow row = IsPlainIdent row.0 × IsPlainIdent row.1 × IsPlainIdent row.2

module _ (ts : List Token) (plain : ArePlainTokens ts) (b : ℕ) where
  row_says : Says (meaning row_line no_form ts b) HasPlainRow
  unfolding row_line
  row_says v i j (a, e, (k1, upper, (k2, over, (k3, lower, (k4, by, (k5, own, end)))))) =
      subst HasPlainRow (sym e) (idents ts plain b a.0 i k1 upper, idents ts plain b a.1.1.0 k2 k3 lower, idents ts plain b a.1.1.1.1.0 k4 k5 own)

  rows_say : Says (meaning rows_line no_form ts b) (All HasPlainRow)
  unfolding rows_line
  rows_say = says_star (meaning row_line no_form ts b) HasPlainRow row_says

  hierarchy_says : Says (meaning hierarchy_grammar no_form ts b) (λ t. All HasPlainRow t.rows)
  unfolding hierarchy_grammar
  hierarchy_says v i j (a, e, (k1, t, (k2, n, (k3, rows, end)))) = subst (λ (t : HierarchyTree). All HasPlainRow t.rows) (sym e) (rows_say a.1.1.0 k2 k3 rows)

-- the tree of an answer, where there is one
abbrev tree_or : HierarchyTree → Result (Reading HierarchyTree) TextFault → HierarchyTree
tree_or t (Ok x) = x.tree
tree_or t (Err f) = t

pub hierarchy_plain : (t : HierarchyTree) → IsTree hierarchies t → All HasPlainRow t.rows
hierarchy_plain t (text, (Err f, lexed, e)) = absurd cc
hierarchy_plain t (text, (Ok tokens, lexed, (Err f, read, e))) = absurd cc
hierarchy_plain t (text, (Ok tokens, lexed, (Ok u, read, e))) =
    let same : u ≡ t = ap (tree_or t) (sym e) in
    subst (λ (x : HierarchyTree). All HasPlainRow x.rows) same (hierarchy_says tokens (tokens_plain text tokens lexed) most.height u 0 _ read.0)

-- ---- the interfaces that rows mention

with_name_plain : (names : List (List ℕ)) (x : List ℕ) → All IsPlain names → IsPlain x → All IsPlain (with_name names x)
with_name_plain names x h p = by (list_any (λ y. bytes_eq y x) names)
  where
    by : (t : Bool) → All IsPlain (if t then names else names ++ x ∷ [])
    by true = h
    by false = All-append IsPlain names (x ∷ []) h (All-cons IsPlain x [] p (All-nil IsPlain))

with_rows_plain : (names : List (List ℕ)) (rows : List (Ident × Ident × Ident)) → All IsPlain names → All HasPlainRow rows → All IsPlain (with_rows names rows)
with_rows_plain names [] h r = h
with_rows_plain names (row ∷ rows) h r =
    let own = All-head HasPlainRow row rows r in
    let upper = with_name_plain names row.0.name h own.0 in
    with_rows_plain (with_name (with_name names row.0.name) row.1.name) rows (with_name_plain (with_name names row.0.name) row.1.name upper own.1) (All-tail HasPlainRow row rows r)

pub names_plain : (rows : List (Ident × Ident × Ident)) → All HasPlainRow rows → All IsPlain (interface_names rows)
names_plain rows h = with_rows_plain [] rows (All-nil IsPlain) h

-- what holds of all holds at a place
pub all_at : {X : Type 0} (P : X → Type 0) (xs : List X) (k : ℕ) (x : X) → All P xs → slice_get xs k ≡ Some x → P x
all_at P xs k x h e = subst P (get_or_from_slice_get xs k x x e) (All-get_or P xs k x (slice_get_within xs k x e) h)
