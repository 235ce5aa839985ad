-- Where the tree of an instance's text breaks nothing, what it stands for is an instance of the specification.
use Rattle.std.proofs.Common.{◌≡◌, refl, sym, ◌∙◌, ap, subst, arith, rules, ℕ, ◌<◌, ◌≤◌, List, [], ◌++◌, Bool, true, false, Option, Some, None, length}
use Rattle.std.specs.Prelude.{IsTrue, is_some, map, nat_lt, slice_get, if◌then◌else◌}
use Rattle.std.specs.List.{All, flat_map}
use Rattle.std.specs.Str.{bytes_eq}
use Rattle.sp_text.specs.declared.fault.Quantity.TheVariants as quantity
use Rattle.sp_text.specs.declared.fault.Rule.TheVariants as rule
use Rattle.sp_text.specs.declared.fault.Span.{Span}
use Rattle.sp_text.specs.Violations.{breaks}
use Rattle.sp_values.specs.Domains.{Sizes, are_values, is_value}
use Rattle.sp_tree.specs.declared.instance.InstanceTree.{InstanceTree}
use Rattle.sp_tree.specs.declared.instance.TableTree.{TableTree}
use Rattle.sp_tree.specs.declared.names.Ident.{Ident}
use Rattle.sp_naming.specs.Names.{is_among, repeated_names}
use Rattle.sp_core.specs.declared.function.Param.{Param}
use Rattle.sp_core.specs.declared.function.TypeInfo.{TypeInfo}
use Rattle.sp_core.specs.Instances.{IsInstanceOf, IsTable, TableParts, filling_of, sizes_of}
use Rattle.sp_core.specs.Machine.{types_of}
use Rattle.sp_core.specs.Parts.{Parts}
use Rattle.sp_core.specs.WellFormed.{AreDifferent, IsWellFormed, members_of}
use Rattle.sp_instance.specs.Words.{AreFew, Words, words_of}
use Rattle.sp_instance.specs.Meanings.{IsFit, arguments_broken, arguments_in, value_broken}
use Rattle.sp_instance.proofs.Typed.{arguments_fit, value_fits}
use Rattle.sp_instance.specs.Heads.{names_in, over}
use Rattle.sp_instance.specs.Populations.{members_given, population_broken, population_named, type_broken, type_members, types_broken}
use Rattle.sp_instance.specs.Tables.{RowText, given_broken, missing, param_broken, param_table, row_broken, row_key, row_of, rows_repeated, table_broken, table_given, table_head, table_named, table_of, where_fine}
use Rattle.sp_instance.specs.Instances.{front_broken, instance_broken, instance_of, members_in, populations_named, table_heads, tables_broken, tables_named, words_in}
use Rattle.sp_instance.proofs.Lists.{all_got, all_map, any_map, each_none, found_any, got_map, got_or, inner_none, left_none, length_map, own_none, right_none, short}
use Rattle.sp_instance.proofs.Fresh.{different_each, different_left, different_right, names_different, rows_different}

-- Members

few_by : (xs : List Ident) → over quantity.Population (slice_get xs 64) ≡ [] → length xs ≤ 64
few_by xs h = by (slice_get xs 64) refl h
  where
    by : (o : Option Ident) → slice_get xs 64 ≡ o → over quantity.Population o ≡ [] → length xs ≤ 64
    by None e g = short xs 64 e
    by (Some x) e g = absurd cc

given_few : (p : Span) (o : Option (Ident × List Ident)) → population_broken p o ≡ [] → length (members_given o) ≤ 64
given_few p None h = absurd cc
given_few p (Some r) h =
    let few : length r.1 ≤ 64 = few_by r.1 (right_none (repeated_names [] r.1) (over quantity.Population (slice_get r.1 64)) h) in
    omega (arith, few, length_map (λ (x : Ident). x.name) r.1)

given_different : (p : Span) (o : Option (Ident × List Ident)) → population_broken p o ≡ [] → AreDifferent (members_given o)
given_different p None h = absurd cc
given_different p (Some r) h = names_different r.1 (left_none (repeated_names [] r.1) (over quantity.Population (slice_get r.1 64)) h)

abbrev with_members : TypeInfo → Option (List (List ℕ)) → TypeInfo
with_members i o = record i { members = o }

type_few : (p : Span) (rows : List (Ident × List Ident)) (i : TypeInfo) (o : Option (List (List ℕ))) → type_broken p rows (with_members i o) ≡ [] →
    length (members_of (with_members i o)) ≤ 64 → length (type_members rows (with_members i o)) ≤ 64
type_few p rows i (Some names) b m = m
type_few p rows i None b m = given_few p (population_named rows i.name) b

type_different : (p : Span) (rows : List (Ident × List Ident)) (i : TypeInfo) (o : Option (List (List ℕ))) → type_broken p rows (with_members i o) ≡ [] →
    AreDifferent (members_of (with_members i o)) → AreDifferent (type_members rows (with_members i o))
type_different p rows i (Some names) b m = m
type_different p rows i None b m = given_different p (population_named rows i.name) b

enumerated : (rows : List (Ident × List Ident)) (i : TypeInfo) (o : Option (List (List ℕ))) (names : List (List ℕ)) → o ≡ Some names → type_members rows (with_members i o) ≡ names
enumerated rows i (Some ns) names e = cc
enumerated rows i None names e = absurd cc

types_none : (p : Parts) (t : InstanceTree) → front_broken p t ≡ [] → types_broken t.name.span t.populations p.types ≡ []
types_none p t h =
    right_none (populations_named p t) (types_broken t.name.span t.populations p.types)
    (left_none (populations_named p t ++ types_broken t.name.span t.populations p.types) (flat_map (missing t.name.span (names_in (table_heads t))) p.params) h)

pub members_few : (p : Parts) → IsWellFormed p → (t : InstanceTree) → front_broken p t ≡ [] → All (λ names. length names ≤ 64) (members_in p t)
members_few p wf t h = all_map (λ names. length names ≤ 64) (type_members t.populations) p.types (λ k i e.
    type_few t.name.span t.populations i i.members (each_none (type_broken t.name.span t.populations) p.types k i (types_none p t h) e)
    (all_got (λ i. length (members_of i) ≤ 64) p.types k i wf.few_members e))

all_members_different : (p : Parts) → IsWellFormed p → AreDifferent (flat_map members_of p.types)
all_members_different p wf =
    different_right (map (λ i. i.name) p.types) (flat_map members_of p.types)
    (different_left (map (λ i. i.name) p.types ++ flat_map members_of p.types) (map (λ q. q.name) p.params)
    (different_left (map (λ i. i.name) p.types ++ flat_map members_of p.types ++ map (λ q. q.name) p.params) (map (λ f. f.name) p.functions)
    (different_left (map (λ i. i.name) p.types ++ flat_map members_of p.types ++ map (λ q. q.name) p.params ++ map (λ f. f.name) p.functions) p.level_names wf.names)))

members_different : (p : Parts) → IsWellFormed p → (t : InstanceTree) → front_broken p t ≡ [] → All AreDifferent (members_in p t)
members_different p wf t h = all_map AreDifferent (type_members t.populations) p.types (λ k i e.
    type_different t.name.span t.populations i i.members (each_none (type_broken t.name.span t.populations) p.types k i (types_none p t h) e)
    (different_each members_of p.types k i (all_members_different p wf) e))

members_kept : (p : Parts) (t : InstanceTree) (k : ℕ) (i : TypeInfo) (names : List (List ℕ)) → slice_get p.types k ≡ Some i → i.members ≡ Some names → slice_get (members_in p t) k ≡ Some names
members_kept p t k i names e m = got_map (type_members t.populations) p.types k i e ∙ ap Some (enumerated t.populations i i.members names m)

-- The names fit

less : (m n : ℕ) → m < n → nat_lt m n ≡ true
less m n h = grind (arith, rules)

pub fit : (p : Parts) → IsWellFormed p → (members : List (List (List ℕ))) (tables : List TableParts) →
    IsFit (sizes_of p (filling_of (record { members = members; tables = tables }))) (words_of p members)
fit p wf members tables = record {
  levels = wf.level_names;
  least = less (words_of p members).least p.lattice.count wf.lattice.bottom_is_level;
  greatest = less (words_of p members).greatest p.lattice.count wf.lattice.top_is_level;
  members = λ k names e. got_or (map (λ names. length names) members) k (length names) 0 (got_map (λ names. length names) members k names e);
}

-- and are few
pub few : (p : Parts) → IsWellFormed p → (members : List (List (List ℕ))) → All (λ names. length names ≤ 64) members → AreFew (words_of p members)
few p wf members h = record { levels = omega (arith, wf.level_names, wf.lattice.few); members = h }

-- Tables

keyed : (w : Words) (q : Param) (p : Span) (r : RowText) → row_broken w q p r ≡ [] → row_key w q p r ≡ Some (row_of w q r).0
keyed w q p r h =
    ap (λ vs. where_fine vs (arguments_in w false (types_of q.formals) r.0)) (left_none (arguments_broken w false p (types_of q.formals) r.0) (value_broken w false q.ty r.1) h)

rows_none : (w : Words) (q : Param) (t : TableTree) → table_broken w q t ≡ [] → flat_map (row_broken w q t.name.span) t.rows ≡ []
rows_none w q t h =
    left_none (flat_map (row_broken w q t.name.span) t.rows) (rows_repeated (row_key w q t.name.span) [] t.rows)
    (left_none (flat_map (row_broken w q t.name.span) t.rows ++ rows_repeated (row_key w q t.name.span) [] t.rows) (value_broken w false q.ty t.other) h)

repeats_none : (w : Words) (q : Param) (t : TableTree) → table_broken w q t ≡ [] → rows_repeated (row_key w q t.name.span) [] t.rows ≡ []
repeats_none w q t h =
    right_none (flat_map (row_broken w q t.name.span) t.rows) (rows_repeated (row_key w q t.name.span) [] t.rows)
    (left_none (flat_map (row_broken w q t.name.span) t.rows ++ rows_repeated (row_key w q t.name.span) [] t.rows) (value_broken w false q.ty t.other) h)

is_table : (sizes : Sizes) (w : Words) → IsFit sizes w → (q : Param) (t : TableTree) → table_broken w q t ≡ [] → IsTable sizes q (table_of w q t)
is_table sizes w f q t h = record {
  arguments = all_map (λ r. IsTrue (are_values sizes (types_of q.formals) r.0)) (row_of w q) t.rows (λ k r e.
      arguments_fit sizes w f false t.name.span (types_of q.formals) r.0 (left_none (arguments_broken w false t.name.span (types_of q.formals) r.0) (value_broken w false q.ty r.1) (own k r e)));
  values = all_map (λ r. IsTrue (is_value sizes q.ty r.1)) (row_of w q) t.rows (λ k r e.
      value_fits sizes w f false q.ty r.1 (right_none (arguments_broken w false t.name.span (types_of q.formals) r.0) (value_broken w false q.ty r.1) (own k r e)));
  other = value_fits sizes w f false q.ty t.other
      (right_none (flat_map (row_broken w q t.name.span) t.rows ++ rows_repeated (row_key w q t.name.span) [] t.rows) (value_broken w false q.ty t.other) h);
  different = λ i j a b d e s.
      rows_different (row_key w q t.name.span) (row_of w q) t.rows (λ k r g. keyed w q t.name.span r (own k r g)) (repeats_none w q t h) i j a.0
      (got_map (λ r. r.0) (map (row_of w q) t.rows) i a d) (got_map (λ r. r.0) (map (row_of w q) t.rows) j b e ∙ ap Some (sym s));
}
  where
    own : (k : ℕ) (r : RowText) → slice_get t.rows k ≡ Some r → row_broken w q t.name.span r ≡ []
    own k r e = each_none (row_broken w q t.name.span) t.rows k r (rows_none w q t h) e

among_none : (p : Span) (b : Bool) → (if b then [] else breaks p rule.NoTable) ≡ [] → b ≡ true
among_none p true h = refl
among_none p false h = absurd cc

there : (p : Span) (tables : List TableTree) (q : Param) → missing p (names_in (map table_head tables)) q ≡ [] → is_some (table_named tables q.name) ≡ true
there p tables q h =
    found_any (λ (y : TableTree). bytes_eq q.name (table_head y).name) tables
    ∙ sym (any_map (λ (x : Ident). bytes_eq q.name x.name) table_head tables)
    ∙ sym (any_map (bytes_eq q.name) (λ (x : Ident). x.name) (map table_head tables))
    ∙ among_none p (is_among (names_in (map table_head tables)) q.name) h

is_given : (sizes : Sizes) (w : Words) → IsFit sizes w → (q : Param) (o : Option TableTree) → is_some o ≡ true → given_broken w q o ≡ [] → IsTable sizes q (table_given w q o)
is_given sizes w f q (Some t) s h = is_table sizes w f q t h
is_given sizes w f q None s h = absurd cc

some_same : {X : Type 0} (a b : X) → Some a ≡ Some b → a ≡ b
some_same a b e = cc

-- The instance

abbrev sizes_in : Parts → InstanceTree → Sizes
sizes_in p t = sizes_of p (filling_of (instance_of p t))

pub made : (p : Parts) → IsWellFormed p → (t : InstanceTree) → instance_broken p t ≡ [] → IsInstanceOf p (instance_of p t)
made p wf t h = record {
  few = members_few p wf t front;
  different = members_different p wf t front;
  members = members_kept p t;
  instance = record {
    sizes = length_map (λ names. length names) (members_in p t) ∙ length_map (type_members t.populations) p.types;
    enumerations = λ k i names e m. got_map (λ names. length names) (members_in p t) k names (members_kept p t k i names e m);
    tables = length_map (param_table (words_in p t) t.tables) p.params;
    each = λ n q u d e. subst (IsTable (sizes_in p t) q) (some_same (param_table (words_in p t) t.tables q) u (sym (got_map (param_table (words_in p t) t.tables) p.params n q d) ∙ e)) (table n q d);
  };
}
  where
    front : front_broken p t ≡ []
    front = inner_none (front_broken p t) (tables_broken p t) h

    back : flat_map (param_broken (words_in p t) t.tables) p.params ≡ []
    back = right_none (tables_named p t) (flat_map (param_broken (words_in p t) t.tables) p.params) (own_none (front_broken p t) (tables_broken p t) h)

    tabled : flat_map (missing t.name.span (names_in (table_heads t))) p.params ≡ []
    tabled = right_none (populations_named p t ++ types_broken t.name.span t.populations p.types) (flat_map (missing t.name.span (names_in (table_heads t))) p.params) front

    table : (n : ℕ) (q : Param) → slice_get p.params n ≡ Some q → IsTable (sizes_in p t) q (param_table (words_in p t) t.tables q)
    table n q d =
        is_given (sizes_in p t) (words_in p t) (fit p wf (members_in p t) (map (param_table (words_in p t) t.tables) p.params)) q (table_named t.tables q.name)
        (there t.name.span t.tables q (each_none (missing t.name.span (names_in (table_heads t))) p.params n q tabled d))
        (each_none (param_broken (words_in p t) t.tables) p.params n q back d)
