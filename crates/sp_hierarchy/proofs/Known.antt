-- The interfaces that rows name are among those that are read.
use Rattle.std.proofs.Common.{◌≡◌, ◌∙◌, ℕ, zero, suc, Bool, true, false, List, [], ◌∷◌, ◌++◌, None, Some, Result, Ok, Err, ap, refl, slice_get, subst, sym}
use Rattle.std.specs.Prelude.{◌||◌, if◌then◌else◌}
use Rattle.std.specs.List.{list_any}
use Rattle.std.specs.Str.{bytes_eq}
use Rattle.std.proofs.lemmas.Slice.Eq.{bytes_eq-Decides}
use Rattle.sp_outside.specs.Files.{Files}
use Rattle.sp_tree.specs.declared.names.Ident.{Ident}
use Rattle.sp_frame.specs.declared.refusal.Refusal.{Refusal}
use Rattle.sp_hierarchy_rows.specs.Names.{interface_names, with_name, with_rows}
use Rattle.sp_hierarchy.specs.Known.{IsRead, RowsAreRead}
use Rattle.sp_hierarchy.specs.Texts.{HierarchyRead, MappingRead, MappingsRead, NamedRead, SystemsRead}
use Rattle.sp_hierarchy.specs.declared.texts.HierarchyTexts.{HierarchyTexts}
use Rattle.sp_hierarchy.specs.declared.texts.NamedSystem.{NamedSystem}
use Rattle.sp_hierarchy.specs.declared.texts.RowMapping.{RowMapping}
use Rattle.sp_hierarchy.proofs.Places.{each_from, each_there}

-- ---- the names

abbrev IsIn : List (List ℕ) → List ℕ → Type 0
IsIn names x = (k : ℕ) × (slice_get names k ≡ Some x)

in_first : (names more : List (List ℕ)) (x : List ℕ) → IsIn names x → IsIn (names ++ more) x
in_first [] more x (k, e) = absurd cc
in_first (y ∷ names) more x (zero, e) = (0, e)
in_first (y ∷ names) more x (suc k, e) = let rest = in_first names more x (k, e) in (suc rest.0, rest.1)

in_last : (names : List (List ℕ)) (x : List ℕ) → IsIn (names ++ x ∷ []) x
in_last [] x = (0, refl)
in_last (y ∷ names) x = let rest = in_last names x in (suc rest.0, rest.1)

found_in : (names : List (List ℕ)) (x : List ℕ) → list_any (λ y. bytes_eq y x) names ≡ true → IsIn names x
found_in [] x e = absurd cc
found_in (y ∷ names) x e = by (bytes_eq y x) refl e (found_in names x)
  where
    by : (b : Bool) → bytes_eq y x ≡ b → (b || list_any (λ z. bytes_eq z x) names) ≡ true → (list_any (λ z. bytes_eq z x) names ≡ true → (k : ℕ) × (slice_get names k ≡ Some x)) → (k : ℕ) × (slice_get (y ∷ names) k ≡ Some x)
    by true d f rest = (0, ap Some ((bytes_eq-Decides _ _).0 d))
    by false d f rest = let r = rest f in (suc r.0, r.1)

with_name_in : (names : List (List ℕ)) (x : List ℕ) → IsIn (with_name names x) x
with_name_in names x = by (list_any (λ y. bytes_eq y x) names) refl
  where
    by : (b : Bool) → list_any (λ y. bytes_eq y x) names ≡ b → IsIn (if b then names else names ++ x ∷ []) x
    by true e = found_in names x e
    by false e = in_last names x

with_name_kept : (names : List (List ℕ)) (x y : List ℕ) → IsIn names y → IsIn (with_name names x) y
with_name_kept names x y h = by (list_any (λ z. bytes_eq z x) names)
  where
    by : (b : Bool) → IsIn (if b then names else names ++ x ∷ []) y
    by true = h
    by false = in_first names (x ∷ []) y h

with_rows_kept : (names : List (List ℕ)) (rows : List (Ident × Ident × Ident)) (y : List ℕ) → IsIn names y → IsIn (with_rows names rows) y
with_rows_kept names [] y h = h
with_rows_kept names (row ∷ rows) y h =
    with_rows_kept (with_name (with_name names row.0.name) row.1.name) rows y (with_name_kept (with_name names row.0.name) row.1.name y (with_name_kept names row.0.name y h))

row_in : (names : List (List ℕ)) (rows : List (Ident × Ident × Ident)) (k : ℕ) (row : Ident × Ident × Ident) → slice_get rows k ≡ Some row
    → IsIn (with_rows names rows) row.0.name × IsIn (with_rows names rows) row.1.name
row_in names [] k row e = absurd cc
row_in names (first ∷ rows) zero row e =
    let same : first ≡ row = cc in
    let upper = with_name names first.0.name in
    let both = with_name upper first.1.name in
    subst (λ (r : Ident × Ident × Ident). IsIn (with_rows both rows) r.0.name × IsIn (with_rows both rows) r.1.name) same (
      with_rows_kept both rows first.0.name (with_name_kept upper first.1.name first.0.name (with_name_in names first.0.name)),
      with_rows_kept both rows first.1.name (with_name_in upper first.1.name),
    )
row_in names (first ∷ rows) (suc k) row e = row_in (with_name (with_name names first.0.name) first.1.name) rows k row e

-- ---- what is read

module _ (files : Files) where
  named_as : (name : List ℕ) (x : NamedSystem) → NamedRead name files (Ok x) → x.name ≡ name
  named_as name x (Err r, first, rest) = absurd cc
  named_as name x (Ok s, first, rest) = let is : x ≡ record { name = name; system = s } = cc in ap (λ (y : NamedSystem). y.name) is

  is_read : (rows : List (Ident × Ident × Ident)) (xs : List NamedSystem) (name : List ℕ) → SystemsRead (interface_names rows) files (Ok xs) → IsIn (interface_names rows) name → IsRead xs name
  unfolding SystemsRead
  is_read rows xs name read (k, e) =
      let there = each_there (λ n. NamedRead n files) (interface_names rows) xs k name read e in
      (k, there.0, there.1, named_as name there.0 there.2)

  row_of : (row : Ident × Ident × Ident) (r : RowMapping) → MappingRead row files (Ok r) → (r.upper ≡ row.0.name) × (r.lower ≡ row.1.name)
  row_of row r (Err f, first, rest) = absurd cc
  row_of row r (Ok t, first, rest) =
      let is : r ≡ record { upper = row.0.name; lower = row.1.name; name = row.2.name; tree = t } = cc in
      (ap (λ (y : RowMapping). y.upper) is, ap (λ (y : RowMapping). y.lower) is)

  both_read : (rows : List (Ident × Ident × Ident)) (xs : List NamedSystem) (ms : List RowMapping) → SystemsRead (interface_names rows) files (Ok xs) → MappingsRead rows files (Ok ms) → (k : ℕ) (r : RowMapping) → slice_get ms k ≡ Some r
      → IsRead xs r.upper × IsRead xs r.lower
  unfolding MappingsRead
  both_read rows xs ms systems mappings k r e =
      let from = each_from (λ row. MappingRead row files) rows ms k r mappings e in
      let names = row_of from.0 r from.2 in
      let within = row_in [] rows k from.0 from.1 in (
        subst (IsRead xs) (sym names.0) (is_read rows xs from.0.0.name systems within.0),
        subst (IsRead xs) (sym names.1) (is_read rows xs from.0.1.name systems within.1),
      )

pub rows_are_read : RowsAreRead
rows_are_read files file t (Err r, first, rest) k m e = absurd cc
rows_are_read files file t (Ok h, first, (Err r, second, rest)) k m e = absurd cc
rows_are_read files file t (Ok h, first, (Ok xs, second, (Err r, third, rest))) k m e = absurd cc
rows_are_read files file t (Ok h, first, (Ok xs, second, (Ok ms, third, rest))) k m e =
    let is : t ≡ record { hierarchy = h; interfaces = xs; mappings = ms } = cc in
    let here = sym (ap (λ (y : HierarchyTexts). slice_get y.mappings k) is) ∙ e in
    subst (λ (y : HierarchyTexts). IsRead y.interfaces m.upper × IsRead y.interfaces m.lower) (sym is) (both_read files h.rows xs ms second third k m here)
