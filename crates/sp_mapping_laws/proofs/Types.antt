-- Where the rows of types break nothing, each upper type has a lower one of its sort.
use Rattle.std.proofs.Common.{◌≡◌, refl, sym, ◌∙◌, ap, subst, arith, rules, ℕ, zero, suc, ◌+◌, ◌<◌, ◌≤◌, List, [], ◌∷◌, ◌++◌, Bool, true, false, Option, Some, None, length, map}
use Rattle.std.specs.Prelude.{IsTrue, if◌then◌else◌, nat_lt, slice_get, slice_index_or}
use Rattle.std.specs.List.{All, flat_map}
use Rattle.sp_text.specs.declared.fault.Rule.TheVariants as rule
use Rattle.sp_text.specs.declared.fault.Span.{Span}
use Rattle.sp_text.specs.Violations.{breaks}
use Rattle.sp_values.specs.declared.value.Ty.{Ty}
use Rattle.sp_values.specs.declared.value.Ty.TheVariants as ty
use Rattle.sp_core.specs.declared.function.TypeInfo.{TypeInfo}
use Rattle.sp_core.specs.Parts.{Parts, signature}
use Rattle.sp_core.specs.Typing.{is_type}
use Rattle.sp_core.specs.WellFormed.{AreDifferent, IsWellFormed, members_of, names_of}
use Rattle.sp_naming.specs.declared.declaration.Entity.{Entity}
use Rattle.sp_naming.specs.declared.declaration.Entity.TheVariants as entity
use Rattle.sp_naming.specs.Names.{is_among, repeated_names}
use Rattle.sp_judge.specs.Names.{shared_of}
use Rattle.sp_judge.specs.Visible.{Visible, see}
use Rattle.sp_typed.specs.Fits.{IsMeant}
use Rattle.sp_typed.proofs.Fitting.{append_left, append_right, behind_inner, behind_own}
use Rattle.sp_functions.specs.Laws.{IsSeenBy}
use Rattle.sp_instance.specs.Heads.{kind_broken, names_in}
use Rattle.sp_instance.specs.Words.{place_of}
use Rattle.sp_mapping_rules.specs.Levels.{type_over}
use Rattle.sp_mapping_rules.specs.Types.{TypeRow, at_place, declared_number, item_at, lower_number, lower_type, missing, number_given, number_or_none, same_sort, sort_broken, type_head, type_heads, type_missing, type_name, type_number, type_numbers, type_row_broken, type_rule, types_broken, types_missing, upper_type}
use Rattle.sp_mapping_laws.proofs.Lists.{IsFound, all_of, got_map, index_is, item_found, makes_nothing, map_got, map_same, place_is, some_item, types_different}

pub is_known : (place : Span) (names : List (List ℕ)) (x : List ℕ) → missing place names x ≡ [] → is_among names x ≡ true
is_known place names x h = by (is_among names x) refl h
  where
    by : (b : Bool) → is_among names x ≡ b → (if b then [] else breaks place rule.NoMapping) ≡ [] → is_among names x ≡ true
    by true e h = e
    by false e h = absurd cc

declared : (p : Span) (o : Option Entity) → type_rule p o ≡ [] → (k : ℕ) × (o ≡ Some (entity.Declared k))
declared p None h = absurd cc
declared p (Some (entity.Declared k)) h = (k, refl)
declared p (Some (entity.Member t m)) h = absurd cc
declared p (Some (entity.Param k)) h = absurd cc
declared p (Some (entity.Definition k)) h = absurd cc
declared p (Some (entity.Function k)) h = absurd cc
declared p (Some (entity.Level k)) h = absurd cc

sorted : (p : Span) (a b : TypeInfo) → sort_broken p (Some a) (Some b) ≡ [] → IsTrue (same_sort a b)
sorted p a b h = by (same_sort a b) refl h
  where
    by : (c : Bool) → same_sort a b ≡ c → (if c then [] else breaks p rule.WrongKind) ≡ [] → IsTrue (same_sort a b)
    by true e h = e
    by false e h = absurd cc

pub below : (k n : ℕ) → IsTrue (nat_lt k n) → k < n
below k n h = grind (arith, rules)

pub less : (k n : ℕ) → k < n → IsTrue (nat_lt k n)
less k n h = grind (arith, rules)

-- upper type k, named a, becomes this lower type
pub record IsTypeRow (p : Parts) (ts : List ℕ) (k : ℕ) (a : TypeInfo) : Type 0 where
  pub lower : TypeInfo
  pub there : slice_get p.types (slice_index_or ts k 0) ≡ Some lower
  pub sort : IsTrue (same_sort a lower)
  pub number : slice_index_or ts k 0 < length p.types

module _ (u p : Parts) (w : IsWellFormed u) (s : Visible) (seen : IsSeenBy (signature p) s) (place : Span) (rows : List TypeRow)
    (fine : types_broken u p s rows ≡ []) (all : types_missing place rows u.types ≡ []) where
  abbrev ts : List ℕ
  ts = type_numbers s rows u.types

  type_names : AreDifferent (map type_name u.types)
  type_names = subst AreDifferent (map_same (λ i. i.name) type_name u.types (λ x. refl)) (types_different u w.names)

  each : (j : ℕ) (r : TypeRow) → slice_get rows j ≡ Some r → type_row_broken u p s r ≡ []
  each j r e = makes_nothing (type_row_broken u p s) rows (append_right (repeated_names [] (type_heads rows)) (flat_map (type_row_broken u p s) rows) fine) j r e

  pub typed_row : (k : ℕ) (a : TypeInfo) → slice_get u.types k ≡ Some a → IsTypeRow p ts k a
  typed_row k a at =
      let f : IsFound type_head rows a.name = item_found type_head rows a.name (is_known place (names_in (type_heads rows)) a.name (makes_nothing (type_missing place rows) u.types all k a at)) in
      let r = f.item in
      let own = each f.place r f.there in
      let names = kind_broken (map type_name u.types) (names_of u) r.0 in
      let lower = type_rule r.1.span (see s r.1.name) in
      let sort = sort_broken r.1.span (upper_type u.types r) (lower_type s p.types r) in
      let d = declared r.1.span (see s r.1.name) (append_right names lower (behind_inner (names ++ lower) sort own)) in
      let m : lower_number s r ≡ Some d.0 = ap declared_number d.1 in
      let there : IsTrue (nat_lt d.0 (length p.types)) = subst (λ o. IsMeant (signature p) [] (shared_of o)) d.1 (seen.scope.shared r.1.name) in
      let lt = below d.0 (length p.types) there in
      let b = some_item p.types d.0 lt in
      let number : type_number s rows a ≡ d.0 = ap (number_given s) f.found ∙ ap number_or_none m in
      let here : slice_index_or ts k 0 ≡ d.0 = index_is ts k 0 (type_number s rows a) (map_got (type_number s rows) u.types k a at) ∙ number in
      let upper : upper_type u.types r ≡ Some a = ap (λ x. at_place u.types (place_of (map type_name u.types) x)) f.name ∙ ap (at_place u.types) (place_is (map type_name u.types) type_names k a.name (map_got type_name u.types k a at)) ∙ at in
      let under : lower_type s p.types r ≡ Some b.0 = ap (at_place p.types) m ∙ b.1 in
      record {
        lower = b.0;
        there = ap (slice_get p.types) here ∙ b.1;
        sort = sorted r.1.span a b.0 (sym (λ i. sort_broken r.1.span (upper i) (under i)) ∙ behind_own (names ++ lower) sort own);
        number = subst (λ n. n < length p.types) (sym here) lt;
      }

  -- types become types
  pub type_there : (t : Ty) → IsTrue (is_type (signature u) t) → IsTrue (is_type (signature p) (type_over ts t))
  type_there ty.Boolean h = refl
  type_there ty.Integer h = refl
  type_there ty.Level h = refl
  type_there (ty.Member k) h =
      let a = some_item u.types k (below k (length u.types) h) in
      less (slice_index_or ts k 0) (length p.types) (typed_row k a.0 a.1).number

  pub types_there : All (λ k. k < length p.types) ts
  types_there = all_of (λ k. k < length p.types) ts (λ k n e.
      let a = got_map (type_number s rows) u.types k n e in
      subst (λ m. m < length p.types) (index_is ts k 0 n e) (typed_row k a.0 a.1).number)
