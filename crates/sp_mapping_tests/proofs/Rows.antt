-- Rows of a mapping at arguments: their levels are typed, and a place of which one is has a row.
use Rattle.std.proofs.Common.{◌≡◌, ℕ, List, [], ◌∷◌, map, arith, refl, sym, subst, Some, slice_get}
use Rattle.std.proofs.lemmas.List.{length-map}
use Rattle.std.proofs.lemmas.List.Elements.{All-get_or}
use Rattle.std.proofs.lemmas.Option.{get_or_from_slice_get, slice_get_within}
use Rattle.sp_values.specs.declared.value.Ty.{Ty}
use Rattle.sp_values.specs.declared.value.Ty.TheVariants as ty
use Rattle.sp_values.specs.declared.value.Value.{Value}
use Rattle.sp_values.specs.declared.value.Value.TheVariants as value
use Rattle.sp_core.specs.declared.mapping.Mapping.{Mapping}
use Rattle.sp_core.specs.declared.mapping.MapRow.{MapRow}
use Rattle.sp_core.specs.Instances.{InstanceParts, filling_of, sizes_of}
use Rattle.sp_core.specs.Machine.{types_of}
use Rattle.sp_core.specs.Mappings.{IsMappingTo, IsRow}
use Rattle.sp_core.specs.Parts.{Parts, signature}
use Rattle.sp_core.specs.Tree.{tree}
use Rattle.sp_core.proofs.Bindings.{length_values}
use Rattle.sp_eval.specs.Conditions.{IsTypedIn}
use Rattle.sp_animator.specs.Views.{IsMapped, translated}
use Rattle.sp_mapping_tests.specs.Views.{AreOf}

pub row_in : (p : Parts) (m : Mapping) (k : ℕ) (r : MapRow) → IsMappingTo p m → slice_get m.functions k ≡ Some r → (t : Ty) × IsRow (signature p) r t
row_in p m k r fits e =
    let P : MapRow → Type 0 = λ r. (t : Ty) × IsRow (signature p) r t in
    subst P (get_or_from_slice_get m.functions k r r e) (All-get_or P m.functions k r (slice_get_within m.functions k r e) fits.rows)

pub level_typed : (p : Parts) (i : InstanceParts) (r : MapRow) (x y : List Value) → ((t : Ty) × IsRow (signature p) r t) → AreOf p i r x → y ≡ x → IsTypedIn p i y (tree r.level)
level_typed p i r x y row values e =
    let typed = subst (AreOf p i r) (sym e) values in
    let long = length_values (sizes_of p (filling_of i)) (types_of r.formals) y typed in
    let many = length-map r.formals (λ q. q.ty) in
    (types_of r.formals, ty.Level, record { values = typed; typed = row.1.level.typed; room = omega (arith, long, many, row.1.formals.few, row.1.level.few_quantifiers) })

pub mapped_at : (p : Parts) (i : InstanceParts) (m : Mapping) (k : ℕ) (r : MapRow) (a b : ℕ) (v : Value) (args : List Value) → slice_get m.functions k ≡ Some r
    → v ≡ translated m.types (value.Member a b) → AreOf p i r (v ∷ []) → args ≡ value.Member a b ∷ [] → IsMapped p i m (record { fun = r.upper; args = args })
mapped_at p i m k r a b v args there same typed e =
    let one : AreOf p i r (map (translated m.types) (value.Member a b ∷ [])) = subst (λ w. AreOf p i r (w ∷ [])) same typed in
    (k, r, record { there = there; upper = refl; arguments = subst (λ xs. AreOf p i r (map (translated m.types) xs)) (sym e) one })
