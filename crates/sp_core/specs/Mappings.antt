-- When a mapping expresses V-functions by the machine of a lower specification. For whoever makes mappings, and for what they promise.
use Rattle.std.specs.Prelude.{◌≡◌, ℕ, ◌<◌, Some, length, slice_get}
use Rattle.std.specs.List.{All}
use Rattle.sp_values.specs.declared.value.Ty.TheVariants as ty
use Rattle.sp_values.specs.declared.value.Ty.{Ty}
use Rattle.sp_core.specs.declared.mapping.Mapping.{Mapping}
use Rattle.sp_core.specs.declared.mapping.MapRow.{MapRow}
use Rattle.sp_core.specs.Machine.{types_of}
use Rattle.sp_core.specs.Measures.{LooksAt, Nothing}
use Rattle.sp_core.specs.Parts.{Parts, signature}
use Rattle.sp_core.specs.Tree.{tree}
use Rattle.sp_core.specs.Typing.{Signature}
use Rattle.sp_core.specs.WellFormed.{AreFormals, IsExpression}

-- a row over a lower specification: its value and its level are expressions of it, over the row's formals
pub record IsRow (sg : Signature) (r : MapRow) (t : Ty) : Type 0 where
  pub formals : AreFormals sg r.formals
  pub value : IsExpression sg (types_of r.formals) (tree r.value) t
  pub level : IsExpression sg (types_of r.formals) (tree r.level) ty.Level
  pub level_reads_nothing : LooksAt Nothing Nothing (tree r.level)

-- a mapping to a lower specification: its types are declared there, and no two rows are of one upper function
pub record IsMappingTo (p : Parts) (m : Mapping) : Type 0 where
  pub types : All (λ k. k < length p.types) m.types
  pub rows : All (λ r. (t : Ty) × IsRow (signature p) r t) m.functions
  pub different : (i j : ℕ) (a b : MapRow) → slice_get m.functions i ≡ Some a → slice_get m.functions j ≡ Some b → a.upper ≡ b.upper → i ≡ j
