-- Which V-functions an expression of a text reads after expansion, each with its place.
use Rattle.std.specs.Prelude.{◌≡◌, ℕ, List, [], ◌∷◌, ◌++◌, Bool, false, Option, None, Some, slice_get}
use Rattle.sp_text.specs.declared.fault.Span.{Span}
use Rattle.sp_core.specs.declared.expr.Expr.{Expr}
use Rattle.sp_core.specs.Tree.{tree}
use Rattle.sp_plain.specs.Text.{Text, Texts, Name, Number, Truth, Unknown, Bottom, Top, Call, New, Paren, Not, Binary, Join, If, Quant, none, more}
use Rattle.sp_text.specs.declared.fault.Rule.{Rule}
use Rattle.sp_text.specs.declared.violation.Violation.{Violation}
use Rattle.sp_naming.specs.declared.declaration.Entity.TheVariants as entity
use Rattle.sp_judge.specs.Visible.{Visible}
use Rattle.sp_scopes.specs.declared.heads.Local.{Local}
use Rattle.sp_judge.specs.declared.scope.Meaning.{Meaning}
use Rattle.sp_judge.specs.declared.scope.Meaning.TheVariants as meaning_
use Rattle.sp_judge.specs.Names.{meaning, with_formal}
use Rattle.sp_reads.specs.Reads.{is_flagged, read, reads_put}

-- all of some lists
abbrev pub together : List (List Violation) → List Violation
together [] = []
together (a ∷ as') = a ++ together as'

abbrev pub expanded_reads : List Bool → Span → Rule → List (List Violation) → Option Expr → List Violation
expanded_reads flags p r as' None = []
expanded_reads flags p r as' (Some e) = reads_put flags p r as' (tree e)

-- a call at `p` whose arguments have these reads; what a definition's expression reads stands at the call
abbrev pub call_reads : Visible → List Bool → Span → Rule → List (List Violation) → Meaning → List Violation
call_reads s flags p r as' (meaning_.Shared (entity.Param k)) = together as'
call_reads s flags p r as' (meaning_.Shared (entity.Function g)) = read flags p r g ++ together as'
call_reads s flags p r as' (meaning_.Shared (entity.Definition k)) = expanded_reads flags p r as' (slice_get s.cores k)
call_reads s flags p r as' m = []

abbrev pub quote_reads : List Bool → Span → Rule → List (List Violation) → Meaning → List Violation
quote_reads flags p r as' (meaning_.Shared (entity.Function g)) = read flags p r g ++ together as'
quote_reads flags p r as' m = []

-- all reads of flagged V-functions, as rule r
abbrev mutual
  pub reads : Visible → List Bool → Rule → List Local → Text → List Violation
  reads s flags r l (Name p x) = []
  reads s flags r l (Number p n) = []
  reads s flags r l (Truth p b) = []
  reads s flags r l (Unknown p) = []
  reads s flags r l (Bottom p) = []
  reads s flags r l (Top p) = []
  reads s flags r l (Call p f ds) = call_reads s flags p r (read_lists s flags r l ds) (meaning s l f.name)
  reads s flags r l (New p f ds) = quote_reads flags p r (read_lists s flags r l ds) (meaning s l f.name)
  reads s flags r l (Paren p a) = reads s flags r l a
  reads s flags r l (Not p a) = reads s flags r l a
  reads s flags r l (Binary p o a b) = reads s flags r l a ++ reads s flags r l b
  reads s flags r l (Join p u a b) = reads s flags r l a ++ reads s flags r l b
  reads s flags r l (If p c a b) = reads s flags r l c ++ (reads s flags r l a ++ reads s flags r l b)
  reads s flags r l (Quant p u f b) = reads s flags r (with_formal s l f) b

  pub read_lists : Visible → List Bool → Rule → List Local → Texts → List (List Violation)
  read_lists s flags r l none = []
  read_lists s flags r l (more d ds) = reads s flags r l d ∷ read_lists s flags r l ds

-- the V-function isn't one of those that may not be read
abbrev pub IsClear : List Bool → ℕ → Type 0
IsClear flags g = is_flagged (slice_get flags g) ≡ false
