-- What an effect that is written as an expression is: a change, a result, or neither; and on which paths results stand.
use Rattle.std.specs.Prelude.{ℕ, Bool, false, List, Option, None, Some, if◌then◌else◌, ◌||◌, ◌&&◌}
use Rattle.std.specs.Str.{bytes_eq}
use Rattle.sp_text.specs.declared.fault.Span.{Span}
use Rattle.sp_values.specs.declared.value.Ty.{Ty}
use Rattle.sp_tree.specs.declared.names.Ident.{Ident}
use Rattle.sp_tree.specs.declared.expr.BinOp.TheVariants as bin
use Rattle.sp_plain.specs.Text.{Text, Texts, Name, New, Binary}
use Rattle.sp_naming.specs.declared.declaration.Entity.TheVariants as entity
use Rattle.sp_scopes.specs.declared.heads.Local.{Local}
use Rattle.sp_judge.specs.Broken.{primitive_of}
use Rattle.sp_judge.specs.Names.{meaning}
use Rattle.sp_judge.specs.Visible.{Visible, function_at}
use Rattle.sp_judge.specs.declared.scope.Meaning.{Meaning}
use Rattle.sp_judge.specs.declared.scope.Meaning.TheVariants as meaning_
use Rattle.sp_effects.specs.EffectText.{EffectText, EffectTexts, Plain, If, Forall, none, more}
use Rattle.sp_effects.specs.declared.form.Target.{Target}

-- V-function g as the target of a change, where it is primitive and so has this type
abbrev pub as_target : ℕ → Option Ty → Option Target
as_target g None = None
as_target g (Some t) = Some (record { fun = g; ty = t })

-- the primitive V-function that a name stands for
abbrev pub target_of : Visible → Meaning → Option Target
target_of s (meaning_.Shared (entity.Function g)) = as_target g (primitive_of (function_at s g))
target_of s m = None

-- a change: where its quoted reference stands, with its name, what it changes, its arguments and its value; a result: its
-- type and value
pub data Form : Type 0 where
  Change : Span → Ident → Target → Texts → Text → Form
  Answer : Ty → Text → Form
  Neither : Form

abbrev pub change_form : Span → Ident → Texts → Text → Option Target → Form
change_form q f ds v None = Neither
change_form q f ds v (Some t) = Change q f t ds v

abbrev pub result_form : Option Local → List ℕ → Text → Form
result_form None x v = Neither
result_form (Some r) x v = if bytes_eq r.name x then Answer r.ty v else Neither

-- what an equation of these two sides is
abbrev pub equation_form : Visible → List Local → Option Local → Text → Text → Form
equation_form s l r (New q f ds) v = change_form q f ds v (target_of s (meaning s l f.name))
equation_form s l r (Name q x) v = result_form r x v
equation_form s l r a v = Neither

-- `'g(b) = e` with g a primitive V-function is a change, and `r = e` a result where `r` is the name of the function's result, which
-- has that type. All else is neither, and so is an effect that stands whole in parentheses.
abbrev pub form : Visible → List Local → Option Local → Text → Form
form s l r (Binary p bin.Eq a v) = equation_form s l r a v
form s l r e = Neither

-- Results on paths. Whether an effect is a result doesn't depend on the variables around it.

abbrev pub names_result : Option Local → List ℕ → Bool
names_result None x = false
names_result (Some r) x = bytes_eq r.name x

abbrev pub is_result_side : Option Local → Text → Bool
is_result_side r (Name q x) = names_result r x
is_result_side r a = false

abbrev pub is_result : Option Local → Text → Bool
is_result r (Binary p bin.Eq a v) = is_result_side r a
is_result r e = false

-- whether some path through the effects has a result
abbrev mutual
  pub may : Option Local → EffectText → Bool
  may r (Plain e) = is_result r e
  may r (If p c as' bs) = may_in r as' || may_in r bs
  may r (Forall p fs ws) = may_in r ws

  pub may_in : Option Local → EffectTexts → Bool
  may_in r none = false
  may_in r (more w ws) = may r w || may_in r ws

-- whether each path has one; one below a FORALL effect is on no path
abbrev mutual
  pub must : Option Local → EffectText → Bool
  must r (Plain e) = is_result r e
  must r (If p c as' bs) = must_in r as' && must_in r bs
  must r (Forall p fs ws) = false

  pub must_in : Option Local → EffectTexts → Bool
  must_in r none = false
  must_in r (more w ws) = must r w || must_in r ws
