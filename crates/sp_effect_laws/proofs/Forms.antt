-- What is known of an effect's form.
use Rattle.std.proofs.Common.{◌≡◌, refl, sym, ◌∙◌, ap, subst, rules, arith, ℕ, Bool, true, false, List, [], ◌∷◌, Option, Some, None}
use Rattle.std.specs.Prelude.{slice_get, if◌then◌else◌}
use Rattle.std.specs.Str.{bytes_eq}
use Rattle.sp_text.specs.declared.fault.Span.{Span}
use Rattle.sp_values.specs.declared.value.Ty.{Ty}
use Rattle.sp_tree.specs.declared.names.Ident.{Ident}
use Rattle.sp_tree.specs.declared.expr.BinOp.{BinOp}
use Rattle.sp_tree.specs.declared.expr.BinOp.TheVariants as bin
use Rattle.sp_plain.specs.Text.{Text, Texts, Name, Number, Truth, Unknown, Bottom, Top, Call, New, Paren, Not, Binary, Join, If, Quant}
use Rattle.sp_naming.specs.declared.declaration.Entity.{Entity}
use Rattle.sp_naming.specs.declared.declaration.Entity.TheVariants as entity
use Rattle.sp_scopes.specs.declared.heads.Head.{Head}
use Rattle.sp_scopes.specs.declared.heads.Sort.{Sort}
use Rattle.sp_scopes.specs.declared.heads.Sort.TheVariants as sort
use Rattle.sp_judge.specs.Visible.{Visible, function_at}
use Rattle.sp_scopes.specs.declared.heads.Local.{Local}
use Rattle.sp_judge.specs.declared.scope.Meaning.{Meaning}
use Rattle.sp_judge.specs.declared.scope.Meaning.TheVariants as meaning_
use Rattle.sp_judge.specs.Names.{meaning}
use Rattle.sp_typed.specs.Fits.{AreNumbers, AreNumbersIn}
use Rattle.sp_effects.specs.declared.form.Target.{Target}
use Rattle.sp_judge.specs.Broken.{primitive_of, primitive_sort}
use Rattle.sp_effects.specs.Forms.{Form, Change, Answer, Neither, as_target, target_of, change_form, result_form, equation_form, form, names_result, is_result_side, is_result}
use Rattle.sp_effect_laws.specs.Laws.{result_type}

-- what is known of an effect's form
abbrev pub IsGood : Visible → Option Local → Text → Form → Type 0
IsGood s r e (Change q f t ds v) = (is_result r e ≡ false) × AreNumbersIn ds × AreNumbers v × ((h : Head) × (function_at s t.fun ≡ Some h) × (h.sort ≡ sort.Primitive t.ty))
IsGood s r e (Answer t v) = (is_result r e ≡ true) × AreNumbers v × (result_type r ≡ Some t)
IsGood s r e Neither = Unit {0}

abbrev IsTarget : Visible → Option Target → Type 0
IsTarget s None = Unit {0}
IsTarget s (Some t) = (h : Head) × (function_at s t.fun ≡ Some h) × (h.sort ≡ sort.Primitive t.ty)

target_sort : (s : Visible) (g : ℕ) (h : Head) (u : Sort) → function_at s g ≡ Some h → h.sort ≡ u → IsTarget s (as_target g (primitive_sort u))
target_sort s g h (sort.Primitive t) e i = (h, e, i)
target_sort s g h (sort.Plain t) e i = tt
target_sort s g h (sort.Derived t) e i = tt
target_sort s g h sort.Operation e i = tt
target_sort s g h (sort.Both t) e i = tt

target_head : (s : Visible) (g : ℕ) (o : Option Head) → function_at s g ≡ o → IsTarget s (as_target g (primitive_of o))
target_head s g None e = tt
target_head s g (Some h) e = target_sort s g h h.sort e refl

target : (s : Visible) (m : Meaning) → IsTarget s (target_of s m)
target s meaning_.Nothing = tt
target s (meaning_.Variable k t) = tt
target s (meaning_.Shared (entity.Declared t)) = tt
target s (meaning_.Shared (entity.Member t k)) = tt
target s (meaning_.Shared (entity.Param t)) = tt
target s (meaning_.Shared (entity.Definition t)) = tt
target s (meaning_.Shared (entity.Level t)) = tt
target s (meaning_.Shared (entity.Function g)) = target_head s g (function_at s g) refl

good_change : (s : Visible) (r : Option Local) (e : Text) (q : Span) (f : Ident) (ds : Texts) (v : Text) (o : Option Target) → is_result r e ≡ false → AreNumbersIn ds → AreNumbers v → IsTarget s o → IsGood s r e (change_form q f ds v o)
good_change s r e q f ds v None i m n t = tt
good_change s r e q f ds v (Some o) i m n t = (i, m, n, t)

good_result : (s : Visible) (r : Option Local) (e : Text) (x : List ℕ) (v : Text) → is_result r e ≡ names_result r x → AreNumbers v → IsGood s r e (result_form r x v)
good_result s None e x v i n = tt
good_result s (Some r) e x v i n = by (bytes_eq r.name x) i
  where
    by : (b : Bool) → is_result (Some r) e ≡ b → IsGood s (Some r) e (if b then Answer r.ty v else Neither)
    by true k = (k, n, refl)
    by false k = tt

good_equation : (s : Visible) (l : List Local) (r : Option Local) (p : Span) (a v : Text) → AreNumbers a → AreNumbers v → IsGood s r (Binary p bin.Eq a v) (equation_form s l r a v)
good_equation s l r p (New q f ds) v m n = good_change s r (Binary p bin.Eq (New q f ds) v) q f ds v (target_of s (meaning s l f.name)) refl m n (target s (meaning s l f.name))
good_equation s l r p (Name q x) v m n = good_result s r (Binary p bin.Eq (Name q x) v) x v refl n
good_equation s l r p (Number q k) v m n = tt
good_equation s l r p (Truth q b) v m n = tt
good_equation s l r p (Unknown q) v m n = tt
good_equation s l r p (Bottom q) v m n = tt
good_equation s l r p (Top q) v m n = tt
good_equation s l r p (Call q f ds) v m n = tt
good_equation s l r p (Paren q a) v m n = tt
good_equation s l r p (Not q a) v m n = tt
good_equation s l r p (Binary q o a b) v m n = tt
good_equation s l r p (Join q u a b) v m n = tt
good_equation s l r p (If q c a b) v m n = tt
good_equation s l r p (Quant q u f b) v m n = tt

good_binary : (s : Visible) (l : List Local) (r : Option Local) (p : Span) (o : BinOp) (a v : Text) → AreNumbers a → AreNumbers v → IsGood s r (Binary p o a v) (form s l r (Binary p o a v))
good_binary s l r p bin.Eq a v m n = good_equation s l r p a v m n
good_binary s l r p bin.Iff a v m n = tt
good_binary s l r p bin.Implies a v m n = tt
good_binary s l r p bin.Or a v m n = tt
good_binary s l r p bin.And a v m n = tt
good_binary s l r p bin.Ne a v m n = tt
good_binary s l r p bin.Lt a v m n = tt
good_binary s l r p bin.Le a v m n = tt
good_binary s l r p bin.Gt a v m n = tt
good_binary s l r p bin.Ge a v m n = tt
good_binary s l r p bin.Add a v m n = tt
good_binary s l r p bin.Sub a v m n = tt
good_binary s l r p bin.Mul a v m n = tt

pub good : (s : Visible) (l : List Local) (r : Option Local) (e : Text) → AreNumbers e → IsGood s r e (form s l r e)
good s l r (Binary p o a v) n = good_binary s l r p o a v n.0 n.1
good s l r (Name p x) n = tt
good s l r (Number p k) n = tt
good s l r (Truth p b) n = tt
good s l r (Unknown p) n = tt
good s l r (Bottom p) n = tt
good s l r (Top p) n = tt
good s l r (Call p f ds) n = tt
good s l r (New p f ds) n = tt
good s l r (Paren p a) n = tt
good s l r (Not p a) n = tt
good s l r (Join p u a b) n = tt
good s l r (If p c a b) n = tt
good s l r (Quant p u f b) n = tt
