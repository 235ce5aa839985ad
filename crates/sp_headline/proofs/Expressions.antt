-- The text of an expression holds no line feed, where the names of the specification are plain.
use Rattle.std.proofs.Common.{◌≡◌, ℕ, zero, suc, Bool, true, false, ◌==◌, IsTrue, List, [], ◌∷◌, ◌++◌, Option, None, Some, codes, if◌then◌else◌, slice_get, take, arith, refl}
use Rattle.std.specs.Fmt.{decimal}
use Rattle.std.specs.List.{All}
use Rattle.std.proofs.lemmas.Bool.Decides.{nat_tests}
use Rattle.std.proofs.lemmas.List.Elements.{All-head, All-tail}
use Rattle.sp_lexer.specs.Pieces.{word_byte}
use Rattle.sp_values.specs.declared.value.Op.{Op}
use Rattle.sp_values.specs.declared.value.Op.TheVariants as op
use Rattle.sp_values.specs.declared.value.Ty.{Ty}
use Rattle.sp_values.specs.declared.value.Ty.TheVariants as ty
use Rattle.sp_values.specs.declared.value.Value.{Value}
use Rattle.sp_values.specs.declared.value.Value.TheVariants as value
use Rattle.sp_core.specs.declared.function.Formal.{Formal}
use Rattle.sp_core.specs.declared.function.Function.{Function}
use Rattle.sp_core.specs.declared.function.Param.{Param}
use Rattle.sp_core.specs.declared.function.TypeInfo.{TypeInfo}
use Rattle.sp_core.specs.Parts.{Parts}
use Rattle.sp_core.specs.Tree.{Tree, Trees, Const, Var, Not, Two, If, Param as Parameter, Look, Every, New, none, more}
use Rattle.sp_core.specs.WellFormed.{members_of}
use Rattle.sp_plain_names.specs.Names.{HasPlainNames, IsPlain}
use Rattle.sp_report.specs.Constants.{constant_text, name_of_function, name_of_member, name_of_param, name_of_type, nth_member, nth_name, truth_text, type_text}
use Rattle.sp_report.specs.Expressions.{call_text, choice_text, every_text, expr_text, in_parentheses, is_bound, is_compound, is_named, list_text, named_text, numbered, operand, rest_text, sign, two_text, variable_text}
use Rattle.sp_headline.proofs.Digits.{decimal_free, signed_free}
use Rattle.sp_headline.proofs.Texts.{Free, free_append, free_cons}

byte_free : (b : ℕ) → IsTrue (word_byte b) → (b == 10) ≡ false
byte_free b h = grind (arith, nat_tests)

pub plain_free : (n : List ℕ) → IsPlain n → Free n
plain_free [] h = refl
plain_free (b ∷ n) h =
    free_cons b n (byte_free b (All-head (λ c. IsTrue (word_byte c)) b n h)) (plain_free n (All-tail (λ c. IsTrue (word_byte c)) b n h))

-- ---- names by their numbers

names_free : (names : List (List ℕ)) (k : ℕ) → All IsPlain names → Free (nth_name names k)
names_free [] k h = refl
names_free (n ∷ names) zero h = plain_free n (All-head IsPlain n names h)
names_free (n ∷ names) (suc k) h = names_free names k (All-tail IsPlain n names h)

params_free : (qs : List Param) (k : ℕ) → All (λ q. IsPlain q.name) qs → Free (name_of_param (slice_get qs k))
params_free [] k h = refl
params_free (q ∷ qs) zero h = plain_free q.name (All-head (λ (q : Param). IsPlain q.name) q qs h)
params_free (q ∷ qs) (suc k) h = params_free qs k (All-tail (λ (q : Param). IsPlain q.name) q qs h)

functions_free : (fs : List Function) (k : ℕ) → All (λ f. IsPlain f.name) fs → Free (name_of_function (slice_get fs k))
functions_free [] k h = refl
functions_free (f ∷ fs) zero h = plain_free f.name (All-head (λ (f : Function). IsPlain f.name) f fs h)
functions_free (f ∷ fs) (suc k) h = functions_free fs k (All-tail (λ (f : Function). IsPlain f.name) f fs h)

types_free : (is : List TypeInfo) (k : ℕ) → All (λ t. IsPlain t.name) is → Free (name_of_type (slice_get is k))
types_free [] k h = refl
types_free (i ∷ is) zero h = plain_free i.name (All-head (λ (t : TypeInfo). IsPlain t.name) i is h)
types_free (i ∷ is) (suc k) h = types_free is k (All-tail (λ (t : TypeInfo). IsPlain t.name) i is h)

member_free : (name : List ℕ) (o : Option (List (List ℕ))) (m : ℕ) → All IsPlain (members_of (record { name = name; members = o })) → Free (nth_member o m)
member_free name None m h = refl
member_free name (Some names) m h = names_free names m h

members_free : (is : List TypeInfo) (k m : ℕ) → All (λ t. All IsPlain (members_of t)) is → Free (name_of_member (slice_get is k) m)
members_free [] k m h = refl
members_free (i ∷ is) zero m h = member_free i.name i.members m (All-head (λ (t : TypeInfo). All IsPlain (members_of t)) i is h)
members_free (i ∷ is) (suc k) m h = members_free is k m (All-tail (λ (t : TypeInfo). All IsPlain (members_of t)) i is h)

truth_free : (b : Bool) → Free (truth_text b)
truth_free true = refl
truth_free false = refl

pub numbered_free : (k : ℕ) → Free (numbered k)
numbered_free k = free_append (codes "#") (decimal k) refl (decimal_free k)

sign_free : (o : Op) → Free (sign o)
sign_free op.And = refl
sign_free op.Or = refl
sign_free op.Same = refl
sign_free op.LevelLe = refl
sign_free op.IntLe = refl
sign_free op.IntLt = refl
sign_free op.Add = refl
sign_free op.Sub = refl
sign_free op.Mul = refl
sign_free op.Lub = refl
sign_free op.Glb = refl

-- ---- expressions

around : (a t b : List ℕ) → Free a → Free t → Free b → Free (a ++ (t ++ b))
around a t b h k l = free_append a (t ++ b) h (free_append t b k l)

parentheses_free : (t : List ℕ) → Free t → Free (in_parentheses t)
parentheses_free t h = around (codes "(") t (codes ")") refl h refl

operand_free : (e : Tree) (t : List ℕ) → Free t → Free (operand e t)
operand_free e t h = by (is_compound e)
  where
    by : (c : Bool) → Free (if c then in_parentheses t else t)
    by true = parentheses_free t h
    by false = h

two_free : (o : Op) (a : Tree) (s : List ℕ) (b : Tree) (t : List ℕ) → Free s → Free t → Free (two_text o a s b t)
two_free o a s b t h k = by (is_bound o)
  where
    by : (c : Bool) → Free (if c then sign o ++ (s ++ (codes "," ++ (t ++ codes ")"))) else operand a s ++ (sign o ++ operand b t))
    by true = around (sign o) s (codes "," ++ (t ++ codes ")")) (sign_free o) h (around (codes ",") t (codes ")") refl k refl)
    by false = around (operand a s) (sign o) (operand b t) (operand_free a s h) (sign_free o) (operand_free b t k)

call_free : (name args : List ℕ) → Free name → Free args → Free (call_text name args)
call_free name args h k = free_append name (in_parentheses args) h (parentheses_free args k)

choice_free : (c a b : List ℕ) → Free c → Free a → Free b → Free (choice_text c a b)
choice_free c a b h k l =
    around (codes "IF ") c (codes " THEN " ++ (a ++ (codes " ELSE " ++ (b ++ codes " END_IF")))) refl h
    (around (codes " THEN ") a (codes " ELSE " ++ (b ++ codes " END_IF")) refl k
    (around (codes " ELSE ") b (codes " END_IF") refl l refl))

every_free : (t : List ℕ) (k : ℕ) (a : List ℕ) → Free t → Free a → Free (every_text t k a)
every_free t k a h l =
    around (codes "FORALL ") t (codes " " ++ (numbered k ++ (codes ": " ++ (a ++ codes " END_FORALL")))) refl h
    (around (codes " ") (numbered k) (codes ": " ++ (a ++ codes " END_FORALL")) refl (numbered_free k)
    (around (codes ": ") a (codes " END_FORALL") refl l refl))

-- the name of a variable of a formula
abbrev pub HasFreeName : Formal → Type 0
HasFreeName x = Free x.name

module _ (xs : List Formal) where
  named_free : (k : ℕ) (x : Formal) → HasFreeName x → Free (named_text xs k (Some x))
  named_free k x h = by (is_named (take k xs) x.name)
    where
      by : (c : Bool) → Free (if c then x.name ++ numbered k else x.name)
      by true = free_append x.name (numbered k) h (numbered_free k)
      by false = h

  variable_by : (ys : List Formal) (j k : ℕ) → All HasFreeName ys → Free (named_text xs k (slice_get ys j))
  variable_by [] j k h = numbered_free k
  variable_by (y ∷ ys) zero k h = named_free k y (All-head HasFreeName y ys h)
  variable_by (y ∷ ys) (suc j) k h = variable_by ys j k (All-tail HasFreeName y ys h)

module _ (p : Parts) (names : HasPlainNames p) where
  constant_free : (v : Value) → Free (constant_text p v)
  constant_free (value.Truth b) = truth_free b
  constant_free (value.Int n) = signed_free n
  constant_free (value.Level l) = names_free p.level_names l names.levels
  constant_free (value.Member k m) = members_free p.types k m names.members
  constant_free value.Unknown = refl

  type_free : (t : Ty) → Free (type_text p t)
  type_free ty.Boolean = refl
  type_free ty.Integer = refl
  type_free ty.Level = refl
  type_free (ty.Member k) = types_free p.types k names.types

  module _ (xs : List Formal) (vars : All HasFreeName xs) where
    mutual
      pub expr_free : (e : Tree) → Free (expr_text p xs e)
      expr_free (Const v) = constant_free v
      expr_free (Var k) = variable_by xs xs k k vars
      expr_free (Not a) = free_append (codes "NOT ") (operand a (expr_text p xs a)) refl (operand_free a (expr_text p xs a) (expr_free a))
      expr_free (Two o a b) = two_free o a (expr_text p xs a) b (expr_text p xs b) (expr_free a) (expr_free b)
      expr_free (If c a b) = choice_free (expr_text p xs c) (expr_text p xs a) (expr_text p xs b) (expr_free c) (expr_free a) (expr_free b)
      expr_free (Parameter q ds) = call_free (name_of_param (slice_get p.params q)) (list_text p xs ds) (params_free p.params q names.params) (list_free ds)
      expr_free (Look g ds) = call_free (name_of_function (slice_get p.functions g)) (list_text p xs ds) (functions_free p.functions g names.functions) (list_free ds)
      expr_free (Every k t b) = every_free (type_text p t) k (expr_text p xs b) (type_free t) (expr_free b)
      expr_free (New g ds) =
          free_append (codes "'") (call_text (name_of_function (slice_get p.functions g)) (list_text p xs ds)) refl
          (call_free (name_of_function (slice_get p.functions g)) (list_text p xs ds) (functions_free p.functions g names.functions) (list_free ds))

      list_free : (ds : Trees) → Free (list_text p xs ds)
      list_free none = refl
      list_free (more d ds) = free_append (expr_text p xs d) (rest_text p xs ds) (expr_free d) (rest_free ds)

      rest_free : (ds : Trees) → Free (rest_text p xs ds)
      rest_free none = refl
      rest_free (more d ds) = free_append (codes ",") (expr_text p xs d ++ rest_text p xs ds) refl (free_append (expr_text p xs d) (rest_text p xs ds) (expr_free d) (rest_free ds))
