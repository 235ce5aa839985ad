-- What a text that breaks nothing stands for is a value of the type that is asked, and a proper one where only these are asked. For
-- all that makes values of texts.
use Rattle.std.proofs.Common.{◌≡◌, refl, sym, ◌∙◌, ap, arith, rules, ℕ, suc, ◌+◌, ◌<◌, List, [], ◌∷◌, ◌++◌, Bool, true, false, Option, Some, None, length, cond}
use Rattle.std.specs.Prelude.{IsTrue, Result, Ok, Err, slice_get, slice_index_or, nat_lt, ◌&&◌, ◌||◌, ◌==◌, ℤ, if◌then◌else◌}
use Rattle.std.specs.List.{position_from}
use Rattle.std.specs.Str.{bytes_eq}
use Rattle.std.proofs.lemmas.Bool.Decides.{Decides-eqb}
use Rattle.sp_text.specs.declared.fault.Rule.{Rule}
use Rattle.sp_text.specs.declared.fault.Rule.TheVariants as rule
use Rattle.sp_text.specs.declared.fault.Span.{Span}
use Rattle.sp_text.specs.declared.violation.Violation.{Violation}
use Rattle.sp_text.specs.Violations.{breaks}
use Rattle.sp_values.specs.Arithmetic.{in_range, number}
use Rattle.sp_values.specs.Domains.{Sizes, are_proper, are_values, has_unknown, is_proper, is_unknown, is_value}
use Rattle.sp_values.specs.declared.value.Ty.{Ty}
use Rattle.sp_values.specs.declared.value.Ty.TheVariants as ty
use Rattle.sp_values.specs.declared.value.Value.{Value}
use Rattle.sp_values.specs.declared.value.Value.TheVariants as value
use Rattle.sp_tree.specs.declared.instance.ValueNode.{ValueNode}
use Rattle.sp_tree.specs.declared.instance.ValueNode.TheVariants as node
use Rattle.sp_tree.specs.declared.instance.ValueTree.{ValueTree}
use Rattle.sp_instance.specs.Words.{Words, place_of}
use Rattle.sp_instance.specs.Meanings.{IsFit, arguments_broken, arguments_in, asked, integer_meant, level_meant, level_named, meant, member_meant, member_named, place_in, proper_only, rule_broken, truth_meant, value_broken, value_in, value_or_unknown, values_broken, values_in}

-- Places

some_same : {X : Type 0} (a b : X) → Some a ≡ Some b → a ≡ b
some_same a b e = cc

-- an answer
abbrev fine : Value → Result Value Rule
fine x = Ok x

ok_same : (a b : Value) → fine a ≡ fine b → a ≡ b
ok_same a b e = cc

from_below : {X : Type 0} (p : X → Bool) (i : ℕ) (xs : List X) (k : ℕ) → position_from p i xs ≡ Some k → k < i + length xs
from_below p i [] k h = absurd cc
from_below p i (x ∷ xs) k h = by (λ e. from_below p (i + 1) xs k e) (p x) h
  where
    by : (position_from p (i + 1) xs ≡ Some k → k < (i + 1) + length xs) → (b : Bool) → cond b (Some i) (position_from p (i + 1) xs) ≡ Some k → k < i + suc (length xs)
    by rec true e = let q : i ≡ k = some_same i k e in omega (arith, q)
    by rec false e = omega (arith, rec e)

pub place_below : (names : List (List ℕ)) (x : List ℕ) (k : ℕ) → place_of names x ≡ Some k → k < length names
place_below names x k e = omega (arith, from_below (bytes_eq x) 0 names k e)

less : (m n : ℕ) → m < n → nat_lt m n ≡ true
less m n h = grind (arith, rules)

-- Values

number_fits : (sizes : Sizes) (z : ℤ) → is_value sizes ty.Integer (number z) ≡ true
number_fits sizes z = by (in_range z) refl
  where
    by : (b : Bool) → in_range z ≡ b → is_value sizes ty.Integer (if b then value.Int z else value.Unknown) ≡ true
    by true e = ap (λ c. c || false) e
    by false e = refl

truth_fits : (sizes : Sizes) (n : ValueNode) (x : Value) → truth_meant n ≡ Ok x → is_value sizes ty.Boolean x ≡ true
truth_fits sizes (node.Truth b) x e = sym (ap (is_value sizes ty.Boolean) (ok_same (value.Truth b) x e))
truth_fits sizes n x e = absurd cc

integer_fits : (sizes : Sizes) (n : ValueNode) (x : Value) → integer_meant n ≡ Ok x → is_value sizes ty.Integer x ≡ true
integer_fits sizes (node.Int z) x e = sym (ap (is_value sizes ty.Integer) (ok_same (number z) x e)) ∙ number_fits sizes z
integer_fits sizes node.Unknown x e = sym (ap (is_value sizes ty.Integer) (ok_same value.Unknown x e))
integer_fits sizes n x e = absurd cc

a_level : (sizes : Sizes) (l : ℕ) (x : Value) → nat_lt l sizes.levels ≡ true → fine (value.Level l) ≡ fine x → is_value sizes ty.Level x ≡ true
a_level sizes l x h e = sym (ap (is_value sizes ty.Level) (ok_same (value.Level l) x e)) ∙ ap (λ c. c || false) h

level_fits : (sizes : Sizes) (w : Words) → IsFit sizes w → (n : ValueNode) (x : Value) → level_meant w n ≡ Ok x → is_value sizes ty.Level x ≡ true
level_fits sizes w f node.Bottom x e = a_level sizes w.least x f.least e
level_fits sizes w f node.Top x e = a_level sizes w.greatest x f.greatest e
level_fits sizes w f (node.Name y) x e = by (place_of w.levels y) refl e
  where
    by : (o : Option ℕ) → place_of w.levels y ≡ o → level_named o ≡ Ok x → is_value sizes ty.Level x ≡ true
    by (Some l) h g =
        let below : l < sizes.levels = omega (arith, place_below w.levels y l h, f.levels) in
        a_level sizes l x (less l sizes.levels below) g
    by None h g = absurd cc
level_fits sizes w f n x e = absurd cc

both : (a b : Bool) → a ≡ true → b ≡ true → (a && b) ≡ true
both true b p q = q
both false b p q = p

member_fits : (sizes : Sizes) (w : Words) → IsFit sizes w → (k : ℕ) (n : ValueNode) (x : Value) → member_meant w k n ≡ Ok x → is_value sizes (ty.Member k) x ≡ true
member_fits sizes w f k node.Unknown x e = sym (ap (is_value sizes (ty.Member k)) (ok_same value.Unknown x e))
member_fits sizes w f k (node.Name y) x e = by (slice_get w.members k) refl e
  where
    there : (names : List (List ℕ)) → slice_get w.members k ≡ Some names → (o : Option ℕ) → place_of names y ≡ o → member_named k (slice_index_or w.enumerated k false) o ≡ Ok x → is_value sizes (ty.Member k) x ≡ true
    there names h (Some m) g q =
        let below : m < sizes.members k = omega (arith, place_below names y m g, f.members k names h) in
        sym (ap (is_value sizes (ty.Member k)) (ok_same (value.Member k m) x q))
        ∙ ap (λ c. c || false) (both (k == k) (nat_lt m (sizes.members k)) ((Decides-eqb k k).1 refl) (less m (sizes.members k) below))
    there names h None g q = absurd cc

    by : (o : Option (List (List ℕ))) → slice_get w.members k ≡ o → member_named k (slice_index_or w.enumerated k false) (place_in o y) ≡ Ok x → is_value sizes (ty.Member k) x ≡ true
    by (Some names) h g = there names h (place_of names y) refl g
    by None h g = absurd cc
member_fits sizes w f k n x e = absurd cc

meant_fits : (sizes : Sizes) (w : Words) → IsFit sizes w → (t : Ty) (n : ValueNode) (x : Value) → meant w t n ≡ Ok x → is_value sizes t x ≡ true
meant_fits sizes w f ty.Boolean n x e = truth_fits sizes n x e
meant_fits sizes w f ty.Integer n x e = integer_fits sizes n x e
meant_fits sizes w f ty.Level n x e = level_fits sizes w f n x e
meant_fits sizes w f (ty.Member k) n x e = member_fits sizes w f k n x e

only_proper : (r : Result Value Rule) (x : Value) → proper_only true r ≡ Ok x → (r ≡ Ok x) × (is_unknown x ≡ false)
only_proper (Ok value.Unknown) x e = absurd cc
only_proper (Ok v) x e = (e, sym (ap is_unknown (ok_same v x e)))
only_proper (Err r) x e = absurd cc

asked_fits : (sizes : Sizes) (w : Words) → IsFit sizes w → (p : Bool) (t : Ty) (n : ValueNode) (x : Value) → asked w p t n ≡ Ok x → is_value sizes t x ≡ true
asked_fits sizes w f true t n x e = meant_fits sizes w f t n x (only_proper (meant w t n) x e).0
asked_fits sizes w f false t n x e = meant_fits sizes w f t n x e

known : (a b c : Bool) → (a || (b && c)) ≡ true → c ≡ false → a ≡ true
known true b c h k = refl
known false true c h k = sym k ∙ h
known false false c h k = h

asked_proper : (sizes : Sizes) (w : Words) → IsFit sizes w → (t : Ty) (n : ValueNode) (x : Value) → asked w true t n ≡ Ok x → is_proper sizes t x ≡ true
asked_proper sizes w f t n x e =
    let r = only_proper (meant w t n) x e in
    known (is_proper sizes t x) (has_unknown t) (is_unknown x) (meant_fits sizes w f t n x r.0) r.1

-- a value of the type
pub value_fits : (sizes : Sizes) (w : Words) → IsFit sizes w → (p : Bool) (t : Ty) (v : ValueTree) → value_broken w p t v ≡ [] → IsTrue (is_value sizes t (value_in w p t v))
value_fits sizes w f p t v h = by (asked w p t v.node) refl h
  where
    by : (r : Result Value Rule) → asked w p t v.node ≡ r → rule_broken v.span r ≡ [] → is_value sizes t (value_or_unknown r) ≡ true
    by (Ok x) e g = asked_fits sizes w f p t v.node x e
    by (Err r) e g = absurd cc

proper_fits : (sizes : Sizes) (w : Words) → IsFit sizes w → (t : Ty) (v : ValueTree) → value_broken w true t v ≡ [] → is_proper sizes t (value_in w true t v) ≡ true
proper_fits sizes w f t v h = by (asked w true t v.node) refl h
  where
    by : (r : Result Value Rule) → asked w true t v.node ≡ r → rule_broken v.span r ≡ [] → is_proper sizes t (value_or_unknown r) ≡ true
    by (Ok x) e g = asked_proper sizes w f t v.node x e
    by (Err r) e g = absurd cc

left_none : (xs ys : List Violation) → xs ++ ys ≡ [] → xs ≡ []
left_none [] ys h = refl
left_none (v ∷ xs) ys h = absurd cc

right_none : (xs ys : List Violation) → xs ++ ys ≡ [] → ys ≡ []
right_none [] ys h = h
right_none (v ∷ xs) ys h = absurd cc

values_fit : (sizes : Sizes) (w : Words) → IsFit sizes w → (p : Bool) (ts : List Ty) (vs : List ValueTree) → length vs ≡ length ts → values_broken w p ts vs ≡ [] →
    are_values sizes ts (values_in w p ts vs) ≡ true
values_fit sizes w f p [] vs n h = refl
values_fit sizes w f p (t ∷ ts) [] n h = absurd (omega (arith, n))
values_fit sizes w f p (t ∷ ts) (v ∷ vs) n h =
    both (is_value sizes t (value_in w p t v)) (are_values sizes ts (values_in w p ts vs))
    (value_fits sizes w f p t v (left_none (value_broken w p t v) (values_broken w p ts vs) h))
    (values_fit sizes w f p ts vs (omega (arith, n)) (right_none (value_broken w p t v) (values_broken w p ts vs) h))

values_proper : (sizes : Sizes) (w : Words) → IsFit sizes w → (ts : List Ty) (vs : List ValueTree) → length vs ≡ length ts → values_broken w true ts vs ≡ [] →
    are_proper sizes ts (values_in w true ts vs) ≡ true
values_proper sizes w f [] vs n h = refl
values_proper sizes w f (t ∷ ts) [] n h = absurd (omega (arith, n))
values_proper sizes w f (t ∷ ts) (v ∷ vs) n h =
    both (is_proper sizes t (value_in w true t v)) (are_proper sizes ts (values_in w true ts vs))
    (proper_fits sizes w f t v (left_none (value_broken w true t v) (values_broken w true ts vs) h))
    (values_proper sizes w f ts vs (omega (arith, n)) (right_none (value_broken w true t v) (values_broken w true ts vs) h))

-- arguments of the types
pub arguments_fit : (sizes : Sizes) (w : Words) → IsFit sizes w → (p : Bool) (s : Span) (ts : List Ty) (vs : List ValueTree) → arguments_broken w p s ts vs ≡ [] →
    IsTrue (are_values sizes ts (arguments_in w p ts vs))
arguments_fit sizes w f p s ts vs h = by (length vs == length ts) refl h
  where
    by : (b : Bool) → (length vs == length ts) ≡ b → (if b then values_broken w p ts vs else breaks s rule.WrongCount) ≡ [] →
        are_values sizes ts (if b then values_in w p ts vs else []) ≡ true
    by true e g = values_fit sizes w f p ts vs ((Decides-eqb (length vs) (length ts)).0 e) g
    by false e g = absurd cc

-- and proper ones where only these are asked
pub arguments_proper : (sizes : Sizes) (w : Words) → IsFit sizes w → (s : Span) (ts : List Ty) (vs : List ValueTree) → arguments_broken w true s ts vs ≡ [] →
    IsTrue (are_proper sizes ts (arguments_in w true ts vs))
arguments_proper sizes w f s ts vs h = by (length vs == length ts) refl h
  where
    by : (b : Bool) → (length vs == length ts) ≡ b → (if b then values_broken w true ts vs else breaks s rule.WrongCount) ≡ [] →
        are_proper sizes ts (if b then values_in w true ts vs else []) ≡ true
    by true e g = values_proper sizes w f ts vs ((Decides-eqb (length vs) (length ts)).0 e) g
    by false e g = absurd cc
