-- Exceptions that break nothing.
use Rattle.std.proofs.Common.{◌≡◌, refl, sym, ◌∙◌, ap, subst, arith, ℕ, zero, suc, ◌+◌, ◌≤◌, List, [], ◌∷◌, ◌++◌, Bool, true, false, Some, length, map, append_assoc, length-append}
use Rattle.std.proofs.lemmas.List.{append-nil}
use Rattle.std.proofs.lemmas.List.Elements.{All-cons, All-nil}
use Rattle.sp_text.specs.Firsts.{behind}
use Rattle.std.specs.Prelude.{if◌then◌else◌, slice_get, ◌||◌}
use Rattle.std.specs.List.{All, flat_map}
use Rattle.std.specs.Str.{bytes_eq}
use Rattle.std.proofs.lemmas.Slice.Eq.{bytes_eq-Decides}
use Rattle.sp_text.specs.declared.fault.Quantity.{Quantity}
use Rattle.sp_text.specs.declared.fault.Quantity.TheVariants as quantity
use Rattle.sp_text.specs.declared.fault.Span.{Span}
use Rattle.sp_text.specs.declared.limits.TheConstants.{MOST_EXCEPTIONS}
use Rattle.sp_values.specs.declared.value.Ty.TheVariants as ty
use Rattle.sp_tree.specs.declared.expr.ExprTree.{ExprTree}
use Rattle.sp_tree.specs.declared.names.Ident.{Ident}
use Rattle.sp_core.specs.declared.expr.Expr.{Expr}
use Rattle.sp_core.specs.Tree.{tree}
use Rattle.sp_core.specs.Typing.{Signature}
use Rattle.sp_core.specs.WellFormed.{AreDifferent, IsExpression}
use Rattle.sp_plain.specs.Text.{span, text}
use Rattle.sp_naming.specs.Names.{is_among, repeat_rule, repeated_names}
use Rattle.sp_scopes.specs.Headers.{past}
use Rattle.sp_scopes.specs.declared.heads.Local.{Local}
use Rattle.sp_judge.specs.Visible.{Visible}
use Rattle.sp_judge.specs.declared.scope.Site.TheVariants as site
use Rattle.sp_judge.specs.Broken.{broken, limit_rules}
use Rattle.sp_judge.specs.Translation.{translation}
use Rattle.sp_typed.specs.Fits.{types, AreTypes}
use Rattle.sp_typed.proofs.Fitting.{append_left, append_right}
use Rattle.sp_functions.specs.Exceptions.{AreExceptionsOf, condition_broken, exception_names}
use Rattle.sp_functions.specs.Judged.{judged}
use Rattle.sp_functions.specs.Laws.{ExceptionsLaw, HaveNumbers, IsSeenBy}
use Rattle.sp_functions.proofs.Known.{expression, same_made}

abbrev name_of : Ident → List ℕ
name_of x = x.name

abbrev place : List (List ℕ) → List ℕ → ℕ
place [] x = 0
place (y ∷ ys) x = if bytes_eq x y then 0 else suc (place ys x)

place-after : (before ys : List (List ℕ)) (x : List ℕ) → is_among before x ≡ false → place (before ++ ys) x ≡ length before + place ys x
place-after [] ys x h = omega arith
place-after (y ∷ before) ys x h = by (bytes_eq x y) h (λ k. place-after before ys x k)
  where
    by : (b : Bool) → (b || is_among before x) ≡ false → (is_among before x ≡ false → place (before ++ ys) x ≡ length before + place ys x) → (if b then 0 else suc (place (before ++ ys) x)) ≡ suc (length before) + place ys x
    by true h rec = cc
    by false h rec = omega (arith, rec h)

place-self : (y : List ℕ) (ys : List (List ℕ)) → place (y ∷ ys) y ≡ 0
place-self y ys = ap (λ b. if b then 0 else suc (place ys y)) ((bytes_eq-Decides y y).1 refl)

new_name : (b : Bool) (p : Span) → repeat_rule b p ≡ [] → b ≡ false
new_name true p h = cc
new_name false p h = refl

place-is : (before : List (List ℕ)) (xs : List Ident) → repeated_names before xs ≡ [] → (k : ℕ) (x : List ℕ) → slice_get (map name_of xs) k ≡ Some x → place (before ++ map name_of xs) x ≡ length before + k
place-is before [] h k x e = cc
place-is before (y ∷ xs) h zero x e =
    let i : y.name ≡ x = cc in
    let all = map name_of xs in
    subst (λ z. place (before ++ y.name ∷ all) z ≡ length before + 0) i
    (place-after before (y.name ∷ all) y.name (new_name (is_among before y.name) y.span (append_left (repeat_rule (is_among before y.name) y.span) (repeated_names (before ++ y.name ∷ []) xs) h)) ∙ ap (λ z. length before + z) (place-self y.name all))
place-is before (y ∷ xs) h (suc k) x e =
    let all = map name_of xs in
    let z = place-is (before ++ y.name ∷ []) xs (append_right (repeat_rule (is_among before y.name) y.span) (repeated_names (before ++ y.name ∷ []) xs) h) k x e in
    let n = length-append before (y.name ∷ []) in
    ap (λ z. place z x) (sym (append_assoc before (y.name ∷ []) all)) ∙ omega (arith, z, n)

pub names-different : (xs : List Ident) → repeated_names [] xs ≡ [] → AreDifferent (map name_of xs)
names-different xs h i j x p q = omega (arith, place-is [] xs h i x p, place-is [] xs h j x q)

past-few : (n : ℕ) (q : Quantity) (xs : List Ident) → past n q xs ≡ [] → length xs ≤ n
past-few n q xs h = by xs n h
  where
    by : (ys : List Ident) (m : ℕ) → past m q ys ≡ [] → length ys ≤ m
    by [] m h = omega arith
    by (y ∷ ys) zero h = cc
    by (y ∷ ys) (suc m) h = omega (arith, by ys m h)

module _ (sg : Signature) (s : Visible) (seen : IsSeenBy sg s) (l : List Local) (a : AreTypes sg l) where
  condition_names : (xs : List (Ident × ExprTree)) (es : List (List ℕ × Expr)) → AreExceptionsOf s l xs es → map (λ (e : List ℕ × Expr). e.0) es ≡ map name_of (exception_names xs)
  condition_names [] [] h = refl
  condition_names [] (e ∷ es) h = absurd h
  condition_names (x ∷ xs) [] h = absurd h
  condition_names (x ∷ xs) (e ∷ es) h = λ i. h.0.name i ∷ condition_names xs es h.1 i

  condition_count : (xs : List (Ident × ExprTree)) (es : List (List ℕ × Expr)) → AreExceptionsOf s l xs es → length es ≡ length (exception_names xs)
  condition_count [] [] h = refl
  condition_count [] (e ∷ es) h = absurd h
  condition_count (x ∷ xs) [] h = absurd h
  condition_count (x ∷ xs) (e ∷ es) h = ap suc (condition_count xs es h.1)

  conditions : (xs : List (Ident × ExprTree)) → HaveNumbers xs → (es : List (List ℕ × Expr)) → AreExceptionsOf s l xs es → flat_map (condition_broken s l) xs ≡ [] →
      All (λ (e : List ℕ × Expr). IsExpression sg (types l) (tree e.1) ty.Boolean) es
  conditions [] n [] h k = All-nil (λ (e : List ℕ × Expr). IsExpression sg (types l) (tree e.1) ty.Boolean)
  conditions [] n (e ∷ es) h k = absurd h
  conditions (x ∷ xs) n [] h k = absurd h
  conditions (x ∷ xs) n (e ∷ es) h k =
      let one = condition_broken s l x in
      let others = flat_map (condition_broken s l) xs in
      let fine : judged s l ty.Boolean (text x.1) [] ≡ [] = alone (append_left one others k) in
      let y = expression sg s seen l a ty.Boolean refl (text x.1) (n 0 x (omega arith)) [] fine in
      let same = h.0.condition ∙ same_made sg s seen l ty.Boolean (text x.1) [] fine in
      All-cons (λ (e : List ℕ × Expr). IsExpression sg (types l) (tree e.1) ty.Boolean) e es (subst (λ z. IsExpression sg (types l) z ty.Boolean) (sym same) y)
      (conditions xs (λ k d lt. n (suc k) d (omega (arith, lt))) es h.1 (append_right one others k))
    where
      alone : condition_broken s l x ≡ [] → judged s l ty.Boolean (text x.1) [] ≡ []
      alone h = ap (behind (broken s site.Outside l (Some ty.Boolean) (text x.1))) (append-nil (limit_rules (span (text x.1)) (translation s l (text x.1)))) ∙ h

pub exceptions : ExceptionsLaw
exceptions sg s seen l a xs n h es is =
    let twice = repeated_names [] (exception_names xs) in
    let many = past MOST_EXCEPTIONS quantity.Exceptions (exception_names xs) in
    let own = flat_map (condition_broken s l) xs in
    let left = append_left (twice ++ many) own h in
    record {
      few = omega (arith, condition_count sg s seen l a xs es is, past-few MOST_EXCEPTIONS quantity.Exceptions (exception_names xs) (append_right twice many left));
      names = subst AreDifferent (sym (condition_names sg s seen l a xs es is)) (names-different (exception_names xs) (append_left twice many left));
      conditions = conditions sg s seen l a xs n es is (append_right (twice ++ many) own h);
    }
