-- An instance of an assertion has the value of its body at the tuple's values.
use Rattle.std.proofs.Common.{◌≡◌, refl, sym, ◌∙◌, ap, subst, arith, ℕ, zero, suc, ◌+◌, ◌-◌, ◌<◌, ◌≤◌, Bool, true, false, not, List, [], ◌∷◌, ◌++◌, take, length, map, append_assoc, length-append, get_or}
use Rattle.std.specs.Prelude.{if◌then◌else◌, nat_lt, slice_index}
use Rattle.std.specs.List.{list_all, All}
use mathlib.Core.Path.{fun_ext}
use Rattle.std.specs.Bool.{Decides}
use Rattle.std.proofs.lemmas.Bool.Decides.{Decides-ltb}
use Rattle.std.proofs.Math.Seq.{take-length, get_or-append_right}
use Rattle.std.proofs.Math.ListN.{get_or-append}
use Rattle.std.proofs.lemmas.List.{length-map}
use Rattle.std.proofs.lemmas.List.Elements.{All-head, All-tail}
use Rattle.sp_values.specs.declared.value.Value.{Value}
use Rattle.sp_values.specs.declared.value.Value.TheVariants as value
use Rattle.sp_core.specs.Tree.{Tree, Trees, Const, Var, Not, Two, If, Param, Look, Every, New, none, more}
use Rattle.sp_core.specs.Values.{World, Reads, is_true, two, nth, value_of, values_of}
use Rattle.sp_hold.proofs.Scopes.{IsScoped, AreScoped}
use Rattle.sp_values.specs.Domains.{proper_values}
use Rattle.sp_formulas.specs.Assertions.{instanced, placed}
use Rattle.sp_formulas.specs.Moves.{all_renumbered}

module _ (w : World) (r new : Reads) (x : List Value) where
  read_tuple : (ks : List ℕ) (ys : List Value) (k : ℕ) → k < length ks → All (λ k. k < length x) ks → nth (x ++ ys) (slice_index ks k) ≡ nth (map (nth x) ks ++ ys) k
  read_tuple [] ys k h a = absurd (omega (arith, h))
  read_tuple (n ∷ ns) ys zero h a = get_or-append x ys value.Unknown n (All-head (λ k. k < length x) n ns a)
  read_tuple (n ∷ ns) ys (suc k) h a = read_tuple ns ys k (omega (arith, h)) (All-tail (λ k. k < length x) n ns a)

  module _ (ks : List ℕ) (small : All (λ k. k < length x) ks) where
    at_moved : (b : Bool) (k : ℕ) (ys : List Value) → Decides b (k < length ks) → nth (x ++ ys) (if b then slice_index ks k else length x + (k - length ks)) ≡ nth (map (nth x) ks ++ ys) k
    at_moved true k ys d = read_tuple ks ys k (d.0 refl) small
    at_moved false k ys d =
        let le : length ks ≤ k = grind (arith, d) in
        let a : length x + (k - length ks) - length x ≡ k - length ks = omega arith in
        let b : k - length (map (nth x) ks) ≡ k - length ks = ap (λ n. k - n) (length-map ks (nth x)) in
        get_or-append_right x ys (length x + (k - length ks)) value.Unknown (omega arith) ∙ ap (λ n. get_or ys n value.Unknown) (a ∙ sym b)
        ∙ sym (get_or-append_right (map (nth x) ks) ys k value.Unknown (omega (arith, le, length-map ks (nth x))))

    mutual
      pub value-instanced : (e : Tree) (ys : List Value) → IsScoped (length ks + length ys) e → value_of w r new (x ++ ys) (instanced ks (length x) e) ≡ value_of w r new (map (nth x) ks ++ ys) e
      value-instanced (Const v) ys s = refl
      value-instanced (Var k) ys s = at_moved (nat_lt k (length ks)) k ys (Decides-ltb k (length ks))
      value-instanced (Not a) ys s = ap (λ v. value.Truth (not (is_true v))) (value-instanced a ys s)
      value-instanced (Two o a b) ys s = λ i. two w o (value-instanced a ys s.0 i) (value-instanced b ys s.1 i)
      value-instanced (If c a b) ys s = λ i. if is_true (value-instanced c ys s.0 i) then value-instanced a ys s.1 i else value-instanced b ys s.2 i
      value-instanced (Param n ds) ys s = ap (w.param n) (values-instanced ds ys s)
      value-instanced (Look g ds) ys s = ap (r g) (values-instanced ds ys s)
      value-instanced (Every k t b) ys s =
          let here : length x + (k - length ks) ≡ length (x ++ ys) = omega (arith, s.0, length-append x ys) in
          let there : k ≡ length (map (nth x) ks ++ ys) = omega (arith, s.0, length-append (map (nth x) ks) ys, length-map ks (nth x)) in
          let whole : take (length x + (k - length ks)) (x ++ ys) ≡ x ++ ys = ap (λ n. take n (x ++ ys)) here ∙ take-length (x ++ ys) in
          let rest : take k (map (nth x) ks ++ ys) ≡ map (nth x) ks ++ ys = ap (λ n. take n (map (nth x) ks ++ ys)) there ∙ take-length (map (nth x) ks ++ ys) in
          ap (λ y. value.Truth (list_all (λ c. is_true (value_of w r new (y ++ c ∷ []) (instanced ks (length x) b))) (proper_values w.sizes t))) whole
          ∙ ap (λ f. value.Truth (list_all f (proper_values w.sizes t))) (fun_ext (λ (c : Value).
          let l : length ks + length (ys ++ c ∷ []) ≡ suc (length ks + length ys) = omega (arith, length-append ys (c ∷ [])) in
          ap (λ y. is_true (value_of w r new y (instanced ks (length x) b))) (append_assoc x ys (c ∷ []))
          ∙ ap is_true (value-instanced b (ys ++ c ∷ []) (subst (λ n. IsScoped n b) (sym l) (subst (λ k. IsScoped (suc k) b) s.0 (subst (λ k. IsScoped (suc k) b) (sym s.0) s.1))))
          ∙ ap (λ y. is_true (value_of w r new y b)) (sym (append_assoc (map (nth x) ks) ys (c ∷ [])))))
          ∙ ap (λ y. value.Truth (list_all (λ c. is_true (value_of w r new (y ++ c ∷ []) b)) (proper_values w.sizes t))) (sym rest)
      value-instanced (New g ds) ys s = ap (new g) (values-instanced ds ys s)

      pub values-instanced : (ds : Trees) (ys : List Value) → AreScoped (length ks + length ys) ds → values_of w r new (x ++ ys) (all_renumbered (placed ks (length x)) (λ k. length x + (k - length ks)) ds) ≡ values_of w r new (map (nth x) ks ++ ys) ds
      values-instanced none ys s = refl
      values-instanced (more e es) ys s = λ i. value-instanced e ys s.0 i ∷ values-instanced es ys s.1 i
