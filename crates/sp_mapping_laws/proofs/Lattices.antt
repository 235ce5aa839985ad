-- Two specifications whose lattices don't differ have one lattice.
use Rattle.std.proofs.Common.{◌≡◌, refl, sym, ◌∙◌, ap, subst, arith, rules, ℕ, zero, suc, ◌+◌, ◌<◌, ◌≤◌, List, [], ◌∷◌, Bool, true, false, Option, Some, None, length}
use Rattle.std.specs.Prelude.{◌&&◌, not, nat_eq, slice_get, if◌then◌else◌}
use Rattle.std.specs.Str.{bytes_eq}
use Rattle.std.proofs.lemmas.Slice.Eq.{bytes_eq-Decides}
use Rattle.sp_text.specs.declared.fault.Rule.TheVariants as rule
use Rattle.sp_text.specs.declared.fault.Span.{Span}
use Rattle.sp_text.specs.Violations.{breaks}
use Rattle.sp_lattice.specs.Order.{IsBelow, IsLatticeOrder, IsOrderOf, Order, is_below}
use Rattle.sp_lattice.proofs.OrderLaws.{one_lattice_order}
use Rattle.sp_core.specs.Parts.{Parts}
use Rattle.sp_core.specs.WellFormed.{IsWellFormed}
use Rattle.sp_core.proofs.Types.{and_true}
use Rattle.sp_mapping_rules.specs.Lattices.{all_below, is_named_alike, is_ordered_alike, is_pair_alike, lattice_broken, same_lattice, same_name, same_truth}

below_next : (P : ℕ → Bool) (n : ℕ) → ((k : ℕ) → k < n → P k ≡ true) → P n ≡ true → (k : ℕ) → k < suc n → (b : Bool) → nat_eq k n ≡ b → P k ≡ true
below_next P n rest last k lt true e = let same : k ≡ n = grind (arith, rules) in subst (λ j. P j ≡ true) (sym same) last
below_next P n rest last k lt false e = let less : k < n = grind (arith, rules) in rest k less

below : (P : ℕ → Bool) (n : ℕ) → all_below n P ≡ true → (k : ℕ) → k < n → P k ≡ true
below P zero h k lt = let none : ⊥ = omega (arith, lt) in absurd none
below P (suc n) h k lt =
    let both = and_true (all_below n P) (P n) h in
    below_next P n (below P n both.0) both.1 k lt (nat_eq k n) refl

same_is : (x y : List ℕ) → same_name (Some x) (Some y) ≡ true → x ≡ y
same_is x y h = (bytes_eq-Decides x y).0 h

one_list : (xs ys : List (List ℕ)) → length xs ≡ length ys → ((k : ℕ) → k < length xs → same_name (slice_get xs k) (slice_get ys k) ≡ true) → xs ≡ ys
one_list [] [] n h = refl
one_list [] (y ∷ ys) n h = absurd cc
one_list (x ∷ xs) [] n h = absurd cc
one_list (x ∷ xs) (y ∷ ys) n h =
    let here : 0 < suc (length xs) = omega arith in
    let rest : length xs ≡ length ys = omega (arith, n) in
    λ i. same_is x y (h 0 here) i ∷ one_list xs ys rest (λ k lt. let l : suc k < suc (length xs) = omega (arith, lt) in h (suc k) l) i

truth : (a b : Bool) → same_truth a b ≡ true → a ≡ b
truth true true h = refl
truth true false h = absurd cc
truth false true h = absurd cc
truth false false h = refl

pub record HaveOneLattice (u p : Parts) : Type 0 where
  pub names : u.level_names ≡ p.level_names
  pub lattice : u.lattice ≡ p.lattice

same : (u p : Parts) → IsWellFormed u → IsWellFormed p → same_lattice u p ≡ true → HaveOneLattice u p
same u p w v h =
    let a = and_true (nat_eq u.lattice.count p.lattice.count) (all_below u.lattice.count (is_named_alike u p) && all_below u.lattice.count (is_ordered_alike u p)) h in
    let b = and_true (all_below u.lattice.count (is_named_alike u p)) (all_below u.lattice.count (is_ordered_alike u p)) a.1 in
    let count : u.lattice.count ≡ p.lattice.count = counted u.lattice.count p.lattice.count a.0 in
    let pair : (x y : ℕ) → x < u.lattice.count → y < u.lattice.count → is_below u.lattice x y ≡ is_below p.lattice x y =
    λ x y i j. truth (is_below u.lattice x y) (is_below p.lattice x y) (below (is_pair_alike u p x) u.lattice.count (below (is_ordered_alike u p) u.lattice.count b.1 x i) y j) in
    record {
      names = one_list u.level_names p.level_names (w.level_names ∙ count ∙ sym v.level_names) (λ k lt. let l : k < u.lattice.count = omega (arith, lt, w.level_names) in below (is_named_alike u p) u.lattice.count b.0 k l);
      lattice = one_lattice_order u.lattice p.lattice w.lattice v.lattice (record {
        count_same = count;
        below = λ x y i j r. let k : x < u.lattice.count = omega (arith, i, count) in let l : y < u.lattice.count = omega (arith, j, count) in pair x y k l ∙ r;
        only_below = λ x y i j r. let k : x < u.lattice.count = omega (arith, i, count) in let l : y < u.lattice.count = omega (arith, j, count) in sym (pair x y k l) ∙ r;
      });
    }
  where
    counted : (m n : ℕ) → nat_eq m n ≡ true → m ≡ n
    counted m n e = grind (arith, rules)

pub one_lattice : (place : Span) (u p : Parts) → IsWellFormed u → IsWellFormed p → lattice_broken place u p ≡ [] → HaveOneLattice u p
one_lattice place u p w v h = by (same_lattice u p) refl h
  where
    by : (b : Bool) → same_lattice u p ≡ b → (if b then [] else breaks place rule.LatticeDiffers) ≡ [] → HaveOneLattice u p
    by true e h = same u p w v e
    by false e h = absurd cc
