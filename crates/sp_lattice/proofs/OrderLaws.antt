-- Public lemmas on orders: what the test of an order reads, and that the relation on the levels determines the order.
use Rattle.std.proofs.Common.{◌≡◌, ℕ, ◌+◌, ◌*◌, ◌/◌, ◌%◌, ◌<◌, ◌&&◌, Bool, true, false, List, length, get_or, nat_lt, refl, sym, ap, ◌∙◌, subst, arith}
use Rattle.std.proofs.lemmas.Bool.{lt-ltb}
use Rattle.std.proofs.lemmas.List.{ext_get_or}
use Rattle.std.proofs.lemmas.Nat.{div-add-mod'}
use Rattle.sp_lattice.specs.Order.{Order, is_below, IsBelow, IsLatticeOrder, IsOrderOf}
use Rattle.sp_lattice.specs.Table.{entry}
use Rattle.sp_lattice.proofs.Places.{column_below, row_below, some_column}

-- on levels, the order's test is the table's entry
pub below_entry : (o : Order) (x y : ℕ) → x < o.count → y < o.count → is_below o x y ≡ entry o.count o.table x y
unfolding is_below
below_entry o x y p q =
    ap (λ b. b && (nat_lt y o.count && entry o.count o.table x y)) (lt-ltb x o.count p)
    ∙ ap (λ b. b && entry o.count o.table x y) (lt-ltb y o.count q)

same_test : (a b : Bool) → (a ≡ true → b ≡ true) → (b ≡ true → a ≡ true) → a ≡ b
same_test true b to from = sym (to refl)
same_test false true to from = from refl
same_test false false to from = refl

module _ (R : ℕ → ℕ → Type 0) (count : ℕ) (t u : List Bool) (square : length t ≡ count * count) (other : length u ≡ count * count)
    (is : IsOrderOf count R (record { count = count; table = t })) (is_too : IsOrderOf count R (record { count = count; table = u })) where
  same_below : (x y : ℕ) → x < count → y < count → entry count t x y ≡ entry count u x y
  same_below x y p q =
      let o : Order = record { count = count; table = t } in
      let v : Order = record { count = count; table = u } in
      sym (below_entry o x y p q)
      ∙ same_test (is_below o x y) (is_below v x y) (λ e. is_too.below x y p q (is.only_below x y p q e)) (λ e. is.below x y p q (is_too.only_below x y p q e))
      ∙ below_entry v x y p q

  same_table : t ≡ u
  same_table = ext_get_or false t u (square ∙ sym other) (λ k inside.
      let within : k < count * count = omega (arith, square) in
      let some = some_column count k within in
      let place : (k / count) * count + k % count ≡ k = omega (arith, div-add-mod' k count) in
      subst (λ n. get_or t n false ≡ get_or u n false) place (same_below (k / count) (k % count) (row_below count k some within) (column_below count k some)))

-- two square orders that are one relation on the levels are one
pub one_order : (R : ℕ → ℕ → Type 0) (count : ℕ) (o p : Order) → length o.table ≡ o.count * o.count → length p.table ≡ p.count * p.count
    → IsOrderOf count R o → IsOrderOf count R p → o ≡ p
one_order R count o p square other is is_too =
    let counts : o.count ≡ p.count = is.count_same ∙ sym is_too.count_same in
    let tables : o.table ≡ p.table = same_table R count o.table p.table
    (subst (λ n. length o.table ≡ n * n) is.count_same square)
    (subst (λ n. length p.table ≡ n * n) is_too.count_same other)
    (subst (λ n. IsOrderOf count R (record { count = n; table = o.table })) is.count_same is)
    (subst (λ n. IsOrderOf count R (record { count = n; table = p.table })) is_too.count_same is_too) in
    λ i. record { count = counts i; table = tables i }

-- the same of lattices, of which one has the other's relation
pub one_lattice_order : (o p : Order) → IsLatticeOrder o → IsLatticeOrder p → IsOrderOf p.count (IsBelow p) o → o ≡ p
one_lattice_order o p lattice other is =
    one_order (IsBelow p) p.count o p lattice.square other.square is (record { count_same = refl; below = λ x y _ _ e. e; only_below = λ x y _ _ e. e })
