use Rattle.std.proofs.Common.{◌≡◌, ℕ, ◌*◌, ◌<◌, ◌≤◌, ◌↔◌, Bool, List, length, rules, arith}
use Rattle.sp_lattice.specs.Bounds.{IsPartialOrder}
use Rattle.sp_lattice.specs.Closure.{IsOrdered}
use Rattle.sp_lattice.specs.Refusal.{IsCycle, IsFirstPair, HasNoLub, IsRefused}
use Rattle.sp_lattice.specs.Table.{IsRelated, AreLubs, IsGreatest, entry}
use Rattle.sp_lattice.specs.declared.decl.LatticeFault.TheVariants.{NoLub, NoGlb}
use Rattle.sp_lattice.proofs.Declared.{closed_partial, ordered_partial, ordered_lubs, opposite_partial, lub_missing, glb_missing, lubs_there, greatest_there, order_value, kept_value, only_memory}
use Rattle.sp_lattice.proofs.lattice.Lattice.declare.Goals as goal
use Rattle.sp_lattice.proofs.lattice.Lattice.declare.Goals.{In_ok-opposite}

-- what is known of the two tables
record Tables (count : ℕ) (pairs : List (ℕ × ℕ)) (table opposite : List Bool) : Type 0 where
  some : 0 < count
  few : count ≤ 256
  square : length table ≡ count * count
  order : (x y : ℕ) → x < count → y < count → (IsRelated count table x y ↔ IsOrdered pairs x y)
  none : (x y : ℕ) → x < y → IsCycle (IsRelated count table) x y → ⊥
  turned : (a b : ℕ) → a < count → b < count → entry count opposite a b ≡ entry count table b a

tables : (c : In_ok-opposite) → Tables c.args.decl.now.count c.args.decl.now.below c.in_ok-order.order.items c.in_ok-opposite.opposite.items
tables c = record {
  some = omega arith;
  few = omega arith;
  square = search rules;
  order = search rules;
  none = search rules;
  turned = search rules;
}

module _ (count : ℕ) (pairs : List (ℕ × ℕ)) (table opposite : List Bool) (t : Tables count pairs table opposite) where
  table_partial : IsPartialOrder count (IsRelated count table)
  table_partial = closed_partial count pairs table t.order t.none

  turned_partial : IsPartialOrder count (IsRelated count opposite)
  turned_partial = opposite_partial count pairs table t.order t.none opposite t.turned

  table_greatest : (bounds : List ℕ) → AreLubs count table bounds → (z : ℕ) × IsGreatest count table z
  table_greatest bounds h = greatest_there count table table_partial t.some (lubs_there count table bounds h)

  turned_greatest : (bounds : List ℕ) → AreLubs count opposite bounds → (z : ℕ) × IsGreatest count opposite z
  turned_greatest bounds h = greatest_there count opposite turned_partial t.some (lubs_there count opposite bounds h)

  no_lub : (x y : ℕ) → IsFirstPair count (HasNoLub count (IsRelated count table)) x y → IsRefused count pairs (NoLub x y)
  no_lub x y h = (t.few, ordered_partial count pairs table t.order t.none, lub_missing count pairs table t.order t.none h)

  no_glb : (bounds : List ℕ) → AreLubs count table bounds → (x y : ℕ) → IsFirstPair count (HasNoLub count (IsRelated count opposite)) x y → IsRefused count pairs (NoGlb x y)
  no_glb bounds lubs x y h = (
    t.few,
    ordered_partial count pairs table t.order t.none,
    ordered_lubs count pairs table t.order t.none (lubs_there count table bounds lubs),
    glb_missing count pairs table t.order t.none opposite t.turned h,
  )

pub least_uppers-requires-clause-partial : goal.least_uppers-requires-clause-partial
least_uppers-requires-clause-partial c =
    rw c.deref-3.ensures.value (table_partial _ _ _ _ (tables (goal.at.least_uppers-requires-clause-partial c).In_ok-opposite))

pub least_uppers-requires-2-clause-partial : goal.least_uppers-requires-2-clause-partial
least_uppers-requires-2-clause-partial c =
    rw c.deref-4.ensures.value (turned_partial _ _ _ _ (tables (goal.at.least_uppers-requires-2-clause-partial c).In_ok-opposite))

pub returns-in-Err-Missing-clause-refused : goal.returns-in-Err-Missing-clause-refused
returns-in-Err-Missing-clause-refused c =
    let missing = rw (c.in-Err-Missing.field-0-is, c.deref-3.ensures.value) at c.in-Err-Missing.ensures.missing in
    rw (c.in-Err-Missing.low-is, c.in-Err-Missing.high-is) (no_lub _ _ _ _ (tables (goal.at.returns-in-Err-Missing-clause-refused c).In_ok-opposite) c.in-Err-Missing.low c.in-Err-Missing.high missing)

pub returns-in-Err-Missing-clause-accepted : goal.returns-in-Err-Missing-clause-accepted
returns-in-Err-Missing-clause-accepted c =
    let missing = rw (c.in-Err-Missing.field-0-is, c.deref-3.ensures.value) at c.in-Err-Missing.ensures.missing in
    rw (c.in-Err-Missing.low-is, c.in-Err-Missing.high-is)
    (only_memory c.args.decl.now.count c.args.decl.now.below (NoLub c.in-Err-Missing.low c.in-Err-Missing.high)
    (no_lub _ _ _ _ (tables (goal.at.returns-in-Err-Missing-clause-accepted c).In_ok-opposite) c.in-Err-Missing.low c.in-Err-Missing.high missing))

pub returns-in-Err-Missing-least_uppers-clause-refused : goal.returns-in-Err-Missing-least_uppers-clause-refused
returns-in-Err-Missing-least_uppers-clause-refused c =
    let arm = c.in-Err-Missing-least_uppers in
    let missing = rw (arm.field-0-is, c.deref-4.ensures.value) at arm.ensures.missing in
    no_glb _ _ _ _ (tables (goal.at.returns-in-Err-Missing-least_uppers-clause-refused c).In_ok-opposite) c.in-Ok.lubs.items (rw c.deref-3.ensures.value at c.in-Ok.ensures.ok) arm.low arm.high missing

pub returns-in-Err-Missing-least_uppers-clause-accepted : goal.returns-in-Err-Missing-least_uppers-clause-accepted
returns-in-Err-Missing-least_uppers-clause-accepted c =
    let arm = c.in-Err-Missing-least_uppers in
    let missing = rw (arm.field-0-is, c.deref-4.ensures.value) at arm.ensures.missing in
    only_memory c.args.decl.now.count c.args.decl.now.below (NoGlb arm.low arm.high)
    (no_glb _ _ _ _ (tables (goal.at.returns-in-Err-Missing-least_uppers-clause-accepted c).In_ok-opposite) c.in-Ok.lubs.items (rw c.deref-3.ensures.value at c.in-Ok.ensures.ok) arm.low arm.high missing)

pub greatest-requires-clause-partial : goal.greatest-requires-clause-partial
greatest-requires-clause-partial c =
    rw c.deref-5.ensures.value (turned_partial _ _ _ _ (tables (goal.at.greatest-requires-clause-partial c).In_ok-opposite))

pub greatest-requires-clause-there : goal.greatest-requires-clause-there
greatest-requires-clause-there c =
    rw c.deref-5.ensures.value (turned_greatest _ _ _ _ (tables (goal.at.greatest-requires-clause-there c).In_ok-opposite) c.in-Ok-least_uppers.glbs.items (rw c.deref-4.ensures.value at c.in-Ok-least_uppers.ensures.ok))

pub greatest-requires-2-clause-partial : goal.greatest-requires-2-clause-partial
greatest-requires-2-clause-partial c =
    rw c.deref-6.ensures.value (table_partial _ _ _ _ (tables (goal.at.greatest-requires-2-clause-partial c).In_ok-opposite))

pub greatest-requires-2-clause-there : goal.greatest-requires-2-clause-there
greatest-requires-2-clause-there c =
    rw c.deref-6.ensures.value (table_greatest _ _ _ _ (tables (goal.at.greatest-requires-2-clause-there c).In_ok-opposite) c.in-Ok.lubs.items (rw c.deref-3.ensures.value at c.in-Ok.ensures.ok))

pub returns-clause-order : goal.returns-clause-order
returns-clause-order c =
    order_value c.args.decl.now.count c.args.decl.now.below c.in_ok-order.order.items (tables (goal.at.returns-clause-order c).In_ok-opposite).order

pub invariant_of-result : goal.invariant_of-result
invariant_of-result c =
    let t = tables (goal.at.invariant_of-result c).In_ok-opposite in
    kept_value (record { count = c.args.decl.now.count; table = c.in_ok-order.order.items }) c.args.decl.now.below c.in_ok-opposite.opposite.items
    c.in-Ok.lubs.items c.in-Ok-least_uppers.glbs.items c.greatest.result c.greatest-2.result t.some t.few t.square t.order t.none t.turned
    (rw c.deref-3.ensures.value at c.in-Ok.ensures.ok) (rw c.deref-4.ensures.value at c.in-Ok-least_uppers.ensures.ok)
    (rw c.deref-5.ensures.value at c.greatest.ensures) (rw c.deref-6.ensures.value at c.greatest-2.ensures)

pub returns-clause-lattice : goal.returns-clause-lattice
returns-clause-lattice c =
    let t = tables (goal.at.returns-clause-lattice c).In_ok-opposite in
    (kept_value (record { count = c.args.decl.now.count; table = c.in_ok-order.order.items }) c.args.decl.now.below c.in_ok-opposite.opposite.items
    c.in-Ok.lubs.items c.in-Ok-least_uppers.glbs.items c.greatest.result c.greatest-2.result t.some t.few t.square t.order t.none t.turned
    (rw c.deref-3.ensures.value at c.in-Ok.ensures.ok) (rw c.deref-4.ensures.value at c.in-Ok-least_uppers.ensures.ok)
    (rw c.deref-5.ensures.value at c.greatest.ensures) (rw c.deref-6.ensures.value at c.greatest-2.ensures)).lattice
