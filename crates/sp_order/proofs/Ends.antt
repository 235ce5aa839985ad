-- The ends of an order, and orders that are one relation on the levels.
use Rattle.std.proofs.Common.{◌≡◌, ◌≤◌, ◌<◌, ◌↔◌, ◌*◌, ◌^◌, sym, subst, arith, ℕ, zero, suc, List, [], ◌∷◌}
use Rattle.std.specs.Prelude.{Result, Ok, Err, IfErr, IfOk}
use Rattle.std.proofs.lemmas.List.Elements.{All-cons, All-nil}
use Rattle.sp_lattice.specs.Bounds.{IsLattice}
use Rattle.sp_lattice.specs.Closure.{AreLevels, IsOrdered}
use Rattle.sp_lattice.specs.Product.{IsProductBelow}
use Rattle.sp_text.specs.declared.fault.Rule.{Rule}
use Rattle.sp_text.specs.declared.fault.Rule.TheVariants as rule
use Rattle.sp_lattice.specs.Order.{Order, IsBelow, IsLatticeOrder, IsOrderOf, bottom_level, join, meet, top_level}
use Rattle.sp_scopes.specs.declared.lent.LevelOrder.{LevelOrder}
use Rattle.sp_scopes.specs.declared.lent.LevelOrder.TheVariants as order
use Rattle.sp_scopes.specs.declared.scopes.Scopes.{Scopes}
use Rattle.sp_order.specs.Orders.{AreEnds, IsFlaw, IsLower, ArePairs, IsRefusal, KeepsLattice, count_of, level_count}
use Rattle.sp_order.specs.declared.order.NoLattice.{NoLattice}

-- an order is also that of another relation which is the same on the levels
pub same_order : (n : ℕ) (R S : ℕ → ℕ → Type 0) (o : Order) → ((x y : ℕ) → x < n → y < n → (R x y ↔ S x y)) → IsOrderOf n R o → IsOrderOf n S o
same_order n R S o h i = record {
  count_same = i.count_same;
  below = λ x y a b s. i.below x y a b ((h x y a b).1 s);
  only_below = λ x y a b r. (h x y a b).0 (i.only_below x y a b r);
}

-- the ends of a lattice that has the order
pub ends : (s : Scopes) (o : Order) → IsOrderOf (level_count s) (IsLower s.order) o → IsLatticeOrder o → AreEnds s (bottom_level o) (top_level o)
ends s o i l = record {
  bottom_is_level = subst (λ n. bottom_level o < n) i.count_same l.bottom_is_level;
  bottom_is_least = λ x h. i.only_below (bottom_level o) x (subst (λ n. bottom_level o < n) i.count_same l.bottom_is_level) h (l.bottom_is_least x (subst (λ n. x < n) (sym i.count_same) h));
  top_is_level = subst (λ n. top_level o < n) i.count_same l.top_is_level;
  top_is_greatest = λ x h. i.only_below x (top_level o) h (subst (λ n. top_level o < n) i.count_same l.top_is_level) (l.top_is_greatest x (subst (λ n. x < n) (sym i.count_same) h));
}

-- they are the only ones
pub one_bottom : (s : Scopes) (b t c u : ℕ) → KeepsLattice s → AreEnds s b t → AreEnds s c u → b ≡ c
one_bottom s b t c u k h i = k.partial.antisymmetric b c h.bottom_is_level i.bottom_is_level (h.bottom_is_least c i.bottom_is_level) (i.bottom_is_least b h.bottom_is_level)

pub one_top : (s : Scopes) (b t c u : ℕ) → KeepsLattice s → AreEnds s b t → AreEnds s c u → t ≡ u
one_top s b t c u k h i = k.partial.antisymmetric t u h.top_is_level i.top_is_level (i.top_is_greatest t h.top_is_level) (h.top_is_greatest u i.top_is_level)

pub some_chain : (c n : ℕ) → 1 ≤ c * n → 1 ≤ c
some_chain c n h = by c h
  where
    by : (d : ℕ) → 1 ≤ d * n → 1 ≤ d
    by zero i = let none : ⊥ = omega (arith, i) in absurd none
    by (suc d) i = omega arith

-- where a lattice has the order, the order is a lattice
pub kept : (n : ℕ) (R : ℕ → ℕ → Type 0) (o : Order) → IsOrderOf n R o → IsLatticeOrder o → IsLattice n R
kept n R o i l = subst (λ m. IsLattice m R) i.count_same (record {
  partial = record {
    reflexive = λ x a. down x x a a (l.partial.reflexive x a);
    antisymmetric = λ x y a b r q. l.partial.antisymmetric x y a b (up x y a b r) (up y x b a q);
    transitive = λ x y z a b c r q. down x z a c (l.partial.transitive x y z a b c (up x y a b r) (up y z b c q));
  };
  lubs = λ x y a b. let u = l.lubs x y a b in (
    join o x y,
    record {
      level = u.level;
      left = down x (join o x y) a u.level u.left;
      right = down y (join o x y) b u.level u.right;
      least = λ w c r q. down (join o x y) w u.level c (u.least w c (up x w a c r) (up y w b c q));
    },
  );
  glbs = λ x y a b. let u = l.glbs x y a b in (
    meet o x y,
    record {
      level = u.level;
      left = down (meet o x y) x u.level a u.left;
      right = down (meet o x y) y u.level b u.right;
      greatest = λ w c r q. down w (meet o x y) c u.level (u.greatest w c (up w x c a r) (up w y c b q));
    },
  );
})
  where
    at : (x : ℕ) → x < o.count → x < n
    at x a = subst (λ m. x < m) i.count_same a

    down : (x y : ℕ) → x < o.count → y < o.count → IsBelow o x y → R x y
    down x y a b r = i.only_below x y (at x a) (at y b) r

    up : (x y : ℕ) → x < o.count → y < o.count → R x y → IsBelow o x y
    up x y a b r = i.below x y (at x a) (at y b) r

-- a lattice has no flaw
pub no_flaw : (n : ℕ) (R : ℕ → ℕ → Type 0) → IsLattice n R → (r : Rule) → IsFlaw n R r → ⊥
no_flaw n R l (rule.Cycle x y) f =
    let low : x < n = omega (arith, f.ordered, f.level) in
    let same = l.partial.antisymmetric x y low f.level f.there.0 f.there.1 in
    let none : ⊥ = omega (arith, f.ordered, same) in none
no_flaw n R l (rule.NoLub x y) f =
    let low : x < n = omega (arith, f.1.ordered, f.1.level) in
    let u = l.lubs x y low f.1.level in f.1.there u.0 u.1
no_flaw n R l (rule.NoGlb x y) f =
    let low : x < n = omega (arith, f.2.ordered, f.2.level) in
    let u = l.glbs x y low f.2.level in f.2.there u.0 u.1
no_flaw n R l r f = f

pub all_kept : (n : ℕ) (R : ℕ → ℕ → Type 0) (r : Result Order NoLattice) → IfOk r (IsOrderOf n R) → IfOk r IsLatticeOrder → IfOk r (λ o. IsLattice n R)
all_kept n R (Ok o) i l = kept n R o i l
all_kept n R (Err f) i l = i

pub levels_of : (n : ℕ) (ps : List (ℕ × ℕ)) → ArePairs n ps → AreLevels n ps
levels_of n [] h = All-nil (λ (p : ℕ × ℕ). (p.0 < n) × (p.1 < n))
levels_of n (p ∷ ps) h = All-cons (λ (p : ℕ × ℕ). (p.0 < n) × (p.1 < n)) p ps (h.0.low, h.0.high) (levels_of n ps h.1)

pub refused_pairs : (n : ℕ) (o : LevelOrder) (ps qs : List (ℕ × ℕ)) (r : Result Order NoLattice) → o ≡ order.Pairs ps → qs ≡ ps →
    IfErr r (IsRefusal n (IsOrdered qs)) → IfErr r (IsRefusal (count_of n o) (IsLower o))
refused_pairs n o ps qs r h i x = subst (λ o. IfErr r (IsRefusal (count_of n o) (IsLower o))) (sym h) (subst (λ z. IfErr r (IsRefusal n (IsOrdered z))) i x)

pub refused_product : (n : ℕ) (o : LevelOrder) (c k : ℕ) (r : Result Order NoLattice) → o ≡ order.Product c k →
    IfErr r (IsRefusal (c * 2 ^ k) (IsProductBelow k)) → IfErr r (IsRefusal (count_of n o) (IsLower o))
refused_product n o c k r h x = subst (λ o. IfErr r (IsRefusal (count_of n o) (IsLower o))) (sym h) x
