use Rattle.std.proofs.Common.{◌≡◌, ℕ, ◌+◌, ◌*◌, ◌/◌, ◌%◌, ◌<◌, [], ◌∷◌, ◌++◌, below_more, sym, ◌∙◌, rules, arith}
use Rattle.std.specs.List.{Contains}
use Rattle.std.proofs.lemmas.Bool.{false≢true}
use Rattle.std.proofs.lemmas.List.Elements.{All-push, Contains-push, Contains-append_left}
use Rattle.sp_lattice.specs.Product.{IsProductBelow}
use Rattle.sp_lattice.proofs.Places.{at_place, place_below, pairs_more, row_below, column_below}
use Rattle.sp_lattice.proofs.decl.product_pairs.Goals as goal
use Rattle.sp_lattice.proofs.decl.product_pairs.Goals.{then-is_product_below+in_ok-map_err, else-is_product_below}

pub loop-place-preserved : goal.loop-place-preserved
loop-place-preserved c =
    let n = c.args.count in
    let k = c.loop-place.place in
    let within : k < n * n = omega arith in
    let old = c.loop-place.pairs.items in
    let pair : ℕ × ℕ = (k / n, k % n) in
    let h = c.loop-place.invariant in
    elim c.if-is_product_below.branch [
      | then-is_product_below+in_ok-map_err w ↦
          let pushed : w.push.new.self.items ≡ old ++ pair ∷ [] = search rules in
          let there : IsProductBelow c.args.categories (k / n) (k % n) = c.is_product_below.ensures.0 w.if-is_product_below.true in
          rw (w.pairs-is, pushed) (record {
            levels = All-push (λ p. (p.0 < n) × (p.1 < n)) old pair h.levels (row_below n k c.requires.some within, column_below n k c.requires.some);
            sound = pairs_more old (IsProductBelow c.args.categories) (k / n) (k % n) there h.sound;
            whole = below_more (λ j. IsProductBelow c.args.categories (j / n) (j % n) → Contains (old ++ pair ∷ []) (j / n, j % n)) k
                (λ j below r. Contains-append_left old (pair ∷ []) (j / n, j % n) (h.whole j below r)) (λ _. Contains-push old pair);
          })
      | else-is_product_below w ↦
          rw w.pairs-is (record {
            levels = h.levels;
            sound = h.sound;
            whole = below_more (λ j. IsProductBelow c.args.categories (j / n) (j % n) → Contains old (j / n, j % n)) k h.whole
                (λ r. absurd (false≢true (sym w.if-is_product_below.false ∙ c.is_product_below.ensures.1 r)));
          })
    ]

pub returns-clause-whole : goal.returns-clause-whole
returns-clause-whole c = λ x y p q r.
    let n = c.args.count in
    let below : x * n + y < c.loop-place.place = omega (arith, place_below n x y p q) in
    at_place (λ a b. IsProductBelow c.args.categories a b → Contains c.loop-place.pairs.items (a, b)) n c.loop-place.place c.loop-place.invariant.whole x y q below r
