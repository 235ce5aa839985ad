use Rattle.std.proofs.Common.{◌≡◌, ◌*◌, [], sym, ap, ◌∙◌, subst}
use Rattle.sp_bits.specs.Table.{Bits, empty_table}
use Rattle.sp_pool.specs.Records.{Records}
use Rattle.sp_rules.specs.Terms.{count}
use Rattle.sp_saturate.specs.Trail.{IsTrail}
use Rattle.sp_saturate.proofs.Trails.{trail_empty}
use Rattle.sp_saturate.proofs.trail.Trail.new.Goals as goal

pub invariant_of-result : goal.invariant_of-result
invariant_of-result c =
    let ts = c.args.terms.now in
    let n = c.count-n.result in
    let e : n ≡ count ts = c.count-n.ensures.count in
    let r : c.in_ok-records.records ≡ record { records = []; most_words = 8 * (n * n); most_records = 2 * (count ts * count ts) } = c.in_ok-records.ensures ∙ ap (λ x. let q : Records = record { records = []; most_words = 8 * (n * n); most_records = 2 * (x * x) } in q) e in
    subst (λ (q : Bits). IsTrail ts q c.in_ok-le.le c.in_ok-records.records) (sym c.in_ok-eq.ensures)
    (subst (λ (q : Bits). IsTrail ts (empty_table n) q c.in_ok-records.records) (sym c.in_ok-le.ensures)
    (subst (λ (q : Records). IsTrail ts (empty_table n) (empty_table n) q) (sym r) (trail_empty ts n (8 * (n * n)) c.count-n.ensures.small e (ap (λ x. 8 * (x * x)) e))))
