use Rattle.std.proofs.Common.{◌≡◌, length, arith}
use Rattle.std.proofs.lemmas.Bool.{ltb-true, lt-ltb, leb-true}
use Rattle.sp_pool.specs.Records.{records_between}
use Rattle.sp_pool.proofs.Regions.{room_told, room_from, count_is}
use Rattle.sp_pool.proofs.region.Region.has_room.Goals as goal

pub returns-then-count-self : goal.returns-then-count-self
returns-then-count-self c =
    let s = c.self.inside in
    let words = s.words.items in
    let bounds = s.bounds.items in
    let are = c.self.invariant.bounds_are in
    let count : c.count.result ≡ length (records_between words bounds) = rw (← c.self.view_is) at c.count.ensures in
    let len = s.words.ok.0 in (
      λ e. rw (← c.self.view_is) (room_from words bounds are s.most_words s.most_records c.args.count
          (omega (arith, c.if-count-self.true, c.len.ensures, len, c.self.invariant.few_words)) (omega (arith, ltb-true c.count.result s.most_records e, count, count_is words bounds are, are.some))),
      λ h. lt-ltb c.count.result s.most_records
          (omega (arith, (room_told words bounds are s.most_words s.most_records c.args.count (rw (← c.self.view_is) at h)).1, count, count_is words bounds are, are.some)),
    )

pub returns-else-count-self : goal.returns-else-count-self
returns-else-count-self c =
    let s = c.self.inside in
    let words = s.words.items in
    let bounds = s.bounds.items in
    let are = c.self.invariant.bounds_are in
    let len = s.words.ok.0 in (
      λ e. absurd (omega (arith, c.if-count-self.false, leb-true c.args.count _ e)),
      λ h. absurd (omega (arith, (room_told words bounds are s.most_words s.most_records c.args.count (rw (← c.self.view_is) at h)).0, c.if-count-self.false, c.len.ensures, len)),
    )
