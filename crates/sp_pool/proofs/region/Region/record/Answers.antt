use Rattle.std.proofs.Common.{◌≡◌, ◌<◌, length, Some, sym, ap, ◌∙◌, arith}
use Rattle.std.specs.List.{slice_get}
use Rattle.sp_pool.specs.Records.{Records, records_between, record_at}
use Rattle.sp_pool.proofs.Regions.{count_is, record_get}
use Rattle.sp_pool.proofs.region.Region.record.Goals as goal

pub record_in-requires : goal.record_in-requires
record_in-requires c =
    let s = c.self.inside in
    let are = c.self.invariant.bounds_are in
    let held : c.args.k < length (records_between s.words.items s.bounds.items) = rw (← c.self.view_is) at c.requires in
    rw (c.deref.ensures.value, c.deref-2.ensures.value) (record { bounds = are; held = omega (arith, held, count_is s.words.items s.bounds.items are) })

pub returns : goal.returns
returns c =
    let s = c.self.inside in
    let are = c.self.invariant.bounds_are in
    let held : c.args.k < length (records_between s.words.items s.bounds.items) = rw (← c.self.view_is) at c.requires in
    let words : c.record_in.result.now ≡ record_at s.words.items s.bounds.items c.args.k = rw (c.deref.ensures.value, c.deref-2.ensures.value) at c.record_in.ensures in
    ap (λ (r : Records). slice_get r.records c.args.k) (sym c.self.view_is)
    ∙ record_get s.words.items s.bounds.items are c.args.k (omega (arith, held, count_is s.words.items s.bounds.items are))
    ∙ ap Some (sym words)
