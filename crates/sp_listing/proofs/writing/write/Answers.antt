use Rattle.std.proofs.Common.{◌≡◌, ◌+◌, ◌∙◌, ap, arith, suc, take, length}
use Rattle.sp_core.specs.States.{entry_of, put_at}
use Rattle.sp_core.specs.Values.{Store}
use Rattle.sp_core.specs.declared.state.Entry.{Entry}
use Rattle.sp_listing.specs.Listing as listing
use Rattle.sp_eval.specs.Overlays.{overlay}
use Rattle.sp_listing.proofs.Lists.{has_room}
use Rattle.sp_listing.proofs.Maps.{counted_put, few_put, put_over}
use Rattle.sp_listing.proofs.writing.write.Goals as goal

pub put-requires : goal.put-requires
put-requires c =
    let es = c.args.listed.now in
    let s = entry_of c.args.state.now.entries in
    let k = c.loop-index.index in
    let e : Entry = record { place = c.entry-value.result.0.now; value = c.entry-value.result.1 } in
    has_room c.loop-index.state e.place.fun e.place.args (λ none. (
      omega (arith, c.requires.room, c.loop-index.invariant.spare, c.loop-index-test.true, c.len-index-end.ensures.count),
      few_put es s k e c.entry-value.ensures c.len-index-end.ensures.apart (entry_of c.loop-index.state.entries) c.loop-index.invariant.entries none
          (length c.args.state.now.entries) (length c.loop-index.state.entries) c.loop-index.invariant.count c.requires.few,
    ))

pub loop-index-preserved : goal.loop-index-preserved
loop-index-preserved c =
    let es = c.args.listed.now in
    let s = entry_of c.args.state.now.entries in
    let k = c.loop-index.index in
    let e : Entry = record { place = c.entry-value.result.0.now; value = c.entry-value.result.1 } in
    let apart = c.len-index-end.ensures.apart in
    let more : suc k ≡ k + 1 = omega arith in
    record {
      entries = c.put.ensures.entries ∙ ap (λ (m : Store). put_at e.place.fun e.place.args e.value m) c.loop-index.invariant.entries ∙ put_over es s k e apart c.entry-value.ensures ∙ ap (λ n. overlay (entry_of (take n es)) s) more;
      count = counted_put es s k e c.entry-value.ensures apart (entry_of c.loop-index.state.entries) c.loop-index.invariant.entries (length c.args.state.now.entries) (length c.loop-index.state.entries) c.loop-index.invariant.count (length c.put.new.self.entries) c.put.ensures.count
          ∙ ap (λ n. length c.args.state.now.entries + listing.fresh (take n es) s) more;
      spare = omega (arith, c.put.ensures.spare, c.loop-index.invariant.spare);
    }
