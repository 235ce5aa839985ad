use Rattle.std.proofs.Common.{◌≡◌, ◌+◌, ◌∙◌, ap, arith, suc, take}
use Rattle.sp_core.specs.declared.state.Entry.{Entry}
use Rattle.sp_core.specs.States.{entry_of, put_at}
use Rattle.sp_core.specs.Values.{Store}
use Rattle.sp_eval.specs.Overlays.{overlay}
use Rattle.sp_listing.proofs.Maps.{put_over}
use Rattle.sp_listing.proofs.listed.Listed.lay.Goals as goal

pub loop-index-preserved : goal.loop-index-preserved
loop-index-preserved c =
    let es = c.args.over in
    let s = entry_of c.args.self in
    let k = c.loop-index.index in
    let e : Entry = record { place = c.entry-value.result.0.now; value = c.entry-value.result.1 } in
    let more : suc k ≡ k + 1 = omega arith in
    c.in_ok-set.ensures ∙ ap (λ (m : Store). put_at e.place.fun e.place.args e.value m) c.loop-index.invariant
    ∙ put_over es s k e c.len-index-end.ensures.apart c.entry-value.ensures ∙ ap (λ n. overlay (entry_of (take n es)) s) more
