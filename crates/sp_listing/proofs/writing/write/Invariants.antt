use Rattle.std.proofs.Common.{◌≡◌, ◌≤◌, ◌+◌, take, length}
use Rattle.sp_core.specs.States.{entry_of}
use Rattle.sp_listing.specs.Listing as listing
use Rattle.sp_eval.specs.Overlays.{overlay}
use Rattle.sp_listing.proofs.writing.write.Given as goal

abbrev pub invariant-loop-index : goal.invariant-loop-index
invariant-loop-index l = record {
  entries : entry_of l.state.entries ≡ overlay (entry_of (take l.index l.listed)) (entry_of l.initial.state.entries);
  count : length l.state.entries ≡ length l.initial.state.entries + listing.fresh (take l.index l.listed) (entry_of l.initial.state.entries);
  spare : l.initial.state.spare ≤ l.state.spare + l.index;
}
