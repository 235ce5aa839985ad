use Rattle.std.proofs.Common.{◌≡◌, take}
use Rattle.sp_core.specs.States.{entry_of}
use Rattle.sp_eval.specs.Overlays.{overlay}
use Rattle.sp_listing.proofs.listed.Listed.lay.Given as goal

abbrev pub invariant-loop-index : goal.invariant-loop-index
invariant-loop-index l = entry_of l.both ≡ overlay (entry_of (take l.index l.fn.over)) (entry_of l.fn.self)
