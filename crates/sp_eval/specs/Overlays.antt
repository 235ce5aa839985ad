-- Maps of entries that lie over one another, for evaluation over changes that aren't written to a state yet.
use Rattle.std.specs.Prelude.{Option, Some, None}
use Rattle.sp_values.specs.declared.value.Value.{Value}
use Rattle.sp_core.specs.Values.{Store}

-- the upper entry of a place, or else the lower one
abbrev pub upper_or : Option Value → Option Value → Option Value
upper_or (Some x) lower = Some x
upper_or None lower = lower

-- the map d laid over the map s: each place has the entry that it has in d, or else the one that it has in s
abbrev pub overlay : Store → Store → Store
overlay d s g v = upper_or (d g v) (s g v)
