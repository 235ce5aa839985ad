-- Laws of the definitions, stated for the layers above. Each is proved at a function of the same name.
use Rattle.std.specs.Prelude.{◌≡◌, List, ◌++◌, map}
use Rattle.std.specs.List.{range_with_len}
use Rattle.sp_values.specs.declared.value.Ty.{Ty}
use Rattle.sp_values.specs.Domains.{Sizes, proper_values}
use Rattle.sp_core.specs.declared.state.Entry.{Entry}
use Rattle.sp_core.specs.Machine.{IsState, Machine}
use Rattle.sp_core.specs.States.{entry_of}
use Rattle.sp_core.specs.Values.{Store}
use Rattle.sp_eval.specs.Overlays.{overlay}
use Rattle.sp_eval.specs.Settings.{population, proper_at}

-- the proper values of a type are, in order, those of the numbers below its population
abbrev pub ProperLaw : Type 0
ProperLaw = (sizes : Sizes) (t : Ty) → proper_values sizes t ≡ map (proper_at t) (range_with_len 0 (population sizes t))

-- entries that stand before others are laid over these
abbrev pub OverlayLaw : Type 0
OverlayLaw = (d s : List Entry) → entry_of (d ++ s) ≡ overlay (entry_of d) (entry_of s)

-- entries of a machine laid over a state of it are a state of it
abbrev pub OverlayStateLaw : Type 0
OverlayStateLaw = (m : Machine) (d s : Store) → IsState m d → IsState m s → IsState m (overlay d s)
