-- The statuses with which a run ends, for the top call and the program.
use Rattle.std.specs.Prelude.{◌≡◌, ℕ, Bool, true, false}
use Rattle.sp_frame.specs.declared.status.Status.{Status}
use Rattle.sp_frame.specs.declared.status.Status.TheVariants as status

-- the program's exit status
abbrev pub number_of : Status → ℕ
number_of status.Ok = 0
number_of status.Refused = 1
number_of status.Malformed = 2
number_of status.Words = 3
number_of status.Missing = 4
number_of status.ReadFault = 5
number_of status.WriteFault = 6
number_of status.Limit = 7
number_of status.Conflict = 8
number_of status.Memory = 9
number_of status.NotAdmissible = 10

-- a status that comes with a report; the others say that a read, a write or memory failed
abbrev pub is_reported : Status → Bool
is_reported status.ReadFault = false
is_reported status.WriteFault = false
is_reported status.Memory = false
is_reported s = true

-- a read, a write or memory failed
abbrev pub IsFailure : Status → Type 0
IsFailure s = is_reported s ≡ false
