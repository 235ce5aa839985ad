-- A report that was made, as the answer that it is.
use Rattle.std.specs.Prelude.{List, Result, Ok, Err, map}
use Rattle.sp_frame.specs.declared.refusal.Printed.{Printed}
use Rattle.sp_frame.specs.declared.refusal.Stop.{Stop}
use Rattle.sp_frame.specs.Endings.{printed}
use Rattle.sp_frame.specs.Uncertified.{Lines}

abbrev pub lines_of : Printed → Lines
lines_of report = printed report.bytes.items report.verdict

abbrev pub as_lines : Result (List Printed) Stop → Result (List Lines) Stop
as_lines (Ok reports) = Ok (map lines_of reports)
as_lines (Err s) = Err s
