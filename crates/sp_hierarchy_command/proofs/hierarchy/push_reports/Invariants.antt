use Rattle.std.proofs.Common.{◌≡◌, ◌++◌, drop, map}
use Rattle.sp_hierarchy_command.specs.Hierarchy.{texts_of}
use Rattle.sp_hierarchy_command.specs.Reports.{lines_of}
use Rattle.sp_hierarchy_command.proofs.hierarchy.push_reports.Given as goal

-- the texts so far stand before those that are left
abbrev pub invariant-loop-report : goal.invariant-loop-report
invariant-loop-report l = l.out.items ++ texts_of (map lines_of (drop l.report-index l.reports)) ≡ l.initial.out.items ++ texts_of (map lines_of l.reports)
