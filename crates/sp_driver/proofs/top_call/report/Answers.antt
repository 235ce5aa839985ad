use Rattle.std.proofs.Common.{subst, sym}
use Rattle.sp_words.specs.Meant.{command_meant}
use Rattle.sp_words.specs.Words.{command_of, texts_of}
use Rattle.sp_driver.specs.Report.{IsLoading}
use Rattle.sp_driver.proofs.Causes.{command_report}
use Rattle.sp_driver.proofs.Unloaded.{report_unloaded}
use Rattle.sp_driver.proofs.top_call.report.Goals as goal

pub returns-in-Ok-clause-reports : goal.returns-in-Ok-clause-reports
returns-in-Ok-clause-reports g c =
    command_report (texts_of c.args.words.now) (command_meant c.in-Ok.command) _ c.perform.result c.report_of.result c.in-Ok.ensures.command c.perform.ensures.work.does c.report_of.ensures.shows

pub returns-in-Ok-clause-unloaded : goal.returns-in-Ok-clause-unloaded
returns-in-Ok-clause-unloaded g c =
    report_unloaded c.admissible_law.ensures c.nothing_law.ensures (command_of (texts_of c.args.words.now)) (command_meant c.in-Ok.command) c.perform.result c.report_of.result c.in-Ok.ensures.command c.in-Ok.ensures.sized
    c.perform.ensures.alone c.report_of.ensures.shows

pub returns-in-Ok-clause-loading : goal.returns-in-Ok-clause-loading
returns-in-Ok-clause-loading g c = λ e. subst IsLoading (sym c.in-Ok.ensures.command) (c.perform.ensures.read_fault (c.report_of.ensures.read_fault e))
