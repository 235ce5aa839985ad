use Rattle.sp_words.specs.Words.{command_of, texts_of}
use Rattle.sp_driver.proofs.Accepted.{accepts}
use Rattle.sp_driver.proofs.Causes as causes
use Rattle.sp_driver.proofs.Shown.{shows}
use Rattle.sp_driver.proofs.Unloaded.{run_unloaded}
use Rattle.sp_driver.proofs.top_call.run.Goals as goal

pub returns-clause-reported : goal.returns-clause-reported
returns-clause-reported g c = causes.reported c.command_law.ensures (texts_of c.args.words.now) _ _ _ _ c.report-ended.result c.report-ended.ensures.reports c.deliver.ensures.whole

pub returns-clause-determined : goal.returns-clause-determined
returns-clause-determined g c =
    causes.determined c.command_law.ensures (texts_of c.args.words.now) _ _ _ _ (causes.reported c.command_law.ensures (texts_of c.args.words.now) _ _ _ _ c.report-ended.result c.report-ended.ensures.reports c.deliver.ensures.whole)

pub returns-clause-caused : goal.returns-clause-caused
returns-clause-caused g c =
    causes.caused c.command_law.ensures (texts_of c.args.words.now) _ _ _ _ (causes.reported c.command_law.ensures (texts_of c.args.words.now) _ _ _ _ c.report-ended.result c.report-ended.ensures.reports c.deliver.ensures.whole)

pub returns-clause-cut_short : goal.returns-clause-cut_short
returns-clause-cut_short g c = λ e. causes.cut_short (texts_of c.args.words.now) _ _ _ c.report-ended.result c.report-ended.ensures.reports (c.deliver.ensures.part e)

pub returns-clause-accepted : goal.returns-clause-accepted
returns-clause-accepted g c = λ ok.
    accepts c.accepted_law.ensures c.proved_law.ensures c.checked_law.ensures c.verified_law.ensures c.sampled_law.ensures c.accepted_law-2.ensures (texts_of c.args.words.now) _ _ _ _ (causes.reported c.command_law.ensures (texts_of c.args.words.now) _ _ _ _ c.report-ended.result c.report-ended.ensures.reports c.deliver.ensures.whole) ok

pub returns-clause-shown : goal.returns-clause-shown
returns-clause-shown g c =
    shows (record {
      checks = c.checked_lines_law.ensures;
      verifies = c.verified_lines_law.ensures;
      samples = c.sampled_lines_law.ensures;
      proves = c.proved_law.ensures;
      beside = c.checked_law.ensures;
      refused = c.refused_lines_law.ensures;
      check_refuses = c.refusals_law.ensures.check;
      verify_refuses = c.refusals_law.ensures.verify;
      sample_refuses = c.refusals_law.ensures.sample;
      hierarchy_refuses = c.hierarchy_refusals_law.ensures;
      interfaces_under = c.hierarchy_lines_law.ensures;
      mappings_under = c.mapping_lines_law.ensures;
      rows_under = c.mapping_rows_law.ensures;
    }) (texts_of c.args.words.now) _ _ _ _
    (causes.reported c.command_law.ensures (texts_of c.args.words.now) _ _ _ _ c.report-ended.result c.report-ended.ensures.reports c.deliver.ensures.whole)
    (λ e. causes.cut_short (texts_of c.args.words.now) _ _ _ c.report-ended.result c.report-ended.ensures.reports (c.deliver.ensures.part e))
    (λ e. (c.deliver.ensures.read_fault e).1) c.deliver.ensures.memory

pub returns-clause-unloaded : goal.returns-clause-unloaded
returns-clause-unloaded g c =
    run_unloaded (command_of (texts_of c.args.words.now)) _ _ _ c.report-ended.result c.report-ended.ensures.unloaded c.deliver.ensures.whole (λ e. c.report-ended.ensures.loading (c.deliver.ensures.read_fault e).0)
