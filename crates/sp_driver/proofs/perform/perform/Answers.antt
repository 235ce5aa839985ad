use Rattle.std.proofs.Common.{◌∙◌, sym}
use Rattle.sp_frame.specs.Endings.{Printing}
use Rattle.sp_frame.specs.Uncertified as lines
use Rattle.sp_frame.proofs.Connective.{loads_nothing}
use Rattle.sp_frame.proofs.Uncertified.{loads_widened}
use Rattle.sp_check_command.specs.Check.{CheckDone}
use Rattle.sp_compare_command.specs.Compare.{CompareDone}
use Rattle.sp_formulas_command.specs.Formulas.{FormulasDone}
use Rattle.sp_run_command.specs.Run.{RunDone}
use Rattle.sp_verify_command.specs.Migrate.{MigrateDone}
use Rattle.sp_verify_command.specs.Verify.{VerifyDone}
use Rattle.sp_hierarchy_command.specs.Hierarchy.{HierarchyDone}
use Rattle.sp_sample_command.specs.Sample.{SampleDone}
use Rattle.sp_driver.specs.Certified.{spells}
use Rattle.sp_driver.proofs.Unloaded.{never_failed, sample_alone}
use Rattle.sp_driver.proofs.perform.perform.Goals as goal

pub returns-in-Check-clause-work : goal.returns-in-Check-clause-work
returns-in-Check-clause-work g c = rw c.in-Check.is (loads_widened spells _ _ (CheckDone c.in-Check.interface.now) _ _ _ c.check_command.ensures)

pub returns-in-Formulas-clause-work : goal.returns-in-Formulas-clause-work
returns-in-Formulas-clause-work g c = rw c.in-Formulas.is (loads_widened spells _ _ (FormulasDone c.in-Formulas.interface.now) _ _ _ c.formulas_command.ensures)

pub returns-in-Verify-clause-work : goal.returns-in-Verify-clause-work
returns-in-Verify-clause-work g c = rw c.in-Verify.is (loads_widened spells _ _ (VerifyDone c.in-Verify.interface.now c.in-Verify.certificates.now) _ _ _ c.verify_command.ensures)

pub returns-in-Migrate-clause-work : goal.returns-in-Migrate-clause-work
returns-in-Migrate-clause-work g c = rw c.in-Migrate.is (loads_widened spells _ _ (MigrateDone c.in-Migrate.interface.now c.in-Migrate.certificates.now) _ _ _ c.migrate_command.ensures)

pub returns-in-Run-clause-work : goal.returns-in-Run-clause-work
returns-in-Run-clause-work g c = rw c.in-Run.is (loads_widened spells _ _ (RunDone c.in-Run.interface.now c.in-Run.instance.now c.in-Run.script.now) _ _ _ c.run_command.ensures)

pub returns-in-Compare-clause-work : goal.returns-in-Compare-clause-work
returns-in-Compare-clause-work g c = rw c.in-Compare.is (loads_widened spells _ _ (CompareDone c.in-Compare.interface.now c.in-Compare.instance.now c.in-Compare.script.now c.in-Compare.level.now) _ _ _ c.compare_command.ensures)

pub returns-in-Hierarchy-clause-work : goal.returns-in-Hierarchy-clause-work
returns-in-Hierarchy-clause-work g c = rw c.in-Hierarchy.is (loads_widened spells _ _ (HierarchyDone c.in-Hierarchy.hierarchy.now) _ _ _ c.hierarchy_command.ensures)

pub returns-in-Sample-clause-work : goal.returns-in-Sample-clause-work
returns-in-Sample-clause-work g c =
    rw c.in-Sample.is
    (loads_widened spells _ _ (λ files. SampleDone c.in-Sample.size) _ _ _
    (loads_nothing _ _ _ (Printing lines.spells (SampleDone c.in-Sample.size)) c.sample_command.result c.as_loading.result c.sample_command.ensures c.as_loading.ensures))

pub returns-in-Sample-clause-alone : goal.returns-in-Sample-clause-alone
returns-in-Sample-clause-alone g c = rw c.in-Sample.is (λ size e. sample_alone c.in-Sample.size size c.sample_command.result c.as_loading.result c.sample_command.ensures c.as_loading.ensures e)

pub returns-in-Check-clause-read_fault : goal.returns-in-Check-clause-read_fault
returns-in-Check-clause-read_fault g c = rw c.in-Check.is (λ e. tt)

pub returns-in-Formulas-clause-read_fault : goal.returns-in-Formulas-clause-read_fault
returns-in-Formulas-clause-read_fault g c = rw c.in-Formulas.is (λ e. tt)

pub returns-in-Prove-clause-read_fault : goal.returns-in-Prove-clause-read_fault
returns-in-Prove-clause-read_fault g c = rw c.in-Prove.is (λ e. tt)

pub returns-in-Verify-clause-read_fault : goal.returns-in-Verify-clause-read_fault
returns-in-Verify-clause-read_fault g c = rw c.in-Verify.is (λ e. tt)

pub returns-in-Migrate-clause-read_fault : goal.returns-in-Migrate-clause-read_fault
returns-in-Migrate-clause-read_fault g c = rw c.in-Migrate.is (λ e. tt)

pub returns-in-Run-clause-read_fault : goal.returns-in-Run-clause-read_fault
returns-in-Run-clause-read_fault g c = rw c.in-Run.is (λ e. tt)

pub returns-in-Compare-clause-read_fault : goal.returns-in-Compare-clause-read_fault
returns-in-Compare-clause-read_fault g c = rw c.in-Compare.is (λ e. tt)

pub returns-in-Hierarchy-clause-read_fault : goal.returns-in-Hierarchy-clause-read_fault
returns-in-Hierarchy-clause-read_fault g c = rw c.in-Hierarchy.is (λ e. tt)

pub returns-in-Sample-clause-read_fault : goal.returns-in-Sample-clause-read_fault
returns-in-Sample-clause-read_fault g c = λ e. absurd (never_failed c.sample_command.result (sym c.as_loading.ensures ∙ e))
