use Rattle.std.proofs.Common.{◌∙◌, ap, take, arith}
use Rattle.sp_text.specs.Violations.{first_in_files, in_file}
use Rattle.sp_naming.specs.Numbers.{numbered}
use Rattle.sp_naming.proofs.Gathering.{number_after, number_next}
use Rattle.sp_scopes.specs.Modules.{file_broken, module_broken}
use Rattle.sp_scopes.proofs.module.modules_broken.Goals as goal

pub loop-text-preserved : goal.loop-text-preserved
loop-text-preserved c =
    let rule = file_broken c.args.declared.now c.args.names.now in
    let xs = c.args.modules.now in
    let i = c.loop-text.text-index in
    let x = c.text-item.result in
    let n = c.loop-text.number in
    record {
      found =
          c.earlier_in_files-found.ensures (numbered rule 0 (take i xs)) (rule n x) c.loop-text.invariant.found
          (c.in_file.ensures (module_broken c.args.declared.now c.args.names.now n x) c.in_ok-here.ensures ∙ ap (λ f. first_in_files (in_file f (module_broken c.args.declared.now c.args.names.now n x))) c.counted.ensures)
          ∙ ap first_in_files (number_next rule 0 xs i x n (omega arith) c.loop-text-test.true c.text-item.is c.loop-text.invariant.number);
      number = c.after-number.ensures ∙ number_after 0 i n (omega arith) c.loop-text.invariant.number;
    }
