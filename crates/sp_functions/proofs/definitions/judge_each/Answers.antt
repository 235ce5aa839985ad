use Rattle.std.proofs.Common.{◌∙◌, ap, arith, take}
use Rattle.sp_text.specs.Violations.{first_in_files, in_file}
use Rattle.sp_naming.specs.Numbers.{counted}
use Rattle.sp_functions.specs.DefinitionTexts.{definition_broken, definitions_broken}
use Rattle.sp_functions.proofs.Defining.{definitions_next}
use Rattle.sp_functions.proofs.definitions.judge_each.Goals as goal

pub loop-definition-preserved : goal.loop-definition-preserved
loop-definition-preserved c =
    let s = c.args.scope.now in
    let ds = c.args.definitions.now in
    let i = c.loop-definition.definition-index in
    let d = c.definition-item.result in
    let k = c.loop-definition.k in
    let own = definition_broken s k d in
    record {
      found =
          c.earlier_in_files-found.ensures (definitions_broken s 0 (take i ds)) (in_file (counted 1 d.module_number) own) c.loop-definition.invariant.found
          (c.in_file.ensures own c.in_ok-here.ensures ∙ ap (λ f. first_in_files (in_file f own)) c.counted.ensures)
          ∙ ap first_in_files (definitions_next s ds i k d c.loop-definition-test.true c.definition-item.is c.loop-definition.invariant.number);
      number = omega (arith, c.loop-definition.invariant.number);
    }
