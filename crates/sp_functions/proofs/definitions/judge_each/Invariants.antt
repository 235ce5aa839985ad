use Rattle.std.proofs.Common.{◌≡◌, take}
use Rattle.sp_text.specs.Violations.{first_in_files}
use Rattle.sp_functions.specs.DefinitionTexts.{definitions_broken}
use Rattle.sp_functions.proofs.definitions.judge_each.Given as goal

abbrev pub invariant-loop-definition : goal.invariant-loop-definition
invariant-loop-definition l = record {
  found : l.found ≡ first_in_files (definitions_broken l.scope 0 (take l.definition-index l.definitions));
  number : l.k ≡ l.definition-index;
}
