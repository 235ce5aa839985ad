use Rattle.std.proofs.Common.{◌≡◌, take}
use Rattle.sp_text.specs.Violations.{first_in_files}
use Rattle.sp_naming.specs.Numbers.{counted, numbered}
use Rattle.sp_scopes.specs.Modules.{file_broken}
use Rattle.sp_scopes.proofs.module.modules_broken.Given as goal

abbrev pub invariant-loop-text : goal.invariant-loop-text
invariant-loop-text l = record {
  found : l.found ≡ first_in_files (numbered (file_broken l.declared l.names) 0 (take l.text-index l.modules));
  number : l.number ≡ counted 0 l.text-index;
}
