use Rattle.std.proofs.Common.{◌≡◌, take}
use Rattle.sp_text.specs.Violations.{first}
use Rattle.sp_core.specs.Machine.{types_of}
use Rattle.sp_instance.specs.Meanings.{values_broken, values_in}
use Rattle.sp_instance.proofs.vocabulary.Vocabulary.values.Given as goal

abbrev pub invariant-loop-k : goal.invariant-loop-k
invariant-loop-k l = record {
  made : l.args ≡ values_in l.self l.proper (types_of (take l.k l.formals)) (take l.k l.texts);
  found : l.found ≡ first (values_broken l.self l.proper (types_of (take l.k l.formals)) (take l.k l.texts));
}
