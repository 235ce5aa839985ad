use Rattle.std.proofs.Common.{◌≡◌, take}
use Rattle.std.specs.Prelude.{map}
use Rattle.sp_text.specs.Violations.{first}
use Rattle.sp_instance.specs.Populations.{members_of_types, types_broken}
use Rattle.sp_instance.proofs.populations.all_members.Given as goal

abbrev pub invariant-loop-info : goal.invariant-loop-info
invariant-loop-info l = record {
  made : map (λ names. names.items) l.all.items ≡ members_of_types l.rows (take l.info-index l.types);
  found : l.found ≡ first (types_broken l.span l.rows (take l.info-index l.types));
}
