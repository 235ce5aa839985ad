use Rattle.std.proofs.Common.{◌≡◌, [], take}
use Rattle.std.specs.Prelude.{map}
use Rattle.sp_text.specs.Violations.{first_in_files}
use Rattle.sp_naming.specs.Names.{at_name, name_of, repeated, IsIndex}
use Rattle.sp_naming.proofs.declared.indexed.Given as goal

abbrev pub invariant-loop-place : goal.invariant-loop-place
invariant-loop-place l = record {
  index : IsIndex (map name_of (take l.place l.all)) (at_name l.index);
  found : l.found ≡ first_in_files (repeated [] (take l.place l.all));
}
