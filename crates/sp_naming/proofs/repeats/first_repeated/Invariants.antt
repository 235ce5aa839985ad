use Rattle.std.proofs.Common.{◌≡◌, [], take}
use Rattle.std.specs.Prelude.{map}
use Rattle.sp_text.specs.Violations.{first}
use Rattle.sp_naming.specs.Names.{at_name, repeated_names, IsIndex}
use Rattle.sp_naming.proofs.Indexes.{ident_name}
use Rattle.sp_naming.proofs.repeats.first_repeated.Given as goal

abbrev pub invariant-loop-place : goal.invariant-loop-place
invariant-loop-place l = record {
  index : IsIndex (map ident_name (take l.place l.idents)) (at_name l.index);
  found : l.found ≡ first (repeated_names [] (take l.place l.idents));
}
