use Rattle.std.proofs.Common.{◌≡◌, ◌++◌, take}
use Rattle.sp_naming.specs.Levels.{listed_levels}
use Rattle.sp_naming.specs.Numbers.{counted}
use Rattle.sp_naming.proofs.levels.push_listed.Given as goal

abbrev pub invariant-loop-name : goal.invariant-loop-name
invariant-loop-name l = record {
  listed : l.all.items ≡ l.initial.all.items ++ listed_levels (take l.name-index l.names);
  number : l.number ≡ counted 0 l.name-index;
}
