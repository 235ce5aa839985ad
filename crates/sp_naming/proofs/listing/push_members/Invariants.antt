use Rattle.std.proofs.Common.{◌≡◌, ◌++◌, take}
use Rattle.sp_naming.specs.Declarations.{member}
use Rattle.sp_naming.specs.Numbers.{counted, numbered}
use Rattle.sp_naming.proofs.listing.push_members.Given as goal

abbrev pub invariant-loop-name : goal.invariant-loop-name
invariant-loop-name l = record {
  listed : l.all.items ≡ l.initial.all.items ++ numbered (member l.file l.ty l.owner) 0 (take l.name-index l.names);
  number : l.number ≡ counted 0 l.name-index;
}
