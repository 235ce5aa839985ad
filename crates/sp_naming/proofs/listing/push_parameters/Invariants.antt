use Rattle.std.proofs.Common.{◌≡◌, ◌++◌, take}
use Rattle.sp_naming.specs.Declarations.{param_declaration}
use Rattle.sp_naming.specs.Numbers.{counted, numbered}
use Rattle.sp_naming.proofs.listing.push_parameters.Given as goal

abbrev pub invariant-loop-head : goal.invariant-loop-head
invariant-loop-head l = record {
  listed : l.all.items ≡ l.initial.all.items ++ numbered (param_declaration l.file) l.first (take l.head-index l.parameters);
  number : l.number ≡ counted l.first l.head-index;
}
