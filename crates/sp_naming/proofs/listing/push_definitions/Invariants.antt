use Rattle.std.proofs.Common.{◌≡◌, ◌++◌, take}
use Rattle.sp_naming.specs.Declarations.{definition_declaration}
use Rattle.sp_naming.specs.Numbers.{counted, numbered}
use Rattle.sp_naming.proofs.listing.push_definitions.Given as goal

abbrev pub invariant-loop-definition : goal.invariant-loop-definition
invariant-loop-definition l = record {
  listed : l.all.items ≡ l.initial.all.items ++ numbered (definition_declaration l.file) l.first (take l.definition-index l.definitions);
  number : l.number ≡ counted l.first l.definition-index;
}
