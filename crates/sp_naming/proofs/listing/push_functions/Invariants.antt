use Rattle.std.proofs.Common.{◌≡◌, ◌++◌, take}
use Rattle.sp_naming.specs.Declarations.{function_declaration}
use Rattle.sp_naming.specs.Numbers.{counted, numbered}
use Rattle.sp_naming.proofs.listing.push_functions.Given as goal

abbrev pub invariant-loop-function : goal.invariant-loop-function
invariant-loop-function l = record {
  listed : l.all.items ≡ l.initial.all.items ++ numbered (function_declaration l.file) l.first (take l.function-index l.functions);
  number : l.number ≡ counted l.first l.function-index;
}
