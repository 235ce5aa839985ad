use Rattle.std.proofs.Common.{◌≡◌, ◌++◌, take}
use Rattle.sp_naming.specs.Declarations.{type_declaration}
use Rattle.sp_naming.specs.Numbers.{counted, numbered}
use Rattle.sp_naming.proofs.listing.push_types.Given as goal

abbrev pub invariant-loop-ty : goal.invariant-loop-ty
invariant-loop-ty l = record {
  listed : l.all.items ≡ l.initial.all.items ++ numbered (type_declaration l.file) l.first (take l.ty-index l.types);
  number : l.number ≡ counted l.first l.ty-index;
}
