use Rattle.std.proofs.Common.{◌≡◌, ◌++◌, take}
use Rattle.sp_naming.specs.Declarations.{modules_declarations, no_counts}
use Rattle.sp_naming.specs.Numbers.{counted}
use Rattle.sp_naming.proofs.Numbering.{counts_all}
use Rattle.sp_naming.proofs.listing.push_modules.Given as goal

abbrev pub invariant-loop-text : goal.invariant-loop-text
invariant-loop-text l = record {
  listed : l.all.items ≡ l.initial.all.items ++ modules_declarations 1 no_counts (take l.text-index l.modules);
  file : l.file ≡ counted 1 l.text-index;
  counts : l.counts ≡ counts_all no_counts (take l.text-index l.modules);
}
