use Rattle.std.proofs.Common.{◌≡◌, map, drop}
use Rattle.sp_sequent.specs.Numbers.{nodes_of}
use Rattle.sp_sequent.specs.Subterms.{truths}
use Rattle.sp_formulas.specs.Formulas.{agreements}
use Rattle.sp_formulas.specs.Generated.{IsUnderWay}
use Rattle.sp_generator.specs.Collected.{item_as}
use Rattle.sp_generator.proofs.agreements.add_agreements.Given as goal

abbrev pub invariant-loop-k : goal.invariant-loop-k
invariant-loop-k l = record {
  way : IsUnderWay l.spec l.fn.out.items l.out.items (agreements l.spec l.fun l.function (drop l.k (map item_as l.items))) (agreements l.spec l.fun l.function (map item_as l.items));
  two : l.pool ≡ nodes_of truths;
}
