use Rattle.std.proofs.Common.{◌≡◌, map, drop}
use Rattle.sp_sequent.specs.Numbers.{nodes_of}
use Rattle.sp_sequent.specs.Subterms.{truths}
use Rattle.sp_formulas.specs.Formulas.{agreements_with}
use Rattle.sp_formulas.specs.Generated.{IsUnderWay}
use Rattle.sp_generator.specs.Collected.{item_as}
use Rattle.sp_generator.proofs.agreements.add_with.Given as goal

abbrev pub invariant-loop-second : goal.invariant-loop-second
invariant-loop-second l = record {
  way : IsUnderWay l.spec l.fn.out.items l.out.items (agreements_with l.spec l.fun l.function (item_as l.first) (drop l.second-index (map item_as l.later)))
      (agreements_with l.spec l.fun l.function (item_as l.first) (map item_as l.later));
  two : l.pool ≡ nodes_of truths;
}
