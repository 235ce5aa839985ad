use Rattle.std.proofs.Common.{◌≡◌, map, drop}
use Rattle.std.specs.List.{flat_map}
use Rattle.sp_sequent.specs.Numbers.{nodes_of}
use Rattle.sp_sequent.specs.Subterms.{truths}
use Rattle.sp_formulas.specs.Formulas.{item_formulas}
use Rattle.sp_formulas.specs.Generated.{IsUnderWay}
use Rattle.sp_generator.specs.Collected.{item_as}
use Rattle.sp_generator.proofs.effects.add_items.Given as goal

abbrev pub invariant-loop-item : goal.invariant-loop-item
invariant-loop-item l = record {
  way : IsUnderWay l.spec l.fn.out.items l.out.items (flat_map (item_formulas l.spec l.fun l.function) (drop l.item-index (map item_as l.items)))
      (flat_map (item_formulas l.spec l.fun l.function) (map item_as l.items));
  two : l.pool ≡ nodes_of truths;
}
