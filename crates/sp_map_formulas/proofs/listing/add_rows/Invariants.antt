use Rattle.std.proofs.Common.{◌≡◌, drop}
use Rattle.std.specs.List.{flat_map}
use Rattle.sp_sequent.specs.Numbers.{nodes_of}
use Rattle.sp_sequent.specs.Subterms.{truths}
use Rattle.sp_formulas.specs.Generated.{IsUnderWay}
use Rattle.sp_map_formulas.specs.Rows.{map_formulas, row_formulas}
use Rattle.sp_map_formulas.proofs.listing.add_rows.Given as goal

abbrev pub invariant-loop-row : goal.invariant-loop-row
invariant-loop-row l = record {
  way : IsUnderWay l.lower l.fn.out.items l.out.items (flat_map (row_formulas l.lower) (drop l.row-index l.m.functions)) (map_formulas l.lower l.m);
  two : l.pool ≡ nodes_of truths;
}
