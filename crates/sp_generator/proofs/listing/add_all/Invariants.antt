use Rattle.std.proofs.Common.{◌≡◌, drop}
use Rattle.sp_sequent.specs.Numbers.{nodes_of}
use Rattle.sp_sequent.specs.Subterms.{truths}
use Rattle.sp_formulas.specs.Formulas.{formulas, formulas_from}
use Rattle.sp_formulas.specs.Generated.{IsUnderWay}
use Rattle.sp_generator.proofs.listing.add_all.Given as goal

abbrev pub invariant-loop-g : goal.invariant-loop-g
invariant-loop-g l = record {
  way : IsUnderWay l.spec l.fn.out.items l.out.items (formulas_from l.spec l.g (drop l.g l.functions)) (formulas l.spec);
  two : l.pool ≡ nodes_of truths;
}
