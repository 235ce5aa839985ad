use Rattle.std.proofs.Common.{bit_and}
use Rattle.std.proofs.lemmas.Bool.{eqb-true, eq-eqb}
use Rattle.sp_lattice.proofs.Products.{subset_from_and, and_from_subset}
use Rattle.sp_lattice.proofs.decl.is_subset.Goals as goal

pub returns : goal.returns
returns c =
    let s = c.args.set in
    let t = c.args.other in
    (λ e. subset_from_and s t (eqb-true (bit_and s t) s e), λ h. eq-eqb (bit_and s t) s (and_from_subset s t h))
