use Rattle.std.proofs.Common.{◌∙◌, sym, ap, length, refl}
use Rattle.std.proofs.lemmas.Option.{slice_get_past, slice_get_read}
use Rattle.sp_core.specs.Tree.{tree}
use Rattle.sp_core.proofs.TreeLemmas.{tree-Const}
use Rattle.sp_formulas.proofs.Lists.{nth_absent, nth_there}
use Rattle.sp_formulas.proofs.moves.argument.Goals as goal

pub returns-in_ok-copy-in-Some : goal.returns-in_ok-copy-in-Some
returns-in_ok-copy-in-Some c =
    let ds = c.args.args.now in
    ap tree c.in_ok-copy-in-Some.ensures ∙ sym (nth_there ds c.args.k c.in-Some.a.now (slice_get_read ds (length ds) c.args.k c.in-Some.a.now refl c.in-Some.ensures.lookup.3.0 c.in-Some.ensures.lookup.1))

pub returns-in-None : goal.returns-in-None
returns-in-None c = let ds = c.args.args.now in tree-Const _ ∙ sym (nth_absent ds c.args.k (slice_get_past ds c.args.k c.in-None.ensures.lookup.3))
