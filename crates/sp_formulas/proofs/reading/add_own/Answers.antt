use Rattle.std.proofs.Common.{[], map, sym, subst}
use Rattle.std.proofs.lemmas.List.Elements.{All-head}
use Rattle.sp_core.specs.Tree.{tree, trees_of}
use Rattle.sp_formulas.specs.Formulas.{own_formula}
use Rattle.sp_formulas.specs.Generated.{hypothesis_tree, spot_of}
use Rattle.sp_formulas.specs.Typed.{AreTypedFormulas, IsTypedFormula}
use Rattle.sp_formulas.proofs.GeneratedLemmas.{own_Look, own_New}
use Rattle.sp_formulas.proofs.reading.add_own.Goals as goal

pub add_reference-requires-clause-typed : goal.add_reference-requires-clause-typed
add_reference-requires-clause-typed c =
    let p = c.args.spec.now in
    let o = spot_of c.args.place.now c.args.bound.now in
    let hs = map hypothesis_tree c.args.hyps.now in
    subst (λ ds. IsTypedFormula p (own_formula p o hs c.in-Look.g (trees_of (map tree ds)))) (sym c.as_slice.ensures)
    (All-head (IsTypedFormula p) (own_formula p o hs c.in-Look.g (trees_of (map tree c.in-Look.args))) [] (subst (AreTypedFormulas p) (own_Look p o hs c.args.e.now c.in-Look.g c.in-Look.args c.in-Look.is) c.requires.typed))

pub add_reference-requires-in-New-clause-typed : goal.add_reference-requires-in-New-clause-typed
add_reference-requires-in-New-clause-typed c =
    let p = c.args.spec.now in
    let o = spot_of c.args.place.now c.args.bound.now in
    let hs = map hypothesis_tree c.args.hyps.now in
    subst (λ ds. IsTypedFormula p (own_formula p o hs c.in-New.g (trees_of (map tree ds)))) (sym c.as_slice-in-New.ensures)
    (All-head (IsTypedFormula p) (own_formula p o hs c.in-New.g (trees_of (map tree c.in-New.args))) [] (subst (AreTypedFormulas p) (own_New p o hs c.args.e.now c.in-New.g c.in-New.args c.in-New.is) c.requires.typed))
