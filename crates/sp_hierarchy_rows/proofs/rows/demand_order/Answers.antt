use Rattle.std.proofs.Common.{◌∙◌, inl, refl, sym}
use Rattle.std.proofs.lemmas.Slice.Eq.{bytes_eq-Decides}
use Rattle.sp_hierarchy_rows.proofs.Chains.{above_lowest, lowest_above}
use Rattle.sp_hierarchy_rows.proofs.Progress.{stops}
use Rattle.sp_hierarchy_rows.proofs.rows.demand_order.Goals as goal

pub returns-then-eq : goal.returns-then-eq
returns-then-eq c =
    let row = c.args.row.now in
    let same = (bytes_eq-Decides _ _).0 (sym c.eq.ensures ∙ c.if-eq.true) in
    stops _ _ c.broken_at.result (λ free. free (above_lowest c.args.before.now row.1.name row.0.name (sym c.lowest.ensures ∙ same))) c.broken_at.ensures

pub returns : goal.returns
returns c =
    let row = c.args.row.now in
    inl (
      λ above.
          let same = sym c.eq.ensures ∙ c.if-eq.false in
          let yes = (bytes_eq-Decides _ _).1 (c.lowest.ensures ∙ lowest_above c.args.before.now c.requires.different row.1.name row.0.name c.requires.single above) in
          absurd cc,
      refl,
    )
