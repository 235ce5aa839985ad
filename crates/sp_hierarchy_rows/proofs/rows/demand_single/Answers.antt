use Rattle.std.proofs.Common.{◌∙◌, inl, refl, sym}
use Rattle.sp_hierarchy_rows.proofs.Chains.{not_upper, upper}
use Rattle.sp_hierarchy_rows.proofs.Progress.{stops}
use Rattle.sp_hierarchy_rows.proofs.rows.demand_single.Goals as goal

pub returns-then-is_upper-clause-does : goal.returns-then-is_upper-clause-does
returns-then-is_upper-clause-does c =
    let row = c.args.row.now in
    stops _ _ c.broken_at.result (λ free. free (upper c.args.before.now row.0.name (sym c.is_upper.ensures ∙ c.if-is_upper.true))) c.broken_at.ensures

pub returns-clause-does : goal.returns-clause-does
returns-clause-does c = inl (not_upper c.args.before.now c.args.row.now.0.name (sym c.is_upper.ensures ∙ c.if-is_upper.false), refl)

pub returns-clause-single : goal.returns-clause-single
returns-clause-single c = not_upper c.args.before.now c.args.row.now.0.name (sym c.is_upper.ensures ∙ c.if-is_upper.false)
