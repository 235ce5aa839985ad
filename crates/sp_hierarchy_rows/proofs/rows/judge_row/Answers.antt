use Rattle.sp_frame.proofs.Connective.{does_after}
use Rattle.sp_hierarchy_rows.proofs.rows.judge_row.Goals as goal

pub returns-clause-does : goal.returns-clause-does
returns-clause-does c = does_after _ _ _ c.demand_order.result c.in_ok-demand_single.ensures.does c.demand_order.ensures
