use Rattle.std.proofs.Common.{sym, ◌∙◌, ap}
use Rattle.std.specs.Prelude.{unwrap_or}
use Rattle.sp_core.proofs.InstanceLemmas.{row_value-lookup}
use Rattle.sp_core.proofs.instance.Table.at.Goals as goal

pub returns : goal.returns
returns c =
    let t = c.self.inside in
    rw (← c.self.view_is) (c.unwrap_or.ensures ∙ ap (λ o. unwrap_or o t.other) (c.copied.ensures ∙ c.get.ensures.value) ∙ sym (row_value-lookup t.rows.entries t.other c.args.args.now))
