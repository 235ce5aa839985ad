use Rattle.std.proofs.Common.{◌≡◌, ◌∙◌, ap}
use Rattle.std.specs.Prelude.{map}
use Rattle.sp_text.specs.Violations.{first}
use Rattle.sp_core.specs.WellFormed.{names_of}
use Rattle.sp_instance.specs.Heads.{heads_broken}
use Rattle.sp_instance.specs.Tables.{table_head}
use Rattle.sp_instance.specs.Instances.{param_name, table_heads}
use Rattle.sp_instance.proofs.instance.table_names.Goals as goal

pub returns-clause-named : goal.returns-clause-named
returns-clause-named c =
    let p = c.args.spec.now in
    let t = c.args.t.now in
    let tables : c.deref-2.result.now ≡ table_heads t = c.deref-2.ensures.value ∙ c.in_ok-tables.ensures ∙ ap (map table_head) c.items-texts.ensures in
    c.in_ok-named.ensures ∙ (λ i. first (heads_broken (map param_name p.params) (names_of p) (tables i)))
