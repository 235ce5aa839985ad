use Rattle.std.proofs.Common.{◌≡◌, ◌++◌, ◌∙◌, ap}
use Rattle.std.specs.Prelude.{map}
use Rattle.std.specs.List.{flat_map}
use Rattle.sp_text.specs.Violations.{first}
use Rattle.sp_core.specs.WellFormed.{names_of}
use Rattle.sp_instance.specs.Words.{designator_names}
use Rattle.sp_instance.specs.Heads.{heads_broken, names_in}
use Rattle.sp_instance.specs.Populations.{population_head, types_broken}
use Rattle.sp_instance.specs.Tables.{missing}
use Rattle.sp_instance.specs.Instances.{population_heads, populations_named, table_heads}
use Rattle.sp_instance.proofs.instance.front.Goals as goal

pub returns-clause-found : goal.returns-clause-found
returns-clause-found c =
    let p = c.args.spec.now in
    let t = c.args.t.now in
    let rows : c.deref-2.result.now ≡ population_heads t = c.deref-2.ensures.value ∙ c.in_ok-populations.ensures ∙ ap (map population_head) c.items-rows.ensures in
    let a = populations_named p t in
    let b = types_broken t.name.span t.populations p.types in
    let d = flat_map (missing t.name.span (names_in (table_heads t))) p.params in
    c.earlier-found.ensures (a ++ b) d
    (c.earlier-here.ensures a b
    (c.in_ok-named.ensures ∙ (λ i. first (heads_broken (designator_names p.types) (names_of p) (rows i))))
    (c.in_ok-given.ensures.found ∙ (λ i. first (types_broken t.name.span (c.items-rows.ensures i) (c.types-2.ensures.value i)))))
    (c.all_missing-missing.ensures ∙ (λ i. first (flat_map (missing t.name.span (c.requires i)) (c.params.ensures.value i))))
