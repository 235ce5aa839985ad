use Rattle.std.proofs.Common.{◌-◌, length, sym, ap, ◌∙◌, arith}
use Rattle.sp_pool.specs.Records.{Records}
use Rattle.sp_pool.proofs.Regions.{count_is}
use Rattle.sp_pool.proofs.region.Region.count.Goals as goal

pub overflow_cast-result : goal.overflow_cast-result
overflow_cast-result c = omega (arith, c.self.invariant.few_records, c.self.invariant.records_fit)

pub returns : goal.returns
returns c =
    ap (λ n. n - 1) (c.len.ensures ∙ c.self.inside.bounds.ok.0)
    ∙ sym (count_is c.self.inside.words.items c.self.inside.bounds.items c.self.invariant.bounds_are)
    ∙ ap (λ (r : Records). length r.records) c.self.view_is
