use Rattle.std.proofs.Common.{◌*◌, ◌^◌, ◌-◌, min, ap, ◌∙◌}
use Rattle.sp_lattice.proofs.Products.{saturated}
use Rattle.sp_lattice.proofs.decl.product_count.Goals as goal

pub returns : goal.returns
returns c =
    c.saturating_mul.ensures ∙ ap (λ p. min (c.args.chain * p) (2 ^ 32 - 1)) c.saturating_pow.ensures
    ∙ saturated c.args.chain (2 ^ c.args.categories) (2 ^ 32 - 1) c.requires
