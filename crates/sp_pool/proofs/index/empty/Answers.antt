use Rattle.std.proofs.Common.{◌≡◌, None, replicate, rules}
use Rattle.sp_pool.proofs.Indexes.{empty_index}
use Rattle.sp_pool.proofs.index.empty.Goals as goal

pub returns : goal.returns
returns c =
    let slots : c.in_ok-vec.field-0.items ≡ replicate 1024 None = c.in_ok-vec.ensures.items_if_clones_equal (λ y e. search rules) in
    rw slots empty_index
