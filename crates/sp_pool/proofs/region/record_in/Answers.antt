use Rattle.std.proofs.Common.{◌+◌, ◌≤◌, length, slice_index, rules}
use Rattle.sp_pool.proofs.Regions.{bound_within}
use Rattle.sp_pool.proofs.region.record_in.Goals as goal

pub slice_bounds-result-end : goal.slice_bounds-result-end
slice_bounds-result-end c =
    let within : slice_index c.args.bounds.now (c.args.k + 1) ≤ length c.args.words.now = bound_within c.args.words.now c.args.bounds.now c.requires.bounds (c.args.k + 1) c.requires.held in
    search rules
