use Rattle.std.proofs.Common.{◌≡◌, ◌+◌, sym, ◌∙◌, ap, arith, map, suc, take}
use Rattle.std.specs.Prelude.{max}
use Rattle.sp_core.specs.Ranks.{new_reads_in}
use Rattle.sp_core.specs.Tree.{tree, trees_of}
use Rattle.sp_ranks.specs.Heights.{height_above}
use Rattle.sp_ranks.proofs.Forms.{above_next}
use Rattle.sp_ranks.proofs.heights.+reading.Goals as goal

pub height_above_all-loop-part-preserved : goal.height_above_all-loop-part-preserved
height_above_all-loop-part-preserved t c =
    let hs = c.args.heights.now in
    let k = c.loop-part.part-index in
    let more : suc k ≡ k + 1 = omega arith in
    c.larger-most.ensures ∙ (λ i. max (c.loop-part.invariant i) (c.height_above_reads.ensures i))
    ∙ sym (above_next hs c.args.parts.now k c.part-item.result c.loop-part-test.true c.part-item.is)
    ∙ ap (λ n. height_above hs (new_reads_in (trees_of (map tree (take n c.args.parts.now))))) more
