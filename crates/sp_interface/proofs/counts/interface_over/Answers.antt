use Rattle.std.proofs.Common.{◌≡◌, ◌-◌, ◌+◌, ◌<◌, ◌∷◌, [], Some, drop, get_or, length, vec_len, slice_get, ap, ◌∙◌}
use Rattle.sp_interface.specs.Counts.{first_mentions, mentioned}
use Rattle.sp_interface.proofs.Mentions.{limit_here, mentions_here}
use Rattle.sp_interface.proofs.counts.interface_over.Goals as goal

pub returns-in-Some : goal.returns-in-Some
returns-in-Some c =
    let rows = c.args.tree.now.rows in
    let row = c.row-item.result in
    let below : c.loop-row.row-index < length rows = rw (← c.items-row-items.ensures) c.loop-row-test.true in
    let is : row ≡ get_or rows c.loop-row.row-index row = rw (← c.items-row-items.ensures) c.row-item.is in
    let here = mentions_here rows c.loop-row.row-index row below is in
    let found = rw c.in-Some.is at (c.in_ok-span.ensures.over (row.1 ∷ mentioned (drop (c.loop-row.row-index + 1) rows))) in
    let all : slice_get (first_mentions [] (mentioned rows)) 16 ≡ Some c.in-Some.span = c.loop-row.invariant.over ∙ (ap (λ xs. slice_get (first_mentions c.loop-row.counted.items xs) (16 - vec_len c.loop-row.counted)) here ∙ found) in
    limit_here _ _ _ all c.too_many.ensures

pub returns-in-Some-2 : goal.returns-in-Some-2
returns-in-Some-2 c =
    let rows = c.args.tree.now.rows in
    let row = c.row-item.result in
    let below : c.loop-row.row-index < length rows = rw (← c.items-row-items.ensures) c.loop-row-test.true in
    let is : row ≡ get_or rows c.loop-row.row-index row = rw (← c.items-row-items.ensures) c.row-item.is in
    let here = mentions_here rows c.loop-row.row-index row below is in
    let upper = rw c.in_default.is at (c.in_ok-span.ensures.over (row.1 ∷ mentioned (drop (c.loop-row.row-index + 1) rows))) in
    let lower = rw c.in-Some-2.is at (c.in_ok-span-2.ensures.over (mentioned (drop (c.loop-row.row-index + 1) rows))) in
    let all : slice_get (first_mentions [] (mentioned rows)) 16 ≡ Some c.in-Some-2.span = c.loop-row.invariant.over ∙ (ap (λ xs. slice_get (first_mentions c.loop-row.counted.items xs) (16 - vec_len c.loop-row.counted)) here ∙ (upper ∙ lower)) in
    limit_here _ _ _ all c.too_many-in-Some-2.ensures

pub loop-row-preserved : goal.loop-row-preserved
loop-row-preserved c =
    let rows = c.args.tree.now.rows in
    let row = c.row-item.result in
    let below : c.loop-row.row-index < length rows = rw (← c.items-row-items.ensures) c.loop-row-test.true in
    let is : row ≡ get_or rows c.loop-row.row-index row = rw (← c.items-row-items.ensures) c.row-item.is in
    let here = mentions_here rows c.loop-row.row-index row below is in
    let upper = rw c.in_default.is at (c.in_ok-span.ensures.over (row.1 ∷ mentioned (drop (c.loop-row.row-index + 1) rows))) in
    let lower = rw c.in_default-2.is at (c.in_ok-span-2.ensures.over (mentioned (drop (c.loop-row.row-index + 1) rows))) in
    record {
      room = c.in_ok-span-2.ensures.within;
      over = c.loop-row.invariant.over ∙ (ap (λ xs. slice_get (first_mentions c.loop-row.counted.items xs) (16 - vec_len c.loop-row.counted)) here ∙ (upper ∙ lower));
    }
