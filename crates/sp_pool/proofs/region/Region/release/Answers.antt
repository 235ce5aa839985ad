use Rattle.std.proofs.Common.{◌≡◌, ◌+◌, ◌<◌, ◌≤◌, List, ℕ, length, take, slice_index, ap, ◌∙◌, arith}
use Rattle.std.proofs.lemmas.List.{get_or_read, get_or-take, length-take-le}
use Rattle.sp_pool.specs.Records.{Records, records_between}
use Rattle.sp_pool.proofs.Regions.{count_is, kept_bounds, kept_records, bound_within}
use Rattle.sp_pool.proofs.region.Region.release.Goals as goal
use Rattle.sp_pool.proofs.region.Region.release.Goals.{After-truncate, After-index}

-- the bound at the end of the kept records
within : (c : After-truncate) → c.args.k < length c.self.inside.bounds.items
within c =
    let s = c.self.inside in
    let held : c.args.k ≤ length (records_between s.words.items s.bounds.items) = rw (← c.self.view_is) at c.requires in
    let are = c.self.invariant.bounds_are in
    omega (arith, held, count_is s.words.items s.bounds.items are, are.some)

end_is : (c : After-index) → c.args.k < length c.self.inside.bounds.items → c.index.result.now ≡ slice_index c.self.inside.bounds.items c.args.k
end_is c held =
    let xs = c.self.inside.bounds.items in
    let items : c.truncate.new.self.items ≡ take (c.args.k + 1) xs = c.truncate.ensures.items in
    get_or_read c.truncate.new.self.items c.args.k c.index.result.now (omega (arith, ap length items, length-take-le (c.args.k + 1) xs (omega (arith, held)))) c.index.ensures 0
    ∙ ap (λ ys. slice_index ys c.args.k) items ∙ get_or-take (c.args.k + 1) xs c.args.k 0 (omega arith)

pub index-requires : goal.index-requires
index-requires c =
    let held = within (goal.at.index-requires c).After-truncate in
    let items : c.truncate.new.self.items ≡ take (c.args.k + 1) c.self.inside.bounds.items = c.truncate.ensures.items in
    omega (arith, held, ap length items, length-take-le (c.args.k + 1) c.self.inside.bounds.items (omega (arith, held)), c.truncate.new.self.ok.0)

pub invariant_of-self : goal.invariant_of-self
invariant_of-self c =
    let s = c.self.inside in
    let held = within (goal.at.invariant_of-self c).After-truncate in
    let end = end_is (goal.at.invariant_of-self c).After-index held in
    let are = c.self.invariant.bounds_are in
    let low = bound_within s.words.items s.bounds.items are c.args.k held in
    rw (c.truncate-2.ensures.items, c.truncate.ensures.items, end) (record {
      bounds_are = kept_bounds s.words.items s.bounds.items are c.args.k held;
      few_words = omega (arith, low, length-take-le (slice_index s.bounds.items c.args.k) s.words.items low, c.self.invariant.few_words);
      few_records = omega (arith, length-take-le (c.args.k + 1) s.bounds.items (omega (arith, held)), held, c.self.invariant.few_records);
      words_fit = c.self.invariant.words_fit;
      records_fit = c.self.invariant.records_fit;
      room_for_words = omega (arith, c.self.invariant.room_for_words, c.truncate-2.ensures.capacity);
      room_for_bounds = omega (arith, c.self.invariant.room_for_bounds, c.truncate.ensures.capacity);
    })

pub returns : goal.returns
returns c =
    let s = c.self.inside in
    let held = within (goal.at.returns c).After-truncate in
    let end = end_is (goal.at.returns c).After-index held in
    let words : c.truncate-2.new.self.items ≡ take (slice_index s.bounds.items c.args.k) s.words.items = c.truncate-2.ensures.items ∙ ap (λ n. take n s.words.items) end in
    ap (λ (xs : List ℕ). let r : Records = record { records = records_between xs c.truncate.new.self.items; most_words = s.most_words; most_records = s.most_records } in r) words
    ∙ ap (λ (xs : List ℕ). let r : Records = record { records = records_between (take (slice_index s.bounds.items c.args.k) s.words.items) xs; most_words = s.most_words; most_records = s.most_records } in r) c.truncate.ensures.items
    ∙ ap (λ (rs : List (List ℕ)). let r : Records = record { records = rs; most_words = s.most_words; most_records = s.most_records } in r)
    (kept_records s.words.items s.bounds.items c.self.invariant.bounds_are c.args.k held)
    ∙ ap (λ (v : Records). let r : Records = record { records = take c.args.k v.records; most_words = v.most_words; most_records = v.most_records } in r) c.self.view_is
