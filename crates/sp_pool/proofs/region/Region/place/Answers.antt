use Rattle.std.proofs.Common.{◌≡◌, ◌+◌, ◌≤◌, ◌++◌, ◌∷◌, [], length, List, ℕ, ap, ◌∙◌, arith, rules, length-append}
use Rattle.std.proofs.lemmas.List.{length_push}
use Rattle.std.specs.Vec.{vec_len, vec_capacity}
use Rattle.sp_pool.specs.Records.{Records, HasRoom, records_between}
use Rattle.sp_pool.proofs.Regions.{room_told, placed_bounds, placed_records}
use Rattle.sp_pool.proofs.region.Region.place.Goals as goal
use Rattle.sp_pool.proofs.region.Region.place.Goals.{Else-not-has_room, Else-is_err-2}

-- the block has room for the words, and for one more bound
room : (c : Else-not-has_room) → (length c.self.inside.words.items + length c.args.words.now ≤ c.self.inside.most_words) × (length c.self.inside.bounds.items ≤ c.self.inside.most_records)
room c =
    let s = c.self.inside in
    let told : HasRoom c.args.self.now (length c.args.words.now) = c.has_room.ensures.0 c.if-not-has_room.false in
    room_told s.words.items s.bounds.items c.self.invariant.bounds_are s.most_words s.most_records (length c.args.words.now) (rw (← c.self.view_is) at told)

pub unreachable-requires : goal.unreachable-requires
unreachable-requires c =
    let h = room (goal.at.unreachable-requires c).Else-not-has_room in
    let fits : vec_len c.self.inside.words + length c.args.words.now ≤ vec_capacity c.self.inside.words = omega (arith, h.0, c.self.invariant.room_for_words, c.self.inside.words.ok.0) in
    search rules

pub overflow_cast-len : goal.overflow_cast-len
overflow_cast-len c =
    let h = room (goal.at.overflow_cast-len c).Else-not-has_room in
    let words : c.extend_from_slice.new.self.items ≡ c.self.inside.words.items ++ c.args.words.now = search rules in
    omega (arith, h.0, c.len.ensures, c.extend_from_slice.new.self.ok.0, ap length words, length-append c.self.inside.words.items c.args.words.now, c.self.invariant.words_fit)

pub unreachable-requires-then-is_err-2 : goal.unreachable-requires-then-is_err-2
unreachable-requires-then-is_err-2 c =
    let h = room (goal.at.unreachable-requires-then-is_err-2 c).Else-not-has_room in
    let fits : vec_len c.self.inside.bounds + 1 ≤ vec_capacity c.self.inside.bounds = omega (arith, h.1, c.self.invariant.room_for_bounds, c.self.inside.bounds.ok.0) in
    search rules

-- the words and the bounds after the call
new_items : (c : Else-is_err-2) → (c.extend_from_slice.new.self.items ≡ c.self.inside.words.items ++ c.args.words.now)
    × (c.push.new.self.items ≡ c.self.inside.bounds.items ++ length (c.self.inside.words.items ++ c.args.words.now) ∷ [])
new_items c =
    let words : c.extend_from_slice.new.self.items ≡ c.self.inside.words.items ++ c.args.words.now = search rules in
    let bounds : c.push.new.self.items ≡ c.self.inside.bounds.items ++ c.len.result ∷ [] = search rules in
    (words, bounds ∙ ap (λ n. c.self.inside.bounds.items ++ n ∷ []) (c.len.ensures ∙ c.extend_from_slice.new.self.ok.0 ∙ ap length words))

pub invariant_of-self : goal.invariant_of-self
invariant_of-self c =
    let h = room (goal.at.invariant_of-self c).Else-not-has_room in
    let s = c.self.inside in
    let n = new_items c in
    let bounds = placed_bounds s.words.items s.bounds.items c.self.invariant.bounds_are c.args.words.now in
    rw (n.0, n.1) (record {
      bounds_are = bounds;
      few_words = omega (arith, h.0, length-append s.words.items c.args.words.now);
      few_records = omega (arith, h.1, length_push s.bounds.items (length (s.words.items ++ c.args.words.now)));
      words_fit = c.self.invariant.words_fit;
      records_fit = c.self.invariant.records_fit;
      room_for_words = omega (arith, c.self.invariant.room_for_words, c.extend_from_slice.ensures.capacity);
      room_for_bounds = omega (arith, c.self.invariant.room_for_bounds, c.push.ensures.capacity);
    })

pub returns-clause-placed : goal.returns-clause-placed
returns-clause-placed c =
    let s = c.self.inside in
    let n = new_items (goal.at.returns-clause-placed c).Else-is_err-2 in
    ap (λ (xs : List ℕ). let r : Records = record { records = records_between xs c.push.new.self.items; most_words = s.most_words; most_records = s.most_records } in r) n.0
    ∙ ap (λ (xs : List ℕ). let r : Records = record { records = records_between (s.words.items ++ c.args.words.now) xs; most_words = s.most_words; most_records = s.most_records } in r) n.1
    ∙ ap (λ (rs : List (List ℕ)). let r : Records = record { records = rs; most_words = s.most_words; most_records = s.most_records } in r)
    (placed_records s.words.items s.bounds.items c.self.invariant.bounds_are c.args.words.now)
    ∙ ap (λ (v : Records). let r : Records = record { records = v.records ++ c.args.words.now ∷ []; most_words = v.most_words; most_records = v.most_records } in r) c.self.view_is
