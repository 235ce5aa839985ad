use Rattle.std.proofs.Common.{◌≡◌, ◌≤◌, ◌<◌, ◌∷◌, ◌++◌, [], length, ⊎_elim, sym, ap, ◌∙◌, arith}
use Rattle.std.proofs.lemmas.Bool.{cases_lt}
use Rattle.sp_pool.specs.Records.{Records}
use Rattle.sp_pool.proofs.Held.{room_for}
use Rattle.sp_pool.proofs.Indexes.{added}
use Rattle.sp_pool.proofs.pool.intern_node.Goals as goal

pub returns-in_default-clause-interned : goal.returns-in_default-clause-interned
returns-in_default-clause-interned c =
    let records = c.args.region.now.records in
    let words : c.words-2.result.now ≡ c.of-spelling.result = c.words-2.ensures in
    let few : length c.words-2.result.now ≤ 11 = omega (arith, ap length words, c.of-spelling.ensures.few) in
    let full : length records < 512 → ⊥ = λ below.
    let room = room_for records (length c.words-2.result.now) c.requires.spelled below few in
    c.in_default.ensures.full (record { words = omega (arith, room.words, c.requires.sizes.0); one_more = omega (arith, below, c.requires.sizes.1) }) in
    let count : length records ≡ 512 = ⊎_elim (λ below. absurd (full below)) (λ more. omega (arith, more, c.requires.few)) (cases_lt (length records) 512) in
    (rw (c.words.ensures, c.of-spelling.ensures.words) at c.in-Vacant.ensures.absent, count, ap (λ (r : Records). r.records) c.in_default.ensures.err)

pub returns-clause-index : goal.returns-clause-index
returns-clause-index c =
    let records = c.args.region.now.records in
    let same : c.words-2.result.now ≡ c.words.result.now = c.words-2.ensures ∙ sym c.words.ensures in
    let new : c.place.new.self.records ≡ records ++ c.words.result.now ∷ [] = ap (λ (r : Records). r.records) c.in-Ok.ensures.placed ∙ ap (λ ws. records ++ ws ∷ []) same in
    rw (new, c.in-Ok.ensures.number) (added records c.args.slots.now c.requires.index c.words.result.now c.in-Vacant.slot c.in-Vacant.ensures)
