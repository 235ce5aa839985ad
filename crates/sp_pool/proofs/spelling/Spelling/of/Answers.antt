use Rattle.std.proofs.Common.{◌≡◌, ℕ, ◌+◌, ◌<◌, ◌≢◌, length, take, set, slice_index, below_more, ap, ◌∙◌, arith, rules, get_or-set_other, get_or-set_same}
use Rattle.std.proofs.Math.ListN.{length-set}
use Rattle.sp_pool.specs.Nodes.{arg_of}
use Rattle.sp_pool.specs.Spelling.{node_of, spelling}
use Rattle.sp_pool.proofs.Spellings.{spelled, spells}
use Rattle.sp_pool.proofs.spelling.Spelling.of.Goals as goal
use Rattle.sp_pool.proofs.spelling.Spelling.of.Goals.{After-from-2}

pub loop-place-init : goal.loop-place-init
loop-place-init c = search rules

pub loop-place-preserved : goal.loop-place-preserved
loop-place-preserved c =
    let h = c.loop-place.invariant in
    let place = c.loop-place.place in
    let stays = λ (k : ℕ) (apart : k ≢ place + 3). get_or-set_other c.loop-place.words (place + 3) k c.from.result 0 apart in
    record {
      twelve = length-set c.loop-place.words (place + 3) c.from.result ∙ h.twelve;
      tag = stays 0 (omega arith) ∙ h.tag;
      first = stays 1 (omega arith) ∙ h.first;
      second = stays 2 (omega arith) ∙ h.second;
      args = below_more (λ k. slice_index (set c.loop-place.words (place + 3) c.from.result) (k + 3) ≡ arg_of c.args.node.now k) place
          (λ k below. stays (k + 3) (omega arith) ∙ h.args k below)
          (get_or-set_same c.loop-place.words (place + 3) c.from.result 0 (omega arith) ∙ c.from.ensures);
      small = below_more (λ k. arg_of c.args.node.now k < 65536) place h.small (search rules);
    }

-- the words written are the spelling
words_are : (c : After-from-2) → take (3 + c.from-2.result) c.loop-place.words ≡ spelling c.args.node.now
words_are c =
    let n = c.args.node.now in
    let h = c.loop-place.invariant in
    let eight : length n.args ≡ 8 = search rules in
    let head = c.head_words.ensures.words in
    ap (λ m. take (3 + m) c.loop-place.words) c.from-2.ensures
    ∙ spelled n c.requires.few eight c.loop-place.words (omega (arith, h.twelve)) (h.tag ∙ ap (λ ws. slice_index ws 0) head) (h.first ∙ ap (λ ws. slice_index ws 1) head)
    (h.second ∙ ap (λ ws. slice_index ws 2) head) (λ k below. h.args k (omega (arith, below, c.loop-place-test.false)))

pub returns-clause-words : goal.returns-clause-words
returns-clause-words c = words_are (goal.at.returns-clause-words c).After-from-2

pub returns-clause-back : goal.returns-clause-back
returns-clause-back c =
    let n = c.args.node.now in
    let eight : length n.args ≡ 8 = search rules in
    let small = λ (k : ℕ) (below : k < 8). c.loop-place.invariant.small k (omega (arith, below, c.loop-place-test.false)) in
    ap node_of (words_are (goal.at.returns-clause-back c).After-from-2) ∙ spells n c.requires.few eight c.requires small (rw c.head_words.ensures.words at c.head_words.ensures.back)
