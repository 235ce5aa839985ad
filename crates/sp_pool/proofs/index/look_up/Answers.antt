use Rattle.std.proofs.Common.{◌+◌, ◌%◌, below_more, sym, ap, ◌∙◌, arith}
use Rattle.std.proofs.lemmas.Bool.{false≢true}
use Rattle.std.proofs.lemmas.Option.{same_Some}
use Rattle.sp_pool.specs.Index.{number_in}
use Rattle.sp_pool.proofs.Indexes.{next_at, none_from, some_vacant}
use Rattle.sp_pool.proofs.index.look_up.Goals as goal

pub returns-in_default : goal.returns-in_default
returns-in_default c =
    let records = c.args.region.now.records in
    let slots = c.args.slots.now in
    let words = c.args.words.now in
    let step = c.loop-step.step in
    let vacant = rw c.hash-hash.ensures.hash at (none_from (number_in slots ((c.hash-hash.result + step) % 1024)) c.in_default.not-Some) in
    rw c.hash-hash.ensures.hash (next_at records slots c.requires.index words step c.loop-step-test.true c.loop-step.invariant vacant)

pub loop-step-preserved : goal.loop-step-preserved
loop-step-preserved c =
    let hash = c.hash-hash.ensures.hash in
    below_more _ c.loop-step.step c.loop-step.invariant (
      c.in-Some.number,
      ap (λ n. number_in c.args.slots.now ((n + c.loop-step.step) % 1024)) (sym hash) ∙ c.in-Some.is,
      λ e. false≢true (sym c.if-is_same.false ∙ c.is_same.ensures.1 (same_Some c.record.result.now c.args.words.now (sym c.record.ensures ∙ e))),
    )

pub unreachable-requires : goal.unreachable-requires
unreachable-requires c = some_vacant c.args.region.now.records c.args.slots.now c.requires.index c.args.words.now c.requires.few (λ t below. c.loop-step.invariant t (omega (arith, below, c.loop-step-test.false)))
