use Rattle.std.proofs.Common.{◌≡◌, ◌+◌, ◌*◌, map, take}
use Rattle.sp_text.specs.Violations.{first}
use Rattle.sp_plain.specs.Text.{text, texts_of, weight, weight_in}
use Rattle.sp_reads.specs.ReadTexts.{read_lists}
use Rattle.sp_reads.proofs.texts.+judge_reads.Given as goal

abbrev pub decreases-judge_reads : goal.decreases-judge_reads
decreases-judge_reads l = 3 * weight (text l.e.now)

abbrev pub decreases-judge_call : goal.decreases-judge_call
decreases-judge_call l = 3 * weight_in (texts_of (map text l.args.now)) + 2

abbrev pub decreases-judge_quote : goal.decreases-judge_quote
decreases-judge_quote l = 3 * weight_in (texts_of (map text l.args.now)) + 2

abbrev pub decreases-judge_below : goal.decreases-judge_below
decreases-judge_below l = 3 * weight (text l.body.now) + 1

abbrev pub decreases-judge_args : goal.decreases-judge_args
decreases-judge_args l = 3 * weight_in (texts_of (map text l.args.now)) + 1

abbrev pub decreases-firsts_of : goal.decreases-firsts_of
decreases-firsts_of l = 3 * weight_in (texts_of (map text l.args.now)) + 1

abbrev pub invariant-firsts_of-loop-arg : goal.invariant-firsts_of-loop-arg
invariant-firsts_of-loop-arg l = l.all.items ≡ map first (read_lists l.scope l.flags l.rule l.locals (texts_of (map text (take l.arg-index l.args))))
