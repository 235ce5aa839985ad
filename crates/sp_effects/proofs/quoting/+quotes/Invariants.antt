use Rattle.std.proofs.Common.{◌+◌, ◌*◌, map}
use Rattle.sp_plain.specs.Text.{text, texts_of, weight, weight_in}
use Rattle.sp_effects.proofs.quoting.+quotes.Given as goal

abbrev pub decreases-push_quotes : goal.decreases-push_quotes
decreases-push_quotes l = 2 * weight (text l.e.now)

abbrev pub decreases-push_below : goal.decreases-push_below
decreases-push_below l = 2 * weight (text l.body.now) + 1

abbrev pub decreases-push_each : goal.decreases-push_each
decreases-push_each l = 2 * weight_in (texts_of (map text l.args.now)) + 1
