use Rattle.std.proofs.Common.{◌+◌, ◌*◌, map}
use Rattle.sp_plain.specs.Text.{text, texts_of, weight, weight_in}
use Rattle.sp_effects.proofs.room.+room.Given as goal

abbrev pub decreases-has_binders : goal.decreases-has_binders
decreases-has_binders l = 2 * weight (text l.e.now)

abbrev pub decreases-have_binders : goal.decreases-have_binders
decreases-have_binders l = 2 * weight_in (texts_of (map text l.args.now)) + 1
