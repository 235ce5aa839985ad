use Rattle.sp_typed.proofs.Quotes.{no_new}
use Rattle.sp_typed.proofs.old_values_law.Goals as goal

pub returns : goal.returns
returns c = no_new
