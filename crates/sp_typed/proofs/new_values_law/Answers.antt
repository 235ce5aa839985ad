use Rattle.sp_typed.proofs.Quotes.{news}
use Rattle.sp_typed.proofs.new_values_law.Goals as goal

pub returns : goal.returns
returns c = news
