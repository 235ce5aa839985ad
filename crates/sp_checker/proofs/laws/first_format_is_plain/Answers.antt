use Rattle.sp_checker.proofs.Spelled.{first_format_is_plain}
use Rattle.sp_checker.proofs.laws.first_format_is_plain.Goals as goal

pub returns : goal.returns
returns c = λ depth f g e. first_format_is_plain depth f g e
