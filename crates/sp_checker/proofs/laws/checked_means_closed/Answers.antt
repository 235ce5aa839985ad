use Rattle.sp_rules.specs.Facts.{is_one_of}
use Rattle.sp_checker.proofs.Closes.{closes}
use Rattle.sp_checker.proofs.laws.checked_means_closed.Goals as goal

pub returns : goal.returns
returns c = λ q t e v is_open. closes q.terms q.atoms (is_one_of q.given) t e v is_open
