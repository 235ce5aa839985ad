use Rattle.sp_cert.proofs.File.{one_spelling}
use Rattle.sp_cert.proofs.laws.one_spelling.Goals as goal

pub returns : goal.returns
returns c = λ depth f g h k e. one_spelling depth f g h k e
