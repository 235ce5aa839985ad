use Rattle.std.proofs.Common.{arith}
use Rattle.sp_sample_command.proofs.Admitted.{sample_admissible}
use Rattle.sp_sample_command.proofs.laws.admissible_law.Goals as goal

pub returns : goal.returns
returns c = λ n few file number. sample_admissible file number n (omega (arith, few))
