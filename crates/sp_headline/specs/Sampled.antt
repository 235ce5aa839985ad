-- What a line that begins with ACCEPTED means in the report of `sample`.
use Rattle.std.specs.Prelude.{ℕ, List, Ok}
use Rattle.sp_frame.specs.declared.refusal.Verdict.{Verdict}
use Rattle.sp_frame.specs.Endings.{printed}
use Rattle.sp_sample_command.specs.Sample.{SampleDone}
use Rattle.sp_sample_command.specs.Secure.{IsSecureSample}
use Rattle.sp_headline.specs.Lines.{HoldsAccepted}

-- the law: where the report of `sample` holds such a line, the sample of that size is secure
abbrev pub SampledLinesLaw : Type 0
SampledLinesLaw = (n : ℕ) (bytes : List ℕ) (v : Verdict) → SampleDone n (Ok (printed bytes v)) → HoldsAccepted bytes → IsSecureSample n
