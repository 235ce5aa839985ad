-- What a line that begins with ACCEPTED means in a report.
use Rattle.std.specs.Prelude.{ℕ, List, Ok}
use Rattle.sp_outside.specs.Files.{Files}
use Rattle.sp_frame.specs.declared.refusal.Verdict.{Verdict}
use Rattle.sp_frame.specs.Endings.{printed}
use Rattle.sp_check_command.specs.Check.{CheckDone}
use Rattle.sp_check_command.specs.Secure.{IsSecureInterface}
use Rattle.sp_verify_command.specs.Verify.{VerifyDone}
use Rattle.sp_headline.specs.Lines.{HoldsAccepted}

-- the law: where the report of `check` holds such a line, the interface is secure
abbrev pub CheckedLinesLaw : Type 0
CheckedLinesLaw =
    (files : Files) (interface bytes : List ℕ) (v : Verdict) → CheckDone interface files (Ok (printed bytes v)) → HoldsAccepted bytes → IsSecureInterface interface files

-- the law: so it is with the report of `verify`
abbrev pub VerifiedLinesLaw : Type 0
VerifiedLinesLaw =
    (files : Files) (interface certs bytes : List ℕ) (v : Verdict) → VerifyDone interface certs files (Ok (printed bytes v)) → HoldsAccepted bytes → IsSecureInterface interface files
