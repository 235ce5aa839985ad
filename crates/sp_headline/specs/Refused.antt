-- Which refusals are printed as one line: those of which each name holds no line feed. For what the bytes of a refusal can show.
use Rattle.std.specs.Prelude.{ℕ, IsTrue, List, Option, Some, None, Err}
use Rattle.sp_outside.specs.Files.{Files}
use Rattle.sp_cert.specs.Answers.{feed_free}
use Rattle.sp_frame.specs.declared.refusal.Refusal.{Refusal}
use Rattle.sp_frame.specs.declared.refusal.Refusal.TheVariants as refusal
use Rattle.sp_frame.specs.Endings.{refused_line}
use Rattle.sp_frame.specs.Steps.{Step}
use Rattle.sp_check_command.specs.Check.{CheckDone}
use Rattle.sp_verify_command.specs.Verify.{VerifyDone}
use Rattle.sp_sample_command.specs.Sample.{SampleDone}
use Rattle.sp_headline.specs.Lines.{HoldsAccepted}

-- the text holds no line feed
abbrev pub IsInLine : List ℕ → Type 0
IsInLine text = IsTrue (feed_free text)

-- nor does the name of the owner of the work, where it has one
abbrev pub IsOwnerInLine : Option (List ℕ) → Type 0
IsOwnerInLine None = Unit {0}
IsOwnerInLine (Some name) = IsInLine name

-- nor does any name that the refusal tells: of a file, of the levels of an order, of an owner
abbrev pub HasNamesInLine : Refusal → Type 0
HasNamesInLine (refusal.Missing name) = IsInLine name
HasNamesInLine (refusal.TooLong name most) = IsInLine name
HasNamesInLine refusal.LongWord = Unit {0}
HasNamesInLine (refusal.Broken name m) = IsInLine name
HasNamesInLine (refusal.BrokenOrder name m first second) = IsInLine name × IsInLine first × IsInLine second
HasNamesInLine (refusal.Exceeded name l) = IsInLine name
HasNamesInLine (refusal.NotAdmissible name number) = IsInLine name
HasNamesInLine (refusal.Work limit) = IsOwnerInLine limit.owner

-- each refusal of the step is such a one
abbrev pub RefusesInLine : {T : Type 0} → Step T → Type 0
RefusesInLine step = (r : Refusal) → step (Err r) → HasNamesInLine r

-- the law: what is printed of such a refusal holds no line that begins with ACCEPTED
abbrev pub RefusedLinesLaw : Type 0
RefusedLinesLaw = (r : Refusal) → HasNamesInLine r → ¬ HoldsAccepted (refused_line r)

-- the law: where the name of the interface holds no line feed, each refusal of `check` is such a one, whatever the files
abbrev pub CheckRefusesLaw : Type 0
CheckRefusesLaw = (files : Files) (interface : List ℕ) → IsInLine interface → RefusesInLine (CheckDone interface files)

-- the law: so it is with those of `verify`, where the name of the certificates holds none either
abbrev pub VerifyRefusesLaw : Type 0
VerifyRefusesLaw = (files : Files) (interface certs : List ℕ) → IsInLine interface → IsInLine certs → RefusesInLine (VerifyDone interface certs files)

-- the law: so it is with those of `sample`, whose texts have names of their own
abbrev pub SampleRefusesLaw : Type 0
SampleRefusesLaw = (n : ℕ) → RefusesInLine (SampleDone n)
