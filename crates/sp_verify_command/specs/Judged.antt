-- The certificates of a file are judged by the formulas of a specification, in order, and the lines that tell it. For the work of
-- `verify` and of `migrate`.
use Rattle.std.specs.Prelude.{ℕ, zero, suc, ◌+◌, ◌-◌, List, [], ◌∷◌, ◌++◌, Option, Some, None, codes, length}
use Rattle.std.specs.Fmt.{decimal}
use Rattle.sp_core.specs.Parts.{Parts}
use Rattle.sp_sequent.specs.Claims.{question_of}
use Rattle.sp_formulas.specs.Formulas.{Formula}
use Rattle.sp_hold.specs.Holding.{claim}
use Rattle.sp_cert.specs.Tree.{Tree}
use Rattle.sp_cert.specs.declared.cert.CertFault.{CertFault}
use Rattle.sp_checker.specs.Accepting.{fault_for}
use Rattle.sp_report.specs.Faults.{fault_text}
use Rattle.sp_report.specs.Headings.{heading, interface_line}
use Rattle.sp_frame.specs.declared.refusal.Verdict.{Verdict}
use Rattle.sp_frame.specs.declared.refusal.Verdict.TheVariants as verdict
use Rattle.sp_verify_command.specs.declared.judging.Judgement.{Judgement}
use Rattle.sp_verify_command.specs.declared.judging.Judgement.TheVariants as judgement

-- ---- judgements

-- a certificate checks, or this is its first fault
abbrev pub judged_by : Option CertFault → Judgement
judged_by None = judgement.Checked
judged_by (Some f) = judgement.Refused f

-- the certificate of a formula
abbrev pub judged : Parts → Formula → Tree → Judgement
judged p o t = judged_by (fault_for (question_of p (claim o)) t)

-- the same, if there is a certificate
abbrev pub judged_if : Parts → Formula → Option Tree → Judgement
judged_if p o None = judgement.Absent
judged_if p o (Some t) = judged p o t

-- Of each formula in order its certificate, which is the file's in the same place; where the file ends before, it has none.
abbrev pub judgements : Parts → List Formula → List Tree → List Judgement
judgements p [] ts = []
judgements p (o ∷ os) [] = judgement.Absent ∷ judgements p os []
judgements p (o ∷ os) (t ∷ ts) = judged p o t ∷ judgements p os ts

-- how many formulas have no certificate that checks
abbrev pub refused_count : List Judgement → ℕ
refused_count [] = 0
refused_count (judgement.Checked ∷ js) = refused_count js
refused_count (judgement.Refused f ∷ js) = suc (refused_count js)
refused_count (judgement.Absent ∷ js) = suc (refused_count js)

-- how many certificates the file has too many
abbrev pub extra_count : List Formula → List Tree → ℕ
extra_count os ts = length ts - length os

-- so many formulas have no certificate that checks, and there are so many certificates too many
abbrev pub verdict_by : ℕ → ℕ → Verdict
verdict_by zero zero = verdict.Ok
verdict_by zero (suc x) = verdict.Refused
verdict_by (suc k) x = verdict.Refused

-- the verdict on the file
abbrev pub file_verdict : Parts → List Formula → List Tree → Verdict
file_verdict p os ts = verdict_by (refused_count (judgements p os ts)) (extra_count os ts)

-- ---- lines

abbrev pub judgement_text : Judgement → List ℕ
judgement_text judgement.Checked = codes "CHECKED"
judgement_text (judgement.Refused f) = codes "REFUSED " ++ fault_text f
judgement_text judgement.Absent = codes "REFUSED no certificate"

-- `n fun kind`, and how its certificate is judged
abbrev pub judgement_line : ℕ → Formula → Judgement → List ℕ
judgement_line n o j = heading n o.name o.kind ++ codes " " ++ judgement_text j ++ codes "\n"

-- those of formulas of which the first has number n
abbrev pub judgement_lines : ℕ → List Formula → List Judgement → List ℕ
judgement_lines n [] js = []
judgement_lines n (o ∷ os) [] = []
judgement_lines n (o ∷ os) (j ∷ js) = judgement_line n o j ++ judgement_lines (n + 1) os js

-- so many certificates too many
abbrev pub extra_line : ℕ → List ℕ
extra_line zero = []
extra_line (suc x) = codes "EXTRA " ++ decimal (suc x) ++ codes "\n"

-- of m formulas so many are refused, which may be none where there are certificates too many
abbrev pub closing_line : ℕ → ℕ → Verdict → List ℕ
closing_line m k verdict.Ok = codes "ACCEPTED " ++ decimal m ++ codes " formulas\n"
closing_line m k v = codes "REFUSED " ++ decimal k ++ codes " of " ++ decimal m ++ codes " formulas\n"

abbrev pub verify_text : Parts → List Formula → List Tree → List ℕ
verify_text p os ts =
    interface_line p ++ judgement_lines 1 os (judgements p os ts) ++ extra_line (extra_count os ts)
    ++ closing_line (length os) (refused_count (judgements p os ts)) (file_verdict p os ts)
