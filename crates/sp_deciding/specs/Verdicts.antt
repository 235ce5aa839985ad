-- The lines of decisions: of each formula whether it is proved, with the first open branch where it isn't; and what follows of all.
use Rattle.std.specs.Prelude.{ℕ, ◌+◌, zero, suc, Bool, List, [], ◌∷◌, ◌++◌, Option, Some, None, codes, slice_get}
use Rattle.std.specs.Fmt.{decimal}
use Rattle.sp_core.specs.declared.function.Formal.{Formal}
use Rattle.sp_core.specs.Parts.{Parts}
use Rattle.sp_core.specs.Tree.{Tree}
use Rattle.sp_sequent.specs.Claims.{question_of, terms_in}
use Rattle.sp_formulas.specs.Formulas.{Formula}
use Rattle.sp_hold.specs.Holding.{claim}
use Rattle.sp_report.specs.Constants.{truth_text}
use Rattle.sp_report.specs.Expressions.{expr_text}
use Rattle.sp_report.specs.Headings.{heading}
use Rattle.sp_frame.specs.declared.refusal.Verdict.{Verdict}
use Rattle.sp_frame.specs.declared.refusal.Verdict.TheVariants as verdict
use Rattle.sp_deciding.specs.declared.deciding.Decision.{Decision}
use Rattle.sp_deciding.specs.declared.deciding.Decision.TheVariants as decision

-- a term, if there is one
abbrev pub term_text : Parts → List Formal → Option Tree → List ℕ
term_text p xs None = []
term_text p xs (Some e) = expr_text p xs e

-- an atom of the formula with its value: two blanks, the term of this number, and TRUE or FALSE
abbrev pub atom_line : Parts → List Formal → List Tree → ℕ → Bool → List ℕ
atom_line p xs es t v = codes "  " ++ term_text p xs (slice_get es t) ++ codes " " ++ truth_text v ++ codes "\n"

-- the terms of these numbers, each with its value
abbrev pub atom_lines : Parts → List Formal → List Tree → List ℕ → List Bool → List ℕ
atom_lines p xs es [] vs = []
atom_lines p xs es (t ∷ ts) [] = []
atom_lines p xs es (t ∷ ts) (v ∷ vs) = atom_line p xs es t v ++ atom_lines p xs es ts vs

-- the formula of this number is proved, or it is open, and then its atoms have these values
abbrev pub decision_lines : Parts → ℕ → Formula → Decision → List ℕ
decision_lines p n o decision.Proved = heading n o.name o.kind ++ codes " PROVED\n"
decision_lines p n o (decision.Open vs) = heading n o.name o.kind ++ codes " OPEN\n" ++ atom_lines p o.vars (terms_in (claim o)) (question_of p (claim o)).atoms vs

-- those of formulas of which the first has number n
abbrev pub all_lines : Parts → ℕ → List Formula → List Decision → List ℕ
all_lines p n [] ds = []
all_lines p n (o ∷ os) [] = []
all_lines p n (o ∷ os) (d ∷ ds) = decision_lines p n o d ++ all_lines p (n + 1) os ds

-- so many of the m formulas are open
abbrev pub last_line : ℕ → ℕ → List ℕ
last_line m zero = codes "ACCEPTED " ++ decimal m ++ codes " formulas\n"
last_line m (suc k) = codes "REFUSED " ++ decimal (suc k) ++ codes " of " ++ decimal m ++ codes " formulas\n"

-- where so many are open
abbrev pub verdict_by : ℕ → Verdict
verdict_by zero = verdict.Ok
verdict_by (suc k) = verdict.Refused
