-- What is told of a sample.
use Rattle.std.specs.Prelude.{ℕ, zero, suc, ◌+◌, List, [], ◌∷◌, ◌++◌, codes, length}
use Rattle.sp_core.specs.Parts.{Parts}
use Rattle.sp_sequent.specs.Claims.{terms_in}
use Rattle.sp_formulas.specs.Formulas.{Formula}
use Rattle.sp_hold.specs.Holding.{claim}
use Rattle.sp_frame.specs.Endings.{printed}
use Rattle.sp_frame.specs.Uncertified.{Lines}
use Rattle.sp_sample.specs.Pieces.{numbered}
use Rattle.sp_deciding.specs.Decided.{open_count}
use Rattle.sp_deciding.specs.Verdicts.{verdict_by}
use Rattle.sp_deciding.specs.declared.deciding.Decision.{Decision}
use Rattle.sp_check_command.specs.Check.{check_text}

-- the numbers of subterms of these formulas together: TRUE and FALSE count in each
abbrev pub term_count : List Formula → ℕ
term_count [] = 0
term_count (o ∷ os) = length (terms_in (claim o)) + term_count os

-- SAMPLE N
-- functions F
-- formulas M
-- terms T
-- ACCEPTED
abbrev pub summary_of : ℕ → ℕ → ℕ → ℕ → List ℕ
summary_of n functions formulas terms =
    numbered (codes "SAMPLE ") n (codes "\n")
    ++ numbered (codes "functions ") functions (codes "\n")
    ++ numbered (codes "formulas ") formulas (codes "\n")
    ++ numbered (codes "terms ") terms (codes "\n")
    ++ codes "ACCEPTED\n"

abbrev pub summary : ℕ → Parts → List Formula → List ℕ
summary n p os = summary_of n (length p.functions) (length os) (term_count os)

-- the summary where no formula is open; else what `check` tells
abbrev pub sample_text : ℕ → Parts → List Formula → List Decision → ℕ → List ℕ
sample_text n p os ds zero = summary n p os
sample_text n p os ds (suc k) = check_text p os ds

-- the answer of `sample`, with the verdict of `check`
abbrev pub sample_answer : ℕ → Parts → List Formula → List Decision → Lines
sample_answer n p os ds = printed (sample_text n p os ds (open_count ds)) (verdict_by (open_count ds))
