-- The lines of a list of formulas.
use Rattle.std.specs.Prelude.{ℕ, suc, List, [], ◌∷◌, ◌++◌, codes, decimal, length}
use Rattle.sp_core.specs.Parts.{Parts}
use Rattle.sp_formulas.specs.Formulas.{Formula}
use Rattle.sp_report.specs.Formulas.{expr_line, hypothesis_lines}
use Rattle.sp_report.specs.Headings.{heading, interface_line}

-- the lines of the n-th formula: `FORMULA n fun kind`, `HYP e` for each hypothesis in order, and `GOAL e`
abbrev pub formula_lines : Parts → ℕ → Formula → List ℕ
formula_lines p n f = codes "FORMULA " ++ (heading n f.name f.kind ++ (codes "\n" ++ (hypothesis_lines p f.vars f.hypotheses ++ expr_line (codes "GOAL ") p f.vars f.goal)))

-- those of formulas, of which the first has number n
abbrev pub list_lines : Parts → ℕ → List Formula → List ℕ
list_lines p n [] = []
list_lines p n (f ∷ fs) = formula_lines p n f ++ list_lines p (suc n) fs

-- the lines of all formulas, numbered from 1, and how many they are
abbrev pub list_text : Parts → List Formula → List ℕ
list_text p fs = interface_line p ++ list_lines p 1 fs ++ codes "FORMULAS " ++ decimal (length fs) ++ codes "\n"
