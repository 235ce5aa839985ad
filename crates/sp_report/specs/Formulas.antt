-- The lines of a formula.
use Rattle.std.specs.Prelude.{ℕ, List, [], ◌∷◌, ◌++◌, codes, map}
use Rattle.sp_core.specs.declared.function.Formal.{Formal}
use Rattle.sp_core.specs.Parts.{Parts}
use Rattle.sp_core.specs.Tree.{Tree, tree}
use Rattle.sp_sequent.specs.declared.formula.Formula.{Formula}
use Rattle.sp_report.specs.Expressions.{expr_text}
use Rattle.sp_report.specs.Headings.{heading}

-- a word, an expression and a line feed
abbrev pub expr_line : List ℕ → Parts → List Formal → Tree → List ℕ
expr_line word p xs e = word ++ (expr_text p xs e ++ codes "\n")

-- `HYP e` for each hypothesis in order
abbrev pub hypothesis_lines : Parts → List Formal → List Tree → List ℕ
hypothesis_lines p xs [] = []
hypothesis_lines p xs (e ∷ es) = expr_line (codes "HYP ") p xs e ++ hypothesis_lines p xs es

-- `FORMULA n fun kind`, the hypotheses, and `GOAL e`
abbrev pub formula_text : Parts → ℕ → Formula → List ℕ
formula_text p n f = codes "FORMULA " ++ (heading n f.name f.kind ++ (codes "\n" ++ (hypothesis_lines p f.vars (map tree f.hyps) ++ expr_line (codes "GOAL ") p f.vars (tree f.goal))))
