-- The text of a certificate file: its lines, each ended by a line feed. This one definition says what is written and
-- what is read.
use Rattle.std.specs.Prelude.{ℕ, ◌+◌, List, [], ◌∷◌, ◌++◌, length, map, codes, decimal}
use Rattle.sp_rules.specs.declared.fact.Fact.{Fact}
use Rattle.sp_rules.specs.declared.fact.Fact.TheVariants as fact
use Rattle.sp_rules.specs.declared.fact.Step.{Step}
use Rattle.sp_cert.specs.Tree.{Tree, File, Split, Leaf, Steps}

-- `EQ i j` or `LE i j`
abbrev pub fact_words : Fact → List ℕ
fact_words (fact.Eq i j) = codes "EQ " ++ (decimal i ++ (codes " " ++ decimal j))
fact_words (fact.Le i j) = codes "LE " ++ (decimal i ++ (codes " " ++ decimal j))

-- `EQ i j Kr p q` or `LE i j Kr p q`
unfoldable pub step_line : Step → List ℕ
step_line s = fact_words s.fact ++ (codes " K" ++ (decimal s.rule ++ (codes " " ++ (decimal s.p ++ (codes " " ++ decimal s.q)))))

unfoldable pub split_line : ℕ → List ℕ
split_line a = codes "SPLIT " ++ decimal a

unfoldable pub leaf_line : ℕ → List ℕ
leaf_line k = codes "LEAF " ++ decimal k

unfoldable pub steps_line : ℕ → List ℕ
steps_line k = codes "STEPS " ++ decimal k

unfoldable pub formula_line : ℕ → List ℕ
formula_line n = codes "FORMULA " ++ decimal n

-- the line of a format: `CERT 1` or `CERT 2`
unfoldable pub first_line : ℕ → List ℕ
first_line v = codes "CERT " ++ decimal v

-- The lines of a tree in prefix order: the TRUE branch before the FALSE branch, the steps of a STEPS node before the node
-- below them.
abbrev pub tree_lines : Tree → List (List ℕ)
tree_lines (Split a t f) = split_line a ∷ (tree_lines t ++ tree_lines f)
tree_lines (Steps steps t) = steps_line (length steps) ∷ (map step_line steps ++ tree_lines t)
tree_lines (Leaf steps) = leaf_line (length steps) ∷ map step_line steps

-- the formulas from the n-th on, each with its tree
abbrev pub formula_lines : ℕ → List Tree → List (List ℕ)
formula_lines n [] = []
formula_lines n (t ∷ ts) = formula_line n ∷ (tree_lines t ++ formula_lines (n + 1) ts)

-- all lines
abbrev pub lines : File → List (List ℕ)
lines f = first_line f.format ∷ formula_lines 1 f.trees

-- lines as bytes, each with its line feed
abbrev pub text : List (List ℕ) → List ℕ
text [] = []
text (l ∷ ls) = l ++ (10 ∷ text ls)

abbrev pub spelling : File → List ℕ
spelling f = text (lines f)
