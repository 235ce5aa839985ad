-- How a text of certificates is read, line by line.
use Rattle.std.specs.Prelude.{ℕ, zero, suc, ◌+◌, List, [], ◌∷◌, length, Option, Some, None, Ok, Err, if◌then◌else◌}
use Rattle.sp_rules.specs.declared.fact.Step.{Step}
use Rattle.sp_cert.specs.declared.line.NodeLine.{NodeLine}
use Rattle.sp_cert.specs.declared.line.NodeLine.TheVariants as node
use Rattle.sp_cert.specs.Tree.{Tree, File, Split, Leaf, Steps}
use Rattle.sp_cert.specs.Fields.{step_of, node_of, is_formula, format_of}
use Rattle.sp_cert.specs.Input.{Input, Reader, Outcome, and_then, one, too_deep}

-- so many steps
unfoldable pub steps : ℕ → Reader (List Step)
steps zero i = Ok ([], i)
steps (suc k) i = and_then (one step_of i) (λ s j. and_then (steps k j) (λ ss m. Ok (s ∷ ss, m)))

-- a leaf's steps
unfoldable pub leaf : ℕ → Reader Tree
leaf k i = and_then (steps k i) (λ ss m. Ok (Leaf ss, m))

-- the two branches of a SPLIT line, each read by r
unfoldable pub split : Reader Tree → ℕ → Reader Tree
split r a i = and_then (r i) (λ t j. and_then (r j) (λ f m. Ok (Split a t f, m)))

-- so many steps, and the node below them, which r reads
unfoldable pub front : Reader Tree → ℕ → Reader Tree
front r k i = and_then (steps k i) (λ ss j. and_then (r j) (λ t m. Ok (Steps ss t, m)))

-- what stands below a node's line, where r reads a branch
abbrev pub below : Reader Tree → NodeLine → Reader Tree
below r (node.Split a) i = split r a i
below r (node.Leaf k) i = leaf k i
below r (node.Steps k) i = front r k i

-- what stands below a node's line where no node may stand below it, whose line begins at the first input
abbrev pub below_none : Input → NodeLine → Reader Tree
below_none i (node.Split a) j = Err (too_deep i)
below_none i (node.Leaf k) j = leaf k j
below_none i (node.Steps k) j = Err (too_deep i)

-- a tree of format v with at most so many SPLIT and STEPS lines in one another
unfoldable pub tree_within : ℕ → ℕ → Reader Tree
tree_within v zero i = and_then (one (node_of v) i) (below_none i)
tree_within v (suc b) i = and_then (one (node_of v) i) (below (tree_within v b))

-- the n-th formula's line
abbrev pub formula_is : ℕ → List ℕ → Option (Unit {0})
formula_is n l = if is_formula n l then Some tt else None

-- the n-th formula: its line and its tree
unfoldable pub formula : ℕ → ℕ → ℕ → Reader Tree
formula v b n i = and_then (one (formula_is n) i) (λ u j. tree_within v b j)

-- nothing at the text's end, else what is read
abbrev pub until_end : {A : Type 0} → List ℕ → Outcome (List A) → Reader (List A)
until_end [] o i = Ok ([], i)
until_end (b ∷ bs) o i = o

-- the formulas from the n-th on, up to the text's end; at most so many
unfoldable pub formulas : ℕ → ℕ → ℕ → ℕ → Reader (List Tree)
formulas v b zero n i = Ok ([], i)
formulas v b (suc m) n i = until_end i.rest (and_then (formula v b n i) (λ t k. and_then (formulas v b m (n + 1) k) (λ ts x. Ok (t ∷ ts, x)))) i

abbrev pub file_with : ℕ → List Tree → File
file_with v ts = record { format = v; trees = ts }

-- a whole text
unfoldable pub file : ℕ → Reader File
file b i = and_then (one format_of i) (λ v j. and_then (formulas v b (length j.rest) 1 j) (λ ts x. Ok (file_with v ts, x)))
