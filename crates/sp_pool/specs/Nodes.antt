-- The nodes that a pool holds, in the order of their numbers. For the layers that number the terms of a formula.
use Rattle.std.specs.Prelude.{◌≡◌, ℕ, ◌<◌, ◌≤◌, ◌⊎◌, ◌++◌, ◌∷◌, [], Bool, true, false, List, length, replicate, slice_get, slice_index_or, Some}
use Rattle.sp_text.specs.declared.limits.TheConstants.{MOST_TERMS}
use Rattle.sp_values.specs.declared.value.Value.TheVariants.{Truth}
use Rattle.sp_pool.specs.declared.node.TermId.{TermId}
use Rattle.sp_pool.specs.declared.node.Node.{Node}
use Rattle.sp_pool.specs.declared.node.Head.TheVariants.{Const}

abbrev pub term : ℕ → TermId
term i = record { 0 = i }

-- the number in the k-th place of a node's arguments
abbrev pub arg_of : Node → ℕ → ℕ
arg_of n k = (slice_index_or n.args k (term 0)).0

-- the node of number i
abbrev pub HasNode : List Node → ℕ → Node → Type 0
HasNode nodes i n = slice_get nodes i ≡ Some n

abbrev pub IsHeld : List Node → Node → Type 0
IsHeld nodes n = (i : ℕ) × HasNode nodes i n

-- the nodes are as they were, or this one stands behind them
abbrev pub IsGrown : List Node → Node → List Node → Type 0
IsGrown old n new = (new ≡ old) ⊎ (new ≡ old ++ n ∷ [])

-- the constant's node
abbrev pub truth_node : Bool → Node
truth_node b = record { head = Const (Truth b); count = 0; args = replicate 8 (term 0) }

-- at most 8 arguments, whose numbers are below the count of held ones, and 0 in the places behind them
pub record IsNode (held : ℕ) (n : Node) : Type 0 where
  pub few : n.count ≤ 8
  pub earlier : (k : ℕ) → k < n.count → arg_of n k < held
  pub padded : (k : ℕ) → n.count ≤ k → arg_of n k ≡ 0

-- at most 512 nodes: TRUE and FALSE first, different ones under different numbers, and arguments before the whole
pub record IsPool (nodes : List Node) : Type 0 where
  pub true_first : HasNode nodes 0 (truth_node true)
  pub false_second : HasNode nodes 1 (truth_node false)
  pub apart : (i j : ℕ) (n : Node) → HasNode nodes i n → HasNode nodes j n → i ≡ j
  pub ordered : (i : ℕ) (n : Node) → HasNode nodes i n → IsNode i n
  pub eight : (i : ℕ) (n : Node) → HasNode nodes i n → length n.args ≡ 8
  pub few : length nodes ≤ MOST_TERMS
