-- The tree that a number of a pool stands for: its head over the trees of its arguments. For the laws of pools.
use Rattle.std.specs.Prelude.{◌≡◌, ℕ, ◌+◌, ◌<◌, ◌↔◌, List, ◌++◌, length, take}
use Rattle.sp_pool.specs.declared.node.Node.{Node}
use Rattle.sp_pool.specs.declared.node.Head.{Head}
use Rattle.sp_pool.specs.Nodes.{HasNode, IsPool, arg_of}

mutual
  pub data Tree : Type 0 where
    tree : Head → Trees → Tree

  pub data Trees : Type 0 where
    none : Trees
    more : Tree → Trees → Trees

abbrev mutual
  -- the node of this number has the tree's head, and its arguments stand for the tree's parts
  pub Stands : List Node → ℕ → Tree → Type 0
  Stands nodes i (tree h ts) = (n : Node) × HasNode nodes i n × (n.head ≡ h) × AllStand nodes n 0 ts

  -- the arguments from place k on stand for these trees, and there are no others
  pub AllStand : List Node → Node → ℕ → Trees → Type 0
  AllStand nodes n k none = n.count ≡ k
  AllStand nodes n k (more t ts) = (k < n.count) × Stands nodes (arg_of n k) t × AllStand nodes n (k + 1) ts

-- the numbers below a bound stand for the same trees in two lists of nodes
abbrev pub KeepsTrees : ℕ → List Node → List Node → Type 0
KeepsTrees bound old new = (i : ℕ) (t : Tree) → i < bound → (Stands old i t ↔ Stands new i t)

-- the law: a held number stands for one tree
abbrev pub OneTree : Type 0
OneTree =
    (nodes : List Node) → IsPool nodes → (i : ℕ) → i < length nodes
    → (t : Tree) × Stands nodes i t × ((u : Tree) → Stands nodes i u → u ≡ t)

-- the law: equal trees have one number
abbrev pub OneNumber : Type 0
OneNumber = (nodes : List Node) → IsPool nodes → (t : Tree) (i j : ℕ) → Stands nodes i t → Stands nodes j t → i ≡ j

-- the law: numbers keep their trees where nodes come behind a pool's
abbrev pub LongerKeepsTrees : Type 0
LongerKeepsTrees = (nodes others : List Node) → IsPool nodes → KeepsTrees (length nodes) nodes (nodes ++ others)

-- the law: numbers keep their trees where a pool's last nodes are given up
abbrev pub FrontKeepsTrees : Type 0
FrontKeepsTrees = (nodes : List Node) (m : ℕ) → IsPool nodes → KeepsTrees m nodes (take m nodes)
