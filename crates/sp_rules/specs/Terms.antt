-- The terms of a formula, by their numbers, and the tests of their forms. For the rules by which facts about them follow.
use Rattle.std.specs.Prelude.{◌==◌, ◌≤◌, ℕ, ◌||◌, ◌&&◌, Bool, true, false, List, [], length, nat_lt, slice_index_or}
use Rattle.sp_values.specs.declared.value.Value.{Value}
use Rattle.sp_values.specs.declared.value.Value.TheVariants.{Truth, Int, Level, Unknown}
use Rattle.sp_values.specs.declared.value.Op.{Op}
use Rattle.sp_values.specs.declared.value.Op.TheVariants.{Add, Sub, Mul}
use Rattle.sp_values.specs.Arithmetic.{sum, difference, product}
use Rattle.sp_lattice.specs.Order.{Order, is_below}
use Rattle.sp_pool.specs.declared.node.Node.{Node}
use Rattle.sp_pool.specs.declared.node.Head.{Head}
use Rattle.sp_pool.specs.declared.node.Head.TheVariants.{Const, Var, Not, Two, If, Param, Look, New, Quant}
use Rattle.sp_pool.specs.Nodes.{arg_of}
use Rattle.sp_pool.specs.Spelling.{op_number}
use Rattle.sp_values.specs.Identity.{same_value}

-- the terms' nodes, which of them are level terms, and the lattice of the levels
pub record Terms : Type 0 where
  pub nodes : List Node
  pub levels : List Bool
  pub lattice : Order

-- what stands at a number that no term has
abbrev pub blank : Node
blank = record { head = Const (Truth false); count = 0; args = [] }

abbrev pub node_at : Terms → ℕ → Node
node_at ts i = slice_index_or ts.nodes i blank

abbrev pub count : Terms → ℕ
count ts = length ts.nodes

-- at least the two terms TRUE and FALSE, at most 512, with at most 8 arguments each
pub record AreSmall (ts : Terms) : Type 0 where
  pub two : 2 ≤ count ts
  pub few : count ts ≤ 512
  pub few_arguments : (i : ℕ) → (node_at ts i).count ≤ 8

-- the k-th argument of term i
abbrev pub arg : Terms → ℕ → ℕ → ℕ
arg ts i k = arg_of (node_at ts i) k

-- one operator
abbrev pub same_op : Op → Op → Bool
same_op a b = op_number a == op_number b

-- one head
abbrev pub same_head : Head → Head → Bool
same_head (Const a) (Const b) = same_value a b
same_head (Var a) (Var b) = a == b
same_head Not Not = true
same_head (Two a) (Two b) = same_op a b
same_head If If = true
same_head (Param a) (Param b) = a == b
same_head (Look a) (Look b) = a == b
same_head (New a) (New b) = a == b
same_head (Quant a) (Quant b) = a == b
same_head _ _ = false

-- one head, and as many arguments
abbrev pub are_alike : Node → Node → Bool
are_alike m n = same_head m.head n.head && (m.count == n.count)

abbrev pub has_op : Op → Head → Bool
has_op o (Two a) = same_op o a
has_op o _ = false

-- the operator on two arguments
abbrev pub is_two : Op → Node → Bool
is_two o n = has_op o n.head && (n.count == 2)

abbrev pub is_not_head : Head → Bool
is_not_head Not = true
is_not_head _ = false

-- NOT of an argument
abbrev pub is_not : Node → Bool
is_not n = is_not_head n.head && (n.count == 1)

abbrev pub is_if_head : Head → Bool
is_if_head If = true
is_if_head _ = false

-- IF of three arguments
abbrev pub is_if : Node → Bool
is_if n = is_if_head n.head && (n.count == 3)

-- i is the first or the second argument
abbrev pub is_part : ℕ → Node → Bool
is_part i n = (arg_of n 0 == i) || (arg_of n 1 == i)

-- a level term
abbrev pub is_level : Terms → ℕ → Bool
is_level ts i = slice_index_or ts.levels i false

-- the constants of two levels, the first of which is below the second or the same
abbrev pub are_below : Order → Head → Head → Bool
are_below o (Const (Level x)) (Const (Level y)) = nat_lt x o.count && nat_lt y o.count && is_below o x y
are_below o _ _ = false

-- the constant of level x
abbrev pub is_constant_of : ℕ → Head → Bool
is_constant_of x (Const (Level y)) = x == y
is_constant_of x _ = false

-- a number, or `?`
abbrev pub is_integer : Value → Bool
is_integer (Int z) = true
is_integer Unknown = true
is_integer _ = false

-- a sum, difference or product
abbrev pub is_arithmetic : Head → Bool
is_arithmetic (Two Add) = true
is_arithmetic (Two Sub) = true
is_arithmetic (Two Mul) = true
is_arithmetic _ = false

-- v is what the operator gives of a and b
abbrev pub gives : Head → Value → Value → Value → Bool
gives (Two Add) a b v = same_value (sum a b) v
gives (Two Sub) a b v = same_value (difference a b) v
gives (Two Mul) a b v = same_value (product a b) v
gives _ a b v = false

-- the constants b and c give the constant d by the operator of head a
abbrev pub computes : Head → Head → Head → Head → Bool
computes a (Const u) (Const v) (Const w) = is_integer u && is_integer v && is_integer w && gives a u v w
computes a _ _ _ = false
