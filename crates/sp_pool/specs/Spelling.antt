-- Nodes spelled as words, for the pool's own calls: each node has one spelling, of at most eleven words.
use Rattle.std.specs.Prelude.{◌≡◌, ℕ, ◌+◌, ◌-◌, ◌*◌, ◌/◌, ◌%◌, ◌^◌, ◌≤◌, ◌==◌, if◌then◌else◌, List, [], ◌∷◌, ◌++◌, length, map, take, slice_index, slice_get, Some}
use Rattle.std.specs.List.{range_with_len}
use Rattle.std.specs.Int.{cast_signed, cast_unsigned, w64}
use Rattle.sp_values.specs.declared.value.Op.{Op}
use Rattle.sp_values.specs.declared.value.Op.TheVariants as op
use Rattle.sp_values.specs.declared.value.Value.TheVariants as value
use Rattle.sp_pool.specs.declared.node.Head.{Head}
use Rattle.sp_pool.specs.declared.node.Head.TheVariants as head
use Rattle.sp_pool.specs.declared.node.Node.{Node}
use Rattle.sp_pool.specs.Nodes.{term, arg_of}

abbrev pub op_number : Op → ℕ
op_number op.And = 0
op_number op.Or = 1
op_number op.Same = 2
op_number op.LevelLe = 3
op_number op.IntLe = 4
op_number op.IntLt = 5
op_number op.Add = 6
op_number op.Sub = 7
op_number op.Mul = 8
op_number op.Lub = 9
op_number op.Glb = 10

-- the operator of a number
abbrev pub op_of : ℕ → Op
op_of n =
    if n == 0 then op.And else if n == 1 then op.Or else if n == 2 then op.Same else if n == 3 then op.LevelLe
    else if n == 4 then op.IntLe else if n == 5 then op.IntLt else if n == 6 then op.Add else if n == 7 then op.Sub
    else if n == 8 then op.Mul else if n == 9 then op.Lub else op.Glb

-- a head's tag and what it carries, in three words
abbrev pub head_words : Head → List ℕ
head_words (head.Const (value.Truth b)) = 0 ∷ (if b then 1 else 0) ∷ 0 ∷ []
head_words (head.Const (value.Int z)) = 1 ∷ cast_unsigned w64 z % 2 ^ 32 ∷ cast_unsigned w64 z / 2 ^ 32 ∷ []
head_words (head.Const (value.Level x)) = 2 ∷ x ∷ 0 ∷ []
head_words (head.Const (value.Member k m)) = 3 ∷ k ∷ m ∷ []
head_words (head.Const value.Unknown) = 4 ∷ 0 ∷ 0 ∷ []
head_words (head.Var k) = 5 ∷ k ∷ 0 ∷ []
head_words head.Not = 6 ∷ 0 ∷ 0 ∷ []
head_words (head.Two o) = 7 ∷ op_number o ∷ 0 ∷ []
head_words head.If = 8 ∷ 0 ∷ 0 ∷ []
head_words (head.Param k) = 9 ∷ k ∷ 0 ∷ []
head_words (head.Look k) = 10 ∷ k ∷ 0 ∷ []
head_words (head.New k) = 11 ∷ k ∷ 0 ∷ []
head_words (head.Quant k) = 12 ∷ k ∷ 0 ∷ []

-- the head's three words, and a word for each argument
abbrev pub spelling : Node → List ℕ
spelling n = head_words n.head ++ map (λ t. t.0) (take n.count n.args)

-- a number of 16 bits, as words carry it
abbrev pub short : ℕ → ℕ
short word = word % 2 ^ 16

-- the head of a tag and the two words behind it
abbrev pub head_of : ℕ → ℕ → ℕ → Head
head_of tag a b =
    if tag == 0 then head.Const (value.Truth (a == 1)) else if tag == 1 then head.Const (value.Int (cast_signed w64 (b * 2 ^ 32 + a)))
    else if tag == 2 then head.Const (value.Level (short a)) else if tag == 3 then head.Const (value.Member (short a) (short b))
    else if tag == 4 then head.Const value.Unknown else if tag == 5 then head.Var (short a) else if tag == 6 then head.Not
    else if tag == 7 then head.Two (op_of a) else if tag == 8 then head.If else if tag == 9 then head.Param (short a)
    else if tag == 10 then head.Look (short a) else if tag == 11 then head.New (short a) else head.Quant (short a)

-- the node that words spell
unfoldable pub node_of : List ℕ → Node
node_of words = record {
  head = head_of (slice_index words 0) (slice_index words 1) (slice_index words 2);
  count = length words - 3;
  args = map (λ k. term (short (slice_index words (k + 3)))) (range_with_len 0 8);
}

-- each record spells a node
abbrev pub AreSpelled : List (List ℕ) → Type 0
AreSpelled records = (k : ℕ) (words : List ℕ) → slice_get records k ≡ Some words → spelling (node_of words) ≡ words

-- at most eight arguments, and 0 in the places behind them
pub record IsTidy (n : Node) : Type 0 where
  pub few : n.count ≤ 8
  pub padded : (k : ℕ) → n.count ≤ k → arg_of n k ≡ 0
