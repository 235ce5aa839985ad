-- The value of an expression over two states, the old and the new one; over one state it is the value with that state in
-- both places. What a state gives at a V-function is defined with it, since a derivation is an expression itself.
use Rattle.std.specs.Prelude.{ℕ, zero, suc, ◌+◌, Bool, false, not, ◌&&◌, ◌||◌, if◌then◌else◌, List, [], ◌∷◌, ◌++◌, length, take, Option, Some, None, slice_get, slice_index_or, unwrap_or}
use Rattle.std.specs.List.{list_all}
use Rattle.sp_values.specs.declared.value.Value.{Value}
use Rattle.sp_values.specs.declared.value.Value.TheVariants as value
use Rattle.sp_values.specs.declared.value.Op.{Op}
use Rattle.sp_values.specs.declared.value.Op.TheVariants as op
use Rattle.sp_values.specs.Arithmetic.{sum, difference, product, at_most, less_than}
use Rattle.sp_values.specs.Domains.{Sizes, proper_values}
use Rattle.sp_values.specs.Identity.{same_value}
use Rattle.sp_core.specs.declared.function.Function.{Function}
use Rattle.sp_core.specs.declared.function.Kind.{Kind}
use Rattle.sp_core.specs.declared.function.Kind.TheVariants as kind
use Rattle.sp_core.specs.Tree.{Tree, Trees, Const, Var, Not, Two, If, Param, Look, Every, New, none, more, tree}

-- what the V-functions give, by their numbers, at lists of values
abbrev pub Reads : Type 0
Reads = ℕ → List Value → Value

-- a state, as the map of its entries: a V-function and values of its formals are a place
abbrev pub Store : Type 0
Store = ℕ → List Value → Option Value

-- the lattice and the instance: the order and its bounds, the parameters' tables, and the sizes of the types
pub record World : Type 0 where
  pub below : ℕ → ℕ → Bool
  pub join : ℕ → ℕ → ℕ
  pub meet : ℕ → ℕ → ℕ
  pub param : ℕ → List Value → Value
  pub sizes : Sizes

-- whether it is TRUE
abbrev pub is_true : Value → Bool
is_true (value.Truth b) = b
is_true v = false

-- the number of a level
abbrev pub level_number : Value → ℕ
level_number (value.Level l) = l
level_number v = 0

-- what an operator gives at two values
abbrev pub two : World → Op → Value → Value → Value
two w op.And a b = value.Truth (is_true a && is_true b)
two w op.Or a b = value.Truth (is_true a || is_true b)
two w op.Same a b = value.Truth (same_value a b)
two w op.LevelLe a b = value.Truth (w.below (level_number a) (level_number b))
two w op.IntLe a b = value.Truth (at_most a b)
two w op.IntLt a b = value.Truth (less_than a b)
two w op.Add a b = sum a b
two w op.Sub a b = difference a b
two w op.Mul a b = product a b
two w op.Lub a b = value.Level (w.join (level_number a) (level_number b))
two w op.Glb a b = value.Level (w.meet (level_number a) (level_number b))

-- the k-th value of an environment
abbrev pub nth : List Value → ℕ → Value
nth x k = slice_index_or x k value.Unknown

-- the value in environment x, where `old` and `new` are what the V-functions give in the old and the new state
abbrev mutual
  pub value_of : World → Reads → Reads → List Value → Tree → Value
  value_of w old new x (Const v) = v
  value_of w old new x (Var k) = nth x k
  value_of w old new x (Not a) = value.Truth (not (is_true (value_of w old new x a)))
  value_of w old new x (Two op a b) = two w op (value_of w old new x a) (value_of w old new x b)
  value_of w old new x (If c a b) =
      if is_true (value_of w old new x c) then value_of w old new x a else value_of w old new x b
  value_of w old new x (Param p ds) = w.param p (values_of w old new x ds)
  value_of w old new x (Look g ds) = old g (values_of w old new x ds)
  value_of w old new x (Every k t b) =
      value.Truth (list_all (λ c. is_true (value_of w old new (take k x ++ c ∷ []) b)) (proper_values w.sizes t))
  value_of w old new x (New g ds) = new g (values_of w old new x ds)

  pub values_of : World → Reads → Reads → List Value → Trees → List Value
  values_of w old new x none = []
  values_of w old new x (more d ds) = value_of w old new x d ∷ values_of w old new x ds

-- no V-function is read
abbrev pub nothing : Reads
nothing g v = value.Unknown

-- what one function gives, where `below` is what the functions give that it reads: a primitive one its entry, or its
-- initial value where it has none; a derived one the value of its derivation
abbrev pub reads_by : World → Store → Reads → Option Function → Reads
reads_by w s below None g v = value.Unknown
reads_by w s below (Some f) g v = by_kind f.kind
  where
    by_kind : Kind → Value
    by_kind (kind.Primitive t init) = unwrap_or (s g v) (value_of w nothing nothing v (tree init))
    by_kind (kind.Derived t e) = value_of w below below v (tree e)
    by_kind k = value.Unknown

-- what the functions give by derivations at most n deep
abbrev pub reads_under : World → List Function → Store → ℕ → Reads
reads_under w fs s zero = nothing
reads_under w fs s (suc n) = λ g v. reads_by w s (reads_under w fs s n) (slice_get fs g) g v

-- what a state gives at a V-function. A derivation reads only earlier derived functions, so none is deeper than there are
-- functions, and `look` is its own step: that law is proved and says all there is to know of `look`.
abbrev pub look : World → List Function → Store → Reads
look w fs s = reads_under w fs s (length fs + 1)

-- the value over an old and a new state
abbrev pub value_over : World → List Function → Store → Store → List Value → Tree → Value
value_over w fs s t = value_of w (look w fs s) (look w fs t)

-- the value in one state
abbrev pub value_in : World → List Function → Store → List Value → Tree → Value
value_in w fs s = value_over w fs s s
