-- The size of an expression: its height, its nodes and how many quantifiers stand in one another, each counted up to one
-- over its limit.
use Rattle.std.specs.Prelude.{ℕ, suc, ◌+◌, max, min, Bool, ◌&&◌, nat_le, List, Option, Some, None, slice_get}
use Rattle.sp_text.specs.declared.limits.TheConstants.{MOST_EXPRESSION_NODES, MOST_HEIGHT, MOST_QUANTIFIERS}
use Rattle.sp_core.specs.Tree.{Tree, Trees, Const, Var, Not, Two, If, Param, Look, Every, New, none, more}
use Rattle.sp_expand.specs.declared.size.Size.{Size}

-- a form without parts has height 1, and every other one more than its highest part
abbrev mutual
  pub height : Tree → ℕ
  height (Const v) = 1
  height (Var k) = 1
  height (Not a) = suc (height a)
  height (Two o a b) = suc (max (height a) (height b))
  height (If c a b) = suc (max (height c) (max (height a) (height b)))
  height (Param p ds) = suc (height_in ds)
  height (Look g ds) = suc (height_in ds)
  height (Every k t b) = suc (height b)
  height (New g ds) = suc (height_in ds)

  pub height_in : Trees → ℕ
  height_in none = 0
  height_in (more d ds) = max (height d) (height_in ds)

-- no parts
abbrev pub nothing : Size
nothing = record { height = 0; nodes = 0; quantifiers = 0 }

-- two parts
abbrev pub beside : Size → Size → Size
beside a b = record { height = max a.height b.height; nodes = min (suc MOST_EXPRESSION_NODES) (a.nodes + b.nodes); quantifiers = max a.quantifiers b.quantifiers }

-- a form of these parts
abbrev pub around : Size → Size
around a = record { height = min (suc MOST_HEIGHT) (suc a.height); nodes = min (suc MOST_EXPRESSION_NODES) (suc a.nodes); quantifiers = a.quantifiers }

-- a quantifier over this part
abbrev pub bound : Size → Size
bound a = record { height = min (suc MOST_HEIGHT) (suc a.height); nodes = min (suc MOST_EXPRESSION_NODES) (suc a.nodes); quantifiers = min (suc MOST_QUANTIFIERS) (suc a.quantifiers) }

abbrev mutual
  pub size : Tree → Size
  size (Const v) = around nothing
  size (Var k) = around nothing
  size (Not a) = around (size a)
  size (Two o a b) = around (beside (size a) (size b))
  size (If c a b) = around (beside (size c) (beside (size a) (size b)))
  size (Param p ds) = around (size_in ds)
  size (Look g ds) = around (size_in ds)
  size (Every k t b) = bound (size b)
  size (New g ds) = around (size_in ds)

  pub size_in : Trees → Size
  size_in none = nothing
  size_in (more d ds) = beside (size d) (size_in ds)

-- whether it is within the limits
abbrev pub within : Size → Bool
within a = nat_le a.height MOST_HEIGHT && (nat_le a.nodes MOST_EXPRESSION_NODES && nat_le a.quantifiers MOST_QUANTIFIERS)

-- the k-th of some sizes; that of a form without parts where there is none
abbrev pub size_or : Option Size → Size
size_or None = around nothing
size_or (Some a) = a

abbrev pub nth_size : List Size → ℕ → Size
nth_size as' k = size_or (slice_get as' k)

-- the size of an expression with arguments of these sizes in the place of its variables
abbrev mutual
  pub size_put : List Size → Tree → Size
  size_put as' (Const v) = around nothing
  size_put as' (Var k) = nth_size as' k
  size_put as' (Not a) = around (size_put as' a)
  size_put as' (Two o a b) = around (beside (size_put as' a) (size_put as' b))
  size_put as' (If c a b) = around (beside (size_put as' c) (beside (size_put as' a) (size_put as' b)))
  size_put as' (Param p ds) = around (size_put_in as' ds)
  size_put as' (Look g ds) = around (size_put_in as' ds)
  size_put as' (Every k t b) = bound (size_put as' b)
  size_put as' (New g ds) = around (size_put_in as' ds)

  pub size_put_in : List Size → Trees → Size
  size_put_in as' none = nothing
  size_put_in as' (more d ds) = beside (size_put as' d) (size_put_in as' ds)
