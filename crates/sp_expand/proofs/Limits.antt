-- What sizes are of the expressions themselves.
use Rattle.std.proofs.Common.{◌≡◌, refl, ◌∙◌, ap, arith, ℕ, suc, ◌+◌}
use Rattle.std.specs.Prelude.{max, min}
use Rattle.sp_text.specs.declared.limits.TheConstants.{MOST_EXPRESSION_NODES, MOST_HEIGHT, MOST_QUANTIFIERS}
use Rattle.sp_core.specs.Tree.{Tree, Trees, Const, Var, Not, Two, If, Param, Look, Every, New, none, more}
use Rattle.sp_core.specs.Measures.{nodes, nodes_in, quantifiers, quantifiers_in}
use Rattle.sp_expand.specs.Sizes.{height, height_in, beside, around, bound, size, size_in}
use Rattle.sp_expand.specs.declared.size.Size.{Size}

-- a size of these numbers
abbrev pub sized : ℕ → ℕ → ℕ → Size
sized h n q = record { height = min (suc MOST_HEIGHT) h; nodes = min (suc MOST_EXPRESSION_NODES) n; quantifiers = min (suc MOST_QUANTIFIERS) q }

pub same : (x y : Size) → x.height ≡ y.height → x.nodes ≡ y.nodes → x.quantifiers ≡ y.quantifiers → x ≡ y
same x y h n q = λ i. record { height = h i; nodes = n i; quantifiers = q i }

around_sized : (h n q : ℕ) → around (sized h n q) ≡ sized (suc h) (suc n) q
around_sized h n q = same (around (sized h n q)) (sized (suc h) (suc n) q) (omega arith) (omega arith) refl

beside_sized : (h n q h2 n2 q2 : ℕ) → beside (sized h n q) (sized h2 n2 q2) ≡ sized (max h h2) (n + n2) (max q q2)
beside_sized h n q h2 n2 q2 = same (beside (sized h n q) (sized h2 n2 q2)) (sized (max h h2) (n + n2) (max q q2)) (omega arith) (omega arith) (omega arith)

bound_sized : (h n q : ℕ) → bound (sized h n q) ≡ sized (suc h) (suc n) (suc q)
bound_sized h n q = same (bound (sized h n q)) (sized (suc h) (suc n) (suc q)) (omega arith) (omega arith) (omega arith)

abbrev pub real : Tree → Size
real e = sized (height e) (nodes e) (quantifiers e)

abbrev pub real_in : Trees → Size
real_in ds = sized (height_in ds) (nodes_in ds) (quantifiers_in ds)

around_in : (ds : Trees) (x : Size) → x ≡ real_in ds → around x ≡ sized (suc (height_in ds)) (suc (nodes_in ds)) (quantifiers_in ds)
around_in ds x e = ap around e ∙ around_sized (height_in ds) (nodes_in ds) (quantifiers_in ds)

mutual
  -- the size of an expression is its height, its nodes and its nested quantifiers, each up to one over its limit
  pub size-is : (e : Tree) → size e ≡ sized (height e) (nodes e) (quantifiers e)
  size-is (Const v) = refl
  size-is (Var k) = refl
  size-is (Not a) = ap around (size-is a) ∙ around_sized (height a) (nodes a) (quantifiers a)
  size-is (Two o a b) = (λ i. around (beside (size-is a i) (size-is b i))) ∙ ap around (beside_sized (height a) (nodes a) (quantifiers a) (height b) (nodes b) (quantifiers b)) ∙ around_sized _ _ _
  size-is (If c a b) =
      (λ i. around (beside (size-is c i) (beside (size-is a i) (size-is b i))))
      ∙ ap (λ x. around (beside (real c) x)) (beside_sized (height a) (nodes a) (quantifiers a) (height b) (nodes b) (quantifiers b))
      ∙ ap around (beside_sized (height c) (nodes c) (quantifiers c) _ _ _) ∙ around_sized _ _ _
  size-is (Param p ds) = around_in ds (size_in ds) (size_in-is ds)
  size-is (Look g ds) = around_in ds (size_in ds) (size_in-is ds)
  size-is (Every k t b) = ap bound (size-is b) ∙ bound_sized (height b) (nodes b) (quantifiers b)
  size-is (New g ds) = around_in ds (size_in ds) (size_in-is ds)

  pub size_in-is : (ds : Trees) → size_in ds ≡ sized (height_in ds) (nodes_in ds) (quantifiers_in ds)
  size_in-is none = refl
  size_in-is (more d ds) = (λ i. beside (size-is d i) (size_in-is ds i)) ∙ beside_sized (height d) (nodes d) (quantifiers d) _ _ _
