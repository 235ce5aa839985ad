-- Laws of the definitions, stated for the layers above. Each is proved at a function of the same name.
use Rattle.std.specs.Prelude.{◌≡◌, ℕ, suc, min, List, length}
use Rattle.sp_text.specs.declared.limits.TheConstants.{MOST_EXPRESSION_NODES, MOST_HEIGHT, MOST_QUANTIFIERS}
use Rattle.sp_values.specs.declared.value.Ty.{Ty}
use Rattle.sp_values.specs.declared.value.Value.{Value}
use Rattle.sp_core.specs.Measures.{nodes, quantifiers}
use Rattle.sp_core.specs.Tree.{Tree, Trees, count}
use Rattle.sp_core.specs.Typing.{Signature, HasType, HaveTypes}
use Rattle.sp_core.specs.Values.{World, Reads, value_of, values_of}
use Rattle.sp_expand.specs.Expansion.{nth_tree, put, IsScoped, AreScoped}
use Rattle.sp_expand.specs.Sizes.{height, nth_size, size, size_put}
use Rattle.sp_expand.specs.declared.size.Size.{Size}

-- arguments of the variables' types, in the place of the variables of a well-typed expression, make a well-typed one
abbrev pub PutTypeLaw : Type 0
PutTypeLaw = (sg : Signature) (e : Tree) (xs ys : List Ty) (ds : Trees) (t : Ty) → HaveTypes sg xs ds ys → HasType sg ys e t →
    HasType sg xs (put (length xs) ds e) t

-- it has the value that the expression has at the arguments' values
abbrev pub PutValueLaw : Type 0
PutValueLaw = (w : World) (old new : Reads) (e : Tree) (x : List Value) (ds : Trees) → AreScoped (length x) ds → IsScoped (count ds) e →
    value_of w old new x (put (length x) ds e) ≡ value_of w old new (values_of w old new x ds) e

-- a size is the height, the nodes and the quantifiers of the expression, each up to one over its limit
abbrev pub SizeLaw : Type 0
SizeLaw = (e : Tree) → size e ≡ record {
  height = min (suc MOST_HEIGHT) (height e);
  nodes = min (suc MOST_EXPRESSION_NODES) (nodes e);
  quantifiers = min (suc MOST_QUANTIFIERS) (quantifiers e);
}

-- the size of an expression with arguments is told from the arguments' sizes, without making it
abbrev pub PutSizeLaw : Type 0
PutSizeLaw = (e : Tree) (n : ℕ) (ds : Trees) (xs : List Size) → ((k : ℕ) → nth_size xs k ≡ size (nth_tree ds k)) → size_put xs e ≡ size (put n ds e)
