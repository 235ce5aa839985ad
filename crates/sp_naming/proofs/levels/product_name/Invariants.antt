use Rattle.std.proofs.Common.{◌≡◌, drop}
use Rattle.sp_naming.specs.Levels.{product_name}
use Rattle.sp_naming.proofs.levels.product_name.Given as goal

abbrev pub invariant-loop-category : goal.invariant-loop-category
invariant-loop-category l = product_name l.name.items (drop l.category-index l.categories) l.left ≡ product_name l.element l.categories l.set
