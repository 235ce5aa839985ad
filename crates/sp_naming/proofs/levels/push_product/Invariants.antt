use Rattle.std.proofs.Common.{◌≡◌, ◌++◌, ◌*◌, take}
use Rattle.sp_naming.specs.Levels.{product_levels}
use Rattle.sp_naming.proofs.levels.push_product.Given as goal

abbrev pub invariant-loop-element : goal.invariant-loop-element
invariant-loop-element l = record {
  listed : l.all.items ≡ l.initial.all.items ++ product_levels l.categories 0 (take l.element-index l.chain);
  first : l.first ≡ l.element-index * l.sets;
}
