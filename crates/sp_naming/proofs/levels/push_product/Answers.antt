use Rattle.std.proofs.Common.{arith}
use Rattle.sp_naming.proofs.Products.{product_pushed}
use Rattle.sp_naming.proofs.levels.push_product.Goals as goal

pub loop-element-preserved : goal.loop-element-preserved
loop-element-preserved c = record {
  listed = product_pushed c.args.categories.now c.args.chain.now c.loop-element.element-index c.element-item.result c.args.all.now.items c.loop-element.all.items c.push_element.new.all.items c.loop-element.first c.args.sets
      c.loop-element-test.true c.element-item.is c.loop-element.invariant.listed c.requires.sets c.loop-element.invariant.first c.in_ok-push_element.ensures;
  first = omega (arith, c.loop-element.invariant.first);
}
