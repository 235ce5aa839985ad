use Rattle.std.proofs.Common.{◌≡◌, ◌*◌, ◌^◌, Ok, rules, arith}
use Rattle.sp_lattice.proofs.Products.{few_categories, pairs_order, pairs_lattice}
use Rattle.sp_lattice.proofs.decl.LatticeDecl.product.Goals as goal

pub product_pairs-requires-clause-categories : goal.product_pairs-requires-clause-categories
product_pairs-requires-clause-categories c = few_categories c.args.chain c.args.categories c.requires (omega arith)

pub returns-clause-order : goal.returns-clause-order
returns-clause-order c =
    let is : c.product_pairs.result ≡ Ok c.in_ok-below.below = search rules in
    rw c.new.ensures (pairs_order c.args.categories c.product_count-count.result c.in_ok-below.below.items (rw is at c.product_pairs.ensures.sound) (rw is at c.product_pairs.ensures.whole))

pub returns-clause-lattice : goal.returns-clause-lattice
returns-clause-lattice c =
    let is : c.product_pairs.result ≡ Ok c.in_ok-below.below = search rules in
    let same : c.product_count-count.result ≡ c.args.chain * 2 ^ c.args.categories = omega arith in
    rw c.new.ensures (pairs_lattice c.args.categories c.product_count-count.result c.in_ok-below.below.items (rw is at c.product_pairs.ensures.sound) (rw is at c.product_pairs.ensures.whole) c.args.chain same)
