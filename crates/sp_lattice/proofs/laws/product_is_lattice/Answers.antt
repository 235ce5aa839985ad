use Rattle.sp_lattice.proofs.Products.{product_lattice}
use Rattle.sp_lattice.proofs.laws.product_is_lattice.Goals as goal

pub returns : goal.returns
returns c = product_lattice c.args.chain c.args.categories
