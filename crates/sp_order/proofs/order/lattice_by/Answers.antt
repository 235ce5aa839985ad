use Rattle.sp_order.proofs.Ends.{refused_pairs, refused_product}
use Rattle.sp_order.proofs.order.lattice_by.Goals as goal

pub returns-in-Pairs-clause-refused : goal.returns-in-Pairs-clause-refused
returns-in-Pairs-clause-refused c =
    refused_pairs c.args.named c.args.order.now c.in-Pairs.pairs c.items.result.now c.lattice_of_pairs.result c.in-Pairs.is c.items.ensures c.lattice_of_pairs.ensures.refused

pub returns-in-Product-clause-refused : goal.returns-in-Product-clause-refused
returns-in-Product-clause-refused c =
    refused_product c.args.named c.args.order.now c.in-Product.chain c.in-Product.categories c.lattice_of_product.result c.in-Product.is c.lattice_of_product.ensures.refused
