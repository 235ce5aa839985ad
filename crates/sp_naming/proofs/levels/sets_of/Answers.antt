use Rattle.sp_naming.proofs.Products.{long_chain, many_sets}
use Rattle.sp_naming.proofs.levels.sets_of.Goals as goal

pub returns-then-categories-gt8 : goal.returns-then-categories-gt8
returns-then-categories-gt8 c = many_sets c.args.chain c.args.categories c.requires c.if-categories-gt8.true

pub returns-then-chain-gt256 : goal.returns-then-chain-gt256
returns-then-chain-gt256 c = long_chain c.args.chain c.args.categories c.if-chain-gt256.true
