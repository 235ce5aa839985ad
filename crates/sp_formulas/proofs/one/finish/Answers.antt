use Rattle.std.proofs.Common.{arith}
use Rattle.sp_formulas.specs.Generated.{about_of, goal_tree}
use Rattle.sp_formulas.proofs.DraftLemmas.{few_parts}
use Rattle.sp_formulas.proofs.one.finish.Goals as goal

pub variables-requires : goal.variables-requires
variables-requires c = omega (arith, few_parts c.args.spec.now (about_of c.args.subject.now) c.args.subject.now.known c.args.bound.now c.args.hyps.now (goal_tree c.args.goal.now) c.requires.typed)
