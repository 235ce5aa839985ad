use Rattle.std.proofs.Common.{IfOk, subst, sym}
use Rattle.sp_specification.specs.Functions.{IsKindOf}
use Rattle.sp_making.proofs.function.kind_of.Goals as goal

pub returns-in-Initially : goal.returns-in-Initially
returns-in-Initially c = subst (λ b. IfOk c.primitive.result (IsKindOf c.args.scope.now c.args.head.now c.args.name.now b)) (sym c.in-Initially.is) (c.primitive.ensures c.args.name.now)

pub returns-in-Derivation : goal.returns-in-Derivation
returns-in-Derivation c = subst (λ b. IfOk c.derived.result (IsKindOf c.args.scope.now c.args.head.now c.args.name.now b)) (sym c.in-Derivation.is) (c.derived.ensures c.args.name.now)
