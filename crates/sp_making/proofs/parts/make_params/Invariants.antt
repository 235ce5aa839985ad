use Rattle.std.proofs.Common.{◌≡◌, take, map}
use Rattle.sp_specification.specs.Meaning.{param_of}
use Rattle.sp_making.proofs.parts.make_params.Given as goal

abbrev pub invariant-loop-head : goal.invariant-loop-head
invariant-loop-head l = l.all.items ≡ map param_of (take l.head-index l.heads)
