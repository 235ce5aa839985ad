use Rattle.std.proofs.Common.{[], take}
use Rattle.sp_judge.specs.Translation.{AreFine}
use Rattle.sp_definitions.specs.Definitions.{AreCores}
use Rattle.sp_definitions.proofs.definition_cores.Given as goal

abbrev pub invariant-loop-definition : goal.invariant-loop-definition
invariant-loop-definition l = AreCores l.names l.bottom l.top [] (take l.definition-index l.names.definitions) l.all.items × AreFine l.all.items
