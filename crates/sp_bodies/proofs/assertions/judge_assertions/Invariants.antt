use Rattle.std.proofs.Common.{◌≡◌, take}
use Rattle.sp_text.specs.Violations.{first}
use Rattle.sp_naming.specs.Numbers.{counted}
use Rattle.sp_specification.specs.Bodies.{assertions_broken}
use Rattle.sp_bodies.proofs.assertions.judge_assertions.Given as goal

abbrev pub invariant-loop-e : goal.invariant-loop-e
invariant-loop-e l = record {
  found : l.found ≡ first (assertions_broken l.scope l.first_number (take l.e-index l.assertions));
  number : l.number ≡ counted l.first_number l.e-index;
}
