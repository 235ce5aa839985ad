use Rattle.std.proofs.Common.{◌≡◌, take}
use Rattle.std.specs.Prelude.{map}
use Rattle.std.specs.List.{flat_map}
use Rattle.sp_text.specs.Violations.{first}
use Rattle.sp_instance.specs.Scripts.{call_broken, invocation_of}
use Rattle.sp_instance.proofs.script.calls.Given as goal

abbrev pub invariant-loop-text : goal.invariant-loop-text
invariant-loop-text l = record {
  made : l.made.items ≡ map (invocation_of l.functions l.words) (take l.text-index l.texts);
  found : l.found ≡ first (flat_map (call_broken l.functions l.all l.words) (take l.text-index l.texts));
}
