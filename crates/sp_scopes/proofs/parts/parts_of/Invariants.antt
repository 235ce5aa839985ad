use Rattle.std.proofs.Common.{◌≡◌, take}
use Rattle.std.specs.Prelude.{map}
use Rattle.sp_naming.specs.Numbers.{counted}
use Rattle.sp_scopes.specs.Lent.{all_definitions, all_functions, all_parameters}
use Rattle.sp_scopes.specs.Scopes.{module_takes}
use Rattle.sp_scopes.proofs.parts.parts_of.Given as goal

abbrev pub invariant-loop-text : goal.invariant-loop-text
invariant-loop-text l = record {
  number : l.number ≡ counted 0 l.text-index;
  takes : l.parts.takes.items ≡ map (module_takes l.declared l.names) (take l.text-index l.modules);
  parameters : l.parts.parameters.items ≡ all_parameters l.declared l.names (take l.text-index l.modules);
  definitions : l.parts.definitions.items ≡ all_definitions l.declared l.names (take l.text-index l.modules);
  functions : l.parts.functions.items ≡ all_functions l.declared l.names (take l.text-index l.modules);
}
