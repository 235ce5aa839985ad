use Rattle.std.proofs.Common.{drop}
use Rattle.sp_tree.specs.declared.names.Ident.{Ident}
use Rattle.sp_frame.proofs.Lists.{LoadsFirst}
use Rattle.sp_system.specs.System.{ModuleRead}
use Rattle.sp_system.proofs.system.load_modules.Given as goal

-- the modules so far are loaded, and so all are where those that are left are
abbrev pub invariant-loop-name : goal.invariant-loop-name
invariant-loop-name g l = LoadsFirst g.L.Library.told g.L.Library.faults l.initial.lib l.lib (λ files (m : Ident). ModuleRead m.name files) l.names (drop l.name-index l.names) l.modules.items
