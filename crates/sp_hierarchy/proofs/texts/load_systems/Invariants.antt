use Rattle.std.proofs.Common.{drop}
use Rattle.std.specs.List.{All}
use Rattle.sp_frame.proofs.Lists.{LoadsFirst}
use Rattle.sp_hierarchy.specs.Texts.{IsTextName, NamedRead}
use Rattle.sp_hierarchy.proofs.texts.load_systems.Given as goal

-- the interfaces so far are loaded, and so all are where those that are left are; their names are UTF-8
abbrev pub invariant-loop-name : goal.invariant-loop-name
invariant-loop-name g l =
    LoadsFirst g.L.Library.told g.L.Library.faults l.initial.lib l.lib (λ files name. NamedRead name files) l.names (drop l.name-index l.names) l.systems.items × All IsTextName l.systems.items
