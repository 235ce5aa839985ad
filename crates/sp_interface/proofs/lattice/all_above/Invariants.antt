use Rattle.std.proofs.Common.{◌≡◌, ◌-◌, ◌++◌, List, []}
use Rattle.sp_tree.specs.declared.names.Ident.{Ident}
use Rattle.sp_cursor.specs.Items.{many_of}
use Rattle.sp_forms.specs.Grammars.{first}
use Rattle.sp_forms.specs.Readers.{items, read_line}
use Rattle.sp_interface.specs.Lattices.{above_line}
use Rattle.sp_interface.proofs.lattice.all_above.Given as goal

abbrev pub invariant-loop-turn : goal.invariant-loop-turn
invariant-loop-turn l = (found : List Ident) × (l.levels.items ≡ l.fn.below.items ++ found)
    × (many_of (first [] above_line) (read_line above_line) l.fn.tokens ≡ items (first [] above_line) (read_line above_line) (l._turn-end - l._turn) found l.tokens)
