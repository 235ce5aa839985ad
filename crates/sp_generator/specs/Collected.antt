-- What collected changes and results stand for.
use Rattle.std.specs.Prelude.{List, ◌++◌, map}
use Rattle.sp_values.specs.declared.value.Ty.{Ty}
use Rattle.sp_core.specs.Tree.{Tree, tree, trees_of}
use Rattle.sp_formulas.specs.Generated.{hypothesis_tree}
use Rattle.sp_formulas.specs.Items.{Item, Deed, Change, Answer}
use Rattle.sp_generator.specs.declared.items.Deed.{Deed as CollectedDeed}
use Rattle.sp_generator.specs.declared.items.Deed.TheVariants as collected
use Rattle.sp_generator.specs.declared.items.Item.{Item as CollectedItem}

abbrev pub deed_as : CollectedDeed → Deed
deed_as (collected.Change g ds e) = Change g (trees_of (map tree ds.now)) (tree e.now)
deed_as (collected.Answer e) = Answer (tree e.now)

abbrev pub item_as : CollectedItem → Item
item_as i = record { vars = i.vars.items; guards = map hypothesis_tree i.guards.items; deed = deed_as i.deed }

-- the item with these variables and guards around it
abbrev pub inside : List Ty → List Tree → Item → Item
inside ts cs i = record i { vars = ts ++ i.vars; guards = cs ++ i.guards }
