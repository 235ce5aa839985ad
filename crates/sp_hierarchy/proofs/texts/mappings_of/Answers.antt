use Rattle.std.proofs.Common.{List, subst, sym}
use Rattle.std.specs.List.{All}
use Rattle.sp_tree.specs.declared.names.Ident.{Ident}
use Rattle.sp_hierarchy.proofs.Named.{IsRowText}
use Rattle.sp_hierarchy.proofs.texts.mappings_of.Goals as goal

pub load_mappings-requires : goal.load_mappings-requires
load_mappings-requires g c = subst (λ (rows : List (Ident × Ident × Ident)). All IsRowText rows) (sym c.items.ensures) c.requires
