use Rattle.std.proofs.Common.{List, subst, sym}
use Rattle.std.specs.List.{All}
use Rattle.std.specs.Str.{IsUtf8}
use Rattle.sp_tree.specs.declared.names.Ident.{Ident}
use Rattle.sp_system.proofs.system.modules_of.Goals as goal

pub load_modules-requires : goal.load_modules-requires
load_modules-requires g c = subst (λ (names : List Ident). All (λ (m : Ident). IsUtf8 m.name) names) (sym c.items.ensures) c.requires
