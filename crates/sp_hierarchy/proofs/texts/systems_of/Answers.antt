use Rattle.std.proofs.Common.{◌∙◌, ℕ, List, subst, sym}
use Rattle.std.specs.List.{All}
use Rattle.std.specs.Str.{IsUtf8}
use Rattle.sp_hierarchy.proofs.Named.{names_text}
use Rattle.sp_hierarchy.proofs.texts.systems_of.Goals as goal

pub load_systems-requires : goal.load_systems-requires
load_systems-requires g c = subst (λ (names : List (List ℕ)). All IsUtf8 names) (sym (c.items.ensures ∙ c.in_ok-names.ensures)) (names_text c.args.hierarchy.now.rows c.requires)
