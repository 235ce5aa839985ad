use Rattle.std.proofs.Common.{arith, sym, subst}
use Rattle.std.specs.Str.{IsUtf8}
use Rattle.std.proofs.lemmas.List.Elements.{All-get_or}
use Rattle.std.proofs.lemmas.Result.{err_from_is_err_and}
use Rattle.sp_tree.specs.declared.names.Ident.{Ident}
use Rattle.sp_frame.proofs.Lists.{LoadsFirst, all_loaded, next_loaded, next_refused}
use Rattle.sp_hierarchy.specs.Texts.{MappingRead, MappingsRead}
use Rattle.sp_hierarchy.proofs.Named.{IsRowText}
use Rattle.sp_hierarchy.proofs.texts.load_mappings.Goals as goal

pub load_mapping-requires : goal.load_mapping-requires
load_mapping-requires g c =
    subst (λ (row : Ident × Ident × Ident). IsUtf8 row.2.name) (sym c.row-item.is) (All-get_or IsRowText c.args.rows.now c.loop-row.row-index c.row-item.result (omega arith) c.requires).2

pub returns-in_err-mapping : goal.returns-in_err-mapping
unfolding MappingsRead
returns-in_err-mapping g c =
    let p = err_from_is_err_and c.from_residual.result c.from_residual.ensures.1 in
    rw (p.1, p.2) (next_refused _ _ (λ files (row : Ident × Ident × Ident). MappingRead row files) _ _ _ c.loop-row.row-index _ c.loop-row.invariant _ c.row-item.result (omega arith) c.row-item.is _ c.in_err-mapping.ensures)

pub loop-row-preserved : goal.loop-row-preserved
loop-row-preserved g c =
    subst (LoadsFirst _ _ _ _ (λ files (row : Ident × Ident × Ident). MappingRead row files) _ _) (sym c.in_ok-push.ensures.items)
    (next_loaded _ _ (λ files (row : Ident × Ident × Ident). MappingRead row files) _ _ _ c.loop-row.row-index _ c.loop-row.invariant _ c.row-item.result (omega arith) c.row-item.is _ c.in_ok-mapping.ensures)

pub returns : goal.returns
unfolding MappingsRead
returns g c = rw c.new.ensures (all_loaded _ _ (λ files (row : Ident × Ident × Ident). MappingRead row files) _ _ _ c.loop-row.row-index _ c.loop-row.invariant (omega arith))
