use Rattle.std.proofs.Common.{arith, sym, subst}
use Rattle.std.specs.Str.{IsUtf8}
use Rattle.std.proofs.lemmas.List.Elements.{All-get_or}
use Rattle.std.proofs.lemmas.Result.{err_from_is_err_and}
use Rattle.sp_tree.specs.declared.names.Ident.{Ident}
use Rattle.sp_frame.proofs.Lists.{LoadsFirst, all_loaded, next_loaded, next_refused}
use Rattle.sp_system.specs.System.{ModuleRead, ModulesRead}
use Rattle.sp_system.proofs.system.load_modules.Goals as goal

pub load_module-requires : goal.load_module-requires
load_module-requires g c = subst (λ (m : Ident). IsUtf8 m.name) (sym c.name-item.is) (All-get_or (λ (m : Ident). IsUtf8 m.name) c.args.names.now c.loop-name.name-index c.name-item.result (omega arith) c.requires)

pub returns-in_err-module : goal.returns-in_err-module
unfolding ModulesRead
returns-in_err-module g c =
    let p = err_from_is_err_and c.from_residual.result c.from_residual.ensures.1 in
    rw (p.1, p.2) (next_refused _ _ (λ files (m : Ident). ModuleRead m.name files) _ _ _ c.loop-name.name-index _ c.loop-name.invariant _ c.name-item.result (omega arith) c.name-item.is _ c.in_err-module.ensures)

pub loop-name-preserved : goal.loop-name-preserved
loop-name-preserved g c =
    subst (LoadsFirst _ _ _ _ (λ files (m : Ident). ModuleRead m.name files) _ _) (sym c.in_ok-push.ensures.items)
    (next_loaded _ _ (λ files (m : Ident). ModuleRead m.name files) _ _ _ c.loop-name.name-index _ c.loop-name.invariant _ c.name-item.result (omega arith) c.name-item.is _ c.in_ok-module.ensures)

pub returns : goal.returns
unfolding ModulesRead
returns g c = rw c.new.ensures (all_loaded _ _ (λ files (m : Ident). ModuleRead m.name files) _ _ _ c.loop-name.name-index _ c.loop-name.invariant (omega arith))
