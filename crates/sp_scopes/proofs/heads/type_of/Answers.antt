use Rattle.std.proofs.Common.{sym, ◌∙◌, ap}
use Rattle.sp_scopes.specs.Headers.{see_of}
use Rattle.sp_scopes.specs.Heads.{named_type, type_of}
use Rattle.sp_scopes.proofs.heads.type_of.Goals as goal

pub returns-in-Named : goal.returns-in-Named
returns-in-Named c =
    let see = see_of c.args.declared.now c.args.k c.args.names.now in
    c.named_type.ensures ∙ ap named_type (c.seen.ensures ∙ ap see c.bytes.ensures) ∙ ap (type_of see) (sym c.in-Named.is)
