use Rattle.std.proofs.Common.{sym, ◌∙◌, ap}
use Rattle.sp_text.specs.Violations.{first}
use Rattle.sp_scopes.specs.Headers as headers
use Rattle.sp_scopes.specs.Headers.{asked, is_type, see_of}
use Rattle.sp_scopes.proofs.headers.type_rule.Goals as goal

pub returns-in-Named : goal.returns-in-Named
returns-in-Named c =
    let see = see_of c.args.declared.now c.args.k c.args.names.now in
    c.asked_type.ensures ∙ ap (λ o. first (asked is_type c.in-Named.x.span o)) (c.seen.ensures ∙ ap see c.bytes.ensures)
    ∙ ap (λ t. first (headers.type_rule see t)) (sym c.in-Named.is)
