use Rattle.std.proofs.Common.{◌≡◌, ◌∙◌, ap, ◌++◌}
use Rattle.std.specs.Prelude.{slice_get}
use Rattle.std.specs.List.{flat_map}
use Rattle.sp_text.specs.Violations.{first}
use Rattle.sp_naming.specs.Visibility.{taken}
use Rattle.sp_scopes.specs.Headers.{see_of}
use Rattle.sp_scopes.specs.Modules.{headers_broken, own_name, row_broken}
use Rattle.sp_scopes.proofs.module.module_broken.Goals as goal

pub returns : goal.returns
returns c =
    let ds = c.args.declared.now in
    let ms = c.args.modules.now in
    let m = c.args.text.now in
    let takes : c.in_ok-names.names ≡ taken ds ms m.externals = c.in_ok-names.ensures ∙ ap (taken ds ms) c.items-2.ensures in
    let own = own_name (slice_get ms c.args.k) m.name in
    let externals = flat_map (row_broken ds ms) m.externals in
    let headers = headers_broken (see_of ds c.args.k (taken ds ms m.externals)) m in
    c.earlier-2.ensures own (externals ++ headers) (c.own_name-own.ensures ∙ ap (λ o. first (own_name o m.name)) c.at.ensures)
    (c.earlier.ensures externals headers (c.externals_broken-externals.ensures ∙ ap (λ rows. first (flat_map (row_broken ds ms) rows)) c.items.ensures)
    (c.in_ok-headers.ensures ∙ ap (λ names. first (headers_broken (see_of ds c.args.k names) m)) takes))
