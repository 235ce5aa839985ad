use Rattle.std.proofs.Common.{◌∙◌, sym, ap, subst, subst₂, map}
use Rattle.sp_lattice.specs.Order.{bottom_level, top_level}
use Rattle.sp_core.specs.Parts.{Parts}
use Rattle.sp_scopes.specs.Scopes.{scopes_of}
use Rattle.sp_order.specs.Orders.{AreEnds, HasLevels}
use Rattle.sp_specification.specs.Meaning.{IsSpecOf, param_of, type_info}
use Rattle.sp_specification.specs.Numbers.{AreAllNumbered}
use Rattle.sp_types.proofs.Made.{made}
use Rattle.sp_types.proofs.whole.make_spec.Goals as goal

pub assemble-spec-requires : goal.assemble-spec-requires
assemble-spec-requires c =
    let i = c.args.interface.now in
    let ms = c.args.modules.now in
    let o = c.args.names.lattice in
    let r = c.requires.names in
    let p : Parts = record {
      name = c.in_ok-name.name;
      lattice = o;
      level_names = c.in_ok-levels.levels.items;
      types = c.in_ok-types.types.items;
      params = c.in_ok-params.params.items;
      assertions = c.in_ok-assertions.assertions.items;
      functions = c.in_ok-functions.functions.items;
    } in
    let meant = made i ms c.args.names.scopes (scopes_of i ms) p c.bottom-bottom.result c.top-top.result (bottom_level o) (top_level o)
    r.scopes c.bottom-bottom.ensures.value c.top-top.ensures.value
    (c.in_ok-name.ensures ∙ c.bytes.ensures)
    r.order
    (c.in_ok-levels.ensures ∙ c.levels.ensures)
    (c.in_ok-types.ensures ∙ ap (λ ts. map type_info ts) c.types.ensures)
    (c.in_ok-params.ensures ∙ ap (λ ps. map param_of ps) c.parameters.ensures)
    c.in_ok-assertions.ensures
    c.in_ok-functions.ensures in
    c.well_formed_law.ensures i ms (bottom_level o) (top_level o) p r.nothing
    (subst HasLevels r.scopes r.levels)
    (subst (λ s. AreEnds s (bottom_level o) (top_level o)) r.scopes r.ends)
    r.lattice
    (subst₂ (λ ds qs. AreAllNumbered ds qs ms) (c.definitions.ensures ∙ ap (λ s. s.definitions) r.scopes) c.items.ensures c.tell_numbers_of.ensures)
    c.requires.nothing
    meant

pub returns : goal.returns
returns c =
    let i = c.args.interface.now in
    let ms = c.args.modules.now in
    let o = c.args.names.lattice in
    let r = c.requires.names in
    let p : Parts = record {
      name = c.in_ok-name.name;
      lattice = o;
      level_names = c.in_ok-levels.levels.items;
      types = c.in_ok-types.types.items;
      params = c.in_ok-params.params.items;
      assertions = c.in_ok-assertions.assertions.items;
      functions = c.in_ok-functions.functions.items;
    } in
    let meant = made i ms c.args.names.scopes (scopes_of i ms) p c.bottom-bottom.result c.top-top.result (bottom_level o) (top_level o)
    r.scopes c.bottom-bottom.ensures.value c.top-top.ensures.value
    (c.in_ok-name.ensures ∙ c.bytes.ensures)
    r.order
    (c.in_ok-levels.ensures ∙ c.levels.ensures)
    (c.in_ok-types.ensures ∙ ap (λ ts. map type_info ts) c.types.ensures)
    (c.in_ok-params.ensures ∙ ap (λ ps. map param_of ps) c.parameters.ensures)
    c.in_ok-assertions.ensures
    c.in_ok-functions.ensures in
    let ends = subst (λ s. AreEnds s (bottom_level o) (top_level o)) r.scopes r.ends in
    record {
      spec = subst (λ q. IsSpecOf i ms q) (sym c.assemble-spec.ensures) (record { bottom = bottom_level o; top = top_level o; ends = ends; meant = meant });
      scopes = r.scopes;
    }
