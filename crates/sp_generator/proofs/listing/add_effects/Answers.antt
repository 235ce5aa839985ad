use Rattle.std.proofs.Common.{◌∙◌, ap, map}
use Rattle.std.specs.List.{flat_map}
use Rattle.std.proofs.lemmas.Result.{err_from_is_err_and}
use Rattle.sp_formulas.specs.Formulas.{agreements, item_formulas}
use Rattle.sp_generator.specs.Collected.{item_as}
use Rattle.sp_generator.specs.Listed.{effects_at}
use Rattle.sp_generator.proofs.Chains.{first_refused, first_typed, last_added, last_refused, last_typed, second_way}
use Rattle.sp_generator.proofs.ListingLemmas.{collected_room, effects_are}
use Rattle.sp_generator.proofs.listing.add_effects.Goals as goal

pub add_items-requires-clause-room : goal.add_items-requires-clause-room
add_items-requires-clause-room c = collected_room c.args.spec.now c.lattice.ensures.well_formed c.args.fun c.args.function.now c.requires.there c.deref.result.now (ap (map item_as) c.deref.ensures.value ∙ c.in-Ok.ensures)

pub add_agreements-requires-clause-room : goal.add_agreements-requires-clause-room
add_agreements-requires-clause-room c = collected_room c.args.spec.now c.lattice.ensures.well_formed c.args.fun c.args.function.now c.requires.there c.deref-2.result.now (ap (map item_as) c.deref-2.ensures.value ∙ c.in-Ok.ensures)

pub add_items-requires-clause-typed : goal.add_items-requires-clause-typed
add_items-requires-clause-typed c =
    let p = c.args.spec.now in
    let g = c.args.fun in
    let f = c.args.function.now in
    let first = ap (map item_as) c.deref.ensures.value ∙ c.in-Ok.ensures in
    first_typed p c.args.out.now.items (effects_at p g f) (flat_map (item_formulas p g f) (map item_as c.deref.result.now)) (agreements p g f (map item_as c.deref.result.now))
    (effects_are p g f (map item_as c.deref.result.now) (map item_as c.deref.result.now) first first) c.requires.typed

pub returns-in_err-add_items-clause-refused : goal.returns-in_err-add_items-clause-refused
returns-in_err-add_items-clause-refused c =
    let q = err_from_is_err_and c.from_residual.result c.from_residual.ensures.1 in
    let p = c.args.spec.now in
    let g = c.args.fun in
    let f = c.args.function.now in
    let first = ap (map item_as) c.deref.ensures.value ∙ c.in-Ok.ensures in
    rw (q.1, q.2) (first_refused p c.args.out.now.items (effects_at p g f) (flat_map (item_formulas p g f) (map item_as c.deref.result.now)) (agreements p g f (map item_as c.deref.result.now))
    (effects_are p g f (map item_as c.deref.result.now) (map item_as c.deref.result.now) first first) _ c.in_err-add_items.ensures.refused)

pub add_agreements-requires-clause-typed : goal.add_agreements-requires-clause-typed
add_agreements-requires-clause-typed c =
    let p = c.args.spec.now in
    let g = c.args.fun in
    let f = c.args.function.now in
    let first = ap (map item_as) c.deref.ensures.value ∙ c.in-Ok.ensures in
    let second = ap (map item_as) c.deref-2.ensures.value ∙ c.in-Ok.ensures in
    last_typed p c.args.out.now.items (effects_at p g f) c.add_items.new.out.items (agreements p g f (map item_as c.deref-2.result.now))
    (second_way p c.args.out.now.items (effects_at p g f) (flat_map (item_formulas p g f) (map item_as c.deref.result.now)) (agreements p g f (map item_as c.deref-2.result.now))
    (effects_are p g f (map item_as c.deref.result.now) (map item_as c.deref-2.result.now) first second) c.add_items.new.out.items c.in_ok-add_items.ensures.ok)
    c.requires.typed

pub returns-clause-ok : goal.returns-clause-ok
returns-clause-ok c =
    let p = c.args.spec.now in
    let g = c.args.fun in
    let f = c.args.function.now in
    let first = ap (map item_as) c.deref.ensures.value ∙ c.in-Ok.ensures in
    let second = ap (map item_as) c.deref-2.ensures.value ∙ c.in-Ok.ensures in
    last_added p c.args.out.now.items (effects_at p g f) c.add_items.new.out.items (agreements p g f (map item_as c.deref-2.result.now))
    (second_way p c.args.out.now.items (effects_at p g f) (flat_map (item_formulas p g f) (map item_as c.deref.result.now)) (agreements p g f (map item_as c.deref-2.result.now))
    (effects_are p g f (map item_as c.deref.result.now) (map item_as c.deref-2.result.now) first second) c.add_items.new.out.items c.in_ok-add_items.ensures.ok)
    c.add_agreements.new.out.items c.add_agreements.result c.add_agreements.ensures.ok

pub returns-clause-refused : goal.returns-clause-refused
returns-clause-refused c =
    let p = c.args.spec.now in
    let g = c.args.fun in
    let f = c.args.function.now in
    let first = ap (map item_as) c.deref.ensures.value ∙ c.in-Ok.ensures in
    let second = ap (map item_as) c.deref-2.ensures.value ∙ c.in-Ok.ensures in
    last_refused p c.args.out.now.items (effects_at p g f) c.add_items.new.out.items (agreements p g f (map item_as c.deref-2.result.now))
    (second_way p c.args.out.now.items (effects_at p g f) (flat_map (item_formulas p g f) (map item_as c.deref.result.now)) (agreements p g f (map item_as c.deref-2.result.now))
    (effects_are p g f (map item_as c.deref.result.now) (map item_as c.deref-2.result.now) first second) c.add_items.new.out.items c.in_ok-add_items.ensures.ok)
    c.add_agreements.result c.add_agreements.ensures.refused
