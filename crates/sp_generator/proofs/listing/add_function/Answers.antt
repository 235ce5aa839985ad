use Rattle.std.proofs.Common.{◌++◌, refl}
use Rattle.std.proofs.lemmas.Result.{err_from_is_err_and}
use Rattle.sp_formulas.specs.Formulas.{derivation_formulas, function_formulas}
use Rattle.sp_formulas.proofs.WayLemmas.{way_refused, way_step, way_typed}
use Rattle.sp_generator.specs.Listed.{effects_at, exceptions_at}
use Rattle.sp_generator.proofs.Chains.{first_refused, first_typed, last_added, last_refused, last_typed, second_way}
use Rattle.sp_generator.proofs.listing.add_function.Goals as goal

pub add_its_exceptions-requires-clause-typed : goal.add_its_exceptions-requires-clause-typed
add_its_exceptions-requires-clause-typed c =
    let p = c.args.spec.now in
    let g = c.args.fun in
    let f = c.args.function.now in
    first_typed p c.args.out.now.items (function_formulas p g f) (exceptions_at p g f) (derivation_formulas p g f f.kind ++ effects_at p g f) refl c.requires.typed

pub returns-in_err-add_its_exceptions-clause-refused : goal.returns-in_err-add_its_exceptions-clause-refused
returns-in_err-add_its_exceptions-clause-refused c =
    let q = err_from_is_err_and c.from_residual.result c.from_residual.ensures.1 in
    let p = c.args.spec.now in
    let g = c.args.fun in
    let f = c.args.function.now in
    rw (q.1, q.2) (first_refused p c.args.out.now.items (function_formulas p g f) (exceptions_at p g f) (derivation_formulas p g f f.kind ++ effects_at p g f) refl _ c.in_err-add_its_exceptions.ensures.refused)

pub add_derivation-requires-clause-typed : goal.add_derivation-requires-clause-typed
add_derivation-requires-clause-typed c =
    let p = c.args.spec.now in
    let g = c.args.fun in
    let f = c.args.function.now in
    let rest = derivation_formulas p g f f.kind ++ effects_at p g f in
    way_typed p c.args.out.now.items (function_formulas p g f) c.add_its_exceptions.new.out.items rest (effects_at p g f) (derivation_formulas p g f f.kind)
    (second_way p c.args.out.now.items (function_formulas p g f) (exceptions_at p g f) rest refl c.add_its_exceptions.new.out.items c.in_ok-add_its_exceptions.ensures.ok) refl c.requires.typed

pub returns-in_err-add_derivation-clause-refused : goal.returns-in_err-add_derivation-clause-refused
returns-in_err-add_derivation-clause-refused c =
    let q = err_from_is_err_and c.from_residual-in_err-add_derivation.result c.from_residual-in_err-add_derivation.ensures.1 in
    let p = c.args.spec.now in
    let g = c.args.fun in
    let f = c.args.function.now in
    let rest = derivation_formulas p g f f.kind ++ effects_at p g f in
    rw (q.1, q.2) (way_refused p c.args.out.now.items (function_formulas p g f) c.add_its_exceptions.new.out.items rest (effects_at p g f) (derivation_formulas p g f f.kind) _
    (second_way p c.args.out.now.items (function_formulas p g f) (exceptions_at p g f) rest refl c.add_its_exceptions.new.out.items c.in_ok-add_its_exceptions.ensures.ok) refl c.in_err-add_derivation.ensures.refused)

pub add_effects-requires-clause-typed : goal.add_effects-requires-clause-typed
add_effects-requires-clause-typed c =
    let p = c.args.spec.now in
    let g = c.args.fun in
    let f = c.args.function.now in
    let rest = derivation_formulas p g f f.kind ++ effects_at p g f in
    last_typed p c.args.out.now.items (function_formulas p g f) c.add_derivation.new.out.items (effects_at p g f)
    (way_step p c.args.out.now.items (function_formulas p g f) c.add_its_exceptions.new.out.items c.add_derivation.new.out.items rest (effects_at p g f) (derivation_formulas p g f f.kind)
    (second_way p c.args.out.now.items (function_formulas p g f) (exceptions_at p g f) rest refl c.add_its_exceptions.new.out.items c.in_ok-add_its_exceptions.ensures.ok) refl c.in_ok-add_derivation.ensures.ok)
    c.requires.typed

pub returns-clause-ok : goal.returns-clause-ok
returns-clause-ok c =
    let p = c.args.spec.now in
    let g = c.args.fun in
    let f = c.args.function.now in
    let rest = derivation_formulas p g f f.kind ++ effects_at p g f in
    last_added p c.args.out.now.items (function_formulas p g f) c.add_derivation.new.out.items (effects_at p g f)
    (way_step p c.args.out.now.items (function_formulas p g f) c.add_its_exceptions.new.out.items c.add_derivation.new.out.items rest (effects_at p g f) (derivation_formulas p g f f.kind)
    (second_way p c.args.out.now.items (function_formulas p g f) (exceptions_at p g f) rest refl c.add_its_exceptions.new.out.items c.in_ok-add_its_exceptions.ensures.ok) refl c.in_ok-add_derivation.ensures.ok)
    c.add_effects.new.out.items c.add_effects.result c.add_effects.ensures.ok

pub returns-clause-refused : goal.returns-clause-refused
returns-clause-refused c =
    let p = c.args.spec.now in
    let g = c.args.fun in
    let f = c.args.function.now in
    let rest = derivation_formulas p g f f.kind ++ effects_at p g f in
    last_refused p c.args.out.now.items (function_formulas p g f) c.add_derivation.new.out.items (effects_at p g f)
    (way_step p c.args.out.now.items (function_formulas p g f) c.add_its_exceptions.new.out.items c.add_derivation.new.out.items rest (effects_at p g f) (derivation_formulas p g f f.kind)
    (second_way p c.args.out.now.items (function_formulas p g f) (exceptions_at p g f) rest refl c.add_its_exceptions.new.out.items c.in_ok-add_its_exceptions.ensures.ok) refl c.in_ok-add_derivation.ensures.ok)
    c.add_effects.result c.add_effects.ensures.refused
