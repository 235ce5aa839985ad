use Rattle.std.proofs.Common.{◌≤◌, sym, ◌∙◌, ap, arith, length}
use Rattle.std.specs.Prelude.{slice_get}
use Rattle.sp_instance.proofs.Texts.{all_got}
use Rattle.sp_instance.proofs.Typed.{place_below}
use Rattle.sp_instance.proofs.vocabulary.Vocabulary.place.Goals as goal

pub overflow_cast-result : goal.overflow_cast-result
overflow_cast-result c =
    let names = c.in-Some.names.now in
    let few : length names ≤ 64 = all_got (λ names. length names ≤ 64) c.self.inside.members.items c.args.ty names c.self.invariant.members
    (sym (c.in-Some.ensures ∙ ap (λ xs. slice_get xs c.args.ty) c.as_slice.ensures.value)) in
    omega (arith, place_below names c.bytes.result.now c.in-Some-place.place (sym c.in-Some-place.ensures), few)
