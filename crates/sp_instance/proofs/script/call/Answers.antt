use Rattle.std.proofs.Common.{◌≡◌, ◌<◌, ◌≤◌, sym, ◌∙◌, subst, arith, length}
use Rattle.std.specs.Prelude.{map, slice_get, Some}
use Rattle.sp_core.specs.declared.function.Function.{Function}
use Rattle.sp_instance.specs.Words.{place_of}
use Rattle.sp_instance.specs.Scripts.{called, function_name}
use Rattle.sp_instance.proofs.Typed.{place_below}
use Rattle.sp_instance.proofs.Lists.{got_at, length_map}
use Rattle.sp_instance.proofs.Called.{called_found, called_made}
use Rattle.sp_instance.proofs.script.call.Goals as goal

pub bounds-functions-place : goal.bounds-functions-place
bounds-functions-place c =
    let fs = c.args.functions.now in
    let n : called fs c.args.c.now ≡ Some c.in-Some.place = sym (c.in-Some.ensures ∙ (λ i. place_of (c.requires.names i) (c.bytes.ensures i))) in
    omega (arith, place_below (map function_name fs) c.args.c.now.0.name c.in-Some.place n, length_map function_name fs)

pub offset_bounds-functions-place : goal.offset_bounds-functions-place
offset_bounds-functions-place c =
    let fs = c.args.functions.now in
    let n : called fs c.args.c.now ≡ Some c.in-Some.place = sym (c.in-Some.ensures ∙ (λ i. place_of (c.requires.names i) (c.bytes.ensures i))) in
    omega (arith, place_below (map function_name fs) c.args.c.now.0.name c.in-Some.place n, length_map function_name fs, c.requires.numbered)

pub overflow_cast-result : goal.overflow_cast-result
overflow_cast-result c =
    let fs = c.args.functions.now in
    let n : called fs c.args.c.now ≡ Some c.in-Some.place = sym (c.in-Some.ensures ∙ (λ i. place_of (c.requires.names i) (c.bytes.ensures i))) in
    omega (arith, place_below (map function_name fs) c.args.c.now.0.name c.in-Some.place n, length_map function_name fs, c.requires.numbered)

pub of_function-made-requires : goal.of_function-made-requires
of_function-made-requires c =
    let fs = c.args.functions.now in
    let n : called fs c.args.c.now ≡ Some c.in-Some.place = sym (c.in-Some.ensures ∙ (λ i. place_of (c.requires.names i) (c.bytes.ensures i))) in
    let lt : c.in-Some.place < length fs = omega (arith, place_below (map function_name fs) c.args.c.now.0.name c.in-Some.place n, length_map function_name fs) in
    subst (λ (f : Function). length f.formals ≤ 8) (sym c.index-functions-place.is) (c.requires.few c.in-Some.place c.index-functions-place.result lt)

pub returns-in-Some : goal.returns-in-Some
returns-in-Some c =
    let fs = c.args.functions.now in
    let k = c.in-Some.place in
    let f = c.index-functions-place.result in
    let n : called fs c.args.c.now ≡ Some k = sym (c.in-Some.ensures ∙ (λ i. place_of (c.requires.names i) (c.bytes.ensures i))) in
    let lt : k < length fs = omega (arith, place_below (map function_name fs) c.args.c.now.0.name k n, length_map function_name fs) in
    let g : slice_get fs k ≡ Some f = got_at fs k f lt c.index-functions-place.is in
    record {
      made = called_made fs c.args.words.now c.args.c.now k f c.of_function-made.result.0 n g c.of_function-made.ensures.made;
      found = called_found fs c.args.all.now c.args.words.now c.args.c.now k f c.of_function-made.result.1 n g c.of_function-made.ensures.found;
    }
