use Rattle.std.proofs.Common.{◌≡◌, sym, ◌∙◌, arith}
use Rattle.std.specs.Prelude.{map, Some}
use Rattle.sp_instance.specs.Scripts.{function_name}
use Rattle.sp_instance.specs.Words.{place_of}
use Rattle.sp_instance.proofs.Typed.{place_below}
use Rattle.sp_mapping_rules.specs.Functions as spec
use Rattle.sp_mapping_rows.proofs.Lists.{length_map}
use Rattle.sp_mapping_rows.proofs.functions.upper_number.Goals as goal

pub overflow_cast-result : goal.overflow_cast-result
overflow_cast-result c =
    let fs = c.args.functions.now in
    let n : spec.upper_number fs c.args.row.now ≡ Some c.in-Some.k = sym (c.in-Some.ensures ∙ (λ i. place_of (c.requires.names i) (c.bytes.ensures i))) in
    omega (arith, place_below (map function_name fs) c.args.row.now.name.name c.in-Some.k n, length_map function_name fs, c.requires.few)
