-- The texts of a sample are far shorter than a file may be.
use Rattle.std.proofs.Common.{◌≡◌, ◌≤◌, ◌<◌, ◌+◌, ◌*◌, ◌^◌, ◌++◌, ℕ, zero, suc, List, [], ◌∷◌, Bool, true, length, codes, arith, length-append, refl}
use Rattle.std.specs.Prelude.{nat_le}
use Rattle.std.specs.Fmt.{decimal}
use Rattle.std.proofs.lemmas.Bool.{leb-true}
use Rattle.std.proofs.lemmas.Fmt.{length-decimal-le}
use Rattle.sp_text.specs.declared.limits.TheConstants.{MOST_FILE_BYTES}
use Rattle.sp_sample.specs.Instance.{sample_instance}
use Rattle.sp_sample.specs.Interface.{interface_end, interface_head, levels_text, sample_interface}
use Rattle.sp_sample.specs.Module.{copy_function, data_function, functions_text, module_head, read_function, sample_module, write_function}
use Rattle.sp_sample.specs.Pieces.{each_below, numbered}

two : (xs ys : List ℕ) (a b : ℕ) → length xs ≤ a → length ys ≤ b → length (xs ++ ys) ≤ a + b
two xs ys a b p q = omega (arith, length-append xs ys, p, q)

-- a number below 1,000 has at most three digits
short : (before after : List ℕ) (k : ℕ) → k < 1000 → nat_le (length before) 100 ≡ true → nat_le (length after) 100 ≡ true → length (numbered before k after) ≤ 203
unfolding numbered
short before after k few p q =
    let digits : length (decimal k) ≤ 3 = length-decimal-le 3 k (omega arith) (omega (arith, few)) (omega (arith, few)) in
    two (before ++ decimal k) after 103 100 (two before (decimal k) 100 3 (leb-true (length before) 100 p) digits) (leb-true (length after) 100 q)

each : (text : ℕ → List ℕ) (most n : ℕ) → n ≤ 1000 → ((k : ℕ) → k < 1000 → length (text k) ≤ most) → length (each_below text n) ≤ n * most
each text most zero few one = omega arith
each text most (suc n) few one =
    omega (arith, length-append (each_below text n) (text n), each text most n (omega arith) one, one n (omega arith))

-- ---- the module

short_data : (k : ℕ) → k < 1000 → length (data_function k) ≤ 203
short_data k few = short (codes "VFUN data_") (codes "(file f) -> INTEGER; HIDDEN; INITIALLY 0;\n") k few refl refl

short_read : (k : ℕ) → k < 1000 → length (read_function k) ≤ 406
short_read k few =
    two (numbered (codes "OVFUN read_") k (codes "(user u; file f) -> INTEGER r; EXCEPTIONS no_read: NOT cls(f) <= clr(u);")) (numbered (codes " EFFECTS r = data_") k (codes "(f);\n")) 203 203
    (short _ _ k few refl refl) (short _ _ k few refl refl)

short_write : (k : ℕ) → k < 1000 → length (write_function k) ≤ 406
short_write k few =
    two (numbered (codes "OFUN write_") k (codes "(user u; file f; INTEGER x); EXCEPTIONS no_write: NOT clr(u) <= cls(f);")) (numbered (codes " EFFECTS 'data_") k (codes "(f) = x;\n")) 203 203
    (short _ _ k few refl refl) (short _ _ k few refl refl)

short_copy : (k : ℕ) → k < 1000 → length (copy_function k) ≤ 609
short_copy k few =
    let first : List ℕ = numbered (codes "OFUN copy_") k (codes "(user u; file f; file g); EXCEPTIONS no_read: NOT cls(f) <= clr(u); no_write: NOT clr(u) <= cls(g);\n") in
    let second : List ℕ = numbered (codes "  EFFECTS 'data_") k (codes "(g)") in
    let third : List ℕ = numbered (codes " = data_") k (codes "(f);\n") in
    two (first ++ second) third 406 203 (two first second 203 203 (short _ _ k few refl refl) (short _ _ k few refl refl)) (short _ _ k few refl refl)

short_functions : (k : ℕ) → k < 1000 → length (functions_text k) ≤ 1624
short_functions k few =
    two (data_function k ++ read_function k ++ write_function k) (copy_function k) 1015 609
    (two (data_function k ++ read_function k) (write_function k) 609 406 (two (data_function k) (read_function k) 203 406 (short_data k few) (short_read k few)) (short_write k few)) (short_copy k few)

pub short_module : (n : ℕ) → n ≤ 100 → length (sample_module n) ≤ MOST_FILE_BYTES
short_module n few =
    let all = each functions_text 1624 n (omega (arith, few)) short_functions in
    let head = leb-true (length module_head) 1000 refl in
    let end = leb-true (length (codes "END_MODULE\n")) 1000 refl in
    let begun = two module_head (each_below functions_text n) 1000 (n * 1624) head all in
    let whole = two (module_head ++ each_below functions_text n) (codes "END_MODULE\n") (1000 + n * 1624) 1000 begun end in
    omega (arith, few, whole)

-- ---- the interface

short_levels : (k : ℕ) → k < 1000 → length (levels_text k) ≤ 812
short_levels k few =
    let first : List ℕ = numbered (codes "LEVEL data_") k (codes "(f) IS cls(f);\n") in
    let second : List ℕ = numbered (codes "LEVEL read_") k (codes "(u, f) IS clr(u);\n") in
    let third : List ℕ = numbered (codes "LEVEL write_") k (codes "(u, f, x) IS clr(u);\n") in
    let fourth : List ℕ = numbered (codes "LEVEL copy_") k (codes "(u, f, g) IS clr(u);\n") in
    two (first ++ second ++ third) fourth 609 203
    (two (first ++ second) third 406 203 (two first second 203 203 (short _ _ k few refl refl) (short _ _ k few refl refl)) (short _ _ k few refl refl)) (short _ _ k few refl refl)

pub short_interface : (n : ℕ) → n ≤ 100 → length (sample_interface n) ≤ MOST_FILE_BYTES
short_interface n few =
    let all = each levels_text 812 n (omega (arith, few)) short_levels in
    let begun = two interface_head (each_below levels_text n) 1000 (n * 812) (leb-true (length interface_head) 1000 refl) all in
    let whole = two (interface_head ++ each_below levels_text n) interface_end (1000 + n * 812) 1000 begun (leb-true (length interface_end) 1000 refl) in
    omega (arith, few, whole)

-- ---- the instance

pub short_instance : length sample_instance ≤ MOST_FILE_BYTES
short_instance = leb-true (length sample_instance) MOST_FILE_BYTES refl
