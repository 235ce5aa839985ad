-- The interface of the sample of size N: 32 levels, and the level of each function of its module.
use Rattle.std.specs.Prelude.{ℕ, List, ◌++◌, codes}
use Rattle.sp_sample.specs.Pieces.{each_below, numbered}

-- INTERFACE sample
-- MODULES sample;
-- CHAIN l0 < l1 < l2 < l3; CATEGORIES a, b, c;
abbrev pub interface_head : List ℕ
interface_head =
    codes "INTERFACE sample\n"
    ++ codes "MODULES sample;\n"
    ++ codes "CHAIN l0 < l1 < l2 < l3; CATEGORIES a, b, c;\n"

-- LEVEL data_k(f) IS cls(f);
-- LEVEL read_k(u, f) IS clr(u);
-- LEVEL write_k(u, f, x) IS clr(u);
-- LEVEL copy_k(u, f, g) IS clr(u);
abbrev pub levels_text : ℕ → List ℕ
levels_text k =
    numbered (codes "LEVEL data_") k (codes "(f) IS cls(f);\n")
    ++ numbered (codes "LEVEL read_") k (codes "(u, f) IS clr(u);\n")
    ++ numbered (codes "LEVEL write_") k (codes "(u, f, x) IS clr(u);\n")
    ++ numbered (codes "LEVEL copy_") k (codes "(u, f, g) IS clr(u);\n")

-- SAMPLE sample;
-- END_INTERFACE
abbrev pub interface_end : List ℕ
interface_end = codes "SAMPLE sample;\n" ++ codes "END_INTERFACE\n"

abbrev pub sample_interface : ℕ → List ℕ
sample_interface n = interface_head ++ each_below levels_text n ++ interface_end
