-- The module of the sample of size N: a file for each number below N, which users read, write and copy by their levels.
use Rattle.std.specs.Prelude.{ℕ, List, ◌++◌, codes}
use Rattle.sp_sample.specs.Pieces.{each_below, numbered}

-- MODULE sample
-- TYPES user: DESIGNATOR; file: DESIGNATOR;
-- PARAMETERS LEVEL clr(user u); LEVEL cls(file f);
-- FUNCTIONS
abbrev pub module_head : List ℕ
module_head =
    codes "MODULE sample\n"
    ++ codes "TYPES user: DESIGNATOR; file: DESIGNATOR;\n"
    ++ codes "PARAMETERS LEVEL clr(user u); LEVEL cls(file f);\n"
    ++ codes "FUNCTIONS\n"

-- VFUN data_k(file f) -> INTEGER; HIDDEN; INITIALLY 0;
abbrev pub data_function : ℕ → List ℕ
data_function k = numbered (codes "VFUN data_") k (codes "(file f) -> INTEGER; HIDDEN; INITIALLY 0;\n")

-- OVFUN read_k(user u; file f) -> INTEGER r; EXCEPTIONS no_read: NOT cls(f) <= clr(u); EFFECTS r = data_k(f);
abbrev pub read_function : ℕ → List ℕ
read_function k =
    numbered (codes "OVFUN read_") k (codes "(user u; file f) -> INTEGER r; EXCEPTIONS no_read: NOT cls(f) <= clr(u);")
    ++ numbered (codes " EFFECTS r = data_") k (codes "(f);\n")

-- OFUN write_k(user u; file f; INTEGER x); EXCEPTIONS no_write: NOT clr(u) <= cls(f); EFFECTS 'data_k(f) = x;
abbrev pub write_function : ℕ → List ℕ
write_function k =
    numbered (codes "OFUN write_") k (codes "(user u; file f; INTEGER x); EXCEPTIONS no_write: NOT clr(u) <= cls(f);")
    ++ numbered (codes " EFFECTS 'data_") k (codes "(f) = x;\n")

-- OFUN copy_k(user u; file f; file g); EXCEPTIONS no_read: NOT cls(f) <= clr(u); no_write: NOT clr(u) <= cls(g);
--   EFFECTS 'data_k(g) = data_k(f);
abbrev pub copy_function : ℕ → List ℕ
copy_function k =
    numbered (codes "OFUN copy_") k (codes "(user u; file f; file g); EXCEPTIONS no_read: NOT cls(f) <= clr(u); no_write: NOT clr(u) <= cls(g);\n")
    ++ numbered (codes "  EFFECTS 'data_") k (codes "(g)")
    ++ numbered (codes " = data_") k (codes "(f);\n")

-- the four functions of number k
abbrev pub functions_text : ℕ → List ℕ
functions_text k = data_function k ++ read_function k ++ write_function k ++ copy_function k

-- END_MODULE
abbrev pub sample_module : ℕ → List ℕ
sample_module n = module_head ++ each_below functions_text n ++ codes "END_MODULE\n"
