-- The instance of every sample: three users and two files with their levels.
use Rattle.std.specs.Prelude.{ℕ, List, ◌++◌, codes}

-- INSTANCE sample
-- POPULATION user = {low, mid, high}; POPULATION file = {open, closed};
-- PARAMETER clr: (mid) = l2_a; (high) = TOP; OTHERWISE BOTTOM;
-- PARAMETER cls: (closed) = l3_a_b; OTHERWISE BOTTOM;
-- END_INSTANCE
abbrev pub sample_instance : List ℕ
sample_instance =
    codes "INSTANCE sample\n"
    ++ codes "POPULATION user = {low, mid, high}; POPULATION file = {open, closed};\n"
    ++ codes "PARAMETER clr: (mid) = l2_a; (high) = TOP; OTHERWISE BOTTOM;\n"
    ++ codes "PARAMETER cls: (closed) = l3_a_b; OTHERWISE BOTTOM;\n"
    ++ codes "END_INSTANCE\n"
