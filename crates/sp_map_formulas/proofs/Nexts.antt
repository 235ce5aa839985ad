-- The formulas of rows, one row after the other.
use Rattle.std.proofs.Common.{◌≡◌, sym, ◌∙◌, ap, arith, ℕ, zero, suc, ◌+◌, ◌<◌, List, [], ◌∷◌, ◌++◌, length, drop, get_or}
use Rattle.std.specs.List.{flat_map}
use Rattle.sp_core.specs.declared.mapping.MapRow.{MapRow}
use Rattle.sp_core.specs.Parts.{Parts}
use Rattle.sp_map_formulas.specs.Rows.{row_formulas}

after : (rows : List MapRow) (k : ℕ) (r : MapRow) → k < length rows → r ≡ get_or rows k r → drop k rows ≡ r ∷ drop (suc k) rows
after [] k r l e = absurd (omega (arith, l))
after (q ∷ rows) zero r l e = ap (λ x. x ∷ rows) (sym e)
after (q ∷ rows) (suc k) r l e = after rows k r (omega (arith, l)) e

-- one more
pub rows_next : (p : Parts) (rows all : List MapRow) (k : ℕ) (r : MapRow) → rows ≡ all → k < length rows → r ≡ get_or rows k r
    → flat_map (row_formulas p) (drop k all) ≡ row_formulas p r ++ flat_map (row_formulas p) (drop (k + 1) all)
rows_next p rows all k r same l e =
    let n : suc k ≡ k + 1 = omega arith in
    ap (λ xs. flat_map (row_formulas p) (drop k xs)) (sym same) ∙ ap (flat_map (row_formulas p)) (after rows k r l e)
    ∙ (λ i. row_formulas p r ++ flat_map (row_formulas p) (drop (n i) (same i)))
