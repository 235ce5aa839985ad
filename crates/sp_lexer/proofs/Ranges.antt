-- The bytes from a place of a text on and before another.
use Rattle.std.proofs.Common.{◌≡◌, ℕ, ◌+◌, ◌-◌, ◌<◌, ◌≤◌, List, [], ◌∷◌, ◌++◌, length, take, drop, get_or, slice_range, slice_index, ◌∙◌, ap, arith, length-drop, length-take, get_or-drop, get_or-take}
use Rattle.std.proofs.lemmas.List.{take_more}

pub range-length : (text : List ℕ) (start end : ℕ) → end ≤ length text → length (slice_range text start end) ≡ end - start
range-length text start end h = simp (length-take, length-drop) (omega arith)

pub range-first : (text : List ℕ) (start end : ℕ) → start < end → slice_index (slice_range text start end) 0 ≡ slice_index text start
range-first text start end h =
    let lt : 0 < end - start = omega arith in
    get_or-take (end - start) (drop start text) 0 0 lt ∙ get_or-drop start text 0 0 ∙ ap (λ n. get_or text n 0) (omega arith)

pub range-none : (text : List ℕ) (start : ℕ) → slice_range text start start ≡ []
range-none text start = let e : start - start ≡ 0 = omega arith in ap (λ n. take n (drop start text)) e

pub range-more : (text : List ℕ) (start end : ℕ) → start ≤ end → end < length text → slice_range text start (end + 1) ≡ slice_range text start end ++ slice_index text end ∷ []
range-more text start end h k =
    let e : (end + 1) - start ≡ (end - start) + 1 = omega arith in
    let lt : end - start < length (drop start text) = omega (arith, length-drop start text) in
    let g : get_or (drop start text) (end - start) 0 ≡ get_or text end 0 = get_or-drop start text (end - start) 0 ∙ ap (λ n. get_or text n 0) (omega arith) in
    ap (λ n. take n (drop start text)) e ∙ take_more (drop start text) (end - start) 0 lt ∙ ap (λ (x : ℕ). take (end - start) (drop start text) ++ x ∷ []) g

pub range-one : (text : List ℕ) (start : ℕ) → start < length text → slice_range text start (start + 1) ≡ slice_index text start ∷ []
range-one text start h = range-more text start start (omega arith) h ∙ ap (λ (xs : List ℕ). xs ++ slice_index text start ∷ []) (range-none text start)

pub range-two : (text : List ℕ) (start : ℕ) → start + 1 < length text → slice_range text start (start + 2) ≡ slice_index text start ∷ slice_index text (start + 1) ∷ []
range-two text start h =
    let e : start + 2 ≡ (start + 1) + 1 = omega arith in
    ap (λ n. slice_range text start n) e ∙ range-more text start (start + 1) (omega arith) h
    ∙ ap (λ (xs : List ℕ). xs ++ slice_index text (start + 1) ∷ []) (range-one text start (omega arith))
