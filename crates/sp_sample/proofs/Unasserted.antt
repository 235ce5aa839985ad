-- In the module of a sample no two bytes `S` stand side by side, as they do in ASSERTIONS.
use Rattle.std.proofs.Common.{◌≡◌, ◌≢◌, ◌≤◌, ◌<◌, ◌+◌, ◌-◌, ◌%◌, ◌^◌, ◌++◌, ℕ, zero, suc, List, [], ◌∷◌, Bool, true, false, ap, ap₂, arith, codes, drop, take, refl, sym}
use Rattle.std.specs.Prelude.{◌&&◌, ◌==◌, not, slice_range}
use Rattle.std.specs.Fmt.{decimal}
use Rattle.std.proofs.lemmas.Bool.{ne_eqb}
use Rattle.std.proofs.lemmas.Fmt.{decimal_by_steps}
use Rattle.sp_sample.specs.Module.{copy_function, data_function, functions_text, module_head, read_function, sample_module, write_function}
use Rattle.sp_sample.specs.Pieces.{each_below, numbered}

-- no two bytes `S` side by side, where `before` tells whether one stands in front
abbrev pub apart : Bool → List ℕ → Bool
apart before [] = true
apart before (b ∷ bs) = not (before && (b == 83)) && apart (b == 83) bs

-- and none at the end
abbrev closed : Bool → List ℕ → Bool
closed before [] = not before
closed before (b ∷ bs) = not (before && (b == 83)) && closed (b == 83) bs

both : (a b : Bool) → (a && b) ≡ true → (a ≡ true) × (b ≡ true)
both true b h = (refl, h)
both false b h = absurd cc

all : (a b : Bool) → a ≡ true → b ≡ true → (a && b) ≡ true
all a b p q = ap₂ (λ x y. x && y) p q

closed_apart : (before : Bool) (bs : List ℕ) → closed before bs ≡ true → apart before bs ≡ true
closed_apart before [] h = refl
closed_apart before (b ∷ bs) h =
    let p = both (not (before && (b == 83))) (closed (b == 83) bs) h in
    all (not (before && (b == 83))) (apart (b == 83) bs) p.0 (closed_apart (b == 83) bs p.1)

closed_append : (before : Bool) (xs ys : List ℕ) → closed before xs ≡ true → closed false ys ≡ true → closed before (xs ++ ys) ≡ true
closed_append false [] ys h k = k
closed_append true [] ys h k = absurd cc
closed_append before (b ∷ xs) ys h k =
    let p = both (not (before && (b == 83))) (closed (b == 83) xs) h in
    all (not (before && (b == 83))) (closed (b == 83) (xs ++ ys)) p.0 (closed_append (b == 83) xs ys p.1 k)

-- ---- parts of a text

apart_weaker : (before : Bool) (bs : List ℕ) → apart before bs ≡ true → apart false bs ≡ true
apart_weaker before [] h = refl
apart_weaker before (b ∷ bs) h = (both (not (before && (b == 83))) (apart (b == 83) bs) h).1

apart_drop : (k : ℕ) (before : Bool) (bs : List ℕ) → apart before bs ≡ true → apart false (drop k bs) ≡ true
apart_drop zero before bs h = apart_weaker before bs h
apart_drop (suc k) before [] h = refl
apart_drop (suc k) before (b ∷ bs) h = apart_drop k (b == 83) bs (both (not (before && (b == 83))) (apart (b == 83) bs) h).1

apart_take : (k : ℕ) (before : Bool) (bs : List ℕ) → apart before bs ≡ true → apart before (take k bs) ≡ true
apart_take zero before bs h = refl
apart_take (suc k) before [] h = refl
apart_take (suc k) before (b ∷ bs) h =
    let p = both (not (before && (b == 83))) (apart (b == 83) bs) h in
    all (not (before && (b == 83))) (apart (b == 83) (take k bs)) p.0 (apart_take k (b == 83) bs p.1)

pub apart_range : (text : List ℕ) (start end : ℕ) → apart false text ≡ true → apart false (slice_range text start end) ≡ true
apart_range text start end h = apart_take (end - start) false (drop start text) (apart_drop start false text h)

-- ---- the texts

digit : (d : ℕ) → d < 10 → closed false ((48 + d) ∷ []) ≡ true
digit d few = ap not (ne_eqb (48 + d) 83 (λ e. omega (arith, few, e)))

digits : (k : ℕ) → k < 1000 → closed false (decimal k) ≡ true
digits k few =
    decimal_by_steps (λ n ds. closed false ds ≡ true) (λ n one. digit n one) (λ n ds ten h. closed_append false ds ((48 + n % 10) ∷ []) h (digit (n % 10) (omega arith))) k (omega (arith, few))

number : (before after : List ℕ) (k : ℕ) → k < 1000 → closed false before ≡ true → closed false after ≡ true → closed false (numbered before k after) ≡ true
unfolding numbered
number before after k few p q = closed_append false (before ++ decimal k) after (closed_append false before (decimal k) p (digits k few)) q

data_closed : (k : ℕ) → k < 1000 → closed false (data_function k) ≡ true
data_closed k few = number (codes "VFUN data_") (codes "(file f) -> INTEGER; HIDDEN; INITIALLY 0;\n") k few refl refl

read_closed : (k : ℕ) → k < 1000 → closed false (read_function k) ≡ true
read_closed k few =
    closed_append false
    (numbered (codes "OVFUN read_") k (codes "(user u; file f) -> INTEGER r; EXCEPTIONS no_read: NOT cls(f) <= clr(u);")) (numbered (codes " EFFECTS r = data_") k (codes "(f);\n"))
    (number _ _ k few refl refl) (number _ _ k few refl refl)

write_closed : (k : ℕ) → k < 1000 → closed false (write_function k) ≡ true
write_closed k few =
    closed_append false
    (numbered (codes "OFUN write_") k (codes "(user u; file f; INTEGER x); EXCEPTIONS no_write: NOT clr(u) <= cls(f);")) (numbered (codes " EFFECTS 'data_") k (codes "(f) = x;\n"))
    (number _ _ k few refl refl) (number _ _ k few refl refl)

copy_closed : (k : ℕ) → k < 1000 → closed false (copy_function k) ≡ true
copy_closed k few =
    let first : List ℕ = numbered (codes "OFUN copy_") k (codes "(user u; file f; file g); EXCEPTIONS no_read: NOT cls(f) <= clr(u); no_write: NOT clr(u) <= cls(g);\n") in
    let second : List ℕ = numbered (codes "  EFFECTS 'data_") k (codes "(g)") in
    let third : List ℕ = numbered (codes " = data_") k (codes "(f);\n") in
    closed_append false (first ++ second) third (closed_append false first second (number _ _ k few refl refl) (number _ _ k few refl refl)) (number _ _ k few refl refl)

functions_closed : (k : ℕ) → k < 1000 → closed false (functions_text k) ≡ true
functions_closed k few =
    closed_append false (data_function k ++ read_function k ++ write_function k) (copy_function k)
    (closed_append false (data_function k ++ read_function k) (write_function k) (closed_append false (data_function k) (read_function k) (data_closed k few) (read_closed k few)) (write_closed k few)) (copy_closed k few)

each_closed : (n : ℕ) → n ≤ 1000 → closed false (each_below functions_text n) ≡ true
each_closed zero few = refl
each_closed (suc n) few = closed_append false (each_below functions_text n) (functions_text n) (each_closed n (omega arith)) (functions_closed n (omega arith))

pub apart_module : (n : ℕ) → n ≤ 1000 → apart false (sample_module n) ≡ true
apart_module n few =
    closed_apart false (sample_module n)
    (closed_append false (module_head ++ each_below functions_text n) (codes "END_MODULE\n") (closed_append false module_head (each_below functions_text n) refl (each_closed n few)) refl)
