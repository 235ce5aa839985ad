-- Numbers in decimal hold no line feed, and don't begin with the letter A.
use Rattle.std.proofs.Common.{◌≡◌, ℕ, zero, suc, ◌+◌, ◌/◌, ◌%◌, ℤ, pos, negsuc, Bool, true, false, ◌==◌, List, [], ◌∷◌, ◌++◌, if◌then◌else◌, nat_lt, not, ap, arith, refl}
use Rattle.std.specs.Fmt.{decimal, digit_glyph, digits, digits_onto, signed_decimal}
use Rattle.std.proofs.lemmas.Bool.Decides.{nat_tests}
use Rattle.sp_headline.proofs.Texts.{Free, begins_otherwise, free_cons}

glyph_by : (d : ℕ) (t : Bool) → nat_lt d 10 ≡ t → ((if t then 48 + d else 87 + d) == 10) ≡ false
glyph_by d true e = grind (arith, nat_tests)
glyph_by d false e = grind (arith, nat_tests)

glyph_free : (d : ℕ) → (digit_glyph false d == 10) ≡ false
glyph_free d = glyph_by d (nat_lt d 10) refl

start_by : (d : ℕ) (t : Bool) → nat_lt d 10 ≡ t → ((if t then 48 + d else 87 + d) == 65) ≡ false
start_by d true e = grind (arith, nat_tests)
start_by d false e = grind (arith, nat_tests)

glyph_starts : (d : ℕ) → (digit_glyph false d == 65) ≡ false
glyph_starts d = start_by d (nat_lt d 10) refl

either_free : (t : Bool) (x y : List ℕ) → Free x → Free y → Free (if t then x else y)
either_free true x y h k = h
either_free false x y h k = k

either_starts : (t : Bool) (x y : List ℕ) → begins_otherwise x ≡ true → begins_otherwise y ≡ true → begins_otherwise (if t then x else y) ≡ true
either_starts true x y h k = h
either_starts false x y h k = k

onto_free : (k n : ℕ) (acc : List ℕ) → Free acc → Free (digits_onto k 10 false n acc)
onto_free zero n acc h = h
onto_free (suc k) n acc h =
    let more = free_cons (digit_glyph false (n % 10)) acc (glyph_free (n % 10)) h in
    either_free (n / 10 == 0) _ _ more (onto_free k (n / 10) (digit_glyph false (n % 10) ∷ acc) more)

starts_true : (c : ℕ) → (c == 65) ≡ false → not (c == 65) ≡ true
starts_true c e = ap not e

onto_starts : (k n c : ℕ) (acc : List ℕ) → (c == 65) ≡ false → begins_otherwise (digits_onto k 10 false n (c ∷ acc)) ≡ true
onto_starts zero n c acc e = starts_true c e
onto_starts (suc k) n c acc e =
    either_starts (n / 10 == 0) _ _ (starts_true _ (glyph_starts (n % 10))) (onto_starts k (n / 10) (digit_glyph false (n % 10)) (c ∷ acc) (glyph_starts (n % 10)))

any_starts : (k n : ℕ) → begins_otherwise (digits_onto (suc k) 10 false n []) ≡ true
any_starts k n =
    either_starts (n / 10 == 0) _ _ (starts_true _ (glyph_starts (n % 10))) (onto_starts k (n / 10) (digit_glyph false (n % 10)) [] (glyph_starts (n % 10)))

pub decimal_free : (n : ℕ) → Free (decimal n)
unfolding digits
decimal_free n = onto_free 64 n [] refl

pub decimal_starts : (n : ℕ) → begins_otherwise (decimal n) ≡ true
unfolding digits
decimal_starts n = any_starts 63 n

pub signed_free : (n : ℤ) → Free (signed_decimal n)
signed_free (pos n) = decimal_free n
signed_free (negsuc n) = free_cons 45 (decimal (suc n)) refl (decimal_free (suc n))
