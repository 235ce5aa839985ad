-- A bit raised or lowered in a list of words.
use Rattle.std.proofs.Common.{◌≡◌, ◌≢◌, ℕ, ◌+◌, ◌*◌, ◌/◌, ◌%◌, ◌^◌, ◌-◌, ◌≤◌, min, ◌<◌, ◌||◌, ◌&&◌, ◌⊎◌, not, Bool, true, false, eqb, List, length, get_or, set, sym, ap, ◌∙◌, arith, ⊎_elim}
use Rattle.std.proofs.Common.{w64}
use Rattle.std.specs.Prelude.{bit_or, bit_and}
use Rattle.std.specs.Int.{bit_at, bit_not}
use Rattle.std.proofs.lemmas.Bool.Decides.{nat_tests, eqb_tells}
use Rattle.std.proofs.lemmas.Nat.Bits.{bit_at_set_same, bit_at_set_other, bit_at_clear_same, bit_at_clear_other, bit_at_and, bit_at_not, bit_at-zero, bit_at-lt, same_from_bits_below}
use Rattle.std.proofs.lemmas.Bool.{eqb-true, eq-eqb}
use Rattle.std.proofs.lemmas.Nat.{and_le_l}
use Rattle.std.proofs.Common.{get_or-set_other, get_or-set_same}
use Rattle.sp_bits.specs.Table.{AreWithin, bit_in}

parts_same : (m k : ℕ) → m / 64 ≡ k / 64 → m % 64 ≡ k % 64 → m ≡ k
parts_same m k q r = omega arith

-- one word is changed at one bit: what is read at m
changed : (ws : List ℕ) (k m new : ℕ) (f : Bool → Bool) → k < 64 * length ws
    → (m ≢ k → f (bit_in ws m) ≡ bit_in ws m)
    → ((r : ℕ) → r < 64 → r ≢ k % 64 → bit_at new r ≡ bit_at (get_or ws (k / 64) 0) r)
    → (m ≡ k → eqb (bit_at new (k % 64)) 1 ≡ f (bit_in ws m))
    → bit_in (set ws (k / 64) new) m ≡ f (bit_in ws m)
changed ws k m new f within stays others there = ⊎_elim same_word other_word (eqb_tells (m / 64) (k / 64))
  where
    word : k / 64 < length ws
    word = omega arith

    other_word : (eqb (m / 64) (k / 64) ≡ false) × (m / 64 ≢ k / 64) → bit_in (set ws (k / 64) new) m ≡ f (bit_in ws m)
    other_word h =
        let read : get_or (set ws (k / 64) new) (m / 64) 0 ≡ get_or ws (m / 64) 0 = get_or-set_other ws (k / 64) (m / 64) new 0 h.1 in
        ap (λ x. eqb (bit_at x (m % 64)) 1) read ∙ sym (stays (λ e. h.1 (ap (λ x. x / 64) e)))

    same_word : (eqb (m / 64) (k / 64) ≡ true) × (m / 64 ≡ k / 64) → bit_in (set ws (k / 64) new) m ≡ f (bit_in ws m)
    same_word h = ap (λ x. eqb (bit_at x (m % 64)) 1) read ∙ ⊎_elim same_bit other_bit (eqb_tells (m % 64) (k % 64))
      where
        read : get_or (set ws (k / 64) new) (m / 64) 0 ≡ new
        read = rw h.1 (get_or-set_same ws (k / 64) new 0 word)

        same_bit : (eqb (m % 64) (k % 64) ≡ true) × (m % 64 ≡ k % 64) → eqb (bit_at new (m % 64)) 1 ≡ f (bit_in ws m)
        same_bit e = ap (λ x. eqb (bit_at new x) 1) e.1 ∙ there (parts_same m k h.1 e.1)

        other_bit : (eqb (m % 64) (k % 64) ≡ false) × (m % 64 ≢ k % 64) → eqb (bit_at new (m % 64)) 1 ≡ f (bit_in ws m)
        other_bit e =
            ap (λ x. eqb x 1) (others (m % 64) (omega arith) e.1)
            ∙ ap (λ q. eqb (bit_at (get_or ws q 0) (m % 64)) 1) (sym h.1)
            ∙ sym (stays (λ s. e.1 (ap (λ x. x % 64) s)))

pub raised : (ws : List ℕ) (k m : ℕ) → k < 64 * length ws → bit_in (set ws (k / 64) (bit_or (get_or ws (k / 64) 0) (1 * 2 ^ (k % 64) % 18446744073709551616))) m ≡ (eqb m k || bit_in ws m)
raised ws k m within =
    changed ws k m (bit_or (get_or ws (k / 64) 0) (1 * 2 ^ (k % 64) % 18446744073709551616)) (λ b. eqb m k || b) within
    (λ h. let t : eqb m k ≡ false = grind (arith, nat_tests) in ap (λ x. x || bit_in ws m) t)
    (λ r below apart. bit_at_set_other w64 (get_or ws (k / 64) 0) (k % 64) (omega arith) r apart)
    (λ h. let t : eqb m k ≡ true = grind (arith, nat_tests) in ap (λ x. eqb x 1) (bit_at_set_same w64 (get_or ws (k / 64) 0) (k % 64) (omega arith)) ∙ sym (ap (λ x. x || bit_in ws m) t))

pub lowered : (ws : List ℕ) (k m : ℕ) → k < 64 * length ws → bit_in (set ws (k / 64) (bit_and (get_or ws (k / 64) 0) (bit_not w64 (1 * 2 ^ (k % 64) % 18446744073709551616)))) m ≡ (not (eqb m k) && bit_in ws m)
lowered ws k m within =
    changed ws k m (bit_and (get_or ws (k / 64) 0) (bit_not w64 (1 * 2 ^ (k % 64) % 18446744073709551616))) (λ b. not (eqb m k) && b) within
    (λ h. let t : eqb m k ≡ false = grind (arith, nat_tests) in ap (λ x. not x && bit_in ws m) t)
    (λ r below apart. bit_at_clear_other w64 (get_or ws (k / 64) 0) (k % 64) (omega arith) r below apart)
    (λ h. let t : eqb m k ≡ true = grind (arith, nat_tests) in ap (λ x. eqb x 1) (bit_at_clear_same w64 (get_or ws (k / 64) 0) (k % 64) (omega arith)) ∙ sym (ap (λ x. not x && bit_in ws m) t))

-- a bit of x is one of y, where no bit of x is left after y's are taken away
bit_within : (x y r : ℕ) → y < 2 ^ 64 → bit_and x (bit_not w64 y) ≡ 0 → r < 64 → bit_at x r ≡ 1 → bit_at y r ≡ 1
bit_within x y r fits none below one =
    let a : bit_at (bit_and x (bit_not w64 y)) r ≡ min (bit_at x r) (bit_at (bit_not w64 y) r) = bit_at_and x (bit_not w64 y) r in
    let b : bit_at (bit_not w64 y) r ≡ 1 - bit_at y r = bit_at_not w64 y r fits below in
    let z : bit_at (bit_and x (bit_not w64 y)) r ≡ 0 = ap (λ n. bit_at n r) none ∙ bit_at-zero r in
    small (bit_at x r) (bit_at y r) (bit_at (bit_not w64 y) r) one (bit_at-lt y r) b (sym a ∙ z)
  where
    small : (p q s : ℕ) → p ≡ 1 → q < 2 → s ≡ 1 - q → min p s ≡ 0 → q ≡ 1
    small p q s e l f m = omega arith

place_in : (a k r : ℕ) → r < 64 → ((64 * a + (64 * k + r)) / 64 ≡ a + k) × ((64 * a + (64 * k + r)) % 64 ≡ r)
place_in a k r l = (omega arith, omega arith)

-- a bit of the word at a + k
pub bit_in_word : (ws : List ℕ) (a k r : ℕ) → r < 64 → bit_in ws (64 * a + (64 * k + r)) ≡ eqb (bit_at (get_or ws (a + k) 0) r) 1
bit_in_word ws a k r l =
    let e = place_in a k r l in
    ap (λ q. eqb (bit_at (get_or ws q 0) ((64 * a + (64 * k + r)) % 64)) 1) e.0 ∙ ap (λ q. eqb (bit_at (get_or ws (a + k) 0) q) 1) e.1

-- one more word
pub next_word : (ws : List ℕ) (a b k : ℕ) → get_or ws (b + k) 0 < 2 ^ 64 → bit_and (get_or ws (a + k) 0) (bit_not w64 (get_or ws (b + k) 0)) ≡ 0
    → AreWithin ws a b (64 * k) → AreWithin ws a b (64 * (k + 1))
next_word ws a b k fits none before m below there =
    ⊎_elim (λ (l : m < 64 * k). before m l there) (λ (g : 64 * k ≤ m). here (m - 64 * k) (omega arith) (omega arith)) (split m (64 * k))
  where
    split : (m n : ℕ) → (m < n) ⊎ (n ≤ m)
    split m n = grind arith

    here : (r : ℕ) → r < 64 → m ≡ 64 * k + r → bit_in ws (64 * b + m) ≡ true
    here r l e =
        let one : bit_at (get_or ws (a + k) 0) r ≡ 1 = eqb-true _ 1 (sym (bit_in_word ws a k r l) ∙ ap (λ x. bit_in ws (64 * a + x)) (sym e) ∙ there) in
        ap (λ x. bit_in ws (64 * b + x)) e ∙ bit_in_word ws b k r l ∙ eq-eqb _ 1 (bit_within _ _ r fits none l one)

-- no bit of x is left after y's are taken away, where each bit of x is one of y
none_left : (x y : ℕ) → x < 2 ^ 64 → y < 2 ^ 64 → ((r : ℕ) → r < 64 → bit_at x r ≡ 1 → bit_at y r ≡ 1) → bit_and x (bit_not w64 y) ≡ 0
none_left x y x_fits y_fits within =
    same_from_bits_below 64 (bit_and x (bit_not w64 y)) 0 (omega (arith, and_le_l x (bit_not w64 y))) (omega arith) (λ r below.
    bit_at_and x (bit_not w64 y) r ∙ small (bit_at x r) (bit_at y r) (bit_at (bit_not w64 y) r) (bit_at-lt x r) (within r below) (bit_at_not w64 y r y_fits below) ∙ sym (bit_at-zero r))
  where
    small : (p q s : ℕ) → p < 2 → (p ≡ 1 → q ≡ 1) → s ≡ 1 - q → min p s ≡ 0
    small p q s l one f = ⊎_elim (λ (e : p ≡ 0). omega arith) (λ (e : p ≡ 1). omega (arith, one e)) (split p l)
      where
        split : (p : ℕ) → p < 2 → (p ≡ 0) ⊎ (p ≡ 1)
        split p l = grind arith

-- the words at k, where the bits of all n words are within
pub word_left : (ws : List ℕ) (a b n k : ℕ) → k < n → get_or ws (a + k) 0 < 2 ^ 64 → get_or ws (b + k) 0 < 2 ^ 64 → AreWithin ws a b (64 * n)
    → bit_and (get_or ws (a + k) 0) (bit_not w64 (get_or ws (b + k) 0)) ≡ 0
word_left ws a b n k below a_fits b_fits all =
    none_left (get_or ws (a + k) 0) (get_or ws (b + k) 0) a_fits b_fits (λ r l one.
    eqb-true _ 1 (sym (bit_in_word ws b k r l) ∙ all (64 * k + r) (omega arith) (bit_in_word ws a k r l ∙ eq-eqb _ 1 one)))
