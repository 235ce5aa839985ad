-- Texts made of lines that are no heading and don't begin with the letter A; and that numbers in decimal begin so.
use Rattle.std.proofs.Common.{◌≡◌, ◌∙◌, ℕ, zero, suc, ◌+◌, ◌/◌, ◌%◌, Bool, true, false, ◌&&◌, ◌==◌, not, if◌then◌else◌, nat_lt, List, [], ◌∷◌, ◌++◌, ap, arith, refl, sym, subst}
use Rattle.std.specs.Fmt.{decimal, digit_glyph, digits, digits_onto}
use Rattle.std.proofs.lemmas.Bool.Decides.{nat_tests}
use Rattle.sp_headline.proofs.Texts.{EndsLine, Free, lines_text}
use Rattle.sp_hierarchy_headline.proofs.Lines.{join, join_text}

-- whether a line begins with the first letter of ACCEPTED
abbrev pub starts_accepted : List ℕ → Bool
starts_accepted [] = false
starts_accepted (b ∷ l) = b == 65

-- whether it begins with that of INTERFACE or of MAPPING
abbrev pub starts_heading : List ℕ → Bool
starts_heading [] = false
starts_heading (b ∷ l) = if b == 73 then true else b == 77

pub record IsInner (line : List ℕ) : Type 0 where
  pub free : Free line
  pub heading : starts_heading line ≡ false
  pub accepted : starts_accepted line ≡ false

abbrev pub AreInner : List (List ℕ) → Type 0
AreInner [] = Unit {0}
AreInner (l ∷ ls) = IsInner l × AreInner ls

pub record InInnerLines (text : List ℕ) : Type 0 where
  pub lines : List (List ℕ)
  pub inner : AreInner lines
  pub is : text ≡ lines_text lines

-- ---- made of such texts

pub inner_nothing : InInnerLines []
inner_nothing = record { lines = []; inner = tt; is = refl }

join_inner : (ls ms : List (List ℕ)) → AreInner ls → AreInner ms → AreInner (join ls ms)
join_inner [] ms h k = k
join_inner (l ∷ ls) ms h k = (h.0, join_inner ls ms h.1 k)

pub inner_append : (t u : List ℕ) → InInnerLines t → InInnerLines u → InInnerLines (t ++ u)
inner_append t u h k = record {
  lines = join h.lines k.lines;
  inner = join_inner h.lines k.lines h.inner k.inner;
  is = ap (λ s. s ++ u) h.is ∙ ap (λ s. lines_text h.lines ++ s) k.is ∙ sym (join_text h.lines k.lines);
}

-- whether the byte is none of those three letters
abbrev pub is_inner : ℕ → Bool
is_inner b = not (b == 65) && (not (b == 73) && not (b == 77))

-- whether the text begins with such a byte
abbrev pub begins_inner : List ℕ → Bool
begins_inner [] = false
begins_inner (b ∷ t) = is_inner b

pub inner_front : (t u : List ℕ) → begins_inner t ≡ true → begins_inner (t ++ u) ≡ true
inner_front [] u e = absurd cc
inner_front (b ∷ t) u e = e

apart_accepted : (x y z : Bool) → (not x && (not y && not z)) ≡ true → x ≡ false
apart_accepted true y z e = absurd cc
apart_accepted false y z e = refl

apart_heading : (x y z : Bool) → (not x && (not y && not z)) ≡ true → (if y then true else z) ≡ false
apart_heading true y z e = absurd cc
apart_heading false true z e = absurd cc
apart_heading false false true e = absurd cc
apart_heading false false false e = refl

line_inner : (line : List ℕ) → Free line → begins_inner (line ++ 10 ∷ []) ≡ true → IsInner line
line_inner [] free e = record { free = free; heading = refl; accepted = refl }
line_inner (b ∷ l) free e = record { free = free; heading = apart_heading (b == 65) (b == 73) (b == 77) e; accepted = apart_accepted (b == 65) (b == 73) (b == 77) e }

pub inner_line : (t : List ℕ) → EndsLine t → begins_inner t ≡ true → InInnerLines t
inner_line t h e = record {
  lines = h.line ∷ [];
  inner = (line_inner h.line h.free (subst (λ s. begins_inner s ≡ true) h.is e), tt);
  is = h.is;
}

-- ---- numbers in decimal

all_apart : (x y z : Bool) → x ≡ false → y ≡ false → z ≡ false → (not x && (not y && not z)) ≡ true
all_apart false false false d e f = refl
all_apart true y z d e f = absurd cc
all_apart false true z d e f = absurd cc
all_apart false false true d e f = absurd cc

-- a digit is another byte than this one
digit_by : (c d : ℕ) (t : Bool) → nat_lt d 10 ≡ t → nat_lt 57 c ≡ true → nat_lt c 97 ≡ true → ((if t then 48 + d else 87 + d) == c) ≡ false
digit_by c d true e low high = grind (arith, nat_tests)
digit_by c d false e low high = grind (arith, nat_tests)

digit_inner : (d : ℕ) → is_inner (digit_glyph false d) ≡ true
digit_inner d =
    let glyph = digit_glyph false d in
    all_apart (glyph == 65) (glyph == 73) (glyph == 77) (digit_by 65 d (nat_lt d 10) refl refl refl) (digit_by 73 d (nat_lt d 10) refl refl refl) (digit_by 77 d (nat_lt d 10) refl refl refl)

either_inner : (t : Bool) (x y : List ℕ) → begins_inner x ≡ true → begins_inner y ≡ true → begins_inner (if t then x else y) ≡ true
either_inner true x y h k = h
either_inner false x y h k = k

onto_inner : (k n c : ℕ) (acc : List ℕ) → is_inner c ≡ true → begins_inner (digits_onto k 10 false n (c ∷ acc)) ≡ true
onto_inner zero n c acc e = e
onto_inner (suc k) n c acc e =
    either_inner (n / 10 == 0) _ _ (digit_inner (n % 10)) (onto_inner k (n / 10) (digit_glyph false (n % 10)) (c ∷ acc) (digit_inner (n % 10)))

any_inner : (k n : ℕ) → begins_inner (digits_onto (suc k) 10 false n []) ≡ true
any_inner k n = either_inner (n / 10 == 0) _ _ (digit_inner (n % 10)) (onto_inner k (n / 10) (digit_glyph false (n % 10)) [] (digit_inner (n % 10)))

pub decimal_inner : (n : ℕ) → begins_inner (decimal n) ≡ true
unfolding digits
decimal_inner n = any_inner 63 n
