-- Texts made of lines of which none begins with the letter A.
use Rattle.std.proofs.Common.{◌≡◌, ◌⊎◌, inl, inr, ℕ, Bool, true, false, not, ◌&&◌, ◌==◌, List, [], ◌∷◌, ◌++◌, codes, ap, refl, sym, ◌∙◌, subst}
use Rattle.sp_cert.specs.Answers.{feed_free}
use Rattle.sp_headline.specs.Lines.{HoldsAccepted, IsLineStart}

-- ---- no line feed

abbrev pub Free : List ℕ → Type 0
Free t = feed_free t ≡ true

first_true : (x y : Bool) → (x && y) ≡ true → x ≡ true
first_true true y e = refl
first_true false y e = absurd cc

second_true : (x y : Bool) → (x && y) ≡ true → y ≡ true
second_true true y e = e
second_true false y e = absurd cc

both_true : (x y : Bool) → x ≡ true → y ≡ true → (x && y) ≡ true
both_true true y e h = h
both_true false y e h = absurd cc

pub free_append : (t u : List ℕ) → Free t → Free u → Free (t ++ u)
free_append [] u h k = k
free_append (b ∷ t) u h k =
    both_true (not (b == 10)) (feed_free (t ++ u)) (first_true (not (b == 10)) (feed_free t) h) (free_append t u (second_true (not (b == 10)) (feed_free t) h) k)

pub free_cons : (b : ℕ) (t : List ℕ) → (b == 10) ≡ false → Free t → Free (b ∷ t)
free_cons b t e h = both_true (not (b == 10)) (feed_free t) (ap not e) h

-- ---- lines

-- whether the text begins with the letter A
abbrev pub begins_with_a : List ℕ → Bool
begins_with_a [] = false
begins_with_a (b ∷ t) = b == 65

-- whether it begins with something else
abbrev pub begins_otherwise : List ℕ → Bool
begins_otherwise [] = false
begins_otherwise (b ∷ t) = not (b == 65)

pub otherwise_append : (t u : List ℕ) → begins_otherwise t ≡ true → begins_otherwise (t ++ u) ≡ true
otherwise_append [] u e = absurd cc
otherwise_append (b ∷ t) u e = e

pub record IsQuiet (line : List ℕ) : Type 0 where
  pub free : Free line
  pub start : begins_with_a line ≡ false

abbrev pub AreQuiet : List (List ℕ) → Type 0
AreQuiet [] = Unit {0}
AreQuiet (l ∷ ls) = IsQuiet l × AreQuiet ls

-- the text of lines
abbrev pub lines_text : List (List ℕ) → List ℕ
lines_text [] = []
lines_text (l ∷ ls) = l ++ 10 ∷ lines_text ls

pub record InQuietLines (text : List ℕ) : Type 0 where
  pub lines : List (List ℕ)
  pub quiet : AreQuiet lines
  pub is : text ≡ lines_text lines

-- a line feed stands at the end of the line l, or behind it
walk : (l rest f t : List ℕ) → Free l → l ++ 10 ∷ rest ≡ (f ++ 10 ∷ []) ++ t → (rest ≡ t) ⊎ ((g : List ℕ) × (rest ≡ (g ++ 10 ∷ []) ++ t))
walk [] rest [] t h e = inl cc
walk [] rest (x ∷ f) t h e = inr (f, cc)
walk (b ∷ l) rest [] t h e =
    let is : b ≡ 10 = cc in
    absurd (contra (first_true (not (b == 10)) (feed_free l) h) is)
  where
    contra : not (b == 10) ≡ true → b ≡ 10 → ⊥
    contra n i = absurd (subst (λ c. not (c == 10) ≡ true → ⊥) (sym i) (λ (k : false ≡ true). absurd cc) n)
walk (b ∷ l) rest (x ∷ f) t h e = walk l rest f t (second_true (not (b == 10)) (feed_free l) h) cc

not_letter : (65 == 10) ≡ true → ⊥
not_letter e = absurd cc

feed_letter : ◌≡◌ {A = ℕ} 10 65 → ⊥
feed_letter e = not_letter (subst (λ c. (c == 10) ≡ true) e refl)

first_line : (ls : List (List ℕ)) (w : List ℕ) → AreQuiet ls → lines_text ls ≡ 65 ∷ w → ⊥
first_line [] w q e = absurd cc
first_line ([] ∷ ls) w q e =
    feed_letter cc
first_line ((b ∷ l) ∷ ls) w q e =
    let is : b ≡ 65 = cc in
    contra q.0.start is
  where
    contra : (b == 65) ≡ false → b ≡ 65 → ⊥
    contra n i = subst (λ c. (c == 65) ≡ false → ⊥) (sym i) (λ (k : true ≡ false). absurd cc) n

later_line : (ls : List (List ℕ)) (f w : List ℕ) → AreQuiet ls → lines_text ls ≡ (f ++ 10 ∷ []) ++ (65 ∷ w) → ⊥
later_line [] [] w q e = absurd cc
later_line [] (x ∷ f) w q e = absurd cc
later_line (l ∷ ls) f w q e = elim (walk l (lines_text ls) f (65 ∷ w) q.0.free e) [
  | inl r ↦ first_line ls w q.1 r
  | inr g ↦ later_line ls g.0 w q.1 g.1
]

-- no line of such a text begins with ACCEPTED
pub none_accepted : (t : List ℕ) → InQuietLines t → HoldsAccepted t → ⊥
none_accepted t q h = elim h.start [
  | inl e ↦ first_line q.lines _ q.quiet (sym q.is ∙ h.is ∙ ap (λ f. f ++ (codes "ACCEPTED" ++ h.rest)) e)
  | inr b ↦ later_line q.lines b.0 _ q.quiet (sym q.is ∙ h.is ∙ ap (λ f. f ++ (codes "ACCEPTED" ++ h.rest)) b.1)
]

-- ---- made of such texts

pub append_assoc : (a b c : List ℕ) → (a ++ b) ++ c ≡ a ++ (b ++ c)
append_assoc [] b c = refl
append_assoc (x ∷ a) b c = ap (λ t. x ∷ t) (append_assoc a b c)

abbrev join : List (List ℕ) → List (List ℕ) → List (List ℕ)
join [] ms = ms
join (l ∷ ls) ms = l ∷ join ls ms

join_quiet : (ls ms : List (List ℕ)) → AreQuiet ls → AreQuiet ms → AreQuiet (join ls ms)
join_quiet [] ms h k = k
join_quiet (l ∷ ls) ms h k = (h.0, join_quiet ls ms h.1 k)

join_text : (ls ms : List (List ℕ)) → lines_text (join ls ms) ≡ lines_text ls ++ lines_text ms
join_text [] ms = refl
join_text (l ∷ ls) ms = ap (λ t. l ++ 10 ∷ t) (join_text ls ms) ∙ sym (append_assoc l (10 ∷ lines_text ls) (lines_text ms))

pub quiet_nothing : InQuietLines []
quiet_nothing = record { lines = []; quiet = tt; is = refl }

pub quiet_append : (t u : List ℕ) → InQuietLines t → InQuietLines u → InQuietLines (t ++ u)
quiet_append t u h k = record {
  lines = join h.lines k.lines;
  quiet = join_quiet h.lines k.lines h.quiet k.quiet;
  is = ap (λ s. s ++ u) h.is ∙ ap (λ s. lines_text h.lines ++ s) k.is ∙ sym (join_text h.lines k.lines);
}

-- a text that ends with its only line feed
pub record EndsLine (text : List ℕ) : Type 0 where
  pub line : List ℕ
  pub free : Free line
  pub is : text ≡ line ++ 10 ∷ []

pub ends_with : (line : List ℕ) → Free line → EndsLine (line ++ 10 ∷ [])
ends_with line h = record { line = line; free = h; is = refl }

pub ends_behind : (a t : List ℕ) → Free a → EndsLine t → EndsLine (a ++ t)
ends_behind a t h k = record {
  line = a ++ k.line;
  free = free_append a k.line h k.free;
  is = ap (λ s. a ++ s) k.is ∙ sym (append_assoc a k.line (10 ∷ []));
}

not_true : (x : Bool) → not x ≡ true → x ≡ false
not_true true e = absurd cc
not_true false e = refl

starts : (line : List ℕ) → begins_otherwise (line ++ 10 ∷ []) ≡ true → begins_with_a line ≡ false
starts [] e = refl
starts (b ∷ l) e = not_true (b == 65) e

pub quiet_line : (t : List ℕ) → EndsLine t → begins_otherwise t ≡ true → InQuietLines t
quiet_line t h e = record {
  lines = h.line ∷ [];
  quiet = (record { free = h.free; start = starts h.line (subst (λ s. begins_otherwise s ≡ true) h.is e) }, tt);
  is = h.is;
}
