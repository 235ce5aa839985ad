-- Texts made of lines, cut where a line begins.
use Rattle.std.proofs.Common.{◌≡◌, ◌⊎◌, inl, inr, ℕ, Bool, true, false, not, ◌&&◌, ◌==◌, List, [], ◌∷◌, ◌++◌, codes, ap, refl, sym, ◌∙◌, subst}
use Rattle.sp_cert.specs.Answers.{feed_free}
use Rattle.sp_headline.specs.Lines.{HoldsLine, IsLineStart}
use Rattle.sp_headline.proofs.Texts.{Free, append_assoc, lines_text}
use Rattle.sp_hierarchy_headline.specs.Blocks.{AcceptedUnder, HasNoHeading}

-- each line holds no line feed
abbrev pub AreLines : List (List ℕ) → Type 0
AreLines [] = Unit {0}
AreLines (l ∷ ls) = Free l × AreLines ls

abbrev pub join : List (List ℕ) → List (List ℕ) → List (List ℕ)
join [] ms = ms
join (l ∷ ls) ms = l ∷ join ls ms

pub join_lines : (ls ms : List (List ℕ)) → AreLines ls → AreLines ms → AreLines (join ls ms)
join_lines [] ms h k = k
join_lines (l ∷ ls) ms h k = (h.0, join_lines ls ms h.1 k)

pub join_text : (ls ms : List (List ℕ)) → lines_text (join ls ms) ≡ lines_text ls ++ lines_text ms
join_text [] ms = refl
join_text (l ∷ ls) ms = ap (λ t. l ++ 10 ∷ t) (join_text ls ms) ∙ sym (append_assoc l (10 ∷ lines_text ls) (lines_text ms))

-- ---- cut

not_feed : (b : ℕ) (l : List ℕ) → Free (b ∷ l) → b ≡ 10 → ⊥
not_feed b l h e = by (subst (λ c. feed_free (c ∷ l) ≡ true) e h)
  where
    by : feed_free (10 ∷ l) ≡ true → ⊥
    by k = absurd cc

free_tail : (b : ℕ) (l : List ℕ) → Free (b ∷ l) → Free l
free_tail b l h = by (b == 10) h
  where
    by : (x : Bool) → (not x && feed_free l) ≡ true → feed_free l ≡ true
    by true e = absurd cc
    by false e = e

-- two texts that are one have one first line
pub same_line : (l m t u : List ℕ) → Free l → Free m → l ++ 10 ∷ t ≡ m ++ 10 ∷ u → (l ≡ m) × (t ≡ u)
same_line [] [] t u h k e = (refl, cc)
same_line [] (c ∷ m) t u h k e = let is : c ≡ 10 = cc in absurd (not_feed c m k is)
same_line (b ∷ l) [] t u h k e = let is : b ≡ 10 = cc in absurd (not_feed b l h is)
same_line (b ∷ l) (c ∷ m) t u h k e =
    let first : b ≡ c = cc in
    let rest : l ++ 10 ∷ t ≡ m ++ 10 ∷ u = cc in
    let both = same_line l m t u (free_tail b l h) (free_tail c m k) rest in
    let tail : l ≡ m = both.0 in
    (ap (λ x. x ∷ l) first ∙ ap (λ x. c ∷ x) tail, both.1)

-- a line feed stands at the end of the line, or behind it
pub record Behind (l rest f t : List ℕ) : Type 0 where
  pub more : List ℕ
  pub front : f ≡ l ++ 10 ∷ more
  pub text : rest ≡ (more ++ 10 ∷ []) ++ t

walk : (l rest f t : List ℕ) → Free l → l ++ 10 ∷ rest ≡ (f ++ 10 ∷ []) ++ t → ((f ≡ l) × (rest ≡ t)) ⊎ Behind l rest f t
walk [] rest [] t h e = inl (refl, cc)
walk [] rest (x ∷ f) t h e = inr record { more = f; front = cc; text = cc }
walk (b ∷ l) rest [] t h e = let is : b ≡ 10 = cc in absurd (not_feed b l h is)
walk (b ∷ l) rest (x ∷ f) t h e =
    let first : x ≡ b = cc in
    let tail : l ++ 10 ∷ rest ≡ (f ++ 10 ∷ []) ++ t = cc in
    elim (walk l rest f t (free_tail b l h) tail) [
      | inl r ↦ inl (ap (λ y. y ∷ f) first ∙ ap (λ y. b ∷ y) r.0, r.1)
      | inr r ↦ inr record { more = r.more; front = ap (λ y. y ∷ f) first ∙ ap (λ y. b ∷ y) r.front; text = r.text }
    ]

-- the lines above the place, and those below it
pub record Cut (ls : List (List ℕ)) (front rest : List ℕ) : Type 0 where
  pub above : List (List ℕ)
  pub below : List (List ℕ)
  pub is : ls ≡ join above below
  pub front_is : front ≡ lines_text above
  pub rest_is : rest ≡ lines_text below

cut_behind : (ls : List (List ℕ)) → AreLines ls → (f t : List ℕ) → lines_text ls ≡ (f ++ 10 ∷ []) ++ t → Cut ls (f ++ 10 ∷ []) t
cut_behind [] h [] t e = absurd cc
cut_behind [] h (x ∷ f) t e = absurd cc
cut_behind (l ∷ ls) h f t e = elim (walk l (lines_text ls) f t h.0 e) [
  | inl r ↦ record { above = l ∷ []; below = ls; is = refl; front_is = ap (λ y. y ++ 10 ∷ []) r.0; rest_is = sym r.1 }
  | inr r ↦
      let deeper = cut_behind ls h.1 r.more t r.text in
      record {
        above = l ∷ deeper.above;
        below = deeper.below;
        is = ap (λ y. l ∷ y) deeper.is;
        front_is = ap (λ y. y ++ 10 ∷ []) r.front ∙ append_assoc l (10 ∷ r.more) (10 ∷ []) ∙ ap (λ y. l ++ 10 ∷ y) deeper.front_is;
        rest_is = deeper.rest_is;
      }
]

-- a text is cut where a line begins
pub cut : (ls : List (List ℕ)) → AreLines ls → (front rest : List ℕ) → IsLineStart front → lines_text ls ≡ front ++ rest → Cut ls front rest
cut ls h front rest (inl e) is = record { above = []; below = ls; is = refl; front_is = e; rest_is = sym (is ∙ ap (λ y. y ++ rest) e) }
cut ls h front rest (inr (f, e)) is = subst (λ y. Cut ls y rest) (sym e) (cut_behind ls h f rest (is ∙ ap (λ y. y ++ rest) e))

pub lines_above : (above below : List (List ℕ)) → AreLines (join above below) → AreLines below
lines_above [] below h = h
lines_above (l ∷ above) below h = lines_above above below h.1

-- ---- lines that begin with a word

abbrev pub Begins : List ℕ → List ℕ → Type 0
Begins word l = (t : List ℕ) × (l ≡ word ++ t)

pub append_nothing : (t : List ℕ) → t ++ [] ≡ t
append_nothing [] = refl
append_nothing (x ∷ t) = ap (λ z. x ∷ z) (append_nothing t)

start_behind : (l f : List ℕ) → IsLineStart f → IsLineStart ((l ++ 10 ∷ []) ++ f)
start_behind l f (inl e) = inr (l, ap (λ y. (l ++ 10 ∷ []) ++ y) e ∙ append_nothing (l ++ 10 ∷ []))
start_behind l f (inr (g, e)) = inr ((l ++ 10 ∷ []) ++ g, ap (λ y. (l ++ 10 ∷ []) ++ y) e ∙ sym (append_assoc (l ++ 10 ∷ []) g (10 ∷ [])))

later : (word l t : List ℕ) → HoldsLine word t → HoldsLine word (l ++ 10 ∷ t)
later word l t h = record {
  front = (l ++ 10 ∷ []) ++ h.front;
  rest = h.rest;
  is = ap (λ y. l ++ 10 ∷ y) h.is ∙ sym (append_assoc l (10 ∷ []) (h.front ++ (word ++ h.rest))) ∙ sym (append_assoc (l ++ 10 ∷ []) h.front (word ++ h.rest));
  start = start_behind l h.front h.start;
}

first : (word l t : List ℕ) → Begins word l → HoldsLine word (l ++ 10 ∷ t)
first word l t (u, e) = record { front = []; rest = u ++ 10 ∷ t; is = ap (λ y. y ++ 10 ∷ t) e ∙ append_assoc word u (10 ∷ t); start = inl refl }

-- the line begins a part
abbrev pub IsHeading : List ℕ → Type 0
IsHeading l = Begins (codes "INTERFACE") l ⊎ Begins (codes "MAPPING") l

-- none of the lines does
abbrev pub HaveNoHeading : List (List ℕ) → Type 0
HaveNoHeading [] = Unit {0}
HaveNoHeading (l ∷ ls) = (¬ IsHeading l) × HaveNoHeading ls

not_heading : (l t : List ℕ) → HasNoHeading (l ++ 10 ∷ t) → IsHeading l → ⊥
not_heading l t h (inl b) = h.interface (first (codes "INTERFACE") l t b)
not_heading l t h (inr b) = h.mapping (first (codes "MAPPING") l t b)

pub no_headings : (ls : List (List ℕ)) → HasNoHeading (lines_text ls) → HaveNoHeading ls
no_headings [] h = tt
no_headings (l ∷ ls) h = (
  not_heading l (lines_text ls) h,
  no_headings ls (record {
    interface = λ k. h.interface (later (codes "INTERFACE") l (lines_text ls) k);
    mapping = λ k. h.mapping (later (codes "MAPPING") l (lines_text ls) k);
  }),
)

-- a line under a heading is a line
pub under_holds : (heading text : List ℕ) → AcceptedUnder heading text → HoldsLine (codes "ACCEPTED") text
under_holds heading text h =
    let above = h.before ++ heading in
    let line = codes "ACCEPTED" ++ h.after in
    record {
      front = (above ++ 10 ∷ []) ++ h.between;
      rest = h.after;
      is = h.is ∙ sym (append_assoc (above ++ 10 ∷ []) h.between line ∙ (append_assoc above (10 ∷ []) (h.between ++ line) ∙ append_assoc h.before heading (10 ∷ (h.between ++ line))));
      start = start_behind above h.between h.below;
    }
