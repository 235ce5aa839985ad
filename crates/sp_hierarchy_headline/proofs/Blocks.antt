-- A report made of blocks: where a line begins with ACCEPTED, what is claimed by the heading above it holds.
use Rattle.std.proofs.Common.{◌≡◌, ◌⊎◌, inl, inr, ℕ, Bool, true, false, ◌==◌, List, [], ◌∷◌, ◌++◌, Option, None, Some, codes, ap, refl, sym, ◌∙◌, subst}
use Rattle.sp_headline.proofs.Texts.{Free, lines_text}
use Rattle.sp_hierarchy_headline.specs.Blocks.{AcceptedUnder, HasNoHeading}
use Rattle.sp_hierarchy_headline.proofs.Inner.{AreInner, InInnerLines, starts_accepted, starts_heading}
use Rattle.sp_hierarchy_headline.proofs.Lines.{AreLines, Cut, HaveNoHeading, IsHeading, append_nothing, cut, join, join_lines, join_text, lines_above, no_headings, same_line}

module _ (Claim : List ℕ → Type 0) where
  -- what is claimed where this heading stands above; where none does, nothing is
  abbrev pub Claimed : Option (List ℕ) → Type 0
  Claimed None = ⊥
  Claimed (Some h) = Claim h

  -- Each line is a heading, or it begins neither as one nor with the letter A, unless what is claimed by the heading above it holds.
  abbrev pub AreSound : Option (List ℕ) → List (List ℕ) → Type 0
  AreSound o [] = Unit {0}
  AreSound o (l ∷ ls) = (IsHeading l × AreSound (Some l) ls) ⊎ ((starts_heading l ≡ false) × (starts_accepted l ≡ true → Claimed o) × AreSound o ls)

  -- a text of such lines
  pub record IsSound (o : Option (List ℕ)) (text : List ℕ) : Type 0 where
    pub lines : List (List ℕ)
    pub free : AreLines lines
    pub sound : AreSound o lines
    pub is : text ≡ lines_text lines

  -- ---- what stands under a heading

  heading_apart : (l : List ℕ) → IsHeading l → starts_heading l ≡ true
  heading_apart l (inl (t, e)) = ap starts_heading e
  heading_apart l (inr (t, e)) = ap starts_heading e

  heading_other : (l : List ℕ) → IsHeading l → starts_accepted l ≡ false
  heading_other l (inl (t, e)) = ap starts_accepted e
  heading_other l (inr (t, e)) = ap starts_accepted e

  not_both : (x : Bool) → x ≡ true → x ≡ false → ⊥
  not_both true e f = absurd cc
  not_both false e f = absurd cc

  line_under : (h : List ℕ) (between : List (List ℕ)) (l : List ℕ) (more : List (List ℕ)) → AreSound (Some h) (join between (l ∷ more)) → HaveNoHeading between → starts_accepted l ≡ true → Claim h
  line_under h [] l more (inl (is, s)) n a = absurd (not_both (starts_accepted l) a (heading_other l is))
  line_under h [] l more (inr (plain, c, s)) n a = c a
  line_under h (b ∷ bs) l more (inl (is, s)) n a = absurd (n.0 is)
  line_under h (b ∷ bs) l more (inr (plain, c, s)) n a = line_under h bs l more s n.1 a

  heading_under : (o : Option (List ℕ)) (above : List (List ℕ)) (h : List ℕ) (rest : List (List ℕ)) → AreSound o (join above (h ∷ rest)) → IsHeading h → AreSound (Some h) rest
  heading_under o [] h rest (inl (is, s)) k = s
  heading_under o [] h rest (inr (plain, c, s)) k = absurd (not_both (starts_heading h) (heading_apart h k) plain)
  heading_under o (x ∷ xs) h rest (inl (is, s)) k = heading_under (Some x) xs h rest s k
  heading_under o (x ∷ xs) h rest (inr (plain, c, s)) k = heading_under o xs h rest s k

  -- the line that the text begins with
  record Headed (h more : List ℕ) (ls : List (List ℕ)) : Type 0 where
    pub rest : List (List ℕ)
    pub is : ls ≡ h ∷ rest
    pub more_is : more ≡ lines_text rest

  no_text : (h more : List ℕ) → h ++ 10 ∷ more ≡ [] → ⊥
  no_text [] more e = absurd cc
  no_text (b ∷ h) more e = absurd cc

  headed : (h more : List ℕ) (ls : List (List ℕ)) → Free h → AreLines ls → h ++ 10 ∷ more ≡ lines_text ls → Headed h more ls
  headed h more [] free k e = absurd (no_text h more e)
  headed h more (l ∷ ls) free k e =
      let both = same_line h l more (lines_text ls) free k.0 e in
      record { rest = ls; is = ap (λ x. x ∷ ls) (sym both.0); more_is = both.1 }

  record Accepted (after : List ℕ) (ls : List (List ℕ)) : Type 0 where
    pub line : List ℕ
    pub rest : List (List ℕ)
    pub is : ls ≡ line ∷ rest
    pub starts : starts_accepted line ≡ true

  accepted_line : (after : List ℕ) (ls : List (List ℕ)) → codes "ACCEPTED" ++ after ≡ lines_text ls → Accepted after ls
  accepted_line after [] e = absurd cc
  accepted_line after ([] ∷ ls) e = let is : ◌≡◌ {A = ℕ} 65 10 = cc in absurd (apart is)
    where
      apart : ◌≡◌ {A = ℕ} 65 10 → ⊥
      apart i = not_both (65 == 10) (subst (λ c. (65 == c) ≡ true) i refl) refl
  accepted_line after ((b ∷ l) ∷ ls) e = let is : b ≡ 65 = cc in record { line = b ∷ l; rest = ls; is = refl; starts = ap (λ c. c == 65) is }

  module _ (h : List ℕ) (heading : IsHeading h) where
    -- the lines below the heading
    within : (rest : List (List ℕ)) (between after : List ℕ) → AreLines rest → AreSound (Some h) rest → (c : Cut rest between (codes "ACCEPTED" ++ after)) → HaveNoHeading c.above → Claim h
    within rest between after free sound c none =
        let a = accepted_line after c.below c.rest_is in
        let here : AreSound (Some h) (join c.above (a.line ∷ a.rest)) = subst (λ y. AreSound (Some h) (join c.above y)) a.is (subst (AreSound (Some h)) c.is sound) in
        line_under h c.above a.line a.rest here none a.starts

    pub claim_under : (text : List ℕ) → IsSound None text → AcceptedUnder h text → Claim h
    claim_under text s u =
        let tail = u.between ++ (codes "ACCEPTED" ++ u.after) in
        let c = cut s.lines s.free u.before (h ++ (codes "\n" ++ tail)) u.start (sym s.is ∙ u.is) in
        let free = lines_above c.above c.below (subst AreLines c.is s.free) in
        let d = headed h tail c.below u.line free c.rest_is in
        let below : AreSound (Some h) d.rest = heading_under None c.above h d.rest (subst (λ y. AreSound None (join c.above y)) d.is (subst (AreSound None) c.is s.sound)) heading in
        let lower = (subst AreLines d.is free).1 in
        let k = cut d.rest lower u.between (codes "ACCEPTED" ++ u.after) u.below (sym d.more_is) in
        within d.rest u.between u.after lower below k (no_headings k.above (subst HasNoHeading {y = lines_text k.above} k.front_is u.block))

  -- ---- made of such texts

  sound_any : (o : Option (List ℕ)) (ls : List (List ℕ)) → AreSound None ls → AreSound o ls
  sound_any o [] s = tt
  sound_any o (l ∷ ls) (inl s) = inl s
  sound_any o (l ∷ ls) (inr (plain, c, s)) = inr (plain, (λ a. absurd (c a)), sound_any o ls s)

  join_sound : (o : Option (List ℕ)) (ls ms : List (List ℕ)) → AreSound o ls → AreSound None ms → AreSound o (join ls ms)
  join_sound o [] ms s t = sound_any o ms t
  join_sound o (l ∷ ls) ms (inl (is, s)) t = inl (is, join_sound (Some l) ls ms s t)
  join_sound o (l ∷ ls) ms (inr (plain, c, s)) t = inr (plain, c, join_sound o ls ms s t)

  pub sound_append : (o : Option (List ℕ)) (t u : List ℕ) → IsSound o t → IsSound None u → IsSound o (t ++ u)
  sound_append o t u s k = record {
    lines = join s.lines k.lines;
    free = join_lines s.lines k.lines s.free k.free;
    sound = join_sound o s.lines k.lines s.sound k.sound;
    is = ap (λ x. x ++ u) s.is ∙ ap (λ x. lines_text s.lines ++ x) k.is ∙ sym (join_text s.lines k.lines);
  }

  pub sound_nothing : (o : Option (List ℕ)) → IsSound o []
  sound_nothing o = record { lines = []; free = tt; sound = tt; is = refl }

  -- a heading above lines for which it stands
  pub sound_block : (o : Option (List ℕ)) (h t : List ℕ) → Free h → IsHeading h → IsSound (Some h) t → IsSound o (h ++ (codes "\n" ++ t))
  sound_block o h t free is s = record {
    lines = h ∷ s.lines;
    free = (free, s.free);
    sound = inl (is, s.sound);
    is = ap (λ x. h ++ 10 ∷ x) s.is;
  }

  -- lines that are neither, above others
  inner_free : (ls ms : List (List ℕ)) → AreInner ls → AreLines ms → AreLines (join ls ms)
  inner_free [] ms h k = k
  inner_free (l ∷ ls) ms h k = (h.0.free, inner_free ls ms h.1 k)

  inner_sound : (o : Option (List ℕ)) (ls ms : List (List ℕ)) → AreInner ls → AreSound o ms → AreSound o (join ls ms)
  inner_sound o [] ms h s = s
  inner_sound o (l ∷ ls) ms h s = inr (h.0.heading, (λ a. absurd (not_both (starts_accepted l) a h.0.accepted)), inner_sound o ls ms h.1 s)

  pub sound_inner : (o : Option (List ℕ)) (t u : List ℕ) → InInnerLines t → IsSound o u → IsSound o (t ++ u)
  sound_inner o t u h s = record {
    lines = join h.lines s.lines;
    free = inner_free h.lines s.lines h.inner s.free;
    sound = inner_sound o h.lines s.lines h.inner s.sound;
    is = ap (λ x. x ++ u) h.is ∙ ap (λ x. lines_text h.lines ++ x) s.is ∙ sym (join_text h.lines s.lines);
  }

  pub sound_alone : (o : Option (List ℕ)) (t : List ℕ) → InInnerLines t → IsSound o t
  sound_alone o t h = subst (IsSound o) (append_nothing t) (sound_inner o t [] h (sound_nothing o))

  -- a line that may begin with the letter A, where what is claimed by the heading above it holds
  pub sound_line : (h l : List ℕ) → Free l → starts_heading l ≡ false → Claim h → IsSound (Some h) (l ++ 10 ∷ [])
  sound_line h l free plain c = record { lines = l ∷ []; free = (free, tt); sound = inr (plain, (λ a. c), tt); is = refl }
