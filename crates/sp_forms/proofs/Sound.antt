-- Where one token ahead decides, the reader of a grammar finds what the grammar means.
use Rattle.std.proofs.Common.{◌≡◌, ℕ, suc, ◌-◌, ◌≤◌, inl, inr, true, false, cond, not, IsTrue, List, [], ◌∷◌, Some, refl, sym, ◌∙◌, arith}
use Rattle.sp_text.specs.declared.token.Token.{Token}
use Rattle.sp_tree.specs.declared.names.Ident.{Ident}
use Rattle.sp_grammar.specs.Codes.{name_code, number_code}
use Rattle.sp_grammar.specs.Lang.{Lang, Prefix, has, apart, without}
use Rattle.sp_grammar.specs.Within.{Limits}
use Rattle.sp_grammar.proofs.Laws.{Fine, and_left, and_right, has-split}
use Rattle.sp_grammar.proofs.Chain.{Sub, sub_refl, sub_prefix}
use Rattle.sp_grammar.proofs.Forms.{Below, Form, empty_made, empty_left}
use Rattle.sp_grammar.proofs.Guards.{without-has}
use Rattle.sp_grammar.proofs.Inside.{only}
use Rattle.sp_grammar.proofs.Tokens.{name_there, number_there}
use Rattle.sp_grammar.proofs.Within.{none_begins}
use Rattle.sp_expression.specs.Grammar.{at, expression}
use Rattle.sp_expression.proofs.Laws.{grows}
use Rattle.sp_expression.proofs.Steps.{first_of}
use Rattle.sp_forms.specs.Cursors.{lookahead, left, unexpected, Reader}
use Rattle.sp_forms.specs.Answers.{Meets}
use Rattle.sp_forms.specs.Grammars.{Gram, token, name, digits, expr, seq, either, optional, star, made, not_from, again, line, meaning, no_form, nullable, first, follow, is_ll1}
use Rattle.sp_forms.specs.Readers.{read, none}
use Rattle.sp_forms.proofs.Laws.{is_false, all_of, has_cond, joined, before, right_of, no_form_fine, fine_gram, grows_gram, empty_gram, nulls_gram, no_end_gram}
use Rattle.sp_forms.proofs.Parts.{cursor, Finds, by_test, stops_here, meets_token, meets_name, meets_digits, meets_expr, meets_seq, meets_made, meets_left, meets_right, Opens, meets_given, meets_omitted, meets_star, meets_not_from}

abbrev pub limits : ℕ → ℕ → Limits
limits h n = record { height = h; nesting = n }

-- what is said of the recursive form F, which begins with a and is followed by z
pub record Again {R : Type 0} (ts : List Token) (a z : List ℕ) (F : Limits → Lang R) : Type 0 where
  pub fine : (l : Limits) → Fine (at ts) false a z (F l)
  pub grows : (l k : Limits) → Below l k → Sub (F l) (F k)
  pub empty : (l : Limits) → 1 ≤ l.height → (m : ℕ) → Prefix (F l) m m
  pub opens : Opens ts a F
  pub no_end : IsTrue (has a 0) → ⊥

-- where none stands
pub no_again : (ts : List Token) → Again ts [] [] (λ (l : Limits). no_form {V = ⊥})
no_again ts = record {
  fine = λ l. no_form_fine (at ts);
  grows = λ l k b. sub_refl _;
  empty = λ l h m. inl refl;
  opens = λ i h. absurd cc;
  no_end = λ h. cc;
}

module _ (ts : List Token) where
  abbrev pub Means : {R V : Type 0} → (Limits → Lang R) → Gram R V → Limits → Lang V
  Means F g l = meaning g (F l) ts l.height

  -- a form with its laws
  abbrev pub form_of : {R V : Type 0} {a z : List ℕ} {F : Limits → Lang R} → Again ts a z F → (g : Gram R V) → IsTrue (is_ll1 a z g) → Form (at ts) V
  form_of {a = a} {z = z} {F = F} A g d = record {
    null = nullable g;
    first = first a g;
    more = follow a z g;
    form = Means F g;
    fine = λ l. fine_gram ts a z (F l) (A.fine l) g d l.height;
    grows = λ l k b. grows_gram ts (F l) (F k) (A.grows l k b) g l.height k.height b.height;
    empty = λ l h m. empty_gram ts a z (F l) (A.fine l) (A.empty l h) g d l.height h m;
  }

  -- the tokens that a form begins with do begin it
  pub opens : {R V : Type 0} (a z : List ℕ) (F : Limits → Lang R) (A : Again ts a z F) (g : Gram R V) → IsTrue (is_ll1 a z g) → Opens ts (first a g) (Means F g)
  opens a z F A (token y) d i h = (limits 1 0, omega arith, inr (tt, (only y _ h, refl)))
  opens a z F A name d i h = let (n, s, e) = name_there ts i (only name_code _ h) in (limits 1 0, omega arith, inr (record { name = n; span = s }, (e, refl)))
  opens a z F A digits d i h = let (n, s, e) = number_there ts i (only number_code _ h) in (limits 1 0, omega arith, inr (n, ((s, e), refl)))
  opens a z F A expr d i h = let (y, p) = first_of ts i h in (limits (suc y) 0, omega arith, sub_prefix (expression ts y) (expression ts (suc y)) i (suc i) (grows ts y).expression p)
  opens a z F A (seq f g) d i h =
      let r = and_right (is_ll1 a z f) _ d in
      elim (has-split (first a f) (cond (nullable f) (first a g) []) (at ts i) h) [
        | inl y ↦ (
            let (l, lh, p) = opens a z F A f (and_left _ _ d) i y in
            (l, lh, before (Means F f l) (Means F g l) i (suc i) p ((form_of A g (and_left _ _ r)).empty l lh (suc i))))
        | inr y ↦ (
            let (n, u) = has_cond (nullable f) (first a g) (at ts i) y in
            let (l, lh, p) = opens a z F A g (and_left _ _ r) i u in
            let (v, w) = nulls_gram ts (F l) f n l.height i in
            (l, lh, joined (Means F f l) (Means F g l) i i (suc i) v w p))
      ]
  opens a z F A (either f g) d i h =
      let (df, dg, p, q, clear) = all_of _ _ (nullable f) (nullable g) _ d in
      elim (has-split (first a f) (first a g) (at ts i) h) [
        | inl y ↦ (let (l, lh, p) = opens a z F A f df i y in (l, lh, empty_left (Means F f l) (Means F g l) i (suc i) p))
        | inr y ↦ (let (l, lh, p) = opens a z F A g dg i y in (l, lh, right_of (Means F f l) (Means F g l) i (suc i) p))
      ]
  opens a z F A (optional f) d i h = let (l, lh, p) = opens a z F A f (and_left _ _ d) i h in (l, lh, elim p [ inl w ↦ inl w | inr (v, w) ↦ inr (Some v, w) ])
  opens a z F A (star f) d i h = let (l, lh, p) = opens a z F A f (and_left _ _ d) i h in (l, lh, elim p [ inl w ↦ inl ([], i, refl, w) | inr (v, w) ↦ inr (v ∷ [], (suc i, w, refl)) ])
  opens a z F A (made k f) d i h = let (l, lh, p) = opens a z F A f d i h in (l, lh, empty_made (k ts) (Means F f l) i (suc i) p)
  opens a z F A (not_from xs f) d i h =
      let (t, off) = without-has xs (first a f) (at ts i) h in
      let (l, lh, p) = opens a z F A f (and_left _ _ d) i t in
      (l, lh, elim p [ inl w ↦ inl (w, λ lt. off) | inr (v, w) ↦ inr (v, (w, off)) ])
  opens a z F A again d i h = A.opens i h
  opens a z F A (line f) d i h = opens [] [] (λ l. no_form) (no_again ts) f d i h

  pub none_found : (b : Limits) → Finds ts b (λ (l : Limits). no_form {V = ⊥}) none
  none_found b end i = stops_here ts b (λ l. no_form) end i (record { so_far = inl refl; front = λ l m p. elim p [ inl e ↦ omega arith | inr (v, w) ↦ absurd w ]; not_whole = λ l v w. w })

  -- The theorem. e reads the recursive form as it means within b.
  pub sound : {R V : Type 0} (a z : List ℕ) (F : Limits → Lang R) (A : Again ts a z F) (e : Reader R) (b : Limits) → 1 ≤ b.height → Finds ts b F e
      → (g : Gram R V) → IsTrue (is_ll1 a z g) → Finds ts b (Means F g) (read g a e b.height)
  unfolding lookahead left
  sound a z F A e b u E (token y) d end i = meets_token ts y b end i
  sound a z F A e b u E name d end i = meets_name ts b end i
  sound a z F A e b u E digits d end i = meets_digits ts b end i
  sound a z F A e b u E expr d end i = meets_expr ts b.height b.nesting u end i
  sound a z F A e b u E (seq f g) d end i =
      let df = and_left _ _ d in
      let r = and_right (is_ll1 a z f) _ d in
      let dg = and_left _ _ r in
      meets_seq ts (form_of A f df) (form_of A g dg) (and_right (is_ll1 a z g) _ r) b u (read g a e b.height) (sound a z F A e b u E g dg) end i (read f a e b.height (cursor ts end i)) (sound a z F A e b u E f df end i)
  sound a z F A e b u E (either f g) d end i =
      let (df, dg, p, q, clear) = all_of _ _ (nullable f) (nullable g) _ d in
      by_test ts (Meets b (Means F (either f g)) (cursor ts end i)) (has (first a f) (at ts i)) _ _
      (λ s. meets_left ts (form_of A f df) (form_of A g dg) p q clear b end i s (read f a e b.height (cursor ts end i)) (sound a z F A e b u E f df end i))
      (λ off. meets_right ts (form_of A f df) (form_of A g dg) p q clear b end i off (read g a e b.height (cursor ts end i)) (sound a z F A e b u E g dg end i))
  sound a z F A e b u E (optional f) d end i =
      let df = and_left _ _ d in
      let p = is_false _ (and_right (is_ll1 a z f) _ d) in
      by_test ts (Meets b (Means F (optional f)) (cursor ts end i)) (has (first a f) (at ts i)) _ _
      (λ s. meets_given ts (form_of A f df) p (opens a z F A f df) b end i s (read f a e b.height (cursor ts end i)) (sound a z F A e b u E f df end i))
      (λ off. meets_omitted ts (form_of A f df) p (opens a z F A f df) b end i off)
  sound a z F A e b u E (star f) d end i =
      let df = and_left _ _ d in
      let r = and_right (is_ll1 a z f) _ d in
      meets_star ts (form_of A f df) (is_false _ (and_left _ _ r)) (opens a z F A f df) b (and_right (not (nullable f)) _ r) (no_end_gram ts a z A.no_end f df)
      (read f a e b.height) (sound a z F A e b u E f df) end i _ (omega arith)
  sound a z F A e b u E (made k f) d end i = meets_made ts k (Means F f) b end i (read f a e b.height (cursor ts end i)) (sound a z F A e b u E f d end i)
  sound a z F A e b u E (not_from xs f) d end i =
      by_test ts (Meets b (Means F (not_from xs f)) (cursor ts end i)) (has xs (at ts i)) _ _
      (λ s. stops_here ts b (Means F (not_from xs f)) end i (none_begins (at ts) (form_of A (not_from xs f) d) b u refl i (λ h. (without-has xs (first a f) (at ts i) h).1 s)))
      (λ off. meets_not_from ts xs (Means F f) b end i off (read f a e b.height (cursor ts end i)) (sound a z F A e b u E f (and_left _ _ d) end i))
  sound a z F A e b u E again d end i = E end i
  sound a z F A e b u E (line f) d end i = sound [] [] (λ l. no_form) (no_again ts) none b u (none_found b) f d end i
