-- A recursive form within each number of levels: its laws, and that its reader finds what it means.
use Rattle.std.proofs.Common.{◌≡◌, ℕ, zero, suc, ◌≤◌, inl, inr, Bool, true, false, not, ◌&&◌, IsTrue, List, ◌++◌, [], ◌∷◌, Ok, Err, if◌then◌else◌, refl, sym, ◌∙◌, ap, subst, arith}
use Rattle.sp_text.specs.declared.token.Token.{Token}
use Rattle.sp_grammar.specs.Lang as lang
use Rattle.sp_grammar.specs.Lang.{Lang, Prefix, has, apart, subset}
use Rattle.sp_grammar.specs.Within.{Limits, of_nesting, Halt, stops, exceeds}
use Rattle.sp_grammar.proofs.Laws.{Fine, and_left, and_right, has-split, has-append_right, apart-has, fine_either}
use Rattle.sp_grammar.proofs.Chain.{Sub, sub_refl, sub_prefix, sub_either, swap_either}
use Rattle.sp_grammar.proofs.Forms.{Below, Form, empty_left}
use Rattle.sp_grammar.proofs.Lists.{fine_more, subset-has}
use Rattle.sp_grammar.proofs.Nested as nest
use Rattle.sp_grammar.proofs.Within.{le_prefix, reads_same, refuses_same, reads_chosen, refuses_chosen}
use Rattle.sp_expression.specs.Grammar.{at}
use Rattle.sp_forms.specs.Cursors.{Cursor, lookahead, unexpected, too_deep, Outcome, Reader}
use Rattle.sp_forms.specs.Answers.{FailsWithin, Meets}
use Rattle.sp_forms.specs.Grammars.{Gram, Body, base, nested, Rec, meaning, no_form, flat, deep, levels, nullable, first, follow, is_ll1, begins_at_once, body_first, body_follow, body_is_ll1, rec_is_ll1}
use Rattle.sp_forms.specs.Readers.{read, none, deeper, read_body, read_levels}
use Rattle.sp_forms.proofs.Laws.{is_false, right_of, some_fine, no_form_fine, fine_gram, grows_gram, empty_gram, no_end_gram, part_gram, at_once}
use Rattle.sp_forms.proofs.Parts.{cursor, Finds, fails_by, by_test, Opens}
use Rattle.sp_forms.proofs.Sound.{limits, Again, no_again, Means, form_of, opens, none_found, sound}

-- two forms that are one
sub_of : {V : Type 0} (f g : Lang V) → f ≡ g → Sub f g
sub_of f g e = subst (λ x. Sub f x) e (sub_refl f)

sub_right : {V : Type 0} (f g h : Lang V) → Sub f h → Sub f (lang.either g h)
sub_right f g h s = record { whole = λ v i j w. inr (s.whole v i j w); part = λ i m p. inr (s.part i m p) }

-- the other way round
flip : {V : Type 0} (f g h : Lang V) → Sub h (lang.either f g) → Sub h (lang.either g f)
flip f g h s = record { whole = λ v i j w. (swap_either f g).whole v i j (s.whole v i j w); part = λ i m p. (swap_either f g).part i m (s.part i m p) }

flip_back : {V : Type 0} (f g h : Lang V) → Sub (lang.either f g) h → Sub (lang.either g f) h
flip_back f g h s = record { whole = λ v i j w. s.whole v i j ((swap_either g f).whole v i j w); part = λ i m p. s.part i m ((swap_either g f).part i m p) }

-- larger sets, by what they hold
fine_wider : {V : Type 0} (at : ℕ → ℕ) (fs ms fs' ms' : List ℕ) (f : Lang V) → ((n : ℕ) → IsTrue (has fs n) → IsTrue (has fs' n)) → ((n : ℕ) → IsTrue (has ms n) → IsTrue (has ms' n)) → Fine at false fs ms f → Fine at false fs' ms' f
fine_wider at fs ms fs' ms' f s t F = record {
  span = F.span;
  ahead = F.ahead;
  start = λ v i j w h. s (at i) (F.start v i j w h);
  start_part = λ i m p h. s (at i) (F.start_part i m p h);
  closed = F.closed;
  closed_part = F.closed_part;
  goes_on = λ v w i j m p q h. t (at j) (F.goes_on v w i j m p q h);
  goes_on_part = λ v i j m p q h. t (at j) (F.goes_on_part v i j m p q h);
  same = F.same;
}

-- what a nested form's condition holds
nested_of : (s t u v w : Bool) → IsTrue (s && (t && (not u && (v && w)))) → IsTrue s × IsTrue t × (u ≡ false) × IsTrue v × IsTrue w
nested_of s t u v w d =
    let r = and_right s _ d in
    let n = and_right t _ r in
    let m = and_right (not u) _ n in
    (and_left _ _ d, and_left _ _ r, is_false u (and_left _ _ n), and_left _ _ m, and_right v _ m)

module _ {R : Type 0} (x : Rec R) (ts : List Token) where
  abbrev a : List ℕ
  a = x.begin

  abbrev z : List ℕ
  z = x.behind

  -- a body within n levels
  abbrev body_at : Body R → ℕ → ℕ → Lang R
  body_at (base g) h n = meaning g no_form ts h
  body_at (nested f b) h zero = body_at b h zero
  body_at (nested f b) h (suc n) = lang.either (meaning f (levels x ts h n) ts h) (body_at b h (suc n))

  flat_same : (b : Body R) (h : ℕ) → flat b ts h ≡ body_at b h zero
  flat_same (base g) h = refl
  flat_same (nested f b) h = flat_same b h

  deep_same : (b : Body R) (h n : ℕ) → deep b (levels x ts h n) ts h ≡ body_at b h (suc n)
  deep_same (base g) h n = refl
  deep_same (nested f b) h n = ap (λ L. lang.either (meaning f (levels x ts h n) ts h) L) (deep_same b h n)

  same : (h n : ℕ) → levels x ts h n ≡ body_at x.body h n
  same h zero = flat_same x.body h
  same h (suc n) = deep_same x.body h n

  -- the laws of a body, from those of the recursive form one level deeper

  fine_body : (h n : ℕ) → ((m : ℕ) → n ≡ suc m → Fine (at ts) false a z (levels x ts h m)) → (b : Body R) → IsTrue (body_is_ll1 a z b) → Fine (at ts) false (body_first a b) (body_follow a z b) (body_at b h n)
  fine_body h n H (base g) d = some_fine ts (is_false _ (and_right (is_ll1 [] [] g) _ d)) (fine_gram ts [] [] no_form (no_form_fine (at ts)) g (and_left _ _ d) h)
  fine_body h zero H (nested f b) d =
      let (df, o, p, db, clear) = nested_of _ (begins_at_once f) (nullable f) _ _ d in
      fine_wider (at ts) (body_first a b) (body_follow a z b) (first a f ++ body_first a b) (follow a z f ++ body_follow a z b) (body_at b h zero)
      (λ n t. has-append_right (first a f) (body_first a b) n t) (λ n t. has-append_right (follow a z f) (body_follow a z b) n t) (fine_body h zero H b db)
  fine_body h (suc n) H (nested f b) d =
      let (df, o, p, db, clear) = nested_of _ (begins_at_once f) (nullable f) _ _ d in
      fine_either (at ts) (first a f) (follow a z f) (body_first a b) (body_follow a z b) (meaning f (levels x ts h n) ts h) (body_at b h (suc n))
      (some_fine ts p (fine_gram ts a z (levels x ts h n) (H n refl) f df h)) (fine_body h (suc n) H b db) clear

  grows_body : (h k n m : ℕ) → h ≤ k → n ≤ m → ((p q : ℕ) → n ≡ suc p → m ≡ suc q → Sub (levels x ts h p) (levels x ts k q)) → (b : Body R) → Sub (body_at b h n) (body_at b k m)
  grows_body h k n m u v H (base g) = grows_gram ts no_form no_form (sub_refl _) g h k u
  grows_body h k zero zero u v H (nested f b) = grows_body h k zero zero u v H b
  grows_body h k zero (suc m) u v H (nested f b) = sub_right _ _ _ (grows_body h k zero (suc m) u v H b)
  grows_body h k (suc n) zero u v H (nested f b) = absurd (omega arith)
  grows_body h k (suc n) (suc m) u v H (nested f b) = sub_either _ _ _ _ (grows_gram ts _ _ (H n m refl refl) f h k u) (grows_body h k (suc n) (suc m) u v H b)

  empty_body : (h n : ℕ) → 1 ≤ h → (b : Body R) → IsTrue (body_is_ll1 a z b) → (m : ℕ) → Prefix (body_at b h n) m m
  empty_body h n u (base g) d m = empty_gram ts [] [] no_form (no_form_fine (at ts)) (λ k. inl refl) g (and_left _ _ d) h u m
  empty_body h zero u (nested f b) d m = let (df, o, p, db, clear) = nested_of _ (begins_at_once f) (nullable f) _ _ d in empty_body h zero u b db m
  empty_body h (suc n) u (nested f b) d m =
      let (df, o, p, db, clear) = nested_of _ (begins_at_once f) (nullable f) _ _ d in
      right_of (meaning f (levels x ts h n) ts h) (body_at b h (suc n)) m m (empty_body h (suc n) u b db m)

  module _ (c : IsTrue (rec_is_ll1 x)) where
    body_ok : IsTrue (body_is_ll1 a z x.body)
    body_ok = and_left _ _ c

    c1 : IsTrue (not (has a 0) && (subset (body_first a x.body) a && (subset a (body_first a x.body) && subset (body_follow a z x.body) z)))
    c1 = and_right (body_is_ll1 a z x.body) _ c

    no_end : IsTrue (has a 0) → ⊥
    no_end h = let e = is_false _ (and_left _ _ c1) in let y : false ≡ true = sym e ∙ h in cc

    c2 : IsTrue (subset (body_first a x.body) a && (subset a (body_first a x.body) && subset (body_follow a z x.body) z))
    c2 = and_right (not (has a 0)) _ c1

    c3 : IsTrue (subset a (body_first a x.body) && subset (body_follow a z x.body) z)
    c3 = and_right (subset (body_first a x.body) a) _ c2

    -- the laws of the recursive form, by the number of levels

    of_body : (h n : ℕ) → Fine (at ts) false (body_first a x.body) (body_follow a z x.body) (body_at x.body h n) → Fine (at ts) false a z (levels x ts h n)
    of_body h n F = subst (λ L. Fine (at ts) false a z L) (sym (same h n)) (fine_more (at ts) false (body_first a x.body) (body_follow a z x.body) a z (body_at x.body h n) (and_left _ _ c2) (and_right (subset a (body_first a x.body)) _ c3) F)

    fine_levels : (h n : ℕ) → Fine (at ts) false a z (levels x ts h n)
    fine_levels h zero = of_body h zero (fine_body h zero (λ m e. absurd (omega arith)) x.body body_ok)
    fine_levels h (suc n) = of_body h (suc n) (fine_body h (suc n) (λ m e. let q : n ≡ m = omega (arith, e) in subst (λ k. Fine (at ts) false a z (levels x ts h k)) q (fine_levels h n)) x.body body_ok)

    between : (h k n m : ℕ) → Sub (body_at x.body h n) (body_at x.body k m) → Sub (levels x ts h n) (levels x ts k m)
    between h k n m s = subst (λ L. Sub L (levels x ts k m)) (sym (same h n)) (subst (λ L. Sub (body_at x.body h n) L) (sym (same k m)) s)

    grows_levels : (h k n m : ℕ) → h ≤ k → n ≤ m → Sub (levels x ts h n) (levels x ts k m)
    grows_levels h k zero m u v = between h k zero m (grows_body h k zero m u v (λ p q e f. absurd (omega arith)) x.body)
    grows_levels h k (suc n) zero u v = absurd (omega arith)
    grows_levels h k (suc n) (suc m) u v = between h k (suc n) (suc m) (grows_body h k (suc n) (suc m) u v (λ p q e f.
        let d : n ≡ p = omega (arith, e) in
        let g : m ≡ q = omega (arith, f) in
        subst (λ i. Sub (levels x ts h i) (levels x ts k q)) d (subst (λ i. Sub (levels x ts h n) (levels x ts k i)) g (grows_levels h k n m u (omega arith)))) x.body)

    empty_levels : (h n : ℕ) → 1 ≤ h → (m : ℕ) → Prefix (levels x ts h n) m m
    empty_levels h n u m = subst (λ L. Prefix L m m) (sym (same h n)) (empty_body h n u x.body body_ok m)

    abbrev F : Limits → Lang R
    F l = levels x ts l.height l.nesting

    abbrev B : Body R → Limits → Lang R
    B b l = body_at b l.height l.nesting

    deeper_too : (f : Gram R R) (b : Body R) (h n i m : ℕ) → Prefix (body_at b h n) i m → Prefix (body_at (nested f b) h n) i m
    deeper_too f b h zero i m p = p
    deeper_too f b h (suc n) i m p = right_of (meaning f (levels x ts h n) ts h) (body_at b h (suc n)) i m p

    opens_body : (b : Body R) → IsTrue (body_is_ll1 a z b) → Opens ts (body_first a b) (B b)
    opens_body (base g) d i t = let (l, lh, p) = opens ts [] [] (λ l. no_form) (no_again ts) g (and_left _ _ d) i t in (l, lh, p)
    opens_body (nested f b) d i t =
        let (df, o, q, db, clear) = nested_of _ (begins_at_once f) (nullable f) _ _ d in
        elim (has-split (first a f) (body_first a b) (at ts i) t) [
          | inl y ↦ (
            limits 1 1,
            omega arith,
            empty_left (meaning f (levels x ts 1 0) ts 1) (body_at b 1 1) i (suc i) (at_once ts a z (levels x ts 1 0) (fine_levels 1 0) (empty_levels 1 0 (omega arith)) f df o 1 (omega arith) i y),
          )
          | inr y ↦ (let (l, lh, p) = opens_body b db i y in (l, lh, deeper_too f b l.height l.nesting i (suc i) p))
        ]

    opens_levels : Opens ts a F
    opens_levels i t =
        let (l, lh, p) = opens_body x.body body_ok i (subset-has a (body_first a x.body) (at ts i) (and_left _ _ c3) t) in
        (l, lh, subst (λ L. Prefix L i (suc i)) (sym (same l.height l.nesting)) p)

    -- the recursive form, with its laws
    pub again : Again ts a z F
    again = record {
      fine = λ l. fine_levels l.height l.nesting;
      grows = λ l k b. grows_levels l.height k.height l.nesting k.nesting b.height b.nesting;
      empty = λ l h m. empty_levels l.height l.nesting h m;
      opens = opens_levels;
      no_end = no_end;
    }

    -- what the reader finds

    abbrev body_form : (b : Body R) → IsTrue (body_is_ll1 a z b) → Form (at ts) R
    body_form b d = record {
      null = false;
      first = body_first a b;
      more = body_follow a z b;
      form = B b;
      fine = λ l. fine_body l.height l.nesting (λ m e. fine_levels l.height m) b d;
      grows = λ l k u. grows_body l.height k.height l.nesting k.nesting u.height u.nesting (λ p q e f. let n = u.nesting in grows_levels l.height k.height p q u.height (omega (arith, e, f))) b;
      empty = λ l h m. empty_body l.height l.nesting h b d m;
    }

    module _ (f : Gram R R) (b : Body R) (d : IsTrue (body_is_ll1 a z (nested f b))) where
      df : IsTrue (is_ll1 a z f)
      df = (nested_of _ (begins_at_once f) (nullable f) (body_is_ll1 a z b) _ d).0

      starts : IsTrue (begins_at_once f)
      starts = (nested_of _ (begins_at_once f) (nullable f) (body_is_ll1 a z b) _ d).1

      some : nullable f ≡ false
      some = (nested_of _ (begins_at_once f) (nullable f) (body_is_ll1 a z b) _ d).2

      db : IsTrue (body_is_ll1 a z b)
      db = (nested_of _ (begins_at_once f) (nullable f) (body_is_ll1 a z b) _ d).3

      clear : IsTrue (apart (first a f) (body_first a b))
      clear = (nested_of _ (begins_at_once f) (nullable f) (body_is_ll1 a z b) _ d).4

      abbrev Inner : Form (at ts) R
      Inner = form_of ts again f df

      abbrev Rest : Form (at ts) R
      Rest = body_form b db

      always : (l : Limits) (i : ℕ) → (Inner.form l).part i i
      always l i = part_gram ts (F l) f starts l.height i

      abbrev Deep : Form (at ts) R
      Deep = nest.nested_form (at ts) Inner Rest refl always

      out_at : (h n : ℕ) → Sub (body_at (nested f b) h n) (lang.either (Deep.form (limits h n)) (body_at b h n))
      out_at h zero = sub_right _ _ _ (sub_refl _)
      out_at h (suc n) = sub_refl _

      back_at : (h n : ℕ) → Sub (lang.either (Deep.form (limits h n)) (body_at b h n)) (body_at (nested f b) h n)
      back_at h zero = record {
        whole = λ v i j w. elim w [ inl y ↦ absurd y | inr y ↦ y ];
        part = λ i m p. elim p [ inl y ↦ subst (λ k. (body_at b h zero).part i k) y.0 y.1 | inr y ↦ y ];
      }
      back_at h (suc n) = sub_refl _

      swapped_out : (h n : ℕ) → Sub (body_at (nested f b) h n) (lang.either (body_at b h n) (Deep.form (limits h n)))
      swapped_out h n = flip (Deep.form (limits h n)) (body_at b h n) (body_at (nested f b) h n) (out_at h n)

      swapped_back : (h n : ℕ) → Sub (lang.either (body_at b h n) (Deep.form (limits h n))) (body_at (nested f b) h n)
      swapped_back h n = flip_back (Deep.form (limits h n)) (body_at b h n) (body_at (nested f b) h n) (back_at h n)

      module _ (h : ℕ) (u : 1 ≤ h) (end i : ℕ) where
        abbrev Here : ℕ → Outcome R → Type 0
        Here n = Meets (limits h n) (B (nested f b)) (cursor ts end i)

        -- where f doesn't begin
        rest_meets : (n : ℕ) → (IsTrue (has (first a f) (at ts i)) → ⊥) → (w : Outcome R) → Meets (limits h n) (B b) (cursor ts end i) w → Here n w
        rest_meets n off (Ok y) M = (M.0, reads_chosen (at ts) Rest Deep refl some (limits h n) i off (B (nested f b)) (λ l. swapped_out l.height l.nesting) (λ l. swapped_back l.height l.nesting) y.1.place y.0 M.1)
        rest_meets n off (Err w) M = fails_by ts (refuses_chosen (at ts) Rest Deep refl some (limits h n) i off (B (nested f b)) (λ l. swapped_out l.height l.nesting) (λ l. swapped_back l.height l.nesting)) end w M

        -- where it does
        module _ (t : IsTrue (has (first a f) (at ts i))) where
          not_rest : IsTrue (has (body_first a b) (at ts i)) → ⊥
          not_rest = apart-has (first a f) (body_first a b) (at ts i) clear t

          deep_meets : (n : ℕ) (w : Outcome R) → Meets (limits h n) Deep.form (cursor ts end i) w → Here n w
          deep_meets n (Ok y) M = (M.0, reads_chosen (at ts) Deep Rest some refl (limits h n) i not_rest (B (nested f b)) (λ l. out_at l.height l.nesting) (λ l. back_at l.height l.nesting) y.1.place y.0 M.1)
          deep_meets n (Err w) M = fails_by ts (refuses_chosen (at ts) Deep Rest some refl (limits h n) i not_rest (B (nested f b)) (λ l. out_at l.height l.nesting) (λ l. back_at l.height l.nesting)) end w M

          inner_meets : (n : ℕ) (w : Outcome R) → Meets (limits h n) Inner.form (cursor ts end i) w → Meets (limits h (suc n)) Deep.form (cursor ts end i) w
          inner_meets n (Ok y) M = (M.0, nest.reads_nested (at ts) Inner Rest refl always h n i y.0 y.1.place (le_prefix (at ts) Inner (limits h n) i y.1.place (inr (y.0, M.1.whole))) M.1)
          inner_meets n (Err w) M = fails_by ts (nest.refuses_nested (at ts) Inner Rest refl always h n i) end w M

          no_level : FailsWithin (limits h zero) Deep.form ts end i (too_deep (cursor ts end i))
          unfolding too_deep
          no_level = (of_nesting, i, nest.too_deep (at ts) Inner Rest refl always h i u (λ l lh. at_once ts a z (F l) (fine_levels l.height l.nesting) (empty_levels l.height l.nesting lh) f df starts l.height lh i t), refl)

          level_meets : (e : ℕ → Reader R) (n : ℕ) → ((m : ℕ) → n ≡ suc m → Finds ts (limits h m) F (e m)) → Here n (deeper (λ m. read f a (e m) h) n (cursor ts end i))
          level_meets e zero H = deep_meets zero (Err (too_deep (cursor ts end i))) no_level
          level_meets e (suc n) H = deep_meets (suc n) (read f a (e n) h (cursor ts end i)) (inner_meets n (read f a (e n) h (cursor ts end i)) (sound ts a z F again (e n) (limits h n) u (H n refl) f df end i))

    body_meets : (h : ℕ) → 1 ≤ h → (e : ℕ → Reader R) (n : ℕ) → ((m : ℕ) → n ≡ suc m → Finds ts (limits h m) F (e m)) → (b : Body R) → IsTrue (body_is_ll1 a z b) → Finds ts (limits h n) (B b) (read_body b a e h n)
    unfolding lookahead
    body_meets h u e n H (base g) d end i = sound ts [] [] (λ l. no_form) (no_again ts) none (limits h n) u (none_found ts (limits h n)) g (and_left _ _ d) end i
    body_meets h u e n H (nested f b) d end i = by_test ts (Meets (limits h n) (B (nested f b)) (cursor ts end i)) (has (first a f) (at ts i)) _ _
        (λ t. level_meets f b d h u end i t e n H)
        (λ off. rest_meets f b d h u end i n off (read_body b a e h n (cursor ts end i)) (body_meets h u e n H b (db f b d) end i))

    rolled : (h n end i : ℕ) (w : Outcome R) → Meets (limits h n) (B x.body) (cursor ts end i) w → Meets (limits h n) F (cursor ts end i) w
    rolled h n end i (Ok y) M = (M.0, reads_same (B x.body) F (λ l. sub_of _ _ (same l.height l.nesting)) (λ l. sub_of _ _ (sym (same l.height l.nesting))) (limits h n) i y.1.place y.0 M.1)
    rolled h n end i (Err w) M = fails_by ts (refuses_same (B x.body) F (λ l. sub_of _ _ (same l.height l.nesting)) (λ l. sub_of _ _ (sym (same l.height l.nesting))) (limits h n) i) end w M

    pub levels_meet : (h : ℕ) → 1 ≤ h → (n : ℕ) → Finds ts (limits h n) F (read_levels x h n)
    unfolding read_levels
    levels_meet h u zero end i = rolled h zero end i _ (body_meets h u (λ m. none) zero (λ m e. absurd (omega arith)) x.body body_ok end i)
    levels_meet h u (suc n) end i = rolled h (suc n) end i _ (body_meets h u (λ m. read_levels x h n) (suc n) (λ m e end' i'.
        let q : n ≡ m = omega (arith, e) in
        subst (λ k. Meets (limits h k) F (cursor ts end' i') (read_levels x h n (cursor ts end' i'))) q (levels_meet h u n end' i')) x.body body_ok end i)

-- The reader of a recursive form, as that of its body.

unroll_body : {R : Type 0} (b : Body R) (a : List ℕ) (e d : ℕ → Reader R) (h n : ℕ) → ((m : ℕ) → n ≡ suc m → e m ≡ d m) → (i : Cursor) → read_body b a e h n i ≡ read_body b a d h n i
unroll_body (base g) a e d h n H i = refl
unroll_body {R} (nested f b) a e d h zero H i = ap (λ (y : Outcome R). if has (first a f) (lookahead i) then Err (too_deep i) else y) (unroll_body b a e d h zero H i)
unroll_body {R} (nested f b) a e d h (suc n) H i =
    ap (λ (y : Outcome R). if has (first a f) (lookahead i) then read f a (e n) h i else y) (unroll_body b a e d h (suc n) H i)
    ∙ ap (λ (r : Reader R). if has (first a f) (lookahead i) then read f a r h i else read_body b a d h (suc n) i) (H n refl)

pub unroll : {R : Type 0} (x : Rec R) (h n : ℕ) (i : Cursor) → read_levels x h n i ≡ read_body x.body x.begin (λ m. read_levels x h m) h n i
unfolding read_levels
unroll x h zero i = unroll_body x.body x.begin (λ m. none) (λ m. read_levels x h m) h zero (λ m e. absurd (omega arith)) i
unroll x h (suc n) i = unroll_body x.body x.begin (λ m. read_levels x h n) (λ m. read_levels x h m) h (suc n) (λ m e. let q : n ≡ m = omega (arith, e) in ap (λ k. read_levels x h k) q) i
