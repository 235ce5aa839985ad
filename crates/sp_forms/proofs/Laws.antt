-- The laws of each form in which one token ahead decides, from those of the recursive form in it.
use Rattle.std.proofs.Common.{◌≡◌, ℕ, zero, suc, ◌≤◌, inl, inr, Bool, true, false, cond, not, ◌&&◌, eqb, IsTrue, List, [], ◌∷◌, ◌++◌, None, Some, refl, sym, ◌∙◌, subst, arith}
use Rattle.sp_text.specs.declared.token.Token.{Token}
use Rattle.sp_tree.specs.declared.names.Ident.{Ident}
use Rattle.sp_grammar.specs.Codes.{name_code, number_code}
use Rattle.sp_grammar.specs.Lang as lang
use Rattle.sp_grammar.specs.Lang.{Lang, Prefix, has, apart, subset, without}
use Rattle.sp_grammar.proofs.Laws.{Fine, fine_seq, fine_either, fine_made, fine_token, fine_star, and_left, and_right, has-split}
use Rattle.sp_grammar.proofs.Chain.{Sub, sub_refl, sub_prefix, sub_seq, sub_either, sub_made, grow_to}
use Rattle.sp_grammar.proofs.Guards.{fine_not_from, without-has}
use Rattle.sp_grammar.proofs.Lists.{sub_star, sub_optional, fine_optional}
use Rattle.sp_grammar.proofs.Forms.{empty_seq, empty_made, empty_left, sub_not_from, not_from_empty}
use Rattle.sp_grammar.proofs.Inside.{only}
use Rattle.sp_grammar.proofs.Tokens.{name_there, number_there}
use Rattle.sp_expression.specs.Grammar.{at, expression}
use Rattle.sp_expression.proofs.Laws.{fine_ident, fine_digits, fine, grows}
use Rattle.sp_expression.proofs.Steps.{empty_expr, first_of}
use Rattle.sp_forms.specs.Grammars.{Gram, token, name, digits, expr, seq, either, optional, star, made, not_from, again, line, meaning, no_form, nullable, first, follow, is_ll1, begins_at_once}

pub is_false : (t : Bool) → IsTrue (not t) → t ≡ false
is_false true p = absurd cc
is_false false p = refl

-- what a condition of four parts and one of five hold
module _ (s t u v w : Bool) where
  pub all_of : IsTrue (s && (t && (not u && (not v && w)))) → IsTrue s × IsTrue t × (u ≡ false) × (v ≡ false) × IsTrue w
  all_of d =
      let r = and_right s _ d in
      let n = and_right t _ r in
      let m = and_right (not u) _ n in
      (and_left _ _ d, and_left _ _ r, is_false u (and_left _ _ n), is_false v (and_left _ _ m), and_right (not v) _ m)

pub has_cond : (t : Bool) (xs : List ℕ) (n : ℕ) → IsTrue (has (cond t xs []) n) → IsTrue t × IsTrue (has xs n)
has_cond true xs n h = (refl, h)
has_cond false xs n h = absurd cc

-- prefixes of a sequence
pub joined : {A B : Type 0} (f : Lang A) (g : Lang B) (i k m : ℕ) (v : A) → f.whole v i k → Prefix g k m → Prefix (lang.seq f g) i m
joined f g i k m v w (inl y) = inl (inr (v, k, w, y))
joined f g i k m v w (inr (u, y)) = inr ((v, u), (k, w, y))

pub before : {A B : Type 0} (f : Lang A) (g : Lang B) (i k : ℕ) → Prefix f i k → Prefix g k k → Prefix (lang.seq f g) i k
before f g i k (inl p) q = inl (inl p)
before f g i k (inr (v, w)) q = joined f g i k k v w q

-- that of a choice's second form
pub right_of : {V : Type 0} (f g : Lang V) (i m : ℕ) → Prefix g i m → Prefix (lang.either f g) i m
right_of f g i m (inl p) = inl (inr p)
right_of f g i m (inr (v, w)) = inr (v, inr w)

pub no_form_fine : {V : Type 0} (at : ℕ → ℕ) → Fine at false [] [] (no_form {V = V})
no_form_fine at = record {
  span = λ v i j w. absurd w;
  ahead = λ i m x. omega arith;
  start = λ v i j w u. absurd w;
  start_part = λ i m x u. absurd (omega arith);
  closed = λ v i j n w u x. absurd w;
  closed_part = λ i m n x u t. absurd (omega arith);
  goes_on = λ v w i j m x y u. absurd x;
  goes_on_part = λ v i j m x y u. absurd x;
  same = λ v w i j x y. absurd x;
}

module _ (ts : List Token) where
  pub some_fine : {V : Type 0} {n : Bool} {fs ms : List ℕ} {L : Lang V} → n ≡ false → Fine (at ts) n fs ms L → Fine (at ts) false fs ms L
  some_fine {V} {n} {fs} {ms} {L} p F = subst (λ k. Fine (at ts) k fs ms L) p F

  some_room : (h : ℕ) → 1 ≤ h → (m : ℕ) → Prefix (expression ts h) m m
  some_room zero e m = absurd (omega arith)
  some_room (suc h) e m = inl (empty_expr ts h m)

  pub grown : (h g : ℕ) → h ≤ g → Sub (expression ts h) (expression ts g)
  grown h g u = grow_to (expression ts) (λ d. (grows ts d).expression) h g u

  -- what is said of `again`
  abbrev pub FineAgain : {R : Type 0} → List ℕ → List ℕ → Lang R → Type 0
  FineAgain a z ρ = Fine (at ts) false a z ρ

  pub fine_gram : {R V : Type 0} (a z : List ℕ) (ρ : Lang R) → FineAgain a z ρ → (g : Gram R V) → IsTrue (is_ll1 a z g) → (h : ℕ) → Fine (at ts) (nullable g) (first a g) (follow a z g) (meaning g ρ ts h)
  fine_gram a z ρ A (token c) d h = fine_token (at ts) c
  fine_gram a z ρ A name d h = fine_ident ts
  fine_gram a z ρ A digits d h = fine_digits ts
  fine_gram a z ρ A expr d h = (fine ts h).expression
  fine_gram a z ρ A (seq f g) d h =
      let r = and_right (is_ll1 a z f) _ d in
      fine_seq (at ts) (nullable f) (nullable g) (first a f) (follow a z f) (first a g) (follow a z g) (meaning f ρ ts h) (meaning g ρ ts h) (fine_gram a z ρ A f (and_left _ _ d) h) (fine_gram a z ρ A g (and_left _ _ r) h) (and_right (is_ll1 a z g) _ r)
  fine_gram a z ρ A (either f g) d h =
      let (df, dg, p, q, clear) = all_of _ _ (nullable f) (nullable g) _ d in
      fine_either (at ts) (first a f) (follow a z f) (first a g) (follow a z g) (meaning f ρ ts h) (meaning g ρ ts h) (some_fine p (fine_gram a z ρ A f df h)) (some_fine q (fine_gram a z ρ A g dg h)) clear
  fine_gram a z ρ A (optional f) d h = fine_optional (at ts) (first a f) (follow a z f) (meaning f ρ ts h) (some_fine (is_false _ (and_right (is_ll1 a z f) _ d)) (fine_gram a z ρ A f (and_left _ _ d) h))
  fine_gram a z ρ A (star f) d h =
      let r = and_right (is_ll1 a z f) _ d in
      fine_star (at ts) (first a f) (follow a z f) (meaning f ρ ts h) (some_fine (is_false _ (and_left _ _ r)) (fine_gram a z ρ A f (and_left _ _ d) h)) (and_right (not (nullable f)) _ r)
  fine_gram a z ρ A (made k f) d h = fine_made (at ts) (nullable f) (first a f) (follow a z f) (k ts) (meaning f ρ ts h) (fine_gram a z ρ A f d h)
  fine_gram a z ρ A (not_from xs f) d h = fine_not_from (at ts) xs (first a f) (follow a z f) (meaning f ρ ts h) (some_fine (is_false _ (and_right (is_ll1 a z f) _ d)) (fine_gram a z ρ A f (and_left _ _ d) h))
  fine_gram a z ρ A again d h = A
  fine_gram a z ρ A (line f) d h = fine_gram [] [] no_form (no_form_fine (at ts)) f d h

  -- a larger budget of height, and more of the recursive form
  pub grows_gram : {R V : Type 0} (ρ σ : Lang R) → Sub ρ σ → (g : Gram R V) → (h k : ℕ) → h ≤ k → Sub (meaning g ρ ts h) (meaning g σ ts k)
  grows_gram ρ σ S (token c) h k u = sub_refl _
  grows_gram ρ σ S name h k u = sub_refl _
  grows_gram ρ σ S digits h k u = sub_refl _
  grows_gram ρ σ S expr h k u = grown h k u
  grows_gram ρ σ S (seq f g) h k u = sub_seq _ _ _ _ (grows_gram ρ σ S f h k u) (grows_gram ρ σ S g h k u)
  grows_gram ρ σ S (either f g) h k u = sub_either _ _ _ _ (grows_gram ρ σ S f h k u) (grows_gram ρ σ S g h k u)
  grows_gram ρ σ S (optional f) h k u = sub_optional _ _ (grows_gram ρ σ S f h k u)
  grows_gram ρ σ S (star f) h k u = sub_star _ _ (grows_gram ρ σ S f h k u)
  grows_gram ρ σ S (made m f) h k u = sub_made (m ts) _ _ (grows_gram ρ σ S f h k u)
  grows_gram ρ σ S (not_from xs f) h k u = sub_not_from (at ts) xs _ _ (grows_gram ρ σ S f h k u)
  grows_gram ρ σ S again h k u = S
  grows_gram ρ σ S (line f) h k u = grows_gram no_form no_form (sub_refl _) f h k u

  -- the empty list is a viable prefix
  abbrev pub EmptyAgain : {R : Type 0} → Lang R → Type 0
  EmptyAgain ρ = (m : ℕ) → Prefix ρ m m

  pub empty_gram : {R V : Type 0} (a z : List ℕ) (ρ : Lang R) → FineAgain a z ρ → EmptyAgain ρ → (g : Gram R V) → IsTrue (is_ll1 a z g) → (h : ℕ) → 1 ≤ h → (m : ℕ) → Prefix (meaning g ρ ts h) m m
  empty_gram a z ρ A E (token c) d h u m = inl refl
  empty_gram a z ρ A E name d h u m = inl refl
  empty_gram a z ρ A E digits d h u m = inl refl
  empty_gram a z ρ A E expr d h u m = some_room h u m
  empty_gram a z ρ A E (seq f g) d h u m = let r = and_right (is_ll1 a z f) _ d in empty_seq (meaning f ρ ts h) (meaning g ρ ts h) m (empty_gram a z ρ A E f (and_left _ _ d) h u m) (empty_gram a z ρ A E g (and_left _ _ r) h u m)
  empty_gram a z ρ A E (either f g) d h u m = empty_left (meaning f ρ ts h) (meaning g ρ ts h) m m (empty_gram a z ρ A E f (and_left _ _ d) h u m)
  empty_gram a z ρ A E (optional f) d h u m = inr (None, refl)
  empty_gram a z ρ A E (star f) d h u m = inr ([], refl)
  empty_gram a z ρ A E (made k f) d h u m = empty_made (k ts) (meaning f ρ ts h) m m (empty_gram a z ρ A E f d h u m)
  empty_gram a z ρ A E (not_from xs f) d h u m =
      let df = and_left _ _ d in
      not_from_empty (at ts) xs (first a f) (follow a z f) (meaning f ρ ts h) (some_fine (is_false _ (and_right (is_ll1 a z f) _ d)) (fine_gram a z ρ A f df h)) m (empty_gram a z ρ A E f df h u m)
  empty_gram a z ρ A E again d h u m = E m
  empty_gram a z ρ A E (line f) d h u m = empty_gram [] [] no_form (no_form_fine (at ts)) (λ m. inl refl) f d h u m

  -- what may be empty is
  pub nulls_gram : {R V : Type 0} (ρ : Lang R) (g : Gram R V) → IsTrue (nullable g) → (h i : ℕ) → (v : V) × (meaning g ρ ts h).whole v i i
  nulls_gram ρ (token c) n h i = absurd cc
  nulls_gram ρ name n h i = absurd cc
  nulls_gram ρ digits n h i = absurd cc
  nulls_gram ρ expr n h i = absurd cc
  nulls_gram ρ (seq f g) n h i = let (a, w) = nulls_gram ρ f (and_left _ _ n) h i in let (v, x) = nulls_gram ρ g (and_right (nullable f) _ n) h i in ((a, v), (i, w, x))
  nulls_gram ρ (either f g) n h i = absurd cc
  nulls_gram ρ (optional f) n h i = (None, refl)
  nulls_gram ρ (star f) n h i = ([], refl)
  nulls_gram ρ (made k f) n h i = let (a, w) = nulls_gram ρ f n h i in (k ts a i i, (a, refl, w))
  nulls_gram ρ (not_from xs f) n h i = absurd cc
  nulls_gram ρ again n h i = absurd cc
  nulls_gram ρ (line f) n h i = nulls_gram no_form f n h i

  -- the tokens of `first` do begin it, within some height and at the start of a text no token is the end

  pub no_end_gram : {R V : Type 0} (a z : List ℕ) → (IsTrue (has a 0) → ⊥) → (g : Gram R V) → IsTrue (is_ll1 a z g) → IsTrue (has (first a g) 0) → ⊥
  no_end_gram a z N (token y) d t = let e : 0 ≡ y = only y 0 t in let w : IsTrue (not (eqb 0 0)) = rw (← e) at d in cc
  no_end_gram a z N name d t = cc
  no_end_gram a z N digits d t = cc
  no_end_gram a z N expr d t = cc
  no_end_gram a z N (seq f g) d t =
      let r = and_right (is_ll1 a z f) _ d in
      elim (has-split (first a f) (cond (nullable f) (first a g) []) 0 t) [
        | inl y ↦ no_end_gram a z N f (and_left _ _ d) y
        | inr y ↦ no_end_gram a z N g (and_left _ _ r) ((has_cond (nullable f) (first a g) 0 y).1)
      ]
  no_end_gram a z N (either f g) d t =
      let r = and_right (is_ll1 a z f) _ d in
      elim (has-split (first a f) (first a g) 0 t) [ inl y ↦ no_end_gram a z N f (and_left _ _ d) y | inr y ↦ no_end_gram a z N g (and_left _ _ r) y ]
  no_end_gram a z N (optional f) d t = no_end_gram a z N f (and_left _ _ d) t
  no_end_gram a z N (star f) d t = no_end_gram a z N f (and_left _ _ d) t
  no_end_gram a z N (made k f) d t = no_end_gram a z N f d t
  no_end_gram a z N (not_from xs f) d t = no_end_gram a z N f (and_left _ _ d) ((without-has xs (first a f) 0 t).0)
  no_end_gram a z N again d t = N t
  no_end_gram a z N (line f) d t = no_end_gram [] [] (λ e. cc) f d t

  -- the form that begins at once does so at each height
  pub part_gram : {R V : Type 0} (ρ : Lang R) (g : Gram R V) → IsTrue (begins_at_once g) → (h i : ℕ) → (meaning g ρ ts h).part i i
  part_gram ρ (token c) o h i = refl
  part_gram ρ name o h i = refl
  part_gram ρ digits o h i = refl
  part_gram ρ expr o h i = absurd cc
  part_gram ρ (seq f g) o h i = inl (part_gram ρ f o h i)
  part_gram ρ (either f g) o h i = absurd cc
  part_gram ρ (optional f) o h i = absurd cc
  part_gram ρ (star f) o h i = absurd cc
  part_gram ρ (made k f) o h i = part_gram ρ f o h i
  part_gram ρ (not_from xs f) o h i = absurd cc
  part_gram ρ again o h i = absurd cc
  part_gram ρ (line f) o h i = part_gram no_form f o h i

  abbrev pub OpensWithin : {V : Type 0} → List ℕ → Lang V → ℕ → Type 0
  OpensWithin fs L i = IsTrue (has fs (at ts i)) → Prefix L i (suc i)

  pub at_once : {R V : Type 0} (a z : List ℕ) (ρ : Lang R) → FineAgain a z ρ → EmptyAgain ρ → (g : Gram R V) → IsTrue (is_ll1 a z g) → IsTrue (begins_at_once g) → (h : ℕ) → 1 ≤ h → (i : ℕ) → OpensWithin (first a g) (meaning g ρ ts h) i
  at_once a z ρ A E (token c) d o h u i t = inr (tt, (only c _ t, refl))
  at_once a z ρ A E name d o h u i t = let (n, s, e) = name_there ts i (only name_code _ t) in inr (record { name = n; span = s }, (e, refl))
  at_once a z ρ A E digits d o h u i t = let (n, s, e) = number_there ts i (only number_code _ t) in inr (n, ((s, e), refl))
  at_once a z ρ A E expr d o h u i t = absurd cc
  at_once a z ρ A E (seq f g) d o h u i t =
      let r = and_right (is_ll1 a z f) _ d in
      elim (has-split (first a f) (cond (nullable f) (first a g) []) (at ts i) t) [
        | inl y ↦ before (meaning f ρ ts h) (meaning g ρ ts h) i (suc i) (at_once a z ρ A E f (and_left _ _ d) o h u i y) (empty_gram a z ρ A E g (and_left _ _ r) h u (suc i))
        | inr y ↦ absurd (let n = (has_cond (nullable f) (first a g) (at ts i) y).0 in let m = not_null f o in let z : false ≡ true = sym m ∙ n in cc)
      ]
    where
      not_null : {R V : Type 0} (g : Gram R V) → IsTrue (begins_at_once g) → nullable g ≡ false
      not_null (token c) o = refl
      not_null name o = refl
      not_null digits o = refl
      not_null expr o = refl
      not_null (seq f g) o = rw (not_null f o) refl
      not_null (either f g) o = refl
      not_null (optional f) o = absurd cc
      not_null (star f) o = absurd cc
      not_null (made k f) o = not_null f o
      not_null (not_from xs f) o = refl
      not_null again o = refl
      not_null (line f) o = not_null f o
  at_once a z ρ A E (either f g) d o h u i t = absurd cc
  at_once a z ρ A E (optional f) d o h u i t = absurd cc
  at_once a z ρ A E (star f) d o h u i t = absurd cc
  at_once a z ρ A E (made k f) d o h u i t = empty_made (k ts) (meaning f ρ ts h) i (suc i) (at_once a z ρ A E f d o h u i t)
  at_once a z ρ A E (not_from xs f) d o h u i t = absurd cc
  at_once a z ρ A E again d o h u i t = absurd cc
  at_once a z ρ A E (line f) d o h u i t = at_once [] [] no_form (no_form_fine (at ts)) (λ m. inl refl) f d o h u i t
