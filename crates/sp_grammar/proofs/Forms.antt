-- A form with two budgets, its sets and its laws as one value, for each way to put forms together.
use Rattle.std.proofs.Common.{◌≡◌, ℕ, ◌≤◌, inl, inr, Bool, true, false, ◌&&◌, IsTrue, List, [], ◌∷◌, ◌++◌, Option, None, cond, refl, subst, arith}
use Rattle.sp_grammar.specs.Lang.{Lang, Prefix, seq, either, made, star, optional, token, not_from, without, apart, subset}
use Rattle.sp_grammar.specs.Within.{Limits}
use Rattle.sp_grammar.proofs.Laws.{Fine, fine_seq, fine_either, fine_made, fine_token, fine_star}
use Rattle.sp_grammar.proofs.Chain.{Sub, sub_refl, sub_seq, sub_either, sub_made, grow_to}
use Rattle.sp_grammar.proofs.Lists.{sub_star, sub_optional, fine_optional, fine_more}
use Rattle.sp_grammar.proofs.Guards.{fine_not_from}
use Rattle.sp_grammar.proofs.Productions.{Production}

-- l is within k
pub record Below (l k : Limits) : Type 0 where
  pub height : l.height ≤ k.height
  pub nesting : l.nesting ≤ k.nesting

pub record Form (at : ℕ → ℕ) (V : Type 0) : Type 1 where
  pub null : Bool
  pub first : List ℕ
  pub more : List ℕ
  pub form : Limits → Lang V
  pub fine : (l : Limits) → Fine at null first more (form l)
  pub grows : (l k : Limits) → Below l k → Sub (form l) (form k)
  pub empty : (l : Limits) → 1 ≤ l.height → (m : ℕ) → Prefix (form l) m m

-- the empty list, and each other one, as a prefix of what a form is put into
pub empty_seq : {A B : Type 0} (f : Lang A) (g : Lang B) (m : ℕ) → Prefix f m m → Prefix g m m → Prefix (seq f g) m m
empty_seq f g m (inl p) q = inl (inl p)
empty_seq f g m (inr (a, w)) (inl p) = inl (inr (a, m, w, p))
empty_seq f g m (inr (a, w)) (inr (b, x)) = inr ((a, b), (m, w, x))

pub empty_made : {A B : Type 0} (h : A → ℕ → ℕ → B) (f : Lang A) (i m : ℕ) → Prefix f i m → Prefix (made h f) i m
empty_made h f i m (inl p) = inl p
empty_made h f i m (inr (a, w)) = inr (h a i m, (a, refl, w))

pub empty_left : {V : Type 0} (f g : Lang V) (i m : ℕ) → Prefix f i m → Prefix (either f g) i m
empty_left f g i m (inl p) = inl (inl p)
empty_left f g i m (inr (v, w)) = inr (v, inl w)

pub sub_not_from : {V : Type 0} (at : ℕ → ℕ) (xs : List ℕ) (f g : Lang V) → Sub f g → Sub (not_from at xs f) (not_from at xs g)
sub_not_from at xs f g s = record {
  whole = λ v i j w. (s.whole v i j w.0, w.1);
  part = λ i m p. (s.part i m p.0, p.1);
}

module _ (at : ℕ → ℕ) where
  -- a form that isn't empty
  pub some_form : {V : Type 0} (f : Form at V) → f.null ≡ false → (l : Limits) → Fine at false f.first f.more (f.form l)
  some_form f p l = subst (λ n. Fine at n f.first f.more (f.form l)) p (f.fine l)

  -- a form that begins with none of these
  pub not_from_empty : {V : Type 0} (xs first more : List ℕ) (f : Lang V) → Fine at false first more f → (m : ℕ) → Prefix f m m → Prefix (not_from at xs f) m m
  not_from_empty xs first more f F m (inl p) = inl (p, λ lt. omega arith)
  not_from_empty xs first more f F m (inr (v, w)) = elim (F.span v m m w) [ inl h ↦ absurd (omega arith) | inr h ↦ absurd (let e : false ≡ true = h.0 in cc) ]
