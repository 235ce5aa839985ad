-- What holds of the values of a form's parts holds of those of the form.
use Rattle.std.proofs.Common.{◌≡◌, ◌⊎◌, inl, inr, ℕ, List, [], ◌∷◌, Option, None, Some, sym, subst}
use Rattle.std.specs.List.{All}
use Rattle.std.proofs.lemmas.List.Elements.{All-nil, All-cons}
use Rattle.sp_text.specs.declared.token.Token.{Token}
use Rattle.sp_grammar.specs.Lang.{Lang, all_whole, maybe_whole}
use Rattle.sp_grammar.specs.Lang as lang
use Rattle.sp_forms.specs.Grammars.{Gram, list_or, meaning}
use Rattle.sp_forms.specs.Grammars as form

-- each value of the form has the property
abbrev pub Says : {V : Type 0} → Lang V → (V → Type 0) → Type 0
Says {V} f P = (v : V) (i j : ℕ) → f.whole v i j → P v

abbrev pub Anything : {V : Type 0} → V → Type 0
Anything v = Unit {0}

abbrev pub WhereSome : {V : Type 0} → (V → Type 0) → Option V → Type 0
WhereSome P None = Unit {0}
WhereSome P (Some v) = P v

pub says_anything : {V : Type 0} (f : Lang V) → Says f Anything
says_anything f v i j h = tt

pub says_seq : {A B : Type 0} (f : Lang A) (g : Lang B) (P : A → Type 0) (Q : B → Type 0) → Says f P → Says g Q → Says (lang.seq f g) (λ p. P p.0 × Q p.1)
says_seq f g P Q hf hg v i j (k, a, b) = (hf v.0 i k a, hg v.1 k j b)

pub says_either : {V : Type 0} (f g : Lang V) (P : V → Type 0) → Says f P → Says g P → Says (lang.either f g) P
says_either f g P hf hg v i j (inl h) = hf v i j h
says_either f g P hf hg v i j (inr h) = hg v i j h

pub says_made : {A B : Type 0} (make : A → ℕ → ℕ → B) (f : Lang A) (P : A → Type 0) (Q : B → Type 0) → Says f P → ((a : A) (i j : ℕ) → P a → Q (make a i j)) → Says (lang.made make f) Q
says_made make f P Q hf keeps v i j (a, e, w) = subst Q (sym e) (keeps a i j (hf a i j w))

pub says_optional : {V : Type 0} (f : Lang V) (P : V → Type 0) → Says f P → Says (lang.optional f) (WhereSome P)
says_optional f P hf None i j h = tt
says_optional f P hf (Some v) i j h = hf v i j h

pub says_star : {V : Type 0} (f : Lang V) (P : V → Type 0) → Says f P → Says (lang.star f) (All P)
says_star f P hf [] i j h = All-nil P
says_star f P hf (v ∷ vs) i j (k, one, rest) = All-cons P v vs (hf v i k one) (says_star f P hf vs k j rest)

module _ {R : Type 0} (ρ : Lang R) (ts : List Token) (b : ℕ) where
  abbrev pub Means : {V : Type 0} → Gram R V → (V → Type 0) → Type 0
  Means f P = Says (meaning f ρ ts b) P

  pub means_behind : {V : Type 0} (c : ℕ) (f : Gram R V) (P : V → Type 0) → Means f P → Means (form.behind c f) P
  means_behind c f P hf v i j (a, e, (k, t, w)) = subst P (sym e) (hf a.1 k j w)

  pub means_ended : {V : Type 0} (f : Gram R V) (c : ℕ) (P : V → Type 0) → Means f P → Means (form.ended f c) P
  means_ended f c P hf v i j (a, e, (k, w, t)) = subst P (sym e) (hf a.0 i k w)

  pub means_separated : {V : Type 0} (c : ℕ) (f : Gram R V) (P : V → Type 0) → Means f P → Means (form.separated c f) (All P)
  means_separated c f P hf v i j (a, e, (k, w, ws)) =
      subst (All P) (sym e) (All-cons P a.0 a.1 (hf a.0 i k w) (says_star (meaning (form.behind c f) ρ ts b) P (means_behind c f P hf) a.1 k j ws))

  list_keeps : {V : Type 0} (P : V → Type 0) (o : Option (List V)) → WhereSome (All P) o → All P (list_or o)
  list_keeps P None h = All-nil P
  list_keeps P (Some vs) h = h

  pub means_list : {V : Type 0} (f : Gram R (List V)) (P : V → Type 0) → Means f (All P) → Means (form.map list_or (form.optional f)) (All P)
  means_list f P hf v i j (a, e, w) = subst (All P) (sym e) (list_keeps P a (says_optional (meaning f ρ ts b) (All P) hf a i j w))

  pub means_section : {V : Type 0} (c : ℕ) (f : Gram R V) (P : V → Type 0) → Means f P → Means (form.section c f) (All P)
  means_section c f P hf = means_list (form.behind c (form.star f)) P (means_behind c (form.star f) (All P) (says_star (meaning f ρ ts b) P hf))
