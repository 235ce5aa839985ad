-- Tests of facts, and of lists of them. Public: for all who speak of sets of facts.
use Rattle.std.proofs.Common.{◌≡◌, ℕ, ◌||◌, ◌&&◌, ◌⊎◌, Bool, true, false, List, [], ◌∷◌, ◌++◌, refl, sym, ap, ◌∙◌, inl, inr}
use Rattle.std.proofs.lemmas.Bool.{eqb-true, eq-eqb}
use Rattle.std.proofs.lemmas.List.Folds.{list_any-append}
use Rattle.sp_rules.specs.Facts.{is_fact, is_one_of}
use Rattle.sp_rules.specs.declared.fact.Fact.{Fact}
use Rattle.sp_rules.specs.declared.fact.Fact.TheVariants.{Eq, Le}

pub both_hold : (a b : Bool) → (a && b) ≡ true → (a ≡ true) × (b ≡ true)
both_hold true true e = (refl, refl)
both_hold true false e = absurd (cc)
both_hold false b e = absurd (cc)

pub both_true : (a b : Bool) → a ≡ true → b ≡ true → (a && b) ≡ true
both_true true b e d = d
both_true false b e d = absurd (cc)

pub one_holds : (a b : Bool) → (a || b) ≡ true → (a ≡ true) ⊎ (b ≡ true)
one_holds true b e = inl refl
one_holds false b e = inr e

pub first_holds : (a b : Bool) → a ≡ true → (a || b) ≡ true
first_holds true b e = refl
first_holds false b e = absurd (cc)

pub second_holds : (a b : Bool) → b ≡ true → (a || b) ≡ true
second_holds true b e = refl
second_holds false b e = e

pub or_false : (b : Bool) → (b || false) ≡ b
or_false true = refl
or_false false = refl

-- what the test takes for one fact is one
pub is_fact-true : (f g : Fact) → is_fact f g ≡ true → f ≡ g
is_fact-true (Eq i j) (Eq a b) e =
    let t = both_hold _ _ e in sym (ap (λ (x : ℕ). Eq x b) (eqb-true a i t.0) ∙ ap (λ (x : ℕ). Eq i x) (eqb-true b j t.1))
is_fact-true (Le i j) (Le a b) e =
    let t = both_hold _ _ e in sym (ap (λ (x : ℕ). Le x b) (eqb-true a i t.0) ∙ ap (λ (x : ℕ). Le i x) (eqb-true b j t.1))
is_fact-true (Eq i j) (Le a b) e = absurd (cc)
is_fact-true (Le i j) (Eq a b) e = absurd (cc)

pub is_fact-itself : (f : Fact) → is_fact f f ≡ true
is_fact-itself (Eq i j) = both_true _ _ (eq-eqb i i refl) (eq-eqb j j refl)
is_fact-itself (Le i j) = both_true _ _ (eq-eqb i i refl) (eq-eqb j j refl)

pub is_one_of-none : (f : Fact) → is_one_of [] f ≡ false
unfolding is_one_of
is_one_of-none f = refl

pub is_one_of-cons : (g : Fact) (gs : List Fact) (f : Fact) → is_one_of (g ∷ gs) f ≡ (is_fact g f || is_one_of gs f)
unfolding is_one_of
is_one_of-cons g gs f = refl

pub is_one_of-append : (xs ys : List Fact) (f : Fact) → is_one_of (xs ++ ys) f ≡ (is_one_of xs f || is_one_of ys f)
unfolding is_one_of
is_one_of-append xs ys f = list_any-append (λ g. is_fact g f) xs ys
