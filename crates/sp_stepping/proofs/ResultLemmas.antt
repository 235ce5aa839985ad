-- The first true result of effects, by their forms, and that it is the one true result.
use Rattle.std.proofs.Common.{◌≡◌, refl, sym, ◌∙◌, ap, arith, ℕ, zero, suc, Bool, true, false, List, [], ◌∷◌, ◌++◌, map, Option, Some, None, true≢false}
use Rattle.std.specs.Prelude.{if◌then◌else◌, not, slice_get, ◌&&◌}
use Rattle.std.specs.List.{All, list_all}
use Rattle.std.proofs.lemmas.List.Elements.{All-cons, All-nil, All-head, All-tail}
use Rattle.std.proofs.lemmas.Option.{none-some, same_Some}
use Rattle.sp_values.specs.declared.value.Value.{Value}
use Rattle.sp_values.specs.declared.place.Invocation.{Invocation}
use Rattle.sp_core.specs.Effects.{EffectTree, EffectTrees, GuardedResult, If, more, result_under, results, results_in}
use Rattle.sp_core.specs.Machine.{IsResult, Machine, value_at}
use Rattle.sp_core.specs.Tree.{Tree, Not}
use Rattle.sp_core.specs.Values.{Store, is_true, value_over}
use Rattle.sp_eval.specs.Overlays.{upper_or}
use Rattle.sp_stepping.specs.Moments.{first_result, is_held}

-- guards
first_true : (a b : Bool) → (a && b) ≡ true → a ≡ true
first_true true b e = refl
first_true false b e = absurd (true≢false (sym e))

then_true : (a b : Bool) → (a && b) ≡ true → b ≡ true
then_true true b e = e
then_true false b e = absurd (true≢false (sym e))

both : (a b : Bool) → a ≡ true → b ≡ true → (a && b) ≡ true
both true b p q = q
both false b p q = absurd (true≢false (sym p))

all_held : (p : Tree → Bool) (gs : List Tree) → list_all p gs ≡ true → All (λ g. p g ≡ true) gs
all_held p [] h = All-nil (λ g. p g ≡ true)
all_held p (g ∷ gs) h = All-cons (λ g. p g ≡ true) g gs (first_true (p g) (list_all p gs) h) (all_held p gs (then_true (p g) (list_all p gs) h))

held_all : (p : Tree → Bool) (gs : List Tree) → All (λ g. p g ≡ true) gs → list_all p gs ≡ true
held_all p [] h = refl
held_all p (g ∷ gs) h = both (p g) (list_all p gs) (All-head (λ g. p g ≡ true) g gs h) (held_all p gs (All-tail (λ g. p g ≡ true) g gs h))

nothing_under : (o : Option Value) → upper_or o None ≡ o
nothing_under None = refl
nothing_under (Some x) = refl

module _ (m : Machine) (s u : Store) (x : List Value) where
  pub first_append : (rs qs : List GuardedResult) → first_result m s u x (rs ++ qs) ≡ upper_or (first_result m s u x rs) (first_result m s u x qs)
  first_append [] qs = refl
  first_append (r ∷ rs) qs = by (is_held m s x r) (first_append rs qs)
    where
      by : (b : Bool) → first_result m s u x (rs ++ qs) ≡ upper_or (first_result m s u x rs) (first_result m s u x qs)
          → (if b then Some (value_over m.world m.functions s u x r.value) else first_result m s u x (rs ++ qs))
          ≡ upper_or (if b then Some (value_over m.world m.functions s u x r.value) else first_result m s u x rs) (first_result m s u x qs)
      by true h = refl
      by false h = h

  under : (c : Tree) (rs : List GuardedResult) (b : Bool) → is_true (value_at m s x c) ≡ b → first_result m s u x (map (result_under c) rs) ≡ (if b then first_result m s u x rs else None)
  under c [] true e = refl
  under c [] false e = refl
  under c (r ∷ rs) true e =
      (λ j. if e j && is_held m s x r then Some (value_over m.world m.functions s u x r.value) else under c rs true e j)
  under c (r ∷ rs) false e =
      (λ j. if e j && is_held m s x r then Some (value_over m.world m.functions s u x r.value) else under c rs false e j)

  pub first_if : (w : EffectTree) (c : Tree) (as' bs : EffectTrees) → w ≡ If c as' bs → (b : Bool) → b ≡ is_true (value_at m s x c)
      → first_result m s u x (results w) ≡ (if b then first_result m s u x (results_in as') else first_result m s u x (results_in bs))
  first_if w c as' bs form b e =
      ap (λ w. first_result m s u x (results w)) form
      ∙ first_append (map (result_under c) (results_in as')) (map (result_under (Not c)) (results_in bs))
      ∙ (λ j. upper_or (under c (results_in as') b (sym e) j) (under (Not c) (results_in bs) (not b) (ap not (sym e)) j)) ∙ by b
    where
      by : (b : Bool) → upper_or (if b then first_result m s u x (results_in as') else None) (if not b then first_result m s u x (results_in bs) else None)
          ≡ (if b then first_result m s u x (results_in as') else first_result m s u x (results_in bs))
      by true = nothing_under (first_result m s u x (results_in as'))
      by false = refl

  pub first_more : (ws vs : EffectTrees) (w : EffectTree) → ws ≡ more w vs → first_result m s u x (results_in ws) ≡ upper_or (first_result m s u x (results w)) (first_result m s u x (results_in vs))
  first_more ws vs w form = ap (λ v. first_result m s u x (results_in v)) form ∙ first_append (results w) (results_in vs)

  found : (rs : List GuardedResult) (k : ℕ) (r : GuardedResult) → slice_get rs k ≡ Some r → is_held m s x r ≡ true
      → ((j : ℕ) (q : GuardedResult) → slice_get rs j ≡ Some q → is_held m s x q ≡ true → j ≡ k) → first_result m s u x rs ≡ Some (value_over m.world m.functions s u x r.value)
  found [] k r there held only = absurd (none-some r there)
  found (q ∷ rs) zero r there held only =
      let same : q ≡ r = same_Some q r there in
      (λ j. if (ap (is_held m s x) same ∙ held) j then Some (value_over m.world m.functions s u x q.value) else first_result m s u x rs)
      ∙ ap (λ (y : GuardedResult). Some (value_over m.world m.functions s u x y.value)) same
  found (q ∷ rs) (suc k) r there held only =
      by (is_held m s x q) refl (found rs k r there held (λ j p at h. let next = only (suc j) p at h in omega (arith, next)))
    where
      by : (b : Bool) → is_held m s x q ≡ b → first_result m s u x rs ≡ Some (value_over m.world m.functions s u x r.value)
          → (if b then Some (value_over m.world m.functions s u x q.value) else first_result m s u x rs) ≡ Some (value_over m.world m.functions s u x r.value)
      by true e rest = let none : 0 ≡ suc k = only 0 q refl e in absurd (omega (arith, none))
      by false e rest = rest

-- the one true result is the first one
pub first_is : (m : Machine) (s u : Store) (i : Invocation) (rs : List GuardedResult) (v : Value) → IsResult m s u i rs v → first_result m s u i.args rs ≡ Some v
first_is m s u i rs v (k, r, at) =
    found m s u i.args rs k r at.there (held_all (λ g. is_true (value_at m s i.args g)) r.guards at.held)
    (λ j q there held. at.only j q there (all_held (λ g. is_true (value_at m s i.args g)) q.guards held))
    ∙ ap Some (sym at.value)
