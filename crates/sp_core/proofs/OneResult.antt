-- Effects with one result on each path have from each state exactly one result whose guards are TRUE.
use Rattle.std.proofs.Common.{◌≡◌, refl, sym, ◌∙◌, ap, subst, arith, ℕ, zero, suc, Bool, true, false, List, [], ◌∷◌, ◌++◌, map, Some, ◌⊎◌, inl, inr}
use Rattle.std.specs.Prelude.{slice_get, not}
use Rattle.std.specs.List.{All}
use Rattle.std.proofs.lemmas.List.Elements.{All-cons, All-head, All-tail}
use Rattle.sp_values.specs.declared.value.Value.{Value}
use Rattle.sp_values.specs.declared.place.Invocation.{Invocation}
use Rattle.sp_core.specs.Tree.{Tree, Not}
use Rattle.sp_core.specs.Effects.{EffectTree, EffectTrees, GuardedResult, Change, Answer, If, Every, none, more, result_under, results, results_in}
use Rattle.sp_core.specs.Machine.{IsHeld, IsResult, IsResultAt, Machine, value_at}
use Rattle.sp_core.specs.Measures.{HasResults, HaveResults}
use Rattle.sp_core.specs.Values.{Store, is_true, value_over}

module _ (m : Machine) (s u : Store) (i : Invocation) where
  abbrev Held : GuardedResult → Type 0
  Held r = All (IsHeld m s i.args) r.guards

  abbrev Without : List GuardedResult → Type 0
  Without [] = Unit {0}
  Without (r ∷ rs) = (Held r → ⊥) × Without rs

  abbrev One : List GuardedResult → Type 0
  One [] = ⊥
  One (r ∷ rs) = (Held r × Without rs) ⊎ ((Held r → ⊥) × One rs)

  without_append : (as' bs : List GuardedResult) → Without as' → Without bs → Without (as' ++ bs)
  without_append [] bs h k = k
  without_append (r ∷ as') bs h k = (h.0, without_append as' bs h.1 k)

  one_before : (as' bs : List GuardedResult) → One as' → Without bs → One (as' ++ bs)
  one_before [] bs h k = absurd h
  one_before (r ∷ as') bs (inl h) k = inl (h.0, without_append as' bs h.1 k)
  one_before (r ∷ as') bs (inr h) k = inr (h.0, one_before as' bs h.1 k)

  one_behind : (as' bs : List GuardedResult) → Without as' → One bs → One (as' ++ bs)
  one_behind [] bs h k = k
  one_behind (r ∷ as') bs h k = inr (h.0, one_behind as' bs h.1 k)

  inner : (c : Tree) (r : GuardedResult) → Held (result_under c r) → Held r
  inner c r h = All-tail (IsHeld m s i.args) c r.guards h

  outer : (c : Tree) (r : GuardedResult) → IsHeld m s i.args c → Held r → Held (result_under c r)
  outer c r t h = All-cons (IsHeld m s i.args) c r.guards t h

  without_under : (c : Tree) (rs : List GuardedResult) → Without rs → Without (map (result_under c) rs)
  without_under c [] h = tt
  without_under c (r ∷ rs) h = (λ k. h.0 (inner c r k), without_under c rs h.1)

  without_false : (c : Tree) (rs : List GuardedResult) → (IsHeld m s i.args c → ⊥) → Without (map (result_under c) rs)
  without_false c [] n = tt
  without_false c (r ∷ rs) n = (λ k. n (All-head (IsHeld m s i.args) c r.guards k), without_false c rs n)

  one_under : (c : Tree) (rs : List GuardedResult) → IsHeld m s i.args c → One rs → One (map (result_under c) rs)
  one_under c [] t h = absurd h
  one_under c (r ∷ rs) t (inl h) = inl (outer c r t h.0, without_under c rs h.1)
  one_under c (r ∷ rs) t (inr h) = inr (λ k. h.0 (inner c r k), one_under c rs t h.1)

  mutual
    no_result : (w : EffectTree) → HasResults 0 w → Without (results w)
    no_result (Change g ds e) h = tt
    no_result (Answer e) h = absurd (omega (arith, h))
    no_result (If c as' bs) h = without_append (map (result_under c) (results_in as')) (map (result_under (Not c)) (results_in bs)) (without_under c (results_in as') (no_results as' h.0)) (without_under (Not c) (results_in bs) (no_results bs h.1))
    no_result (Every k t ws) h = tt

    no_results : (ws : EffectTrees) → HaveResults 0 ws → Without (results_in ws)
    no_results none h = tt
    no_results (more w ws) h =
        let sum = h.2 in
        let a : h.0 ≡ 0 = omega (arith, sum) in
        let b : h.1 ≡ 0 = omega (arith, sum) in
        without_append (results w) (results_in ws) (no_result w (subst (λ n. HasResults n w) a h.3)) (no_results ws (subst (λ n. HaveResults n ws) b h.4))

  branch : (c : Tree) (as' bs : List GuardedResult) → One as' → One bs → (b : Bool) → is_true (value_at m s i.args c) ≡ b → One (map (result_under c) as' ++ map (result_under (Not c)) bs)
  branch c as' bs h k true e =
      one_before (map (result_under c) as') (map (result_under (Not c)) bs) (one_under c as' e h) (without_false (Not c) bs (λ n. let f : false ≡ true = ap not (sym e) ∙ n in cc))
  branch c as' bs h k false e =
      one_behind (map (result_under c) as') (map (result_under (Not c)) bs) (without_false c as' (λ n. let f : false ≡ true = sym e ∙ n in cc)) (one_under (Not c) bs (ap not e) k)

  mutual
    one_result : (w : EffectTree) → HasResults 1 w → One (results w)
    one_result (Change g ds e) h = absurd (omega (arith, h))
    one_result (Answer e) h = inl ((λ k d l. absurd (omega (arith, l))), tt)
    one_result (If c as' bs) h = branch c (results_in as') (results_in bs) (one_results as' h.0) (one_results bs h.1) (is_true (value_at m s i.args c)) refl
    one_result (Every k t ws) h = let e = h.0 in absurd (omega (arith, e))

    pub one_results : (ws : EffectTrees) → HaveResults 1 ws → One (results_in ws)
    one_results none h = absurd (omega (arith, h))
    one_results (more w ws) (zero, b, e, h, k) =
        let q : b ≡ 1 = omega (arith, e) in
        one_behind (results w) (results_in ws) (no_result w h) (one_results ws (subst (λ n. HaveResults n ws) q k))
    one_results (more w ws) (suc a, b, e, h, k) =
        let p : suc a ≡ 1 = omega (arith, e) in
        let q : b ≡ 0 = omega (arith, e) in
        one_before (results w) (results_in ws) (one_result w (subst (λ n. HasResults n w) p h)) (no_results ws (subst (λ n. HaveResults n ws) q k))

  absent : (rs : List GuardedResult) → Without rs → (j : ℕ) (q : GuardedResult) → slice_get rs j ≡ Some q → Held q → ⊥
  absent [] h j q e k = cc
  absent (r ∷ rs) h zero q e k = let same : r ≡ q = cc in h.0 (subst (λ (x : GuardedResult). Held x) (sym same) k)
  absent (r ∷ rs) h (suc j) q e k = absent rs h.1 j q e k

  pub is_result : (rs : List GuardedResult) → One rs → (k : ℕ) × (r : GuardedResult) × IsResultAt m s u i rs (value_over m.world m.functions s u i.args r.value) k r
  is_result [] h = absurd h
  is_result (r ∷ rs) (inl h) = (0, r, record { there = refl; held = h.0; only = only; value = refl })
    where
      only : (j : ℕ) (q : GuardedResult) → slice_get (r ∷ rs) j ≡ Some q → Held q → j ≡ 0
      only zero q e k = refl
      only (suc j) q e k = absurd (absent rs h.1 j q e k)
  is_result (r ∷ rs) (inr h) = let n = is_result rs h.1 in (suc n.0, n.1, record { there = n.2.there; held = n.2.held; only = only n.0 n.2.only; value = refl })
    where
      only : (o : ℕ) → ((j : ℕ) (q : GuardedResult) → slice_get rs j ≡ Some q → Held q → j ≡ o) → (j : ℕ) (q : GuardedResult) → slice_get (r ∷ rs) j ≡ Some q → Held q → j ≡ suc o
      only o f zero q e k = let same : r ≡ q = cc in absurd (h.0 (subst (λ (x : GuardedResult). Held x) (sym same) k))
      only o f (suc j) q e k = ap suc (f j q e k)

  pub some_result : (rs : List GuardedResult) → One rs → (v : Value) × IsResult m s u i rs v
  some_result rs h = pack (is_result rs h)
    where
      pack : (k : ℕ) × (r : GuardedResult) × IsResultAt m s u i rs (value_over m.world m.functions s u i.args r.value) k r → (v : Value) × IsResult m s u i rs v
      pack n = (value_over m.world m.functions s u i.args n.1.value, (n.0, n.1, n.2))

-- exactly one result, over an old and a new state
pub one_result_of : (ws : EffectTrees) → HaveResults 1 ws → (m : Machine) (s u : Store) (i : Invocation) → (v : Value) × IsResult m s u i (results_in ws) v
one_result_of ws h m s u i = some_result m s u i (results_in ws) (one_results m s u i ws h)
