-- What a state is after changes without guards and bound variables, for worked examples.
use Rattle.std.proofs.Common.{◌≡◌, refl, sym, ◌∙◌, ap, subst, arith, ℕ, zero, suc, ◌<◌, Bool, true, false, List, [], ◌∷◌, Some, ◌⊎◌, inl, inr}
use Rattle.std.specs.Prelude.{if◌then◌else◌, slice_index_or}
use Rattle.std.specs.List.{Contains}
use Rattle.sp_values.specs.declared.place.Invocation.{Invocation}
use Rattle.sp_values.specs.declared.value.Value.{Value}
use Rattle.sp_core.specs.Effects.{GuardedChange}
use Rattle.sp_core.specs.Machine.{AreBindings, Changes, IsTrueChange, Machine, given, target}
use Rattle.sp_core.specs.States.{put_at}
use Rattle.sp_core.specs.Tree.{Tree, Trees}
use Rattle.sp_core.specs.Values.{Store}
use Rattle.sp_core.proofs.StateLemmas.{hit, hit-Decides}

-- a change without guards and bound variables
abbrev pub plain : ℕ → Trees → Tree → GuardedChange
plain g ds e = record { vars = []; guards = []; fun = g; args = ds; value = e }

pub one_case : {A : Type 0} (a x : A) → Contains (a ∷ []) x → x ≡ a
one_case a x h = by h.0 h.1 h.2
  where
    by : (k : ℕ) → k < 1 → slice_index_or (a ∷ []) k x ≡ x → x ≡ a
    by zero l e = sym e
    by (suc k) l e = absurd (omega (arith, l))

pub two_cases : {A : Type 0} (a b x : A) → Contains (a ∷ b ∷ []) x → (x ≡ a) ⊎ (x ≡ b)
two_cases a b x h = by h.0 h.1 h.2
  where
    by : (k : ℕ) → k < 2 → slice_index_or (a ∷ b ∷ []) k x ≡ x → (x ≡ a) ⊎ (x ≡ b)
    by zero l e = inl (sym e)
    by (suc zero) l e = inr (sym e)
    by (suc (suc k)) l e = absurd (omega (arith, l))

pub contains_none : {A : Type 0} (x : A) → Contains [] x → ⊥
contains_none x h = omega (arith, h.1)

-- the place that is put has the value, and each other place what it had
pub put_same : (g : ℕ) (v : List Value) (x : Value) (s : Store) → put_at g v x s g v ≡ Some x
put_same g v x s = ap (λ b. if b then Some x else s g v) ((hit-Decides g v g v).1 (refl, refl))

pub put_other : (g : ℕ) (v : List Value) (x : Value) (s : Store) (h : ℕ) (u : List Value) → ((g ≡ h) × (v ≡ u) → ⊥) → put_at g v x s h u ≡ s h u
put_other g v x s h u n = by (hit g v h u) (λ e. n ((hit-Decides g v h u).0 e))
  where
    by : (b : Bool) → (b ≡ true → ⊥) → (if b then Some x else s h u) ≡ s h u
    by true m = absurd (m refl)
    by false m = refl

-- a plain change is true
pub plain_true : (m : Machine) (s : Store) (i : Invocation) (as' : List GuardedChange) (g : ℕ) (ds : Trees) (e : Tree) → Contains as' (plain g ds e) → IsTrueChange m s i as' (plain g ds e) []
plain_true m s i as' g ds e c = record { of = c; bindings = tt; held = λ k d l. absurd (omega (arith, l)) }

-- what a plain change names and gives, over an old and a new state
pub record Puts (m : Machine) (s b : Store) (i : Invocation) (g : ℕ) (ds : Trees) (e : Tree) (v : List Value) (x : Value) : Type 0 where
  pub at : target m s b i (plain g ds e) [] ≡ v
  pub gives : given m s b i (plain g ds e) [] ≡ x

-- a state in which a plain change's place has its value has what that change, with any values, gives
plain_named : (m : Machine) (s b t : Store) (i : Invocation) (g : ℕ) (ds : Trees) (e : Tree) (v : List Value) (x : Value) → Puts m s b i g ds e v x → t g v ≡ Some x
    → (a : GuardedChange) (cs : List Value) → AreBindings m.world a.vars cs → a ≡ plain g ds e → t a.fun (target m s b i a cs) ≡ Some (given m s b i a cs)
plain_named m s b t i g ds e v x p q a cs n h = subst (λ c. AreBindings m.world c.vars cs → t c.fun (target m s b i c cs) ≡ Some (given m s b i c cs)) (sym h) (by cs) n
  where
    by : (cs : List Value) → AreBindings m.world [] cs → t g (target m s b i (plain g ds e) cs) ≡ Some (given m s b i (plain g ds e) cs)
    by [] n = ap (t g) p.at ∙ q ∙ ap Some (sym p.gives)
    by (c ∷ cs) n = absurd n

-- one plain change, and two of different places
pub one_change : (m : Machine) (s b : Store) (i : Invocation) (g : ℕ) (ds : Trees) (e : Tree) (v : List Value) (x : Value) → Puts m s b i g ds e v x → Changes m s b i (plain g ds e ∷ []) (put_at g v x b)
one_change m s b i g ds e v x p = record {
  named = λ a cs h. plain_named m s b (put_at g v x b) i g ds e v x p (put_same g v x b) a cs h.bindings (one_case (plain g ds e) a h.of);
  others = λ k w n. put_other g v x b k w (λ q. n (plain g ds e) [] (plain_true m s i (plain g ds e ∷ []) g ds e (0, omega arith, refl)) q.0 (p.at ∙ q.1));
}

pub two_changes : (m : Machine) (s b : Store) (i : Invocation) (g : ℕ) (ds : Trees) (e : Tree) (v : List Value) (x : Value) (h : ℕ) (es : Trees) (f : Tree) (u : List Value) (y : Value)
    → Puts m s b i g ds e v x → Puts m s b i h es f u y → ((g ≡ h) × (v ≡ u) → ⊥) → Changes m s b i (plain g ds e ∷ plain h es f ∷ []) (put_at g v x (put_at h u y b))
two_changes m s b i g ds e v x h es f u y p q d = record {
  named = λ a cs c. named a cs c.bindings (two_cases (plain g ds e) (plain h es f) a c.of);
  others = λ k w n.
      put_other g v x (put_at h u y b) k w (λ r. n (plain g ds e) [] (plain_true m s i (plain g ds e ∷ plain h es f ∷ []) g ds e (0, omega arith, refl)) r.0 (p.at ∙ r.1))
      ∙ put_other h u y b k w (λ r. n (plain h es f) [] (plain_true m s i (plain g ds e ∷ plain h es f ∷ []) h es f (1, omega arith, refl)) r.0 (q.at ∙ r.1));
}
  where
    named : (a : GuardedChange) (cs : List Value) → AreBindings m.world a.vars cs → (a ≡ plain g ds e) ⊎ (a ≡ plain h es f) → put_at g v x (put_at h u y b) a.fun (target m s b i a cs) ≡ Some (given m s b i a cs)
    named a cs n (inl r) = plain_named m s b (put_at g v x (put_at h u y b)) i g ds e v x p (put_same g v x (put_at h u y b)) a cs n r
    named a cs n (inr r) = plain_named m s b (put_at g v x (put_at h u y b)) i h es f u y q (put_other g v x (put_at h u y b) h u d ∙ put_same h u y b) a cs n r
