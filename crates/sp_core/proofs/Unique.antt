-- Changes lead to one state, or two of them conflict.
use Rattle.std.proofs.Common.{◌≡◌, refl, sym, ◌∙◌, ap, subst, ℕ, Bool, true, false, ◌==◌, List, [], ◌∷◌, ◌++◌, Option, Some, ◌⊎◌, inl, inr, ⊎_elim}
use Rattle.std.specs.Prelude.{IsTrue}
use Rattle.std.specs.List.{All, Contains, list_all}
use Rattle.std.specs.Bool.{Decides}
use mathlib.Core.Path.{fun_ext}
use Rattle.std.proofs.lemmas.Bool.Decides.{Decides-eqb, Decides-by_and}
use Rattle.sp_values.specs.declared.value.Value.{Value}
use Rattle.sp_values.specs.declared.value.Ty.{Ty}
use Rattle.sp_values.specs.Identity.{same_value, same_value-Decides, same_values, same_values-Decides}
use Rattle.sp_values.specs.declared.place.Invocation.{Invocation}
use Rattle.sp_values.specs.Domains.{proper_values}
use Rattle.sp_core.specs.Tree.{Tree}
use Rattle.sp_core.specs.Effects.{GuardedChange}
use Rattle.sp_core.specs.Values.{World, Store, is_true}
use Rattle.sp_core.specs.Machine.{AreBindings, Changes, Conflict, IsTrueChange, Machine, given, target, value_at}
use Rattle.sp_core.proofs.Elements.{Contains-cons, Contains-first, Contains-later, Contains-nil}

abbrev Settled : Type 0 → Type 0
Settled P = P ⊎ (P → ⊥)

settled_by : (b : Bool) (P : Type 0) → Decides b P → Settled P
settled_by true P d = inl (d.0 refl)
settled_by false P d = inr (λ p. let e : true ≡ false = sym (d.1 p) in cc)

abbrev Found : {A : Type 0} → (A → Type 0) → List A → Type 0
Found {A} P xs = ((x : A) × Contains xs x × P x) ⊎ ((x : A) → Contains xs x → P x → ⊥)

-- one of finitely many, or none
sought : {A : Type 0} (P : A → Type 0) → ((x : A) → Settled (P x)) → (xs : List A) → Found P xs
sought P d [] = inr (λ x h p. Contains-nil x h)
sought P d (x ∷ xs) = elim (d x) [
  | inl p ↦ inl (x, Contains-first x xs, p)
  | inr n ↦ elim (sought P d xs) [
    | inl f ↦ inl (f.0, Contains-later x xs f.0 f.1, f.2)
    | inr m ↦ inr (λ y h p. ⊎_elim (λ e. n (subst P (sym e) p)) (λ k. m y k p) (Contains-cons x xs y h))
  ]
]

-- proper values for these types, or none
chosen : (w : World) (ts : List Ty) (P : List Value → Type 0) → ((cs : List Value) → Settled (P cs)) → ((cs : List Value) × AreBindings w ts cs × P cs) ⊎ ((cs : List Value) → AreBindings w ts cs → P cs → ⊥)
chosen w [] P d = elim (d []) [
  | inl p ↦ inl ([], tt, p)
  | inr n ↦ inr (λ cs. elim cs as (λ cs. AreBindings w [] cs → P cs → ⊥) [ [] ↦ λ a p. n p | c ∷ cs ↦ λ a p. absurd a ])
]
chosen w (t ∷ ts) P d =
    let Q : Value → Type 0 = λ c. (cs : List Value) × AreBindings w ts cs × P (c ∷ cs) in
    let each : (c : Value) → Settled (Q c) = λ c. elim (chosen w ts (λ cs. P (c ∷ cs)) (λ cs. d (c ∷ cs))) [ inl f ↦ inl f | inr n ↦ inr (λ q. n q.0 q.1 q.2) ] in
    elim (sought Q each (proper_values w.sizes t)) [
      | inl f ↦ inl (f.0 ∷ f.2.0, (f.1, f.2.1), f.2.2)
      | inr n ↦ inr (λ cs. elim cs as (λ cs. AreBindings w (t ∷ ts) cs → P cs → ⊥) [ [] ↦ λ a p. absurd a | c ∷ cs ↦ λ a p. n c a.0 (cs, a.1, p) ])
    ]

both : {P Q : Type 0} → Settled P → Settled Q → Settled (P × Q)
both p q = elim p [
  | inl a ↦ elim q [ inl b ↦ inl (a, b) | inr n ↦ inr (λ h. n h.1) ]
  | inr n ↦ inr (λ h. n h.0)
]

opposite : {P : Type 0} → Settled P → Settled (P → ⊥)
opposite p = elim p [ inl a ↦ inr (λ n. n a) | inr n ↦ inl n ]

-- one of these changes, with values of its bound variables
pub record IsChange (w : World) (as' : List GuardedChange) (P : GuardedChange → List Value → Type 0) (a : GuardedChange) (cs : List Value) : Type 0 where
  pub of : Contains as' a
  pub bindings : AreBindings w a.vars cs
  pub meets : P a cs

abbrev pub SomeChange : World → List GuardedChange → (GuardedChange → List Value → Type 0) → Type 0
SomeChange w as' P = (a : GuardedChange) × (cs : List Value) × IsChange w as' P a cs

-- one that meets P, or none does
some_change : (w : World) (as' : List GuardedChange) (P : GuardedChange → List Value → Type 0) → ((a : GuardedChange) (cs : List Value) → Settled (P a cs)) → Settled (SomeChange w as' P)
some_change w as' P d =
    let Q : GuardedChange → Type 0 = λ a. (cs : List Value) × AreBindings w a.vars cs × P a cs in
    let each : (a : GuardedChange) → Settled (Q a) = λ a. elim (chosen w a.vars (P a) (d a)) [ inl f ↦ inl f | inr n ↦ inr (λ q. n q.0 q.1 q.2) ] in
    elim (sought Q each as') [
      | inl f ↦ inl (f.0, f.2.0, record { of = f.1; bindings = f.2.1; meets = f.2.2 })
      | inr n ↦ inr (λ c. n c.0 c.2.of (c.1, c.2.bindings, c.2.meets))
    ]

module _ (m : Machine) (s base : Store) (i : Invocation) (as' : List GuardedChange) where
  abbrev Held : GuardedChange → List Value → Type 0
  Held a cs = All (λ g. IsTrue (is_true (value_at m s (i.args ++ cs) g))) a.guards

  held_settled : (a : GuardedChange) (cs : List Value) → Settled (All (λ g. IsTrue (is_true (value_at m s (i.args ++ cs) g))) a.guards)
  held_settled a cs =
      let p : Tree → Bool = λ g. is_true (value_at m s (i.args ++ cs) g) in
      settled_by (list_all p a.guards) _ (Decides-by_and p (λ g. IsTrue (p g)) (list_all p) (λ g. (λ e. e, λ e. e)) refl (λ x xs. refl) a.guards)

  same_settled : (u v : List Value) → Settled (u ≡ v)
  same_settled u v = settled_by (same_values u v) _ (same_values-Decides u v)

  abbrev Hits : ℕ → List Value → GuardedChange → List Value → Type 0
  Hits g v a cs = Held a cs × ((a.fun ≡ g) × (target m s base i a cs ≡ v))

  hits_settled : (g : ℕ) (v : List Value) (a : GuardedChange) (cs : List Value) → Settled (Hits g v a cs)
  hits_settled g v a cs = both (held_settled a cs) (both (settled_by (a.fun == g) _ (Decides-eqb a.fun g)) (same_settled (target m s base i a cs) v))

  -- a true change that names the place, or none
  pub hit : (g : ℕ) (v : List Value) → ((a : GuardedChange) × (cs : List Value) × IsTrueChange m s i as' a cs × ((a.fun ≡ g) × (target m s base i a cs ≡ v))) ⊎ ((a : GuardedChange) (cs : List Value) → IsTrueChange m s i as' a cs → a.fun ≡ g → target m s base i a cs ≡ v → ⊥)
  hit g v = elim (some_change m.world as' (Hits g v) (hits_settled g v)) [
    | inl f ↦ inl (f.0, f.1, record { of = f.2.of; bindings = f.2.bindings; held = f.2.meets.0 }, f.2.meets.1)
    | inr n ↦ inr (λ a cs c e p. n (a, cs, record { of = c.of; bindings = c.bindings; meets = (c.held, (e, p)) }))
  ]

  pub changes_one : (t u : Store) → Changes m s base i as' t → Changes m s base i as' u → t ≡ u
  changes_one t u h k = fun_ext (λ g. fun_ext (λ v. elim (hit g v) [
    | inl f ↦
        let a : t f.0.fun (target m s base i f.0 f.1) ≡ u f.0.fun (target m s base i f.0 f.1) = h.named f.0 f.1 f.2 ∙ sym (k.named f.0 f.1 f.2) in
        subst (λ g. t g v ≡ u g v) f.3.0 (subst (λ v. t f.0.fun v ≡ u f.0.fun v) f.3.1 a)
    | inr n ↦ h.others g v n ∙ sym (k.others g v n)
  ]))

  -- true changes that name one place give it one value
  abbrev pub AreConsistent : Type 0
  AreConsistent = (a b : GuardedChange) (cs ds : List Value) → IsTrueChange m s i as' a cs → IsTrueChange m s i as' b ds → a.fun ≡ b.fun → target m s base i a cs ≡ target m s base i b ds → given m s base i a cs ≡ given m s base i b ds

  -- consistent changes lead to a state
  module _ (consistent : AreConsistent) where
    abbrev Hit : ℕ → List Value → Type 0
    Hit g v = ((a : GuardedChange) × (cs : List Value) × IsTrueChange m s i as' a cs × ((a.fun ≡ g) × (target m s base i a cs ≡ v))) ⊎ ((a : GuardedChange) (cs : List Value) → IsTrueChange m s i as' a cs → a.fun ≡ g → target m s base i a cs ≡ v → ⊥)

    abbrev entry : (g : ℕ) (v : List Value) → Hit g v → Option Value
    entry g v (inl c) = Some (given m s base i c.0 c.1)
    entry g v (inr n) = base g v

    named_entry : (a : GuardedChange) (cs : List Value) → IsTrueChange m s i as' a cs → (o : Hit a.fun (target m s base i a cs)) → entry a.fun (target m s base i a cs) o ≡ Some (given m s base i a cs)
    named_entry a cs c (inl k) = ap Some (consistent k.0 a k.1 cs k.2 c k.3.0 k.3.1)
    named_entry a cs c (inr n) = absurd (n a cs c refl refl)

    other_entry : (g : ℕ) (v : List Value) → ((a : GuardedChange) (cs : List Value) → IsTrueChange m s i as' a cs → a.fun ≡ g → target m s base i a cs ≡ v → ⊥) → (o : Hit g v) → entry g v o ≡ base g v
    other_entry g v n (inl k) = absurd (n k.0 k.1 k.2 k.3.0 k.3.1)
    other_entry g v n (inr k) = refl

    pub changes_some : (t : Store) × Changes m s base i as' t
    changes_some = (
      λ g v. entry g v (hit g v),
      record {
        named = λ a cs c. named_entry a cs c (hit a.fun (target m s base i a cs));
        others = λ g v n. other_entry g v n (hit g v);
      },
    )

  -- Conflicts

  abbrev Opposes : GuardedChange → List Value → GuardedChange → List Value → Type 0
  Opposes a cs b ds = Held b ds × ((a.fun ≡ b.fun) × (target m s base i a cs ≡ target m s base i b ds) × (given m s base i a cs ≡ given m s base i b ds → ⊥))

  opposes_settled : (a : GuardedChange) (cs : List Value) (b : GuardedChange) (ds : List Value) → Settled (Opposes a cs b ds)
  opposes_settled a cs b ds =
      let x = given m s base i a cs in
      let y = given m s base i b ds in
      both (held_settled b ds) (three (settled_by (a.fun == b.fun) _ (Decides-eqb a.fun b.fun)) (same_settled (target m s base i a cs) (target m s base i b ds)) (opposite (settled_by (same_value x y) _ (same_value-Decides x y))))
    where
      three : {P Q R : Type 0} → Settled P → Settled Q → Settled R → Settled (P × Q × R)
      three p q r = elim (both p (both q r)) [ inl h ↦ inl (h.0, h.1.0, h.1.1) | inr n ↦ inr (λ h. n (h.0, (h.1, h.2))) ]

  abbrev IsOpposed : GuardedChange → List Value → Type 0
  IsOpposed a cs = Held a cs × SomeChange m.world as' (Opposes a cs)

  -- two true changes conflict, or all are consistent
  pub conflict_or_none : Conflict m s base i as' ⊎ AreConsistent
  conflict_or_none = elim (some_change m.world as' IsOpposed (λ a cs. both (held_settled a cs) (some_change m.world as' (Opposes a cs) (opposes_settled a cs)))) [
    | inl f ↦
        let o = f.2.meets.1 in
        inl (
          f.0,
          o.0,
          f.1,
          o.1,
          record {
            first = record { of = f.2.of; bindings = f.2.bindings; held = f.2.meets.0 };
            second = record { of = o.2.of; bindings = o.2.bindings; held = o.2.meets.0 };
            function = o.2.meets.1.0;
            arguments = o.2.meets.1.1;
            values = o.2.meets.1.2;
          },
        )
    | inr n ↦ inr (λ a b cs ds c d e q.
        let x = given m s base i a cs in
        let y = given m s base i b ds in
        elim (settled_by (same_value x y) (x ≡ y) (same_value-Decides x y)) [
          | inl same ↦ same
          | inr differ ↦ absurd (n (a, cs, record { of = c.of; bindings = c.bindings; meets = (c.held, (b, ds, record { of = d.of; bindings = d.bindings; meets = (d.held, (e, q, differ)) })) }))
        ])
  ]

  -- changes that conflict lead to no state
  pub no_changes : (t : Store) → Conflict m s base i as' → Changes m s base i as' t → ⊥
  no_changes t (a, b, cs, ds, h) made =
      let there : Some (given m s base i a cs) ≡ Some (given m s base i b ds) = sym (made.named a cs h.first) ∙ (λ j. t (h.function j) (h.arguments j)) ∙ made.named b ds h.second in
      h.values cc
