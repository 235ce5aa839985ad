-- The order of new values: its test tells whether there is a chain, and no quoted reference closes a cycle where there is none.
use Rattle.std.proofs.Common.{◌≡◌, refl, sym, ◌∙◌, ap, subst, ℕ, zero, suc, Bool, true, false, ◌==◌, ◌⊎◌, inl, inr, List, [], ◌∷◌, ◌++◌, map}
use Rattle.std.specs.Prelude.{◌↔◌, ◌||◌, ◌&&◌, if◌then◌else◌}
use Rattle.std.specs.List.{Contains}
use Rattle.std.proofs.lemmas.Bool.Decides.{Decides-eqb}
use Rattle.sp_text.specs.declared.fault.Rule.TheVariants as rule
use Rattle.sp_text.specs.Violations.{breaks}
use Rattle.sp_cycles.proofs.Elements.{Contains-cons, Contains-first, Contains-later, Contains-map, Contains-nil}
use Rattle.sp_cycles.specs.Order.{IsBefore, IsLed, Leads, cycle_rules, is_before, is_led, leads_by}
use Rattle.sp_cycles.specs.declared.order.Quoted.{Quoted}

pub or_first : (a b : Bool) → a ≡ true → (a || b) ≡ true
or_first true b h = refl
or_first false b h = cc

pub or_second : (a b : Bool) → b ≡ true → (a || b) ≡ true
or_second true b h = refl
or_second false b h = h

pub or_cases : (a b : Bool) → (a || b) ≡ true → (a ≡ true) ⊎ (b ≡ true)
or_cases true b h = inl refl
or_cases false b h = inr h

pub and_both : (a b : Bool) → a ≡ true → b ≡ true → (a && b) ≡ true
and_both true b h k = k
and_both false b h k = cc

pub and_first : (a b : Bool) → (a && b) ≡ true → a ≡ true
and_first true b h = refl
and_first false b h = cc

pub and_second : (a b : Bool) → (a && b) ≡ true → b ≡ true
and_second true b h = h
and_second false b h = cc

pub equal_is : (a b : ℕ) → (a == b) ≡ true → a ≡ b
equal_is a b h = (Decides-eqb a b).0 h

pub is_equal : (a b : ℕ) → a ≡ b → (a == b) ≡ true
is_equal a b h = (Decides-eqb a b).1 h

-- One step

pub later : (q : Quoted) (qs : List Quoted) (h g : ℕ) → IsBefore qs h g → IsBefore (q ∷ qs) h g
later q qs h g (r, b) = (r, record { of = Contains-later q qs r b.of; reads = b.reads; changes = b.changes })

before_is : (qs : List Quoted) (h g : ℕ) → is_before qs h g ≡ true → IsBefore qs h g
before_is [] h g e = cc
before_is (q ∷ qs) h g e = elim (or_cases ((q.read == h) && (q.changed == g)) (is_before qs h g) e) [
  | inl own ↦ (q, record { of = Contains-first q qs; reads = equal_is q.read h (and_first (q.read == h) (q.changed == g) own); changes = equal_is q.changed g (and_second (q.read == h) (q.changed == g) own) })
  | inr rest ↦ later q qs h g (before_is qs h g rest)
]

is_before_from : (qs : List Quoted) (h g : ℕ) (q : Quoted) → Contains qs q → q.read ≡ h → q.changed ≡ g → is_before qs h g ≡ true
is_before_from [] h g q c r e = absurd (Contains-nil q c)
is_before_from (p ∷ qs) h g q c r e = elim (Contains-cons p qs q c) [
  | inl same ↦ or_first ((p.read == h) && (p.changed == g)) (is_before qs h g)
      (and_both (p.read == h) (p.changed == g) (is_equal p.read h (ap (λ (x : Quoted). x.read) same ∙ r)) (is_equal p.changed g (ap (λ (x : Quoted). x.changed) same ∙ e)))
  | inr k ↦ or_second ((p.read == h) && (p.changed == g)) (is_before qs h g) (is_before_from qs h g q k r e)
]

module _ (qs : List Quoted) where
  -- a chain and one step more
  abbrev IsLedOn : ℕ → ℕ → Type 0
  IsLedOn h g = (k : ℕ) × IsLed qs h k × IsBefore qs k g

  led_on : (h k g : ℕ) → IsLed qs h k → IsBefore qs k g → IsLed qs h g
  led_on h k g c b = (suc c.0, (k, c.1, b))

  -- chains, one after the other
  pub joined : (n : ℕ) (h k g : ℕ) → IsLed qs h k → Leads qs n k g → IsLed qs h g
  joined zero h k g c e = subst (IsLed qs h) e c
  joined (suc n) h k g c (m, d, b) = led_on h m g (joined n h k m c d) b

  -- What the test finds

  found : (ks : List ℕ) (h g : ℕ) → leads_by qs ks h g ≡ true → IsLedOn h g
  found [] h g e = (h, (0, refl), before_is qs h g e)
  found (k ∷ ks) h g e = elim (or_cases (leads_by qs ks h g) (leads_by qs ks h k && leads_by qs ks k g) e) [
    | inl own ↦ found ks h g own
    | inr both ↦
        let there = found ks h k (and_first (leads_by qs ks h k) (leads_by qs ks k g) both) in
        let on = found ks k g (and_second (leads_by qs ks h k) (leads_by qs ks k g) both) in
        (on.0, joined on.1.0 h k on.0 (led_on h there.0 k there.1 there.2) on.1.1, on.2)
  ]

  pub found_chain : (h g : ℕ) → is_led qs h g ≡ true → IsLed qs h g
  found_chain h g e = elim (or_cases (h == g) (leads_by qs (map (λ q. q.changed) qs) h g) e) [
    | inl same ↦ (0, equal_is h g same)
    | inr more ↦ by (found (map (λ q. q.changed) qs) h g more)
  ]
    where
      by : IsLedOn h g → IsLed qs h g
      by (k, c, b) = led_on h k g c b

  -- What the test doesn't miss

  one_step : (ks : List ℕ) (h g : ℕ) → is_before qs h g ≡ true → leads_by qs ks h g ≡ true
  one_step [] h g e = e
  one_step (k ∷ ks) h g e = or_first (leads_by qs ks h g) (leads_by qs ks h k && leads_by qs ks k g) (one_step ks h g e)

  -- to function k there is no need to come through it, nor from it
  to_it : (k : ℕ) (ks : List ℕ) (h : ℕ) → leads_by qs (k ∷ ks) h k ≡ true → leads_by qs ks h k ≡ true
  to_it k ks h e = elim (or_cases (leads_by qs ks h k) (leads_by qs ks h k && leads_by qs ks k k) e) [
    | inl own ↦ own
    | inr both ↦ and_first (leads_by qs ks h k) (leads_by qs ks k k) both
  ]

  from_it : (k : ℕ) (ks : List ℕ) (g : ℕ) → leads_by qs (k ∷ ks) k g ≡ true → leads_by qs ks k g ≡ true
  from_it k ks g e = elim (or_cases (leads_by qs ks k g) (leads_by qs ks k k && leads_by qs ks k g) e) [
    | inl own ↦ own
    | inr both ↦ and_second (leads_by qs ks k k) (leads_by qs ks k g) both
  ]

  through : (ks : List ℕ) (h m g : ℕ) → Contains ks m → leads_by qs ks h m ≡ true → leads_by qs ks m g ≡ true → leads_by qs ks h g ≡ true
  through [] h m g c e f = absurd (Contains-nil m c)
  through (k ∷ ks) h m g c e f = elim (Contains-cons k ks m c) [
    | inl same ↦ by_it (subst (λ x. leads_by qs (k ∷ ks) h x ≡ true) (sym same) e) (subst (λ x. leads_by qs (k ∷ ks) x g ≡ true) (sym same) f)
    | inr among ↦ past (λ x y z. through ks x y z) among
  ]
    where
      by_it : leads_by qs (k ∷ ks) h k ≡ true → leads_by qs (k ∷ ks) k g ≡ true → leads_by qs (k ∷ ks) h g ≡ true
      by_it x y = or_second (leads_by qs ks h g) (leads_by qs ks h k && leads_by qs ks k g) (and_both (leads_by qs ks h k) (leads_by qs ks k g) (to_it k ks h x) (from_it k ks g y))

      whole : leads_by qs ks h k ≡ true → leads_by qs ks k g ≡ true → leads_by qs (k ∷ ks) h g ≡ true
      whole x y = or_second (leads_by qs ks h g) (leads_by qs ks h k && leads_by qs ks k g) (and_both (leads_by qs ks h k) (leads_by qs ks k g) x y)

      past : ((x y z : ℕ) → Contains ks y → leads_by qs ks x y ≡ true → leads_by qs ks y z ≡ true → leads_by qs ks x z ≡ true) → Contains ks m → leads_by qs (k ∷ ks) h g ≡ true
      past step among = elim (or_cases (leads_by qs ks h m) (leads_by qs ks h k && leads_by qs ks k m) e) [
        | inl a ↦ elim (or_cases (leads_by qs ks m g) (leads_by qs ks m k && leads_by qs ks k g) f) [
          | inl b ↦ or_first (leads_by qs ks h g) (leads_by qs ks h k && leads_by qs ks k g) (step h m g among a b)
          | inr b ↦ whole (step h m k among a (and_first (leads_by qs ks m k) (leads_by qs ks k g) b)) (and_second (leads_by qs ks m k) (leads_by qs ks k g) b)
        ]
        | inr a ↦ elim (or_cases (leads_by qs ks m g) (leads_by qs ks m k && leads_by qs ks k g) f) [
          | inl b ↦ whole (and_first (leads_by qs ks h k) (leads_by qs ks k m) a) (step k m g among (and_second (leads_by qs ks h k) (leads_by qs ks k m) a) b)
          | inr b ↦ whole (and_first (leads_by qs ks h k) (leads_by qs ks k m) a) (and_second (leads_by qs ks m k) (leads_by qs ks k g) b)
        ]
      ]

  abbrev changed : List ℕ
  changed = map (λ q. q.changed) qs

  is_changed : (h g : ℕ) → IsBefore qs h g → Contains (map (λ q. q.changed) qs) g
  is_changed h g (q, b) = subst (Contains changed) b.changes (Contains-map (λ q. q.changed) qs q b.of)

  none_missed : (n h g : ℕ) → Leads qs (suc n) h g → leads_by qs (map (λ q. q.changed) qs) h g ≡ true
  none_missed zero h g (k, e, b) = one_step changed h g (subst (λ x. is_before qs x g ≡ true) (sym e) (is_before_from qs k g b.0 b.1.of b.1.reads b.1.changes))
  none_missed (suc n) h g (k, c, b) =
      through changed h k g (is_changed c.0 k c.2) (none_missed n h k c) (one_step changed k g (is_before_from qs k g b.0 b.1.of b.1.reads b.1.changes))

  pub no_chain_missed : (n h g : ℕ) → Leads qs n h g → is_led qs h g ≡ true
  no_chain_missed zero h g e = or_first (h == g) (leads_by qs changed h g) (is_equal h g e)
  no_chain_missed (suc n) h g c = or_second (h == g) (leads_by qs changed h g) (none_missed n h g c)

  pub chain : (h g : ℕ) → (is_led qs h g ≡ true) ↔ IsLed qs h g
  chain h g = (found_chain h g, λ c. no_chain_missed c.0 h g c.1)

  -- Cycles

  not_led : (rs : List Quoted) → cycle_rules qs rs ≡ [] → (q : Quoted) → Contains rs q → is_led qs q.changed q.read ≡ false
  not_led [] e q c = absurd (Contains-nil q c)
  not_led (r ∷ rs) e q c = by (is_led qs r.changed r.read) refl e (λ z m. not_led rs z q m)
    where
      by : (b : Bool) → is_led qs r.changed r.read ≡ b → (if b then breaks r.place rule.NewValueCycle else []) ++ cycle_rules qs rs ≡ [] → (cycle_rules qs rs ≡ [] → Contains rs q → is_led qs q.changed q.read ≡ false) → is_led qs q.changed q.read ≡ false
      by true k e later' = cc
      by false k e later' = elim (Contains-cons r rs q c) [
        | inl same ↦ ap (λ (x : Quoted). is_led qs x.changed x.read) (sym same) ∙ k
        | inr among ↦ later' e among
      ]

  pub no_cycle : cycle_rules qs qs ≡ [] → (n g : ℕ) → Leads qs (suc n) g g → ⊥
  no_cycle e n g (k, c, (q, b)) =
      let led = no_chain_missed n q.changed q.read (subst (λ x. Leads qs n x q.read) (sym b.changes) (subst (λ x. Leads qs n g x) (sym b.reads) c)) in
      let unled = not_led qs e q b.of in
      absurd (cc)

  none_closed : ((n g : ℕ) → Leads qs (suc n) g g → ⊥) → (rs : List Quoted) → ((q : Quoted) → Contains rs q → Contains qs q) → cycle_rules qs rs ≡ []
  none_closed free [] among = refl
  none_closed free (r ∷ rs) among = by (is_led qs r.changed r.read) refl (none_closed free rs (λ q c. among q (Contains-later r rs q c)))
    where
      by : (b : Bool) → is_led qs r.changed r.read ≡ b → cycle_rules qs rs ≡ [] → (if b then breaks r.place rule.NewValueCycle else []) ++ cycle_rules qs rs ≡ []
      by true k e =
          let c = found_chain r.changed r.read k in
          absurd (free c.0 r.changed (r.read, c.1, (r, record { of = among r (Contains-first r rs); reads = refl; changes = refl })))
      by false k e = e

  pub cycle : (cycle_rules qs qs ≡ []) ↔ ((n g : ℕ) → Leads qs (suc n) g g → ⊥)
  cycle = (no_cycle, λ free. none_closed free qs (λ q c. c))
