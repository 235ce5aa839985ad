-- The functions to which chains lead from one, as they are found one after the other.
use Rattle.std.proofs.Common.{◌≡◌, refl, sym, ◌∙◌, ap, subst, arith, ℕ, zero, suc, ◌+◌, ◌<◌, ◌≤◌, rules, Bool, true, false, ◌==◌, ◌⊎◌, inl, inr, List, [], ◌∷◌, ◌++◌, map, length, Some, get_or, take, append_assoc}
use Rattle.std.specs.Prelude.{◌&&◌, if◌then◌else◌, nat_eq, slice_get}
use Rattle.std.specs.Bool.{one_answer}
use Rattle.std.specs.Cmp.{IsEquivalence}
use Rattle.std.specs.List.{All, AllByRecursion, Contains, IsDistinct}
use Rattle.std.proofs.lemmas.Bool.Decides.{Decides-eqb}
use Rattle.std.proofs.lemmas.List.{append-nil, length-map, take_more}
use Rattle.std.proofs.lemmas.List.Elements.{All-head, All-tail, Contains-append_cases, Contains-append_right}
use Rattle.std.proofs.lemmas.Map.Made.{is_member-Decides, length-le_from_is_member}
use Rattle.std.proofs.lemmas.Option.{slice_get-get_or, slice_get_within}
use Rattle.sp_text.specs.declared.fault.Rule.TheVariants as rule
use Rattle.sp_text.specs.Violations.{breaks}
use Rattle.sp_cycles.proofs.Elements.{Contains-cons, Contains-first, Contains-later, Contains-map, Contains-nil, index_of, slice_contains}
use Rattle.sp_cycles.specs.Order.{IsBefore, IsLed, Leads, cycle_rules, is_led}
use Rattle.sp_cycles.specs.Reaches.{IsReach, is_among, is_known, is_told, with_new, with_readers}
use Rattle.sp_cycles.specs.declared.order.Quoted.{Quoted}
use Rattle.sp_cycles.specs.declared.order.Reach.{Reach}
use Rattle.sp_cycles.proofs.Chains.{and_both, and_first, and_second, chain, equal_is, is_equal, later, or_cases, or_first, or_second}

-- Lists of numbers

pub among_is : (xs : List ℕ) (g : ℕ) → is_among xs g ≡ true → Contains xs g
among_is [] g e = cc
among_is (x ∷ xs) g e = elim (or_cases (nat_eq x g) (is_among xs g) e) [
  | inl same ↦ subst (Contains (x ∷ xs)) (equal_is x g same) (Contains-first x xs)
  | inr rest ↦ Contains-later x xs g (among_is xs g rest)
]

pub is_among_from : (xs : List ℕ) (g : ℕ) → Contains xs g → is_among xs g ≡ true
is_among_from [] g c = absurd (Contains-nil g c)
is_among_from (x ∷ xs) g c = elim (Contains-cons x xs g c) [
  | inl same ↦ or_first (nat_eq x g) (is_among xs g) (is_equal x g same)
  | inr rest ↦ or_second (nat_eq x g) (is_among xs g) (is_among_from xs g rest)
]

slice_left : (xs ys : List ℕ) (k x : ℕ) → slice_get xs k ≡ Some x → slice_get (xs ++ ys) k ≡ Some x
slice_left [] ys k x e = absurd (let l = slice_get_within [] k x e in omega (arith, l))
slice_left (y ∷ xs) ys zero x e = e
slice_left (y ∷ xs) ys (suc k) x e = slice_left xs ys k x e

there : (xs : List ℕ) (k : ℕ) → k < length xs → (x : ℕ) × (slice_get xs k ≡ Some x)
there xs k l = (get_or xs k 0, slice_get-get_or xs k 0 l)

distinct_more : (xs : List ℕ) (g : ℕ) → IsDistinct ◌==◌ xs → ((y : ℕ) → Contains xs y → (y == g) ≡ false) → IsDistinct ◌==◌ (xs ++ g ∷ [])
unfolding IsDistinct
distinct_more [] g d n = (tt, tt)
distinct_more (x ∷ xs) g d n = (each xs d.0, distinct_more xs g d.1 (λ y c. n y (Contains-later x xs y c)))
  where
    each : (ys : List ℕ) → AllByRecursion (λ y. (x == y) ≡ false) ys → AllByRecursion (λ y. (x == y) ≡ false) (ys ++ g ∷ [])
    each [] a = (n x (Contains-first x xs), tt)
    each (y ∷ ys) a = (a.0, each ys a.1)

-- what a list of functions becomes that grows
pub record IsMore (xs ys : List ℕ) : Type 0 where
  pub kept : (k x : ℕ) → slice_get xs k ≡ Some x → slice_get ys k ≡ Some x
  pub longer : length xs ≤ length ys
  pub distinct : IsDistinct ◌==◌ xs → IsDistinct ◌==◌ ys

pub more_contains : (xs ys : List ℕ) → IsMore xs ys → (x : ℕ) → Contains xs x → Contains ys x
more_contains xs ys m x c = let i = index_of xs x c in slice_contains ys i.0 x (m.kept i.0 x i.1)

more_same : (xs : List ℕ) → IsMore xs xs
more_same xs = record { kept = λ k x e. e; longer = omega arith; distinct = λ d. d }

more_then : (xs ys zs : List ℕ) → IsMore xs ys → IsMore ys zs → IsMore xs zs
more_then xs ys zs a b = record { kept = λ k x e. b.kept k x (a.kept k x e); longer = let l = a.longer in let m = b.longer in omega (arith, l, m); distinct = λ d. b.distinct (a.distinct d) }

-- One function more

new_more : (xs : List ℕ) (g : ℕ) → IsMore xs (with_new xs g)
new_more xs g = by (is_among xs g) refl
  where
    apart : is_among xs g ≡ false → (y : ℕ) → Contains xs y → (y == g) ≡ false
    apart out y c = differ (y == g) refl
      where
        differ : (b : Bool) → (y == g) ≡ b → b ≡ false
        differ true q = let in' = is_among_from xs g (subst (Contains xs) (equal_is y g q) c) in cc
        differ false q = refl

    longer : (ys : List ℕ) → length ys ≤ length (ys ++ g ∷ [])
    longer [] = omega arith
    longer (y ∷ ys) = let l = longer ys in omega (arith, l)

    by : (b : Bool) → is_among xs g ≡ b → IsMore xs (if b then xs else xs ++ g ∷ [])
    by true e = more_same xs
    by false e = record { kept = λ k x i. slice_left xs (g ∷ []) k x i; longer = longer xs; distinct = λ d. distinct_more xs g d (apart e) }

new_has : (xs : List ℕ) (g : ℕ) → Contains (with_new xs g) g
new_has xs g = by (is_among xs g) refl
  where
    by : (b : Bool) → is_among xs g ≡ b → Contains (if b then xs else xs ++ g ∷ []) g
    by true e = among_is xs g e
    by false e = Contains-append_right xs (g ∷ []) g (Contains-first g [])

new_only : (xs : List ℕ) (g x : ℕ) → Contains (with_new xs g) x → Contains xs x ⊎ (g ≡ x)
new_only xs g x = by (is_among xs g)
  where
    by : (b : Bool) → Contains (if b then xs else xs ++ g ∷ []) x → Contains xs x ⊎ (g ≡ x)
    by true c = inl c
    by false c = elim (Contains-append_cases xs (g ∷ []) x c) [
      | inl old ↦ inl old
      | inr own ↦ elim (Contains-cons g [] x own) [
        | inl same ↦ inr same
        | inr none ↦ absurd (Contains-nil x none)
      ]
    ]

-- The functions behind one

-- what the first of some quoted references adds
abbrev after_one : Quoted → ℕ → List ℕ → List ℕ
after_one q h xs = if q.read == h then with_new xs q.changed else xs

one_more : (q : Quoted) (h : ℕ) (xs : List ℕ) → IsMore xs (after_one q h xs)
one_more q h xs = by (q.read == h)
  where
    by : (b : Bool) → IsMore xs (if b then with_new xs q.changed else xs)
    by true = new_more xs q.changed
    by false = more_same xs

pub readers_more : (qs : List Quoted) (h : ℕ) (xs : List ℕ) → IsMore xs (with_readers qs h xs)
readers_more [] h xs = more_same xs
readers_more (q ∷ qs) h xs = more_then xs (after_one q h xs) (with_readers qs h (after_one q h xs)) (one_more q h xs) (readers_more qs h (after_one q h xs))

pub readers_has : (qs : List Quoted) (h g : ℕ) (xs : List ℕ) (q : Quoted) → Contains qs q → q.read ≡ h → q.changed ≡ g → Contains (with_readers qs h xs) g
readers_has [] h g xs q c r e = absurd (Contains-nil q c)
readers_has (p ∷ qs) h g xs q c r e = elim (Contains-cons p qs q c) [
  | inl same ↦ own (p.read == h) (is_equal p.read h (ap (λ (x : Quoted). x.read) same ∙ r)) (ap (λ (x : Quoted). x.changed) same ∙ e)
  | inr k ↦ readers_has qs h g (after_one p h xs) q k r e
]
  where
    own : (b : Bool) → b ≡ true → p.changed ≡ g → Contains (with_readers qs h (if b then with_new xs p.changed else xs)) g
    own false i e = cc
    own true i e = more_contains (with_new xs p.changed) (with_readers qs h (with_new xs p.changed)) (readers_more qs h (with_new xs p.changed)) g (subst (Contains (with_new xs p.changed)) e (new_has xs p.changed))

pub readers_only : (qs : List Quoted) (h x : ℕ) (xs : List ℕ) → Contains (with_readers qs h xs) x → Contains xs x ⊎ IsBefore qs h x
readers_only [] h x xs c = inl c
readers_only (q ∷ qs) h x xs c = elim (readers_only qs h x (after_one q h xs) c) [
  | inl k ↦ by (q.read == h) refl k
  | inr b ↦ inr (later q qs h x b)
]
  where
    by : (b : Bool) → (q.read == h) ≡ b → Contains (if b then with_new xs q.changed else xs) x → Contains xs x ⊎ IsBefore (q ∷ qs) h x
    by false e k = inl k
    by true e k = elim (new_only xs q.changed x k) [
      | inl old ↦ inl old
      | inr own ↦ inr (q, record { of = Contains-first q qs; reads = equal_is q.read h e; changes = own })
    ]

-- as a loop goes over them
readers-append : (qs : List Quoted) (q : Quoted) (h : ℕ) (xs : List ℕ) → with_readers (qs ++ q ∷ []) h xs ≡ after_one q h (with_readers qs h xs)
readers-append [] q h xs = refl
readers-append (p ∷ qs) q h xs = readers-append qs q h (after_one p h xs)

pub readers-next : (qs : List Quoted) (k : ℕ) (d : Quoted) (h : ℕ) (xs : List ℕ) → k < length qs → with_readers (take (k + 1) qs) h xs ≡ (if (get_or qs k d).read == h then with_new (with_readers (take k qs) h xs) (get_or qs k d).changed else with_readers (take k qs) h xs)
readers-next qs k d h xs l = ap (λ z. with_readers z h xs) (take_more qs k d l) ∙ readers-append (take k qs) (get_or qs k d) h xs

-- One after the other

abbrev pub candidates : List Quoted → ℕ → List ℕ
candidates qs from = from ∷ map (λ q. q.changed) qs

-- chains lead to all of these, and what is behind the first `done` of them is among them
pub record IsFound (qs : List Quoted) (from done : ℕ) (xs : List ℕ) : Type 0 where
  pub start : Contains xs from
  pub distinct : IsDistinct ◌==◌ xs
  pub led : (g : ℕ) → Contains xs g → IsLed qs from g
  pub few : (g : ℕ) → Contains xs g → Contains (from ∷ map (λ q. q.changed) qs) g
  pub closed : (k x g : ℕ) → k < done → slice_get xs k ≡ Some x → IsBefore qs x g → Contains xs g
  pub within : done ≤ length xs

one_distinct : (from : ℕ) → IsDistinct ◌==◌ (from ∷ [])
unfolding IsDistinct
one_distinct from = (tt, tt)

pub found_none : (qs : List Quoted) (from : ℕ) → IsFound qs from 0 (from ∷ [])
found_none qs from = record {
  start = Contains-first from [];
  distinct = one_distinct from;
  led = λ g c. (0, only g c);
  few = λ g c. subst (Contains (candidates qs from)) (only g c) (Contains-first from (map (λ q. q.changed) qs));
  closed = λ k x g l i b. absurd (omega (arith, l));
  within = omega arith;
}
  where
    only : (g : ℕ) → Contains (from ∷ []) g → from ≡ g
    only g c = elim (Contains-cons from [] g c) [
      | inl same ↦ same
      | inr none ↦ absurd (Contains-nil g none)
    ]

some_is : (a b : ℕ) → Some a ≡ Some b → a ≡ b
some_is a b i = cc

below : (k n : ℕ) → k < n + 1 → (k == n) ≡ false → k < n
below k n l s = grind (arith, rules)

pub found_next : (qs : List Quoted) (from done h : ℕ) (xs : List ℕ) → IsFound qs from done xs → slice_get xs done ≡ Some h → IsFound qs from (done + 1) (with_readers qs h xs)
found_next qs from done h xs f e =
    let m = readers_more qs h xs in
    record {
      start = more_contains xs (with_readers qs h xs) m from f.start;
      distinct = m.distinct f.distinct;
      led = λ g c. elim (readers_only qs h g xs c) [
        | inl old ↦ f.led g old
        | inr b ↦ let c = f.led h (slice_contains xs done h e) in (suc c.0, (h, c.1, b))
      ];
      few = λ g c. elim (readers_only qs h g xs c) [
        | inl old ↦ f.few g old
        | inr b ↦ Contains-later from (map (λ q. q.changed) qs) g (subst (Contains (map (λ q. q.changed) qs)) b.1.changes (Contains-map (λ q. q.changed) qs b.0 b.1.of))
      ];
      closed = λ k x g l i b. behind k x g l i b (k == done) refl;
      within = let w = slice_get_within xs done h e in let n = m.longer in omega (arith, w, n);
    }
  where
    behind : (k x g : ℕ) → k < done + 1 → slice_get (with_readers qs h xs) k ≡ Some x → IsBefore qs x g → (b : Bool) → (k == done) ≡ b → Contains (with_readers qs h xs) g
    behind k x g l i (q, b) true s =
        let m = readers_more qs h xs in
        let at : slice_get (with_readers qs h xs) done ≡ Some x = subst (λ j. slice_get (with_readers qs h xs) j ≡ Some x) (equal_is k done s) i in
        let same : h ≡ x = some_is h x (sym (m.kept done h e) ∙ at) in
        readers_has qs h g xs q b.of (b.reads ∙ sym same) b.changes
    behind k x g l i b false s =
        let m = readers_more qs h xs in
        let less : k < done = below k done l s in
        let w = slice_get_within xs done h e in
        let old = there xs k (omega (arith, less, w)) in
        let same : old.0 ≡ x = some_is old.0 x (sym (m.kept k old.0 old.1) ∙ i) in
        more_contains xs (with_readers qs h xs) m g (f.closed k x g less (subst (λ y. slice_get xs k ≡ Some y) same old.1) b)

equal : IsEquivalence ◌==◌
equal = record {
  refl = λ x. (Decides-eqb x x).1 refl;
  symm = λ x y. one_answer (x == y) (y == x) (Decides-eqb x y) (λ e. sym ((Decides-eqb y x).0 e), λ e. (Decides-eqb y x).1 (sym e));
  congr = λ x y z e. ap (λ w. w == z) ((Decides-eqb x y).0 e);
}

-- they are no more than changed functions, and the first
pub found_few : (qs : List Quoted) (from done : ℕ) (xs : List ℕ) → IsFound qs from done xs → length xs ≤ length qs + 1
found_few qs from done xs f =
    let ys = candidates qs from in
    let l = length-le_from_is_member equal xs ys f.distinct (λ q h. (is_member-Decides Decides-eqb ys q).1 (f.few q ((is_member-Decides Decides-eqb xs q).0 h))) in
    let m = length-map qs (λ q. q.changed) in
    omega (arith, l, m)

-- what is behind all of them is among them, so they are all
pub found_all : (qs : List Quoted) (from done : ℕ) (xs : List ℕ) → IsFound qs from done xs → length xs ≤ done → (g : ℕ) → is_among xs g ≡ is_led qs from g
found_all qs from done xs f l g = one_answer (is_among xs g) (is_led qs from g) (among_is xs g, is_among_from xs g) (λ e. all_led ((chain qs from g).0 e), λ c. (chain qs from g).1 (f.led g c))
  where
    all : (n g : ℕ) → Leads qs n from g → Contains xs g
    all zero g e = subst (Contains xs) e f.start
    all (suc n) g (k, c, b) =
        let i = index_of xs k (all n k c) in
        let w = slice_get_within xs i.0 k i.1 in
        f.closed i.0 k g (omega (arith, w, l)) i.1 b

    all_led : IsLed qs from g → Contains xs g
    all_led c = all c.0 g c.1

-- What is known of several functions

one : (b c : Bool) → (b ≡ true → c ≡ true) → (c ≡ true → b ≡ true) → b ≡ c
one true c f g = sym (f refl)
one false true f g = g refl
one false false f g = refl

module _ (qs : List Quoted) (h g : ℕ) where
  told_right : (rs : List Reach) → All (IsReach qs) rs → is_told rs h g ≡ true → is_led qs h g ≡ true
  told_right [] a e = cc
  told_right (r ∷ rs) a e = elim (or_cases (nat_eq r.from h && is_among r.led g) (is_told rs h g) e) [
    | inl own ↦
        let same = equal_is r.from h (and_first (nat_eq r.from h) (is_among r.led g) own) in
        subst (λ x. is_led qs x g ≡ true) same (sym (All-head (IsReach qs) r rs a g) ∙ and_second (nat_eq r.from h) (is_among r.led g) own)
    | inr rest ↦ told_right rs (All-tail (IsReach qs) r rs a) rest
  ]

  told_left : (rs : List Reach) → All (IsReach qs) rs → is_known rs h ≡ true → is_led qs h g ≡ true → is_told rs h g ≡ true
  told_left [] a k e = cc
  told_left (r ∷ rs) a k e = elim (or_cases (nat_eq r.from h) (is_known rs h) k) [
    | inl own ↦
        or_first (nat_eq r.from h && is_among r.led g) (is_told rs h g)
        (and_both (nat_eq r.from h) (is_among r.led g) own (All-head (IsReach qs) r rs a g ∙ subst (λ x. is_led qs x g ≡ true) (sym (equal_is r.from h own)) e))
    | inr rest ↦ or_second (nat_eq r.from h && is_among r.led g) (is_told rs h g) (told_left rs (All-tail (IsReach qs) r rs a) rest e)
  ]

  pub told : (rs : List Reach) → All (IsReach qs) rs → is_known rs h ≡ true → is_told rs h g ≡ is_led qs h g
  told rs a k = one (is_told rs h g) (is_led qs h g) (told_right rs a) (told_left rs a k)

pub known_more : (rs : List Reach) (r : Reach) (h : ℕ) → r.from ≡ h → is_known (rs ++ r ∷ []) h ≡ true
known_more [] r h e = or_first (nat_eq r.from h) false (is_equal r.from h e)
known_more (s ∷ rs) r h e = or_second (nat_eq s.from h) (is_known (rs ++ r ∷ []) h) (known_more rs r h e)

-- The quoted references that close a cycle, as a loop goes over them

rules-append : (all qs : List Quoted) (q : Quoted) → cycle_rules all (qs ++ q ∷ []) ≡ cycle_rules all qs ++ (if is_led all q.changed q.read then breaks q.place rule.NewValueCycle else [])
rules-append all [] q = append-nil (if is_led all q.changed q.read then breaks q.place rule.NewValueCycle else [])
rules-append all (r ∷ qs) q =
    let own = if is_led all r.changed r.read then breaks r.place rule.NewValueCycle else [] in
    let last = if is_led all q.changed q.read then breaks q.place rule.NewValueCycle else [] in
    ap (λ xs. own ++ xs) (rules-append all qs q) ∙ sym (append_assoc own (cycle_rules all qs) last)

pub rules-next : (all qs : List Quoted) (k : ℕ) (d : Quoted) → k < length qs → cycle_rules all (take (k + 1) qs) ≡ cycle_rules all (take k qs) ++ (if is_led all (get_or qs k d).changed (get_or qs k d).read then breaks (get_or qs k d).place rule.NewValueCycle else [])
rules-next all qs k d l = ap (λ z. cycle_rules all z) (take_more qs k d l) ∙ rules-append all (take k qs) (get_or qs k d)

-- what is read past a list, which a loop never does
abbrev pub blank : Quoted
blank = record { place = record { start = 0; end = 0 }; read = 0; changed = 0 }
