-- Ranks of changed functions: a function's rank is the length of the longest chain that ends at it, and there are few.
use Rattle.std.proofs.Common.{◌≡◌, refl, sym, ◌∙◌, ap, subst, arith, ℕ, zero, suc, ◌+◌, ◌<◌, ◌≤◌, Bool, true, false, ◌==◌, cond, max, List, [], ◌∷◌, ◌++◌, length, map, nat_lt, ◌⊎◌, inl, inr}
use Rattle.std.specs.Prelude.{if◌then◌else◌}
use Rattle.std.specs.Bool.{one_answer}
use Rattle.std.specs.Cmp.{IsEquivalence}
use Rattle.std.specs.List.{All, AllByRecursion, Contains, IsDistinct, filter}
use Rattle.std.specs.Set.{distinct_count, is_member, unique_keys}
use Rattle.std.proofs.lemmas.Bool.Decides.{Decides-eqb, Decides-ltb}
use Rattle.std.proofs.lemmas.List.{length-map}
use Rattle.std.proofs.lemmas.List.Elements.{All-contains, All-head, All-tail, filter_passes, Contains-append_left, Contains-append_right, Contains-append_cases}
use Rattle.std.proofs.lemmas.Map.Made.{distinct_count-le, is_member-Decides, length-le_from_is_member}
use Rattle.sp_core.specs.Effects.{GuardedChange}
use Rattle.sp_core.specs.Measures.{Anything, LookAt, LooksAt, Nothing}
use Rattle.sp_core.specs.Ranks.{EndsAt, HasNoCycle, IsBefore, IsRank, Leads, change_rank, change_reads, changed_functions, functions_before, greatest, longest_within, new_reads, new_reads_in, of_rank, rank_count}
use Rattle.sp_core.specs.Tree.{Tree, Trees, Const, Var, Not, Two, If, Param, Look, Every, New, none, more}
use Rattle.sp_core.proofs.Elements.{Contains-cons, Contains-first, Contains-later, Contains-map, Contains-nil}

-- The functions before one

before_in : (as' : List GuardedChange) (h g : ℕ) (a : GuardedChange) → Contains as' a → a.fun ≡ g → Contains (change_reads a) h → Contains (functions_before as' g) h
before_in [] h g a c e r = absurd (Contains-nil a c)
before_in (b ∷ bs) h g a c e r = by (b.fun == g) refl (before_in bs h g a)
  where
    by : (q : Bool) → (b.fun == g) ≡ q → (Contains bs a → a.fun ≡ g → Contains (change_reads a) h → Contains (functions_before bs g) h) → Contains (if q then change_reads b ++ functions_before bs g else functions_before bs g) h
    by true q ih = elim (Contains-cons b bs a c) [
      | inl same ↦ Contains-append_left (change_reads b) (functions_before bs g) h (subst (λ (x : GuardedChange). Contains (change_reads x) h) (sym same) r)
      | inr k ↦ Contains-append_right (change_reads b) (functions_before bs g) h (ih k e r)
    ]
    by false q ih = elim (Contains-cons b bs a c) [
      | inl same ↦ let no : true ≡ false = sym ((Decides-eqb b.fun g).1 (ap (λ (x : GuardedChange). x.fun) same ∙ e)) ∙ q in cc
      | inr k ↦ ih k e r
    ]

in_before : (as' : List GuardedChange) (h g : ℕ) → Contains (functions_before as' g) h → IsBefore as' h g
in_before [] h g c = absurd (Contains-nil h c)
in_before (b ∷ bs) h g c = by (b.fun == g) refl c (λ k. let r = in_before bs h g k in (r.0, record { of = Contains-later b bs r.0 r.1.of; changes = r.1.changes; reads = r.1.reads }))
  where
    by : (q : Bool) → (b.fun == g) ≡ q → Contains (if q then change_reads b ++ functions_before bs g else functions_before bs g) h → (Contains (functions_before bs g) h → IsBefore (b ∷ bs) h g) → IsBefore (b ∷ bs) h g
    by true q k ih = elim (Contains-append_cases (change_reads b) (functions_before bs g) h k) [
      | inl r ↦ (b, record { of = Contains-first b bs; changes = (Decides-eqb b.fun g).0 q; reads = r })
      | inr l ↦ ih l
    ]
    by false q k ih = ih k

greatest_over : (f : ℕ → ℕ) (gs : List ℕ) (g : ℕ) → Contains gs g → f g ≤ greatest f gs
greatest_over f [] g c = absurd (Contains-nil g c)
greatest_over f (h ∷ gs) g c = elim (Contains-cons h gs g c) [
  | inl e ↦ let q : f h ≡ f g = ap f e in omega (arith, q)
  | inr k ↦ let n = greatest_over f gs g k in omega (arith, n)
]

-- it is 0, or that of one of them
greatest_is : (f : ℕ → ℕ) (gs : List ℕ) → (greatest f gs ≡ 0) ⊎ ((g : ℕ) × Contains gs g × (greatest f gs ≡ f g))
greatest_is f [] = inl refl
greatest_is f (h ∷ gs) = by (nat_lt (f h) (greatest f gs)) refl (greatest_is f gs)
  where
    by : (q : Bool) → nat_lt (f h) (greatest f gs) ≡ q → ((greatest f gs ≡ 0) ⊎ ((g : ℕ) × Contains gs g × (greatest f gs ≡ f g))) → (max (f h) (greatest f gs) ≡ 0) ⊎ ((g : ℕ) × Contains (h ∷ gs) g × (max (f h) (greatest f gs) ≡ f g))
    by true q (inl e) = absurd (let l = (Decides-ltb (f h) (greatest f gs)).0 q in omega (arith, l, e))
    by true q (inr k) = let l = (Decides-ltb (f h) (greatest f gs)).0 q in let e = k.2 in inr (k.0, Contains-later h gs k.0 k.1, omega (arith, l, e))
    by false q r = inr (h, Contains-first h gs, grind (arith, q))

-- Chains

-- the longest chain of at most n steps is a chain, and no chain of at most n steps is longer
longest_chain : (as' : List GuardedChange) (n g : ℕ) → EndsAt as' (longest_within as' n g) g
longest_chain as' zero g = (g, refl)
longest_chain as' (suc n) g = by (greatest_is (λ h. suc (longest_within as' n h)) (functions_before as' g)) (longest_chain as' n)
  where
    by : ((greatest (λ h. suc (longest_within as' n h)) (functions_before as' g) ≡ 0) ⊎ ((k : ℕ) × Contains (functions_before as' g) k × (greatest (λ h. suc (longest_within as' n h)) (functions_before as' g) ≡ suc (longest_within as' n k))))
        → ((k : ℕ) → EndsAt as' (longest_within as' n k) k) → EndsAt as' (greatest (λ h. suc (longest_within as' n h)) (functions_before as' g)) g
    by (inl e) ih = subst (λ m. EndsAt as' m g) (sym e) (g, refl)
    by (inr k) ih = let c = ih k.0 in subst (λ m. EndsAt as' m g) (sym k.2) (c.0, (k.0, c.1, in_before as' k.0 g k.1))

none_longer : (as' : List GuardedChange) (n m g : ℕ) → m ≤ n → EndsAt as' m g → m ≤ longest_within as' n g
none_longer as' n zero g l c = omega arith
none_longer as' zero (suc m) g l c = absurd (omega (arith, l))
none_longer as' (suc n) (suc m) g l (h, (k, c, b)) =
    let shorter = none_longer as' n m k (omega (arith, l)) (h, c) in
    let own = greatest_over (λ h. suc (longest_within as' n h)) (functions_before as' g) k (before_in as' k g b.0 b.1.of b.1.changes b.1.reads) in
    omega (arith, shorter, own)

-- Chains without a cycle are short

equal : IsEquivalence ◌==◌
equal = record {
  refl = λ x. (Decides-eqb x x).1 refl;
  symm = λ x y. one_answer (x == y) (y == x) (Decides-eqb x y) (λ e. sym ((Decides-eqb y x).0 e), λ e. (Decides-eqb y x).1 (sym e));
  congr = λ x y z e. ap (λ w. w == z) ((Decides-eqb x y).0 e);
}

kept : (gs : List ℕ) (g : ℕ) → Contains gs g → Contains (unique_keys ◌==◌ gs) g
kept [] g c = c
kept (h ∷ gs) g c = by (is_member ◌==◌ gs h) refl (kept gs g)
  where
    by : (q : Bool) → is_member ◌==◌ gs h ≡ q → (Contains gs g → Contains (unique_keys ◌==◌ gs) g) → Contains (cond q (unique_keys ◌==◌ gs) (h ∷ unique_keys ◌==◌ gs)) g
    by true q ih = elim (Contains-cons h gs g c) [
      | inl e ↦ ih (subst (Contains gs) e ((is_member-Decides Decides-eqb gs h).0 q))
      | inr k ↦ ih k
    ]
    by false q ih = elim (Contains-cons h gs g c) [
      | inl e ↦ subst (Contains (h ∷ unique_keys ◌==◌ gs)) e (Contains-first h (unique_keys ◌==◌ gs))
      | inr k ↦ Contains-later h (unique_keys ◌==◌ gs) g (ih k)
    ]

-- numbers that differ and are all of the list are at most as many as the different ones of the list
few : (gs hs : List ℕ) → IsDistinct ◌==◌ gs → ((g : ℕ) → Contains gs g → Contains hs g) → length gs ≤ distinct_count ◌==◌ hs
few gs hs apart among =
    length-le_from_is_member equal gs (unique_keys ◌==◌ hs) apart (λ q h. (is_member-Decides Decides-eqb (unique_keys ◌==◌ hs) q).1 (kept hs q (among q ((is_member-Decides Decides-eqb gs q).0 h))))

abbrev changed : List GuardedChange → List ℕ
changed as' = map (λ a. a.fun) as'

module _ (as' : List GuardedChange) where
  is_changed : (h g : ℕ) → IsBefore as' h g → Contains (map (λ a. a.fun) as') g
  is_changed h g (a, b) = subst (Contains (changed as')) b.changes (Contains-map (λ a. a.fun) as' a b.of)

  -- the functions of a chain but its first, from the last on
  abbrev later : (n h g : ℕ) → Leads as' n h g → List ℕ
  later zero h g c = []
  later (suc n) h g (k, c, b) = g ∷ later n h k c

  length-later : (n h g : ℕ) (c : Leads as' n h g) → length (later n h g c) ≡ n
  length-later zero h g c = refl
  length-later (suc n) h g (k, c, b) = ap suc (length-later n h k c)

  later_changed : (n h g : ℕ) (c : Leads as' n h g) (x : ℕ) → Contains (later n h g c) x → Contains (map (λ a. a.fun) as') x
  later_changed zero h g c x m = absurd (Contains-nil x m)
  later_changed (suc n) h g (k, c, b) x m = elim (Contains-cons g (later n h k c) x m) [
    | inl e ↦ subst (Contains (changed as')) e (is_changed k g b)
    | inr l ↦ later_changed n h k c x l
  ]

  later_apart : (n h k : ℕ) (c : Leads as' n h k) (g : ℕ) → ((x j : ℕ) → Leads as' j x k → (g == x) ≡ false) → AllByRecursion (λ x. (g == x) ≡ false) (later n h k c)
  later_apart zero h k c g differ = tt
  later_apart (suc n) h k (l, c, b) g differ = (differ k 0 refl, later_apart n h l c g (λ x j d. differ x (suc j) (l, d, b)))

  module _ (no_cycle : HasNoCycle as') where
    differ : (k g : ℕ) → IsBefore as' k g → (x j : ℕ) → Leads as' j x k → (g == x) ≡ false
    differ k g b x j c = by (g == x) refl
      where
        by : (q : Bool) → (g == x) ≡ q → q ≡ false
        by true q = absurd (no_cycle j g (k, subst (λ y. Leads as' j y k) (sym ((Decides-eqb g x).0 q)) c, b))
        by false q = refl

    later_distinct : (n h g : ℕ) (c : Leads as' n h g) → IsDistinct ◌==◌ (later n h g c)
    unfolding IsDistinct
    later_distinct zero h g c = tt
    later_distinct (suc n) h g (k, c, b) = (later_apart n h k c g (differ k g b), later_distinct n h k c)

    -- a chain has at most as many steps as functions are changed
    pub short : (n g : ℕ) → EndsAt as' n g → n ≤ changed_functions as'
    short n g (h, c) =
        let many = few (later n h g c) (changed as') (later_distinct n h g c) (later_changed n h g c) in
        let own = length-later n h g c in
        omega (arith, many, own)

    pub is_rank : (g : ℕ) → IsRank as' g (change_rank as' g)
    is_rank g = record {
      chain = longest_chain as' (length as') g;
      longest = λ k c. none_longer as' (length as') k g
          (let l = short k g c in let m = distinct_count-le ◌==◌ (changed as') in let n = length-map as' (λ a. a.fun) in omega (arith, l, m, n)) c;
    }

    pub few_ranks : (g : ℕ) → change_rank as' g ≤ changed_functions as'
    few_ranks g = short (change_rank as' g) g (is_rank g).chain

    -- what is before a function has a lower rank
    pub lower_rank : (h g : ℕ) → IsBefore as' h g → change_rank as' h < change_rank as' g
    lower_rank h g b =
        let c = (is_rank h).chain in
        let l = (is_rank g).longest (suc (change_rank as' h)) (c.0, (h, c.1, b)) in
        omega (arith, l)

    -- Where each function that is read new is changed

    module _ (reads_changed : (g h : ℕ) → IsBefore as' h g → Contains (map (λ a. a.fun) as') h) where
      abbrev whole : (n h g : ℕ) → Leads as' n h g → List ℕ
      whole zero h g c = g ∷ []
      whole (suc n) h g (k, c, b) = g ∷ whole n h k c

      length-whole : (n h g : ℕ) (c : Leads as' n h g) → length (whole n h g c) ≡ suc n
      length-whole zero h g c = refl
      length-whole (suc n) h g (k, c, b) = ap suc (length-whole n h k c)

      whole_changed : (n h g : ℕ) (c : Leads as' n h g) → Contains (map (λ a. a.fun) as') g → (x : ℕ) → Contains (whole n h g c) x → Contains (map (λ a. a.fun) as') x
      whole_changed zero h g c own x m = elim (Contains-cons g [] x m) [
        | inl e ↦ subst (Contains (changed as')) e own
        | inr l ↦ absurd (Contains-nil x l)
      ]
      whole_changed (suc n) h g (k, c, b) own x m = elim (Contains-cons g (whole n h k c) x m) [
        | inl e ↦ subst (Contains (changed as')) e own
        | inr l ↦ whole_changed n h k c (reads_changed g k b) x l
      ]

      whole_apart : (n h k : ℕ) (c : Leads as' n h k) (g : ℕ) → ((x j : ℕ) → Leads as' j x k → (g == x) ≡ false) → AllByRecursion (λ x. (g == x) ≡ false) (whole n h k c)
      whole_apart zero h k c g differ = (differ k 0 refl, tt)
      whole_apart (suc n) h k (l, c, b) g differ = (differ k 0 refl, whole_apart n h l c g (λ x j d. differ x (suc j) (l, d, b)))

      whole_distinct : (n h g : ℕ) (c : Leads as' n h g) → IsDistinct ◌==◌ (whole n h g c)
      unfolding IsDistinct
      whole_distinct zero h g c = (tt, tt)
      whole_distinct (suc n) h g (k, c, b) = (whole_apart n h k c g (differ k g b), whole_distinct n h k c)

      pub rank_below_changed : (a : GuardedChange) → Contains as' a → change_rank as' a.fun < changed_functions as'
      rank_below_changed a of = by (is_rank a.fun).chain
        where
          by : EndsAt as' (change_rank as' a.fun) a.fun → change_rank as' a.fun < changed_functions as'
          by (h, c) =
              let n = change_rank as' a.fun in
              let many = few (whole n h a.fun c) (changed as') (whole_distinct n h a.fun c) (whole_changed n h a.fun c (Contains-map (λ a. a.fun) as' a of)) in
              let own = length-whole n h a.fun c in
              omega (arith, many, own)

  -- there is no cycle where numbers rise along the order
  module _ (number : ℕ → ℕ) (rises : (h g : ℕ) → IsBefore as' h g → number h < number g) where
    risen : (n h g : ℕ) → Leads as' n h g → number h + n ≤ number g
    risen zero h g c = let same : number h ≡ number g = ap number c in omega (arith, same)
    risen (suc n) h g (k, c, b) = let before = risen n h k c in let last = rises k g b in omega (arith, before, last)

    pub no_cycle_by : HasNoCycle as'
    no_cycle_by n g c = let more = risen (suc n) g g c in absurd (omega (arith, more))

  -- the rank of a change is one of the ranks
  pub rank_within : (a : GuardedChange) → Contains as' a → change_rank as' a.fun < rank_count as'
  rank_within a of = let n = greatest_over (λ g. suc (change_rank as' g)) (changed as') a.fun (Contains-map (λ a. a.fun) as' a of) in omega (arith, n)

  -- a change of a rank is one of the changes
  pub among_rank : (k : ℕ) (a : GuardedChange) → Contains (of_rank as' k) a → Contains as' a
  among_rank k = among as'
    where
      among : (bs : List GuardedChange) (a : GuardedChange) → Contains (filter (λ a. change_rank as' a.fun == k) bs) a → Contains bs a
      among [] a c = c
      among (b ∷ bs) a c = by (change_rank as' b.fun == k) c (among bs a)
        where
          by : (q : Bool) → Contains (if q then b ∷ filter (λ a. change_rank as' a.fun == k) bs else filter (λ a. change_rank as' a.fun == k) bs) a → (Contains (filter (λ a. change_rank as' a.fun == k) bs) a → Contains bs a) → Contains (b ∷ bs) a
          by true c ih = elim (Contains-cons b (filter (λ a. change_rank as' a.fun == k) bs) a c) [
            | inl e ↦ subst (Contains (b ∷ bs)) e (Contains-first b bs)
            | inr d ↦ Contains-later b bs a (ih d)
          ]
          by false c ih = Contains-later b bs a (ih c)

  -- and has that rank
  pub has_rank : (k : ℕ) (a : GuardedChange) → Contains (of_rank as' k) a → change_rank as' a.fun ≡ k
  has_rank k a c = (Decides-eqb (change_rank as' a.fun) k).0 (All-contains (λ a. (change_rank as' a.fun == k) ≡ true) (of_rank as' k) a (filter_passes (λ a. change_rank as' a.fun == k) as') c)

  pub in_rank : (a : GuardedChange) → Contains as' a → Contains (of_rank as' (change_rank as' a.fun)) a
  in_rank a = within as' ((Decides-eqb (change_rank as' a.fun) (change_rank as' a.fun)).1 refl)
    where
      test : GuardedChange → Bool
      test b = change_rank as' b.fun == change_rank as' a.fun

      within : (bs : List GuardedChange) → (change_rank as' a.fun == change_rank as' a.fun) ≡ true → Contains bs a → Contains (filter (λ b. change_rank as' b.fun == change_rank as' a.fun) bs) a
      within [] own c = c
      within (b ∷ bs) own c = by (change_rank as' b.fun == change_rank as' a.fun) refl (within bs own)
        where
          by : (q : Bool) → (change_rank as' b.fun == change_rank as' a.fun) ≡ q → (Contains bs a → Contains (filter (λ b. change_rank as' b.fun == change_rank as' a.fun) bs) a)
              → Contains (if q then b ∷ filter (λ b. change_rank as' b.fun == change_rank as' a.fun) bs else filter (λ b. change_rank as' b.fun == change_rank as' a.fun) bs) a
          by true e ih = elim (Contains-cons b bs a c) [
            | inl same ↦ subst (Contains (b ∷ filter (λ b. change_rank as' b.fun == change_rank as' a.fun) bs)) same (Contains-first b (filter (λ b. change_rank as' b.fun == change_rank as' a.fun) bs))
            | inr k ↦ Contains-later b (filter (λ b. change_rank as' b.fun == change_rank as' a.fun) bs) a (ih k)
          ]
          by false e ih = elim (Contains-cons b bs a c) [
            | inl same ↦ let no : true ≡ false = sym own ∙ ap (λ (x : GuardedChange). change_rank as' x.fun == change_rank as' a.fun) (sym same) ∙ e in cc
            | inr k ↦ ih k
          ]

-- What an expression reads new

-- each function whose new value it reads is among those
mutual
  pub reads_among : (N : ℕ → Type 0) (e : Tree) → ((h : ℕ) → Contains (new_reads e) h → N h) → LooksAt Anything N e
  reads_among N (Const v) h = tt
  reads_among N (Var k) h = tt
  reads_among N (Not a) h = reads_among N a h
  reads_among N (Two o a b) h = (reads_among N a (λ g c. h g (Contains-append_left (new_reads a) (new_reads b) g c)), reads_among N b (λ g c. h g (Contains-append_right (new_reads a) (new_reads b) g c)))
  reads_among N (If c a b) h =
      let rest = new_reads a ++ new_reads b in (
        reads_among N c (λ g k. h g (Contains-append_left (new_reads c) rest g k)),
        reads_among N a (λ g k. h g (Contains-append_right (new_reads c) rest g (Contains-append_left (new_reads a) (new_reads b) g k))),
        reads_among N b (λ g k. h g (Contains-append_right (new_reads c) rest g (Contains-append_right (new_reads a) (new_reads b) g k))),
      )
  reads_among N (Param p ds) h = all_among N ds h
  reads_among N (Look g ds) h = (tt, all_among N ds h)
  reads_among N (Every k t b) h = reads_among N b h
  reads_among N (New g ds) h = (h g (Contains-append_right (new_reads_in ds) (g ∷ []) g (Contains-first g [])), all_among N ds (λ k c. h k (Contains-append_left (new_reads_in ds) (g ∷ []) k c)))

  pub all_among : (N : ℕ → Type 0) (ds : Trees) → ((h : ℕ) → Contains (new_reads_in ds) h → N h) → LookAt Anything N ds
  all_among N none h = tt
  all_among N (more d ds) h = (reads_among N d (λ g c. h g (Contains-append_left (new_reads d) (new_reads_in ds) g c)), all_among N ds (λ g c. h g (Contains-append_right (new_reads d) (new_reads_in ds) g c)))

-- an expression that looks at no new value has no function among those that it reads new, and the other way round
mutual
  pub no_new_reads : (e : Tree) → LooksAt Anything Nothing e → new_reads e ≡ []
  no_new_reads (Const v) h = refl
  no_new_reads (Var k) h = refl
  no_new_reads (Not a) h = no_new_reads a h
  no_new_reads (Two o a b) h = λ i. no_new_reads a h.0 i ++ no_new_reads b h.1 i
  no_new_reads (If c a b) h = λ i. no_new_reads c h.0 i ++ (no_new_reads a h.1 i ++ no_new_reads b h.2 i)
  no_new_reads (Param p ds) h = no_new_reads_in ds h
  no_new_reads (Look g ds) h = no_new_reads_in ds h.1
  no_new_reads (Every k t b) h = no_new_reads b h
  no_new_reads (New g ds) h = absurd h.0

  pub no_new_reads_in : (ds : Trees) → LookAt Anything Nothing ds → new_reads_in ds ≡ []
  no_new_reads_in none h = refl
  no_new_reads_in (more d ds) h = λ i. no_new_reads d h.0 i ++ no_new_reads_in ds h.1 i

module _ (as' : List GuardedChange) where
  none_before : (bs : List GuardedChange) → All (λ a. change_reads a ≡ []) bs → (g : ℕ) → functions_before bs g ≡ []
  none_before [] h g = refl
  none_before (b ∷ bs) h g = by (b.fun == g) (none_before bs (All-tail (λ a. change_reads a ≡ []) b bs h) g)
    where
      by : (q : Bool) → functions_before bs g ≡ [] → (if q then change_reads b ++ functions_before bs g else functions_before bs g) ≡ []
      by true rest = λ i. All-head (λ a. change_reads a ≡ []) b bs h i ++ rest i
      by false rest = rest

  module _ (no_new : All (λ a. change_reads a ≡ []) as') where
    -- there is no cycle
    pub no_new_no_cycle : HasNoCycle as'
    no_new_no_cycle n g (k, c, (a, b)) = absurd (Contains-nil k (subst (λ hs. Contains hs k) (All-contains (λ a. change_reads a ≡ []) as' a no_new b.of) b.reads))

    longest_none : (n g : ℕ) → longest_within as' n g ≡ 0
    longest_none zero g = refl
    longest_none (suc n) g = ap (greatest (λ h. suc (longest_within as' n h))) (none_before as' no_new g)

    -- each rank is 0
    pub rank_none : (g : ℕ) → change_rank as' g ≡ 0
    rank_none g = longest_none (length as') g

    -- all changes are of it
    pub all_of_rank : of_rank as' 0 ≡ as'
    all_of_rank = each as'
      where
        each : (bs : List GuardedChange) → filter (λ a. change_rank as' a.fun == 0) bs ≡ bs
        each [] = refl
        each (b ∷ bs) = by (change_rank as' b.fun == 0) ((Decides-eqb (change_rank as' b.fun) 0).1 (rank_none b.fun)) (each bs)
          where
            by : (q : Bool) → q ≡ true → filter (λ a. change_rank as' a.fun == 0) bs ≡ bs → (if q then b ∷ filter (λ a. change_rank as' a.fun == 0) bs else filter (λ a. change_rank as' a.fun == 0) bs) ≡ b ∷ bs
            by true q ih = ap (λ xs. b ∷ xs) ih
            by false q ih = cc

    at_most_one : (gs : List ℕ) → greatest (λ g. suc (change_rank as' g)) gs ≤ 1
    at_most_one [] = omega arith
    at_most_one (g ∷ gs) = let own = rank_none g in let rest = at_most_one gs in omega (arith, own, rest)

    -- there is one rank where there are changes
    pub one_rank : (b : GuardedChange) (bs : List GuardedChange) → as' ≡ b ∷ bs → rank_count as' ≡ 1
    one_rank b bs e =
        let top = at_most_one (changed as') in
        let own = rank_within as' b (subst (λ xs. Contains xs b) (sym e) (Contains-first b bs)) in
        omega (arith, top, own)
