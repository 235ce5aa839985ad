-- Where the lattice by itself breaks nothing, it has at most 256 levels, and pairs of them alone.
use Rattle.std.proofs.Common.{◌≡◌, ◌≤◌, ◌<◌, ◌*◌, ◌^◌, refl, sym, ◌∙◌, ap, subst, arith, ℕ, zero, suc, List, [], ◌∷◌, ◌++◌, length, Bool, true, false, Option, Some, None, cond}
use Rattle.std.specs.Prelude.{nat_le, nat_lt, slice_get}
use Rattle.std.specs.List.{flat_map}
use Rattle.std.specs.Option.{option_map}
use Rattle.std.proofs.Math.Logic.{⊎_elim}
use Rattle.std.proofs.Math.Nat.{le-mul_of_pos_right, mul-le-mul_right, mul_assoc, pow-succ'}
use Rattle.std.proofs.Math.Pow.{pow_mono}
use Rattle.std.proofs.lemmas.Bool.{cases_lt, leb-false, leb-true, ltb-false}
use Rattle.std.proofs.lemmas.List.{append-nil}
use Rattle.std.proofs.lemmas.Nat.{pow_pos}
use Rattle.sp_text.specs.declared.fault.Quantity.TheVariants as quantity
use Rattle.sp_text.specs.declared.fault.Rule.TheVariants as rule
use Rattle.sp_text.specs.declared.fault.Span.{Span}
use Rattle.sp_text.specs.declared.limits.TheConstants.{MOST_LEVELS}
use Rattle.sp_text.specs.Violations.{breaks, exceeds, in_file}
use Rattle.sp_tree.specs.declared.interface.InterfaceTree.{InterfaceTree}
use Rattle.sp_tree.specs.declared.interface.LatticeTree.{LatticeTree}
use Rattle.sp_tree.specs.declared.interface.LatticeTree.TheVariants as lattice
use Rattle.sp_tree.specs.declared.names.Ident.{Ident}
use Rattle.sp_naming.specs.declared.declaration.Declaration.{Declaration}
use Rattle.sp_naming.specs.declared.declaration.Entity.{Entity}
use Rattle.sp_naming.specs.declared.declaration.Entity.TheVariants as entity
use Rattle.sp_naming.specs.Declarations.{declarations}
use Rattle.sp_naming.specs.Levels.{level, level_declarations, listed_levels, product_levels, product_or_chain}
use Rattle.sp_naming.specs.Names.{named, repeated_names}
use Rattle.sp_naming.specs.Numbers.{after, counted, numbered}
use Rattle.sp_naming.proofs.Meanings.{declared}
use Rattle.sp_scopes.specs.declared.scopes.Scopes.{Scopes}
use Rattle.sp_scopes.specs.Headers.{asked}
use Rattle.sp_scopes.specs.Interfaces.{doubled_past, is_level, lattice_broken, level_rule, product_past, scopes_broken}
use Rattle.sp_scopes.specs.Laws.{FoundAreLent, LentAreFound}
use Rattle.sp_scopes.specs.Lent.{below, entity_level, level_at, level_names, level_of, level_order, neighbours}
use Rattle.sp_scopes.specs.Modules.{limit_broken, over}
use Rattle.sp_scopes.specs.Scopes.{scopes_of}
use Rattle.sp_scopes.proofs.Laws.{within_limits}
use Rattle.sp_order.specs.Orders.{ArePairs, ArePairsOf, HasLevels, count_of, level_count}
use Rattle.sp_order.proofs.Ends.{some_chain}
use Rattle.sp_specification.specs.Orders.{alone}
use Rattle.sp_ordered.proofs.Levels.{interface_fine, left_nothing, right_nothing}

-- Items

same_item : {X : Type 0} (a b : X) → Some a ≡ Some b → a ≡ b
same_item a b e = cc

item_at : {X : Type 0} (xs : List X) (n : ℕ) → n < length xs → (x : X) × (slice_get xs n ≡ Some x)
item_at [] n h = let none : ⊥ = omega (arith, h) in absurd none
item_at (x ∷ xs) zero h = (x, refl)
item_at (x ∷ xs) (suc n) h = let rest : n < length xs = omega (arith, h) in item_at xs n rest

within : {X : Type 0} (xs : List X) (n : ℕ) (x : X) → slice_get xs n ≡ Some x → n < length xs
within [] n x e = absurd (none n e)
  where
    none : (n : ℕ) → slice_get [] n ≡ Some x → ⊥
    none n e = cc
within (y ∷ xs) zero x e = omega arith
within (y ∷ xs) (suc n) x e = let r = within xs n x e in omega (arith, r)

makes_nothing : {X B : Type 0} (f : X → List B) (xs : List X) → flat_map f xs ≡ [] → (k : ℕ) (x : X) → slice_get xs k ≡ Some x → f x ≡ []
makes_nothing f [] h k x e = absurd (none k e)
  where
    none : (k : ℕ) → slice_get [] k ≡ Some x → ⊥
    none k e = cc
makes_nothing f (y ∷ xs) h zero x e = subst (λ z. f z ≡ []) (same_item y x e) (left_nothing (f y) (flat_map f xs) h)
makes_nothing f (y ∷ xs) h (suc k) x e = makes_nothing f xs (right_nothing (f y) (flat_map f xs) h) k x e

under_option : {A B : Type 0} (v : A → B) (o : Option A) (b : B) → option_map v o ≡ Some b → (a : A) × ((o ≡ Some a) × (v a ≡ b))
under_option v None b e = absurd cc
under_option v (Some a) b e = (a, (refl, same_item (v a) b e))

-- At most 256 names

few_names : (i : InterfaceTree) → LentAreFound → scopes_broken (alone i) [] ≡ [] → length (level_names (declarations (alone i) [])) ≤ 256
few_names i lent h = ⊎_elim (λ past. absurd (too_many (item_at (level_names ds) 256 past))) (λ few. few) (cases_lt 256 (length (level_names ds)))
  where
    ds : List Declaration
    ds = declarations (alone i) []

    none : (f : ℕ) (p : Span) (e : Entity) → e ≡ entity.Level 256 → in_file f (over p e) ≡ [] → ⊥
    none f p e is z = broken (sym (ap (λ e. in_file f (over p e)) is) ∙ z)
      where
        broken : in_file f (over p (entity.Level 256)) ≡ [] → ⊥
        broken z = absurd cc

    too_many : (x : List ℕ) × (slice_get (level_names ds) 256 ≡ Some x) → ⊥
    too_many a =
        let e : option_map (λ (d : Declaration). d.entity) (named ds a.0) ≡ Some (entity.Level 256) = lent (alone i) [] h a.0 (entity.Level 256) a.1 in
        let d = under_option (λ (d : Declaration). d.entity) (named ds a.0) (entity.Level 256) e in
        let at = declared ds a.0 d.0 d.1.0 in
        none d.0.file d.0.span d.0.entity d.1.1 (makes_nothing limit_broken ds (within_limits (alone i) [] h) at.0 d.0 at.1)

-- Pairs

-- a name that breaks nothing in ORDER is that of a level
level_there : (i : InterfaceTree) → FoundAreLent → scopes_broken (alone i) [] ≡ [] → (x : Ident) → level_rule (declarations (alone i) []) x ≡ [] →
    level_at (declarations (alone i) []) x < length (level_names (declarations (alone i) []))
level_there i found h x e = by (named ds x.name) refl e
  where
    ds : List Declaration
    ds = declarations (alone i) []

    of : (d : Declaration) (f : Entity) → named ds x.name ≡ Some d → d.entity ≡ f → cond (is_level f) [] (breaks x.span rule.WrongKind) ≡ [] → entity_level f < length (level_names ds)
    of d (entity.Declared k) n is e = absurd cc
    of d (entity.Member t k) n is e = absurd cc
    of d (entity.Param k) n is e = absurd cc
    of d (entity.Definition k) n is e = absurd cc
    of d (entity.Function k) n is e = absurd cc
    of d (entity.Level k) n is e =
        within (level_names ds) k x.name (found (alone i) [] h 0 x.name (entity.Level k) (ap (option_map (λ (d : Declaration). d.entity)) n ∙ ap Some is))

    by : (o : Option Declaration) → named ds x.name ≡ o → asked is_level x.span o ≡ [] → level_of o < length (level_names ds)
    by None n e = absurd cc
    by (Some d) n e = of d d.entity n refl e

pairs_both : (n : ℕ) (ps qs : List (ℕ × ℕ)) → ArePairs n ps → ArePairs n qs → ArePairs n (ps ++ qs)
pairs_both n [] qs a b = b
pairs_both n (p ∷ ps) qs a b = (a.0, pairs_both n ps qs a.1 b)

abbrev Reaches : ℕ → Option ℕ → Type 0
Reaches n None = Unit {0}
Reaches n (Some j) = j < n

next_pair : (n : ℕ) (last : Option ℕ) (k : ℕ) → Reaches n last → k < n → ArePairs n (below last k)
next_pair n None k r h = tt
next_pair n (Some j) k r h = (record { low = r; high = h }, tt)

chain_pairs : (n : ℕ) (ds : List Declaration) → ((x : Ident) → level_rule ds x ≡ [] → level_at ds x < n) → (last : Option ℕ) → Reaches n last → (xs : List Ident) → flat_map (level_rule ds) xs ≡ [] →
    ArePairs n (neighbours (level_at ds) last xs)
chain_pairs n ds at last r [] e = tt
chain_pairs n ds at last r (x ∷ xs) e =
    let here = at x (left_nothing (level_rule ds x) (flat_map (level_rule ds) xs) e) in
    pairs_both n (below last (level_at ds x)) (neighbours (level_at ds) (Some (level_at ds x)) xs) (next_pair n last (level_at ds x) r here)
    (chain_pairs n ds at (Some (level_at ds x)) here xs (right_nothing (level_rule ds x) (flat_map (level_rule ds) xs) e))

chains_pairs : (n : ℕ) (ds : List Declaration) → ((x : Ident) → level_rule ds x ≡ [] → level_at ds x < n) → (chains : List (List Ident)) → flat_map (flat_map (level_rule ds)) chains ≡ [] →
    ArePairs n (flat_map (neighbours (level_at ds) None) chains)
chains_pairs n ds at [] e = tt
chains_pairs n ds at (c ∷ cs) e =
    pairs_both n (neighbours (level_at ds) None c) (flat_map (neighbours (level_at ds) None) cs)
    (chain_pairs n ds at None tt c (left_nothing (flat_map (level_rule ds) c) (flat_map (flat_map (level_rule ds)) cs) e))
    (chains_pairs n ds at cs (right_nothing (flat_map (level_rule ds) c) (flat_map (flat_map (level_rule ds)) cs) e))

order_pairs : (ds : List Declaration) → ((x : Ident) → level_rule ds x ≡ [] → level_at ds x < length (level_names ds)) → (t : LatticeTree) → lattice_broken ds t ≡ [] →
    ArePairsOf (count_of (length (level_names ds)) (level_order ds t)) (level_order ds t)
order_pairs ds at (lattice.Order p names chains) e = chains_pairs (length (level_names ds)) ds at chains e
order_pairs ds at (lattice.Product p chain categories) e = tt

-- Products

listed_length : (k : ℕ) (xs : List Ident) → length (level_names (numbered (λ k (x : Ident). level x x.name k ∷ []) k xs)) ≡ length xs
listed_length k [] = refl
listed_length k (x ∷ xs) = ap suc (listed_length (after k) xs)

-- categories that don't make too many levels of n
doubled : (n : ℕ) (cs : List Ident) → n ≤ 256 → doubled_past n cs ≡ [] → n * 2 ^ length cs ≤ 256
doubled n [] h e = omega (arith, h)
doubled n (c ∷ cs) h e = by (nat_lt MOST_LEVELS (n * 2)) refl (doubled (n * 2) cs) e
  where
    by : (b : Bool) → nat_lt MOST_LEVELS (n * 2) ≡ b → (n * 2 ≤ 256 → doubled_past (n * 2) cs ≡ [] → n * 2 * 2 ^ length cs ≤ 256) →
        cond b (exceeds c.span quantity.Levels) (doubled_past (n * 2) cs) ≡ [] → n * 2 ^ length (c ∷ cs) ≤ 256
    by true t f e = absurd cc
    by false t f e =
        let same : n * 2 * 2 ^ length cs ≡ n * 2 ^ suc (length cs) = mul_assoc n 2 (2 ^ length cs) ∙ ap (λ z. n * z) (sym (pow-succ' 2 (length cs))) in
        subst (λ z. z ≤ 256) same (f (ltb-false MOST_LEVELS (n * 2) t) e)

-- the levels of a product, of which at most 256 have names
product_size : (chain categories : List Ident) → repeated_names [] categories ++ product_past chain categories ≡ [] → length (level_names (product_or_chain chain categories)) ≤ 256 →
    length chain * 2 ^ length categories ≤ 256
product_size chain categories e few = by (nat_le (length chain * 2 ^ length categories) MOST_LEVELS) refl few
  where
    past : product_past chain categories ≡ []
    past = right_nothing (repeated_names [] categories) (product_past chain categories) e

    small : (b : Bool) → nat_le (length chain) MOST_LEVELS ≡ b → length chain ≤ 256 → cond b (doubled_past (length chain) categories) [] ≡ [] → length chain * 2 ^ length categories ≤ 256
    small true t h e = doubled (length chain) categories h e
    small false t h e = let none : ⊥ = omega (arith, leb-false (length chain) MOST_LEVELS t, h) in absurd none

    by : (b : Bool) → nat_le (length chain * 2 ^ length categories) MOST_LEVELS ≡ b →
        length (level_names (cond b (product_levels categories 0 chain) (listed_levels chain))) ≤ 256 → length chain * 2 ^ length categories ≤ 256
    by true t few = leb-true (length chain * 2 ^ length categories) MOST_LEVELS t
    by false t few = small (nat_le (length chain) MOST_LEVELS) refl (subst (λ n. n ≤ 256) (listed_length 0 chain) few) past

-- numbers of chain elements and of categories that make so few levels are themselves
counted_product : (c k : ℕ) → c * 2 ^ k ≤ 256 → 1 ≤ counted 0 c * 2 ^ counted 0 k → counted 0 c * 2 ^ counted 0 k ≤ 256
counted_product c k h some =
    let chain : 1 ≤ counted 0 c = some_chain (counted 0 c) (2 ^ counted 0 k) some in
    let one : 1 ≤ c = omega (arith, chain) in
    let left : c ≤ c * 2 ^ k = le-mul_of_pos_right c (pow_pos k) in
    let right : 1 * 2 ^ k ≤ c * 2 ^ k = mul-le-mul_right (2 ^ k) one in
    let few : 2 ^ k ≤ 256 = omega (arith, right, h) in
    let short : k ≤ 8 = ⊎_elim (λ less. omega (arith, less)) (λ more. absurd (long few (pow_mono more))) (cases_lt k 9) in
    let first : c ≡ counted 0 c = omega (arith, left, h) in
    let second : k ≡ counted 0 k = omega (arith, short) in
    subst (λ z. z ≤ 256) (λ i. first i * 2 ^ second i) h
  where
    long : 2 ^ k ≤ 256 → 2 ^ 9 ≤ 2 ^ k → ⊥
    long a b = omega (arith, a, b)

order_few : (ds : List Declaration) (t : LatticeTree) → lattice_broken ds t ≡ [] → length (level_names (level_declarations t)) ≤ 256 → length (level_names ds) ≤ 256 →
    1 ≤ count_of (length (level_names ds)) (level_order ds t) → count_of (length (level_names ds)) (level_order ds t) ≤ MOST_LEVELS
order_few ds (lattice.Order p names chains) e own few some = few
order_few ds (lattice.Product p chain categories) e own few some = counted_product (length chain) (length categories) (product_size chain categories e own) some

-- where the lattice by itself breaks nothing, and there is a level, all is as an order needs it
pub has_levels : (i : InterfaceTree) → FoundAreLent → LentAreFound → scopes_broken (alone i) [] ≡ [] → 1 ≤ level_count (scopes_of (alone i) []) → HasLevels (scopes_of (alone i) [])
has_levels i found lent h some =
    let ds = declarations (alone i) [] in
    let own = interface_fine (alone i) [] h in
    let few = few_names i lent h in
    let few_own : length (level_names (level_declarations i.lattice)) ≤ 256 = subst (λ z. length (level_names z) ≤ 256) (append-nil (level_declarations i.lattice)) few in
    record {
      some = some;
      few = order_few ds i.lattice own few_own few some;
      pairs = order_pairs ds (level_there i found h) i.lattice own;
    }

pub levels_there : (i k : InterfaceTree) (s : Scopes) → FoundAreLent → LentAreFound → k ≡ alone i → scopes_broken k [] ≡ [] → s ≡ scopes_of k [] → 1 ≤ level_count s → HasLevels s
levels_there i k s found lent own h is some =
    let same : s ≡ scopes_of (alone i) [] = is ∙ ap (λ k. scopes_of k []) own in
    let fine : scopes_broken (alone i) [] ≡ [] = subst (λ k. scopes_broken k [] ≡ []) own h in
    subst HasLevels (sym same) (has_levels i found lent fine (subst (λ s. 1 ≤ level_count s) same some))
