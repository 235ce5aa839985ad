-- How many levels are declared: those of the lattice, and a product within the limit has all of its own.
use Rattle.std.proofs.Common.{◌≡◌, refl, sym, ◌∙◌, ap, arith, ℕ, zero, suc, ◌+◌, ◌*◌, ◌^◌, ◌≤◌, ◌<◌, List, [], ◌∷◌, ◌++◌, length, Option, Some, None, ⊎_elim}
use Rattle.std.specs.Prelude.{true, if◌then◌else◌, nat_le}
use Rattle.std.specs.List.{flat_map}
use Rattle.std.proofs.lemmas.Bool.{cases_lt}
use Rattle.std.proofs.lemmas.Bool.Decides.{nat_tests}
use Rattle.std.proofs.lemmas.Grind.{flat_map-append}
use Rattle.std.proofs.lemmas.List.{append-nil}
use Rattle.std.proofs.Math.Nat.{mul-le-mul}
use Rattle.std.proofs.Math.Pow.{pow_mono}
use Rattle.sp_tree.specs.declared.expr.ExprTree.{ExprTree}
use Rattle.sp_tree.specs.declared.interface.InterfaceTree.{InterfaceTree}
use Rattle.sp_tree.specs.declared.module.FunDecl.{FunDecl}
use Rattle.sp_tree.specs.declared.module.Header.{Header}
use Rattle.sp_tree.specs.declared.module.Module.{Module}
use Rattle.sp_tree.specs.declared.module.TypeDecl.{TypeDecl}
use Rattle.sp_tree.specs.declared.names.Ident.{Ident}
use Rattle.sp_naming.specs.declared.declaration.Declaration.{Declaration}
use Rattle.sp_naming.specs.declared.listing.Counts.{Counts}
use Rattle.sp_naming.specs.Declarations.{counts_after, declarations, definition_declaration, function_declaration, member, members, module_declarations, modules_declarations, no_counts, param_declaration, type_declaration}
use Rattle.sp_naming.specs.Levels.{element_levels, level_declarations, listed_levels, product_levels, product_or_chain}
use Rattle.sp_naming.specs.Numbers.{after, counted, numbered}
use Rattle.sp_scopes.specs.Lent.{declared_level, level_names}
use Rattle.sp_well_formed.proofs.Items.{flat_length}

-- Modules declare no level

none_both : (xs ys : List Declaration) → flat_map declared_level xs ≡ [] → flat_map declared_level ys ≡ [] → flat_map declared_level (xs ++ ys) ≡ []
none_both xs ys h k = flat_map-append declared_level xs ys ∙ (λ i. h i ++ k i)

none_made : {A : Type 0} (make : ℕ → A → List Declaration) → ((k : ℕ) (a : A) → flat_map declared_level (make k a) ≡ []) → (k : ℕ) (xs : List A) → flat_map declared_level (numbered make k xs) ≡ []
none_made make h k [] = refl
none_made make h k (x ∷ xs) = none_both (make k x) (numbered make (after k) xs) (h k x) (none_made make h (after k) xs)

no_members : (f t : ℕ) (owner : List ℕ) (o : Option (List Ident)) → flat_map declared_level (members f t owner o) ≡ []
no_members f t owner None = refl
no_members f t owner (Some xs) = none_made (member f t owner) (λ k a. refl) 0 xs

no_module : (f : ℕ) (c : Counts) (m : Module) → flat_map declared_level (module_declarations f c m) ≡ []
no_module f c m =
    let types = numbered (type_declaration f) c.types m.types in
    let params = numbered (param_declaration f) c.parameters m.parameters in
    let definitions = numbered (definition_declaration f) c.definitions m.definitions in
    let functions = numbered (function_declaration f) c.functions m.functions in
    none_both (types ++ params ++ definitions) functions
    (none_both (types ++ params) definitions
    (none_both types params (none_made (type_declaration f) (λ k (d : TypeDecl). no_members f k d.name.name d.members) c.types m.types)
    (none_made (param_declaration f) (λ k (a : Header). refl) c.parameters m.parameters))
    (none_made (definition_declaration f) (λ k (a : Header × ExprTree). refl) c.definitions m.definitions))
    (none_made (function_declaration f) (λ k (a : FunDecl). refl) c.functions m.functions)

no_modules : (f : ℕ) (c : Counts) (ms : List Module) → flat_map declared_level (modules_declarations f c ms) ≡ []
no_modules f c [] = refl
no_modules f c (m ∷ ms) = none_both (module_declarations f c m) (modules_declarations (after f) (counts_after c m) ms) (no_module f c m) (no_modules (after f) (counts_after c m) ms)

pub lattice_levels : (i : InterfaceTree) (ms : List Module) → level_names (declarations i ms) ≡ flat_map declared_level (level_declarations i.lattice)
lattice_levels i ms =
    let own = flat_map declared_level (level_declarations i.lattice) in
    flat_map-append declared_level (level_declarations i.lattice) (modules_declarations 1 no_counts ms) ∙ ap (λ z. own ++ z) (no_modules 1 no_counts ms) ∙ append-nil own

-- A product's levels

element_count : (cs : List Ident) (x : Ident) (k s n : ℕ) → length (flat_map declared_level (element_levels cs x k s n)) ≡ n
element_count cs x k s zero = refl
element_count cs x k s (suc n) = ap suc (element_count cs x (k + 1) (s + 1) n)

product_count : (cs : List Ident) (k : ℕ) (xs : List Ident) → length (flat_map declared_level (product_levels cs k xs)) ≡ length xs * 2 ^ length cs
product_count cs k [] = omega arith
product_count cs k (x ∷ xs) =
    let sets = 2 ^ length cs in
    let z : sets + length xs * sets ≡ suc (length xs) * sets = omega arith in
    flat_length declared_level (element_levels cs x k 0 sets) (product_levels cs (k + sets) xs)
    ∙ (λ i. element_count cs x k 0 sets i + product_count cs (k + sets) xs i) ∙ z

small_chain : (c n : ℕ) → c * 2 ^ n ≤ 256 → c ≤ 256
small_chain c n h =
    let p : 2 ^ 0 ≤ 2 ^ n = pow_mono {i = 0} {j = n} (omega arith) in
    let own : c ≤ c = omega arith in
    let q : c * 2 ^ 0 ≤ c * 2 ^ n = mul-le-mul own p in
    omega (arith, q, h)

few_categories : (c n : ℕ) → 1 ≤ c → c * 2 ^ n ≤ 256 → n ≤ 8
few_categories c n some h = ⊎_elim (λ lt. over lt) (λ le. le) (cases_lt 8 n)
  where
    over : 8 < n → n ≤ 8
    over lt =
        let p : 2 ^ 9 ≤ 2 ^ n = pow_mono {i = 9} {j = n} (omega (arith, lt)) in
        let q : 1 * 2 ^ 9 ≤ c * 2 ^ n = mul-le-mul some p in
        let none : ⊥ = omega (arith, q, h) in
        absurd none

some_chain : (c n : ℕ) → 1 ≤ c * n → 1 ≤ c
some_chain c n h = by c h
  where
    by : (d : ℕ) → 1 ≤ d * n → 1 ≤ d
    by zero i = let none : ⊥ = omega (arith, i) in absurd none
    by (suc d) i = omega arith

-- as many as the product has, where these are few
pub product_levels_count : (chain categories : List Ident) → 1 ≤ counted 0 (length chain) * 2 ^ counted 0 (length categories) → counted 0 (length chain) * 2 ^ counted 0 (length categories) ≤ 256 →
    length (flat_map declared_level (product_or_chain chain categories)) ≡ counted 0 (length chain) * 2 ^ counted 0 (length categories)
product_levels_count chain categories some few =
    let c = counted 0 (length chain) in
    let n = counted 0 (length categories) in
    let low : c ≤ 256 = small_chain c n few in
    let high : n ≤ 8 = few_categories c n (some_chain c (2 ^ n) some) few in
    let chains : c ≡ length chain = omega (arith, low) in
    let sets : n ≡ length categories = omega (arith, high) in
    let count : c * 2 ^ n ≡ length chain * 2 ^ length categories = (λ i. chains i * 2 ^ sets i) in
    let within : nat_le (length chain * 2 ^ length categories) 256 ≡ true = fits (length chain * 2 ^ length categories) (omega (arith, few, count)) in
    ap (λ b. length (flat_map declared_level (if b then product_levels categories 0 chain else listed_levels chain))) within
    ∙ product_count categories 0 chain ∙ sym count
  where
    fits : (m : ℕ) → m ≤ 256 → nat_le m 256 ≡ true
    fits m le = grind (arith, nat_tests)
