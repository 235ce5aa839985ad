-- The levels of a product, one by one.
use Rattle.std.proofs.Common.{◌≡◌, sym, ◌∙◌, ap, arith, ℕ, zero, suc, ◌+◌, ◌*◌, ◌^◌, ◌<◌, ◌≤◌, List, [], ◌∷◌, ◌++◌, take, length, length-take, get_or, append_assoc}
use Rattle.std.proofs.Common.{false}
use Rattle.std.specs.Prelude.{nat_le}
use Rattle.std.proofs.lemmas.Bool.Decides.{nat_tests}
use Rattle.std.proofs.lemmas.List.{append-nil}
use Rattle.std.proofs.Math.Nat.{mul-le-mul}
use Rattle.std.proofs.Math.Pow.{pow_mono}
use Rattle.sp_tree.specs.declared.names.Ident.{Ident}
use Rattle.sp_naming.specs.declared.declaration.Declaration.{Declaration}
use Rattle.sp_naming.specs.Levels.{element_levels, level, product_levels, product_name}
use Rattle.sp_naming.proofs.Gathering.{next_item}

pub element-more : (cs : List Ident) (x : Ident) (k s n : ℕ) → element_levels cs x k s (suc n) ≡ element_levels cs x k s n ++ level x (product_name x.name cs (s + n)) (k + n) ∷ []
element-more cs x k s zero =
    let e : s ≡ s + 0 = omega arith in
    let f : k ≡ k + 0 = omega arith in
    (λ i. level x (product_name x.name cs (e i)) (f i) ∷ [])
element-more cs x k s (suc n) =
    let e : (s + 1) + n ≡ s + suc n = omega arith in
    let f : (k + 1) + n ≡ k + suc n = omega arith in
    let head = level x (product_name x.name cs s) k in
    ap (λ z. head ∷ z) (element-more cs x (k + 1) (s + 1) n ∙ (λ i. element_levels cs x (k + 1) (s + 1) n ++ level x (product_name x.name cs (e i)) (f i) ∷ []))

product-more : (cs : List Ident) (k : ℕ) (xs : List Ident) (x : Ident) →
    product_levels cs k (xs ++ x ∷ []) ≡ product_levels cs k xs ++ element_levels cs x (k + length xs * 2 ^ length cs) 0 (2 ^ length cs)
product-more cs k [] x =
    let e : k ≡ k + 0 * 2 ^ length cs = omega arith in
    append-nil (element_levels cs x k 0 (2 ^ length cs)) ∙ ap (λ n. element_levels cs x n 0 (2 ^ length cs)) e
product-more cs k (y ∷ ys) x =
    let e : (k + 2 ^ length cs) + length ys * 2 ^ length cs ≡ k + suc (length ys) * 2 ^ length cs = omega arith in
    let head = element_levels cs y k 0 (2 ^ length cs) in
    ap (λ z. head ++ z) (product-more cs (k + 2 ^ length cs) ys x ∙ ap (λ n. product_levels cs (k + 2 ^ length cs) ys ++ element_levels cs x n 0 (2 ^ length cs)) e)
    ∙ sym (append_assoc head (product_levels cs (k + 2 ^ length cs) ys) (element_levels cs x (k + suc (length ys) * 2 ^ length cs) 0 (2 ^ length cs)))

-- the step of the loop over the chain
pub product_pushed : (cs : List Ident) (xs : List Ident) (i : ℕ) (x : Ident) (start before after' : List Declaration) (n sets : ℕ) → i < length xs → x ≡ get_or xs i x →
    before ≡ start ++ product_levels cs 0 (take i xs) → sets ≡ 2 ^ length cs → n ≡ i * sets → after' ≡ before ++ element_levels cs x n 0 sets →
    after' ≡ start ++ product_levels cs 0 (take (i + 1) xs)
product_pushed cs xs i x start before after' n sets lt is b s m a =
    let len : length (take i xs) ≡ i = omega (arith, length-take i xs) in
    let zero-add : length (take i xs) * 2 ^ length cs ≡ 0 + length (take i xs) * 2 ^ length cs = omega arith in
    let number : n ≡ 0 + length (take i xs) * 2 ^ length cs = m ∙ (λ j. sym len j * s j) ∙ zero-add in
    a ∙ (λ j. b j ++ element_levels cs x (number j) 0 (s j)) ∙ append_assoc start (product_levels cs 0 (take i xs)) (element_levels cs x (0 + length (take i xs) * 2 ^ length cs) 0 (2 ^ length cs))
    ∙ ap (λ z. start ++ z) (sym (product-more cs 0 (take i xs) x) ∙ ap (product_levels cs 0) (next_item xs i x lt is))

-- the step of the loop over the sets
pub element_pushed : (cs : List Ident) (x : Ident) (k n : ℕ) (name : List ℕ) (start before after' : List Declaration) (number : ℕ) →
    before ≡ start ++ element_levels cs x k 0 n → name ≡ product_name x.name cs n → number ≡ k + n → after' ≡ before ++ level x name number ∷ [] → after' ≡ start ++ element_levels cs x k 0 (n + 1)
element_pushed cs x k n name start before after' number b m q a =
    let e : suc n ≡ n + 1 = omega arith in
    let f : n ≡ 0 + n = omega arith in
    a ∙ (λ j. b j ++ level x (m j) (q j) ∷ []) ∙ append_assoc start (element_levels cs x k 0 n) (level x (product_name x.name cs n) (k + n) ∷ [])
    ∙ ap (λ z. start ++ z) (ap (λ w. element_levels cs x k 0 n ++ level x (product_name x.name cs w) (k + n) ∷ []) f ∙ sym (element-more cs x k 0 n) ∙ ap (element_levels cs x k 0) e)

-- a chain with so many categories has too many levels
pub many_sets : (chain categories : ℕ) → 1 ≤ chain → 8 < categories → nat_le (chain * 2 ^ categories) 256 ≡ false
many_sets chain categories h k =
    let p : 2 ^ 9 ≤ 2 ^ categories = pow_mono {i = 9} {j = categories} (omega arith) in
    let q : 1 * 2 ^ 9 ≤ chain * 2 ^ categories = mul-le-mul h p in
    let r : 256 < chain * 2 ^ categories = omega (arith, q) in
    over_most (chain * 2 ^ categories) r
  where
    over_most : (n : ℕ) → 256 < n → nat_le n 256 ≡ false
    over_most n lt = grind (arith, nat_tests)

pub long_chain : (chain categories : ℕ) → 256 < chain → nat_le (chain * 2 ^ categories) 256 ≡ false
long_chain chain categories h =
    let p : 2 ^ 0 ≤ 2 ^ categories = pow_mono {i = 0} {j = categories} (omega arith) in
    let g : 257 ≤ chain = omega arith in
    let q : 257 * 2 ^ 0 ≤ chain * 2 ^ categories = mul-le-mul g p in
    let r : 256 < chain * 2 ^ categories = omega (arith, q) in
    over_most (chain * 2 ^ categories) r
  where
    over_most : (n : ℕ) → 256 < n → nat_le n 256 ≡ false
    over_most n lt = grind (arith, nat_tests)
