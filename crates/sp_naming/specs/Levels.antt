-- The names of levels: those that a lattice lists, or those of the product of a chain and categories.
use Rattle.std.specs.Prelude.{ℕ, zero, suc, ◌+◌, ◌*◌, ◌/◌, ◌%◌, ◌^◌, ◌==◌, List, [], ◌∷◌, ◌++◌, None, length, if◌then◌else◌, nat_le}
use Rattle.sp_text.specs.declared.limits.TheConstants.{MOST_LEVELS}
use Rattle.sp_tree.specs.declared.interface.LatticeTree.{LatticeTree}
use Rattle.sp_tree.specs.declared.interface.LatticeTree.TheVariants as lattice
use Rattle.sp_tree.specs.declared.names.Ident.{Ident}
use Rattle.sp_naming.specs.declared.declaration.Declaration.{Declaration}
use Rattle.sp_naming.specs.declared.declaration.Entity.TheVariants as entity
use Rattle.sp_naming.specs.Numbers.{numbered}

-- The name of a product's level: the chain element's name, followed for each category of its set, in order, by `_` and the
-- category's name. The set is a number, in which the j-th category counts 2 ^ j.
abbrev pub product_name : List ℕ → List Ident → ℕ → List ℕ
product_name name [] set = name
product_name name (c ∷ cs) set = product_name (if set % 2 == 1 then name ++ 95 ∷ [] ++ c.name else name) cs (set / 2)

-- the level with this name and number, declared where the name of p stands
abbrev pub level : Ident → List ℕ → ℕ → Declaration
level p name k = record { file = 0; name = name; span = p.span; entity = entity.Level k; owner = None }

-- n levels of a chain element, from that of the set on; the first has number k
abbrev pub element_levels : List Ident → Ident → ℕ → ℕ → ℕ → List Declaration
element_levels categories x k set zero = []
element_levels categories x k set (suc n) =
    level x (product_name x.name categories set) k ∷ element_levels categories x (k + 1) (set + 1) n

-- the levels of a product, chain element by chain element, each with every set of categories
abbrev pub product_levels : List Ident → ℕ → List Ident → List Declaration
product_levels categories k [] = []
product_levels categories k (x ∷ xs) =
    element_levels categories x k 0 (2 ^ length categories) ++ product_levels categories (k + 2 ^ length categories) xs

-- the names that are listed, each a level
abbrev pub listed_levels : List Ident → List Declaration
listed_levels names = numbered (λ k (x : Ident). level x x.name k ∷ []) 0 names

-- of a product with too many levels the chain elements alone are declared
abbrev pub product_or_chain : List Ident → List Ident → List Declaration
product_or_chain chain categories =
    if nat_le (length chain * 2 ^ length categories) MOST_LEVELS then product_levels categories 0 chain else listed_levels chain

-- the levels that a lattice declares
abbrev pub level_declarations : LatticeTree → List Declaration
level_declarations (lattice.Order p names chains) = listed_levels names
level_declarations (lattice.Product p chain categories) = product_or_chain chain categories
