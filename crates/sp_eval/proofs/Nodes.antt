-- How many nodes the forms of expressions have, and their parts.
use Rattle.std.proofs.Common.{◌≡◌, refl, ◌∙◌, ap, sym, arith, ℕ, zero, suc, ◌<◌, ◌≤◌, List, [], ◌∷◌, map, length, get_or}
use Rattle.sp_core.specs.declared.expr.Expr.{Expr}
use Rattle.sp_core.specs.declared.expr.Expr.TheVariants as expr
use Rattle.sp_core.specs.Measures.{nodes, nodes_in}
use Rattle.sp_core.specs.Tree.{count, tree, trees_of}
use Rattle.sp_core.proofs.TreeLemmas.{tree-Param, tree-Look, tree-New}

pub count-trees : (ds : List Expr) → count (trees_of (map tree ds)) ≡ length ds
count-trees [] = refl
count-trees (d ∷ ds) = ap suc (count-trees ds)

-- a part has at most the nodes of all
pub nodes-part : (ds : List Expr) (k : ℕ) (d : Expr) → k < length ds → d ≡ get_or ds k d → nodes (tree d) ≤ nodes_in (trees_of (map tree ds))
nodes-part [] k d l e = absurd (omega arith)
nodes-part (a ∷ ds) zero d l e = let q : nodes (tree d) ≡ nodes (tree a) = ap (λ x. nodes (tree x)) e in omega arith
nodes-part (a ∷ ds) (suc k) d l e = let q = nodes-part ds k d (omega arith) e in omega (arith, q)

pub nodes-Param : (p : ℕ) (e : Expr) (ds as' : List Expr) → e ≡ expr.Param p ds → as' ≡ ds → nodes (tree e) ≡ suc (nodes_in (trees_of (map tree as')))
nodes-Param p e ds as' i j = ap (λ e. nodes (tree e)) (i ∙ ap (expr.Param p) (sym j)) ∙ ap nodes (tree-Param p as')

pub nodes-Look : (g : ℕ) (e : Expr) (ds as' : List Expr) → e ≡ expr.Look g ds → as' ≡ ds → nodes (tree e) ≡ suc (nodes_in (trees_of (map tree as')))
nodes-Look g e ds as' i j = ap (λ e. nodes (tree e)) (i ∙ ap (expr.Look g) (sym j)) ∙ ap nodes (tree-Look g as')

pub nodes-New : (g : ℕ) (e : Expr) (ds as' : List Expr) → e ≡ expr.New g ds → as' ≡ ds → nodes (tree e) ≡ suc (nodes_in (trees_of (map tree as')))
nodes-New g e ds as' i j = ap (λ e. nodes (tree e)) (i ∙ ap (expr.New g) (sym j)) ∙ ap nodes (tree-New g as')
