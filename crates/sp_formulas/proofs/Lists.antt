-- Lists of expressions and their trees.
use Rattle.std.proofs.Common.{◌≡◌, refl, sym, ◌∙◌, ap, subst, arith, ℕ, zero, suc, ◌+◌, ◌-◌, ◌<◌, ◌≤◌, List, [], ◌∷◌, ◌++◌, map, length, take, get_or}
use Rattle.std.specs.Prelude.{slice_get, Some, None}
use Rattle.std.proofs.lemmas.Option.{none-some, same_Some}
use Rattle.sp_values.specs.declared.value.Value.TheVariants as value
use Rattle.std.proofs.lemmas.List.{take_all, take_more, map-append}
use Rattle.sp_core.specs.declared.expr.Expr.{Expr}
use Rattle.sp_core.specs.declared.expr.Expr.TheVariants as expr
use Rattle.sp_values.specs.declared.value.Ty.{Ty}
use Rattle.sp_core.proofs.TreeLemmas.{tree-Every}
use Rattle.sp_core.specs.Tree.{Tree, Trees, Every, Const, more, tree, trees_of}
use Rattle.sp_sequent.proofs.Weights.{weight, weights}
use Rattle.sp_formulas.specs.Moves.{nth_tree, AreBelow, IsBelow, all_renumbered, renumbered, settle, settle_all, put, put_all, raise}

-- a part is lighter than all
pub light_at : (ds : List Expr) (k : ℕ) (d : Expr) → k < length ds → d ≡ get_or ds k d → weight (tree d) < weights (trees_of (map tree ds))
light_at [] k d l e = absurd (omega arith)
light_at (a ∷ ds) zero d l e = omega (arith, ap (λ x. weight (tree x)) e)
light_at (a ∷ ds) (suc k) d l e = omega (arith, light_at ds k d (omega arith) e)

pub below_at : (b : ℕ) (ds : List Expr) (k : ℕ) (d : Expr) → k < length ds → d ≡ get_or ds k d → AreBelow b (trees_of (map tree ds)) → IsBelow b (tree d)
below_at b [] k d l e h = absurd (omega arith)
below_at b (a ∷ ds) zero d l e h = subst (λ x. IsBelow b (tree x)) (sym e) h.0
below_at b (a ∷ ds) (suc k) d l e h = below_at b ds k d (omega arith) e h.1

pub renumbered_list : (v q : ℕ → ℕ) (ts : List Tree) → trees_of (map (renumbered v q) ts) ≡ all_renumbered v q (trees_of ts)
renumbered_list v q [] = refl
renumbered_list v q (t ∷ ts) = ap (more (renumbered v q t)) (renumbered_list v q ts)

pub renumbered_end : (v q : ℕ → ℕ) (all parts : List Expr) (k : ℕ) → length parts ≤ k → map tree all ≡ map (renumbered v q) (map tree (take k parts)) → trees_of (map tree all) ≡ all_renumbered v q (trees_of (map tree parts))
renumbered_end v q all parts k long h =
    ap trees_of (h ∙ ap (λ ds. map (renumbered v q) (map tree ds)) (take_all k parts long)) ∙ renumbered_list v q (map tree parts)

-- one more part
pub map_step : (f : Tree → Tree) (all longer ds : List Expr) (k : ℕ) (d r : Expr) → k < length ds → d ≡ get_or ds k d → longer ≡ all ++ r ∷ [] → tree r ≡ f (tree d)
    → map tree all ≡ map f (map tree (take k ds)) → map tree longer ≡ map f (map tree (take (k + 1) ds))
map_step f all longer ds k d r below is grown same h =
    ap (map tree) grown ∙ map-append tree all (r ∷ []) ∙ (λ i. h i ++ same i ∷ []) ∙ sym (map-append f (map tree (take k ds)) (tree d ∷ []))
    ∙ ap (map f) (sym (map-append tree (take k ds) (d ∷ []))) ∙ ap (λ x. map f (map tree x)) (sym (take_more ds k d below ∙ ap (λ x. take k ds ++ x ∷ []) (sym is)))

pub settled_list : (n : ℕ) (ts : List Tree) → trees_of (map (settle n) ts) ≡ settle_all n (trees_of ts)
settled_list n [] = refl
settled_list n (t ∷ ts) = ap (more (settle n t)) (settled_list n ts)

pub settled_end : (n : ℕ) (all parts : List Expr) (k : ℕ) → length parts ≤ k → map tree all ≡ map (settle n) (map tree (take k parts)) → trees_of (map tree all) ≡ settle_all n (trees_of (map tree parts))
settled_end n all parts k long h = ap trees_of (h ∙ ap (λ ds. map (settle n) (map tree ds)) (take_all k parts long)) ∙ settled_list n (map tree parts)

pub put_list : (as' : Trees) (ts : List Tree) → trees_of (map (put as') ts) ≡ put_all as' (trees_of ts)
put_list as' [] = refl
put_list as' (t ∷ ts) = ap (more (put as' t)) (put_list as' ts)

pub put_end : (as' : Trees) (all parts : List Expr) (k : ℕ) → length parts ≤ k → map tree all ≡ map (put as') (map tree (take k parts)) → trees_of (map tree all) ≡ put_all as' (trees_of (map tree parts))
put_end as' all parts k long h = ap trees_of (h ∙ ap (λ ds. map (put as') (map tree ds)) (take_all k parts long)) ∙ put_list as' (map tree parts)

pub nth_absent : (ds : List Expr) (k : ℕ) → slice_get ds k ≡ None → nth_tree (trees_of (map tree ds)) k ≡ Const value.Unknown
nth_absent [] k q = refl
nth_absent (d ∷ ds) zero q = absurd (none-some d (sym q))
nth_absent (d ∷ ds) (suc k) q = nth_absent ds k q

pub nth_there : (ds : List Expr) (k : ℕ) (d : Expr) → slice_get ds k ≡ Some d → nth_tree (trees_of (map tree ds)) k ≡ tree d
nth_there [] k d q = absurd (none-some d q)
nth_there (x ∷ ds) zero d q = ap tree (same_Some x d q)
nth_there (x ∷ ds) (suc k) d q = nth_there ds k d q

pub settled_every : (n k by : ℕ) (t : Ty) (a body boxed e : Expr) → e ≡ expr.Every k t a → by ≡ n - k → boxed ≡ body → tree body ≡ raise k by (tree a) → tree (expr.Every (k + by) t boxed) ≡ settle n (tree e)
settled_every n k by t a body boxed e is up same h =
    tree-Every (k + by) t boxed ∙ ap (λ x. Every (k + by) t (tree x)) same ∙ (λ i. Every (k + up i) t ((h ∙ ap (λ d. raise k d (tree a)) up) i))
    ∙ sym (ap (λ x. settle n (tree x)) is ∙ ap (settle n) (tree-Every k t a))
