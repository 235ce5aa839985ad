-- The heights of effects and expressions by their forms, and of lists of them with one more.
use Rattle.std.proofs.Common.{◌≡◌, refl, sym, ◌∙◌, ap, arith, ℕ, zero, suc, ◌<◌, ◌≤◌, List, [], ◌∷◌, ◌++◌, length, map, take, get_or, append_assoc}
use Rattle.std.specs.Prelude.{max, Result, Ok, Err, OnOk}
use Rattle.std.proofs.lemmas.List.{append-nil}
use Rattle.sp_values.specs.declared.value.Ty.{Ty}
use Rattle.sp_core.specs.declared.expr.Expr.{Expr}
use Rattle.sp_core.specs.declared.function.Effect.{Effect}
use Rattle.sp_core.specs.declared.function.Effect.TheVariants as effect
use Rattle.sp_core.specs.Effects.{changes, changes_in, change_under, effect_tree, effect_trees_of}
use Rattle.sp_core.specs.Ranks.{new_reads, new_reads_in}
use Rattle.sp_core.specs.Tree.{Not, tree, trees_of}
use Rattle.sp_core.proofs.TreeLemmas.{effect_tree-If, effect_tree-Every}
use Rattle.sp_ranks.specs.declared.heights.Height.{Height}
use Rattle.sp_ranks.specs.Heights.{height_above, height_of, raised}
use Rattle.sp_ranks.proofs.Chains.{greatest-append, raised-append, raised_under, raised_within}

pub on_ok : {A E : Type 0} (P Q : Type 0) (r : Result A E) → (P → Q) → OnOk r P → OnOk r Q
on_ok P Q (Ok v) f h = f h
on_ok P Q (Err e) f h = tt

pub take_past : {A : Type 0} (xs : List A) (n : ℕ) → length xs ≤ n → take n xs ≡ xs
take_past [] zero l = refl
take_past [] (suc n) l = refl
take_past (x ∷ xs) zero l = absurd (omega (arith, l))
take_past (x ∷ xs) (suc n) l = ap (λ ys. x ∷ ys) (take_past xs n (omega (arith, l)))

pub above_next : (hs : List Height) (ds : List Expr) (k : ℕ) (d : Expr) → k < length ds → d ≡ get_or ds k d
    → height_above hs (new_reads_in (trees_of (map tree (take (suc k) ds)))) ≡ max (height_above hs (new_reads_in (trees_of (map tree (take k ds))))) (height_above hs (new_reads (tree d)))
above_next hs [] k d l e = absurd (omega (arith, l))
above_next hs (y ∷ ds) zero d l e =
    let one = greatest-append (λ h. suc (height_of hs h)) (new_reads (tree y)) [] in
    let same = ap (λ z. height_above hs (new_reads (tree z))) e in
    omega (arith, one, same)
above_next hs (y ∷ ds) (suc k) d l e =
    let longer = greatest-append (λ h. suc (height_of hs h)) (new_reads (tree y)) (new_reads_in (trees_of (map tree (take (suc k) ds)))) in
    let shorter = greatest-append (λ h. suc (height_of hs h)) (new_reads (tree y)) (new_reads_in (trees_of (map tree (take k ds)))) in
    let ih = above_next hs ds k d (omega (arith, l)) e in
    omega (arith, longer, shorter, ih)

pub if_raised : (hs : List Height) (e : Effect) (c : Expr) (as' bs xs ys : List Effect) → e ≡ effect.If c as' bs → xs ≡ as' → ys ≡ bs
    → raised hs (changes (effect_tree e)) ≡ raised hs (changes_in (effect_trees_of (map effect_tree xs))) ++ raised hs (changes_in (effect_trees_of (map effect_tree ys)))
if_raised hs e c as' bs xs ys i j k =
    let A = changes_in (effect_trees_of (map effect_tree as')) in
    let B = changes_in (effect_trees_of (map effect_tree bs)) in
    ap (λ e. raised hs (changes (effect_tree e))) i ∙ ap (λ w. raised hs (changes w)) (effect_tree-If c as' bs)
    ∙ raised-append hs (map (change_under (tree c)) A) (map (change_under (Not (tree c))) B)
    ∙ (λ n. raised_under hs (tree c) A n ++ raised_under hs (Not (tree c)) B n)
    ∙ (λ n. raised hs (changes_in (effect_trees_of (map effect_tree (sym j n)))) ++ raised hs (changes_in (effect_trees_of (map effect_tree (sym k n)))))

pub every_raised : (hs : List Height) (e : Effect) (k : ℕ) (t : Ty) (ws xs : List Effect) → e ≡ effect.Every k t ws → xs ≡ ws
    → raised hs (changes (effect_tree e)) ≡ raised hs (changes_in (effect_trees_of (map effect_tree xs)))
every_raised hs e k t ws xs i j =
    ap (λ e. raised hs (changes (effect_tree e))) i ∙ ap (λ w. raised hs (changes w)) (effect_tree-Every k t ws)
    ∙ raised_within hs t (changes_in (effect_trees_of (map effect_tree ws))) ∙ ap (λ xs. raised hs (changes_in (effect_trees_of (map effect_tree xs)))) (sym j)

pub raised_next : (hs : List Height) (es : List Effect) (k : ℕ) (e : Effect) → k < length es → e ≡ get_or es k e
    → raised hs (changes_in (effect_trees_of (map effect_tree (take (suc k) es)))) ≡ raised hs (changes_in (effect_trees_of (map effect_tree (take k es)))) ++ raised hs (changes (effect_tree e))
raised_next hs [] k e l i = absurd (omega (arith, l))
raised_next hs (y ∷ es) zero e l i = ap (λ as'. raised hs as') (append-nil (changes (effect_tree y))) ∙ ap (λ z. raised hs (changes (effect_tree z))) (sym i)
raised_next hs (y ∷ es) (suc k) e l i =
    raised-append hs (changes (effect_tree y)) (changes_in (effect_trees_of (map effect_tree (take (suc k) es))))
    ∙ ap (λ xs. raised hs (changes (effect_tree y)) ++ xs) (raised_next hs es k e (omega (arith, l)) i)
    ∙ sym (append_assoc (raised hs (changes (effect_tree y))) (raised hs (changes_in (effect_trees_of (map effect_tree (take k es))))) (raised hs (changes (effect_tree e))))
    ∙ ap (λ xs. xs ++ raised hs (changes (effect_tree e))) (sym (raised-append hs (changes (effect_tree y)) (changes_in (effect_trees_of (map effect_tree (take k es))))))
