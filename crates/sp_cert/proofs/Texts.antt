-- Lines as bytes, put down one after another.
use Rattle.std.proofs.Common.{◌≡◌, ℕ, ◌+◌, ◌<◌, ◌≤◌, List, [], ◌∷◌, ◌++◌, map, length, drop, get_or, refl, sym, ap, ◌∙◌, append_assoc, append-nil, add-one, drop-cons}
use Rattle.std.proofs.lemmas.List.{drop_all}
use Rattle.std.specs.Prelude.{decimal, codes}
use Rattle.sp_rules.specs.declared.fact.Step.{Step}
use Rattle.sp_cert.specs.declared.cert.Cert.{Cert}
use Rattle.sp_cert.specs.Tree.{Tree, tree, Split, Leaf, Steps}
use Rattle.sp_cert.specs.Spelling.{text, step_line, split_line, leaf_line, formula_line, tree_lines, formula_lines, steps_line}

pub text_append : (ls ms : List (List ℕ)) → text (ls ++ ms) ≡ text ls ++ text ms
text_append [] ms = refl
text_append (l ∷ ls) ms = ap (λ t. l ++ (10 ∷ t)) (text_append ls ms) ∙ sym (append_assoc l (10 ∷ text ls) (text ms))

-- a line and its feed, before more
pub text_one : (l : List ℕ) (t : List ℕ) → l ++ (10 ∷ t) ≡ (l ++ 10 ∷ []) ++ t
text_one l t = sym (append_assoc l (10 ∷ []) t)

-- of what is to be written, a is put down, and b is left
pub put : (w out new a b : List ℕ) → w ≡ out ++ (a ++ b) → new ≡ out ++ a → w ≡ new ++ b
put w out new a b e f = e ∙ sym (append_assoc out a b) ∙ ap (λ t. t ++ b) (sym f)

pub put_last : (w out new a : List ℕ) → w ≡ out ++ a → new ≡ out ++ a → new ≡ w
put_last w out new a e f = f ∙ sym e

pub leaf_pushed : (x0 x1 x2 : List ℕ) (k : ℕ) (ss : List Step) → length ss ≡ k → x1 ≡ x0 ++ ((codes "LEAF " ++ decimal k) ++ 10 ∷ []) → x2 ≡ x1 ++ text (map step_line ss)
    → x2 ≡ x0 ++ text (tree_lines (Leaf ss))
unfolding leaf_line
leaf_pushed x0 x1 x2 k ss n e f =
    let w : List ℕ = x0 ++ text (tree_lines (Leaf ss)) in
    let h : w ≡ x0 ++ (((codes "LEAF " ++ decimal k) ++ 10 ∷ []) ++ text (map step_line ss)) =
    ap (λ k. x0 ++ ((codes "LEAF " ++ decimal k) ++ (10 ∷ text (map step_line ss)))) n ∙ ap (λ t. x0 ++ t) (text_one (codes "LEAF " ++ decimal k) (text (map step_line ss))) in
    f ∙ sym (put w x0 x1 ((codes "LEAF " ++ decimal k) ++ 10 ∷ []) (text (map step_line ss)) h e)

pub split_pushed : (x0 x1 x2 x3 : List ℕ) (a : ℕ) (t f : Tree) → x1 ≡ x0 ++ ((codes "SPLIT " ++ decimal a) ++ 10 ∷ []) → x2 ≡ x1 ++ text (tree_lines t) → x3 ≡ x2 ++ text (tree_lines f)
    → x3 ≡ x0 ++ text (tree_lines (Split a t f))
unfolding split_line
split_pushed x0 x1 x2 x3 a t f e g h =
    let w : List ℕ = x0 ++ text (tree_lines (Split a t f)) in
    let l : List ℕ = codes "SPLIT " ++ decimal a in
    let p : w ≡ x0 ++ ((l ++ 10 ∷ []) ++ (text (tree_lines t) ++ text (tree_lines f))) =
    ap (λ r. x0 ++ (l ++ (10 ∷ r))) (text_append (tree_lines t) (tree_lines f)) ∙ ap (λ r. x0 ++ r) (text_one l (text (tree_lines t) ++ text (tree_lines f))) in
    h ∙ sym (put w x1 x2 (text (tree_lines t)) (text (tree_lines f)) (put w x0 x1 (l ++ 10 ∷ []) (text (tree_lines t) ++ text (tree_lines f)) p e) g)

pub steps_front : (ss : List Step) (i : ℕ) (s : Step) → i < length ss → text (map step_line (drop i ss)) ≡ (step_line (get_or ss i s) ++ 10 ∷ []) ++ text (map step_line (drop (i + 1) ss))
steps_front ss i s below =
    ap (λ l. text (map step_line l)) (drop-cons ss i s below) ∙ ap (λ k. step_line (get_or ss i s) ++ (10 ∷ text (map step_line (drop k ss)))) (sym (add-one i))
    ∙ text_one (step_line (get_or ss i s)) (text (map step_line (drop (i + 1) ss)))

pub steps_end : (ss : List Step) (i : ℕ) → length ss ≤ i → text (map step_line (drop i ss)) ≡ []
steps_end ss i done = ap (λ l. text (map step_line l)) (drop_all i ss done)

pub formulas_front : (cs : List Cert) (i : ℕ) (c : Cert) → i < length cs
    → text (formula_lines (i + 1) (map tree (drop i cs))) ≡ ((codes "FORMULA " ++ decimal (i + 1)) ++ 10 ∷ []) ++ (text (tree_lines (tree (get_or cs i c))) ++ text (formula_lines (i + 1 + 1) (map tree (drop (i + 1) cs))))
unfolding formula_line
formulas_front cs i c below =
    let l : List ℕ = codes "FORMULA " ++ decimal (i + 1) in
    let t : Tree = tree (get_or cs i c) in
    let more : List (List ℕ) = formula_lines (i + 1 + 1) (map tree (drop (i + 1) cs)) in
    ap (λ r. text (formula_lines (i + 1) (map tree r))) (drop-cons cs i c below)
    ∙ ap (λ k. l ++ (10 ∷ text (tree_lines t ++ formula_lines (i + 1 + 1) (map tree (drop k cs))))) (sym (add-one i))
    ∙ ap (λ r. l ++ (10 ∷ r)) (text_append (tree_lines t) more) ∙ text_one l (text (tree_lines t) ++ text more)

pub formulas_end : (cs : List Cert) (i : ℕ) → length cs ≤ i → text (formula_lines (i + 1) (map tree (drop i cs))) ≡ []
formulas_end cs i done = ap (λ l. text (formula_lines (i + 1) (map tree l))) (drop_all i cs done)

pub nothing_left : (w out b : List ℕ) → w ≡ out ++ b → b ≡ [] → out ≡ w
nothing_left w out b e f = sym (e ∙ ap (λ t. out ++ t) f ∙ append-nil out)

pub steps_pushed : (x0 x1 x2 x3 : List ℕ) (k : ℕ) (ss : List Step) (t : Tree) → length ss ≡ k → x1 ≡ x0 ++ ((codes "STEPS " ++ decimal k) ++ 10 ∷ []) → x2 ≡ x1 ++ text (map step_line ss) → x3 ≡ x2 ++ text (tree_lines t)
    → x3 ≡ x0 ++ text (tree_lines (Steps ss t))
unfolding steps_line
steps_pushed x0 x1 x2 x3 k ss t n e f g =
    let w : List ℕ = x0 ++ text (tree_lines (Steps ss t)) in
    let l : List ℕ = codes "STEPS " ++ decimal k in
    let p : w ≡ x0 ++ ((l ++ 10 ∷ []) ++ (text (map step_line ss) ++ text (tree_lines t))) =
    ap (λ k. x0 ++ ((codes "STEPS " ++ decimal k) ++ (10 ∷ text (map step_line ss ++ tree_lines t)))) n
    ∙ ap (λ r. x0 ++ (l ++ (10 ∷ r))) (text_append (map step_line ss) (tree_lines t)) ∙ ap (λ r. x0 ++ r) (text_one l (text (map step_line ss) ++ text (tree_lines t))) in
    g ∙ sym (put w x1 x2 (text (map step_line ss)) (text (tree_lines t)) (put w x0 x1 (l ++ 10 ∷ []) (text (map step_line ss) ++ text (tree_lines t)) p e) f)
