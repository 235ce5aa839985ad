-- Certificates judged, migrated and told by a loop: what holds when the first of them are, and how it goes on.
use Rattle.std.proofs.Common.{◌≡◌, ◌∙◌, ℕ, zero, suc, ◌+◌, ◌<◌, ◌≤◌, List, [], ◌∷◌, ◌++◌, append_assoc, append-nil, arith, drop, get_or, length, map, None, ap, refl, subst, sym}
use Rattle.std.specs.Prelude.{slice_get}
use Rattle.std.specs.List.{All}
use Rattle.std.proofs.lemmas.List.{drop_more}
use Rattle.std.proofs.lemmas.List.Elements.{All-head, All-tail}
use Rattle.sp_core.specs.Parts.{Parts}
use Rattle.sp_sequent.specs.declared.formula.Formula.{Formula as Made}
use Rattle.sp_sequent.specs.Claims.{question_of}
use Rattle.sp_cert.specs.Tree.{Tree, tree}
use Rattle.sp_cert.specs.declared.cert.Cert.{Cert}
use Rattle.sp_checker.specs.Lifts.{lifted_for}
use Rattle.sp_checker.specs.Migration.{IsPlain}
use Rattle.sp_formulas.specs.Formulas.{Formula, formula_as}
use Rattle.sp_hold.specs.Holding.{claim}
use Rattle.sp_verify_command.specs.declared.judging.Judgement.{Judgement}
use Rattle.sp_verify_command.specs.Judged.{judged_if, judgement_lines, judgements}
use Rattle.sp_verify_command.specs.Migrate.{lifted_trees}

-- what holds of each of a list holds of the one in a place
pub typed_at : (P : Formula → Type 0) (fs : List Made) (k : ℕ) (f : Made) → All P (map formula_as fs) → k < length fs → f ≡ get_or fs k f → P (formula_as f)
typed_at P [] k f all h e = absurd (omega (arith, h))
typed_at P (x ∷ fs) zero f all h e = subst (λ y. P (formula_as y)) (sym e) (All-head P (formula_as x) (map formula_as fs) all)
typed_at P (x ∷ fs) (suc k) f all h e = typed_at P fs k f (All-tail P (formula_as x) (map formula_as fs) all) (omega (arith, h)) e

pub all_dropped : {X : Type 0} (xs : List X) (k : ℕ) → length xs ≤ k → drop k xs ≡ []
all_dropped [] zero h = refl
all_dropped [] (suc k) h = refl
all_dropped (x ∷ xs) zero h = absurd (omega (arith, h))
all_dropped (x ∷ xs) (suc k) h = all_dropped xs k (omega (arith, h))

one_more : (k : ℕ) → suc k + 1 ≡ suc (k + 1)
one_more k = omega arith

-- the item in a place before those behind it
at_index : {X : Type 0} (xs : List X) (k : ℕ) (x : X) → k < length xs → x ≡ get_or xs k x → drop k xs ≡ x ∷ drop (k + 1) xs
at_index xs k x h e = drop_more xs k x h ∙ ap (λ y. y ∷ drop (k + 1) xs) (sym e)

made_at : (fs : List Made) (k : ℕ) (f : Made) → k < length fs → f ≡ get_or fs k f → map formula_as (drop k fs) ≡ formula_as f ∷ map formula_as (drop (k + 1) fs)
made_at fs k f h e = ap (map formula_as) (at_index fs k f h e)

module _ (p : Parts) where
  -- ---- judging

  judged_front : (o : Formula) (os : List Formula) (ts : List Tree) (k : ℕ) → judgements p (o ∷ os) (drop k ts) ≡ judged_if p o (slice_get ts k) ∷ judgements p os (drop (k + 1) ts)
  judged_front o os [] zero = refl
  judged_front o os [] (suc k) = ap (λ n. judged_if p o None ∷ judgements p os (drop n [])) (sym (one_more k))
  judged_front o os (t ∷ ts) zero = refl
  judged_front o os (t ∷ ts) (suc k) = judged_front o os ts k ∙ ap (λ n. judged_if p o (slice_get ts k) ∷ judgements p os (drop n (t ∷ ts))) (sym (one_more k))

  module _ (fs : List Made) (ts : List Tree) where
    -- those judged so far stand before those that are left
    abbrev pub Judging : ℕ → List Judgement → Type 0
    Judging k done = done ++ judgements p (map formula_as (drop k fs)) (drop k ts) ≡ judgements p (map formula_as fs) ts

    pub next_judged : (k : ℕ) (done more : List Judgement) (f : Made) (j : Judgement) → k < length fs → f ≡ get_or fs k f → j ≡ judged_if p (formula_as f) (slice_get ts k) → more ≡ done ++ j ∷ [] → Judging k done → Judging (k + 1) more
    next_judged k done more f j h e is grown now =
        let rest = judgements p (map formula_as (drop (k + 1) fs)) (drop (k + 1) ts) in
        let front : judgements p (map formula_as (drop k fs)) (drop k ts) ≡ j ∷ rest =
        ap (λ os. judgements p os (drop k ts)) (made_at fs k f h e) ∙ judged_front (formula_as f) (map formula_as (drop (k + 1) fs)) ts k ∙ ap (λ i. i ∷ rest) (sym is) in
        ap (λ ds. ds ++ rest) grown ∙ append_assoc done (j ∷ []) rest ∙ ap (λ js. done ++ js) (sym front) ∙ now

    none_left : (k : ℕ) → length fs ≤ k → judgements p (map formula_as (drop k fs)) (drop k ts) ≡ []
    none_left k h = ap (λ gs. judgements p (map formula_as gs) (drop k ts)) (all_dropped fs k h)

    pub all_judged : (k : ℕ) (done : List Judgement) → length fs ≤ k → Judging k done → done ≡ judgements p (map formula_as fs) ts
    all_judged k done h now = sym (append-nil done) ∙ ap (λ js. done ++ js) (sym (none_left k h)) ∙ now

  -- ---- migrating

  lifted_none : (os : List Formula) → lifted_trees p os [] ≡ []
  lifted_none [] = refl
  lifted_none (o ∷ os) = refl

  module _ (fs : List Made) (cs : List Cert) where
    -- those migrated so far stand before those that are left
    abbrev pub Lifting : ℕ → List Tree → Type 0
    Lifting k done = done ++ lifted_trees p (map formula_as (drop k fs)) (map tree (drop k cs)) ≡ lifted_trees p (map formula_as fs) (map tree cs)

    pub next_lifted : (k : ℕ) (done more : List Tree) (f : Made) (c : Cert) (u : Tree) → k < length fs → f ≡ get_or fs k f → k < length cs → c ≡ get_or cs k c → u ≡ lifted_for (question_of p (claim (formula_as f))) (tree c)
        → more ≡ done ++ u ∷ [] → Lifting k done → Lifting (k + 1) more
    next_lifted k done more f c u h e l d is grown now =
        let rest = lifted_trees p (map formula_as (drop (k + 1) fs)) (map tree (drop (k + 1) cs)) in
        let front : lifted_trees p (map formula_as (drop k fs)) (map tree (drop k cs)) ≡ u ∷ rest =
        ap (λ os. lifted_trees p os (map tree (drop k cs))) (made_at fs k f h e) ∙ ap (λ ds. lifted_trees p (formula_as f ∷ map formula_as (drop (k + 1) fs)) (map tree ds)) (at_index cs k c l d) ∙ ap (λ v. v ∷ rest) (sym is) in
        ap (λ ds. ds ++ rest) grown ∙ append_assoc done (u ∷ []) rest ∙ ap (λ us. done ++ us) (sym front) ∙ now

    ended : (done left : List Tree) → left ≡ [] → done ++ left ≡ lifted_trees p (map formula_as fs) (map tree cs) → done ≡ lifted_trees p (map formula_as fs) (map tree cs)
    ended done left none now = sym (append-nil done) ∙ ap (λ us. done ++ us) (sym none) ∙ now

    pub all_lifted : (k : ℕ) (done : List Tree) → length fs ≤ k → Lifting k done → done ≡ lifted_trees p (map formula_as fs) (map tree cs)
    all_lifted k done h now =
        ended done (lifted_trees p (map formula_as (drop k fs)) (map tree (drop k cs))) (ap (λ gs. lifted_trees p (map formula_as gs) (map tree (drop k cs))) (all_dropped fs k h)) now

    pub no_more : (k : ℕ) (done : List Tree) → length cs ≤ k → Lifting k done → done ≡ lifted_trees p (map formula_as fs) (map tree cs)
    no_more k done h now =
        ended done (lifted_trees p (map formula_as (drop k fs)) (map tree (drop k cs)))
        (ap (λ ds. lifted_trees p (map formula_as (drop k fs)) (map tree ds)) (all_dropped cs k h) ∙ lifted_none (map formula_as (drop k fs))) now

-- ---- certificates

pub plain_at : (cs : List Cert) (k : ℕ) (c : Cert) → All IsPlain (map tree cs) → k < length cs → c ≡ get_or cs k c → IsPlain (tree c)
plain_at [] k c all h e = absurd (omega (arith, h))
plain_at (x ∷ cs) zero c all h e = subst (λ y. IsPlain (tree y)) (sym e) (All-head IsPlain (tree x) (map tree cs) all)
plain_at (x ∷ cs) (suc k) c all h e = plain_at cs k c (All-tail IsPlain (tree x) (map tree cs) all) (omega (arith, h)) e

-- ---- lines

pub no_judgements : (n : ℕ) (os : List Formula) → judgement_lines n os [] ≡ []
no_judgements n [] = refl
no_judgements n (o ∷ os) = refl
