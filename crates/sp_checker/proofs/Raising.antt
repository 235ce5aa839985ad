-- A node's front and what is left of it, made together, give the migrated tree.
use Rattle.std.proofs.Common.{◌≡◌, ℕ, zero, suc, ◌+◌, ◌-◌, ◌<◌, ◌≤◌, ◌⊎◌, ◌||◌, ◌&&◌, Bool, true, false, cond, List, [], ◌∷◌, ◌++◌, length, take, drop, get_or, Option, Some, None, Result, Ok, Err, IfOk, refl, sym, ap, ◌∙◌, subst, ⊎_elim, arith, add-one, length-drop}
use Rattle.std.specs.Prelude.{slice_index}
use Rattle.std.specs.Option.{is_none}
use Rattle.std.proofs.Math.Path.{fun_ext}
use Rattle.std.proofs.Math.Seq.{drop-cons}
use Rattle.std.proofs.lemmas.List.{take-append-drop, drop-append-le, drop-drop, drop_all}
use Rattle.sp_rules.specs.declared.fact.Fact.{Fact}
use Rattle.sp_rules.specs.declared.fact.Lack.{Lack}
use Rattle.sp_rules.specs.declared.fact.Step.{Step}
use Rattle.sp_rules.specs.Facts.{is_fact, with_fact}
use Rattle.sp_rules.proofs.FactLemmas.{both_hold}
use Rattle.sp_cert.specs.Tree.{Tree, Split, Leaf, Steps, tree}
use Rattle.sp_cert.specs.Checks.{Judge, Facts, first_fault}
use Rattle.sp_checker.specs.declared.lift.Raised.{Raised}
use Rattle.sp_checker.specs.Migration.{same_step, common, follow_or, following, if_true, if_false, front, under, moved, lifted, IsPlain}
use Rattle.sp_checker.specs.Raising.{HasAtoms, IsJoined, IsRaised, attached, goes_on, shortened, without_front}
use Rattle.sp_checker.proofs.Lifting.{Checks, Front, checks_from, common_fronts, following_front, front_taken, front_then}

pub if_ok : {X E : Type 0} (P Q : X → Type 0) (r : Result X E) → ((x : X) → P x → Q x) → IfOk r P → IfOk r Q
if_ok P Q (Ok x) f p = f x p
if_ok P Q (Err e) f p = p

module _ (j : Judge) (h : Facts) where
  -- a step that both lists begin with, and that lacks nothing
  shared_more : (s : Step) (xs ys : List Step) → goes_on j h s ys ≡ true → length (following j h (common (s ∷ xs) ys)) ≡ suc (length (following j (with_fact s.fact h) (common xs (drop 1 ys))))
  shared_more s xs [] e = absurd (cc)
  shared_more s xs (t ∷ ts) e =
      let k = both_hold (same_step s t) (is_none (j.lack h s)) e in
      ap (λ b. length (following j h (cond b (s ∷ common xs ts) []))) k.0 ∙ by (j.lack h s) k.1
    where
      by : (o : Option Lack) → is_none o ≡ true → length (follow_or o s (following j (with_fact s.fact h) (common xs ts))) ≡ suc (length (following j (with_fact s.fact h) (common xs ts)))
      by None e = refl
      by (Some l) e = absurd (cc)

  -- else nothing is followed
  shared_none : (s : Step) (xs ys : List Step) → goes_on j h s ys ≡ false → length (following j h (common (s ∷ xs) ys)) ≡ 0
  shared_none s xs [] e = refl
  shared_none s xs (t ∷ ts) e = by (same_step s t) (j.lack h s) refl e
    where
      by : (b : Bool) (o : Option Lack) → j.lack h s ≡ o → (b && is_none o) ≡ false → length (following j h (cond b (s ∷ common xs ts) [])) ≡ 0
      by true None f e = absurd (cc)
      by true (Some l) f e = ap (λ o. length (follow_or o s (following j (with_fact s.fact h) (common xs ts)))) f
      by false o f e = refl

  pub goes_lacks : (s : Step) (ys : List Step) → goes_on j h s ys ≡ true → j.lack h s ≡ None
  goes_lacks s [] e = absurd (cc)
  goes_lacks s (t ∷ ts) e = by (j.lack h s) (both_hold (same_step s t) (is_none (j.lack h s)) e).1
    where
      by : (o : Option Lack) → is_none o ≡ true → o ≡ None
      by None e = refl
      by (Some l) e = absurd (cc)

  module _ (xs ys : List Step) (i : ℕ) (d : Step) (below : i < length xs) where
    abbrev own : Step
    own = get_or xs i d

    here : drop i xs ≡ own ∷ drop (i + 1) xs
    here = drop-cons xs i d below ∙ ap (λ k. own ∷ drop k xs) (sym (add-one i))

    pub shared_after : (h' : Facts) → ((f : Fact) → h' f ≡ (is_fact own.fact f || h f)) → goes_on j h own (drop i ys) ≡ true
        → length (following j h (common (drop i xs) (drop i ys))) ≡ suc (length (following j h' (common (drop (i + 1) xs) (drop (i + 1) ys))))
    shared_after h' has e =
        ap (λ l. length (following j h (common l (drop i ys)))) here ∙ shared_more own (drop (i + 1) xs) (drop i ys) e
        ∙ ap (λ l. suc (length (following j (with_fact own.fact h) (common (drop (i + 1) xs) l)))) (drop-drop 1 i ys)
        ∙ ap (λ g. suc (length (following j g (common (drop (i + 1) xs) (drop (i + 1) ys))))) (sym (fun_ext has))

    pub shared_ends : goes_on j h own (drop i ys) ≡ false → length (following j h (common (drop i xs) (drop i ys))) ≡ 0
    shared_ends e = ap (λ l. length (following j h (common l (drop i ys)))) here ∙ shared_none own (drop (i + 1) xs) (drop i ys) e

  -- where the first list is at its end
  pub shared_all : (xs ys : List Step) (i : ℕ) → length xs ≤ i → length (following j h (common (drop i xs) (drop i ys))) ≡ 0
  shared_all xs ys i l = ap (λ k. length (following j h (common k (drop i ys)))) (drop_all i xs l)

  -- a step that goes on stands in the other list
  pub stands_there : (s : Step) (ys : List Step) (i : ℕ) → goes_on j h s (drop i ys) ≡ true → i < length ys
  stands_there s ys i e = ⊎_elim (λ (l : i < length ys). l) (λ (l : length ys ≤ i). let n = ap (goes_on j h s) (drop_all i ys l) in absurd (cc)) (split i (length ys))
    where
      split : (m n : ℕ) → (m < n) ⊎ (n ≤ m)
      split m n = grind arith

  -- lists that are followed no further than their first front
  pub shared_within : (xs ys : List Step) → (length (following j h (common xs ys)) ≤ length xs) × (length (following j h (common xs ys)) ≤ length ys)
  shared_within xs ys =
      let both = common_fronts j xs ys in
      let whole = following_front j h (common xs ys) in
      ((front_taken j _ xs (front_then j _ (common xs ys) xs whole both.0)).1, (front_taken j _ ys (front_then j _ (common xs ys) ys whole both.1)).1)

  pub shared_front : (xs ys : List Step) → take (length (following j h (common xs ys))) xs ≡ following j h (common xs ys)
  shared_front xs ys = (front_taken j _ xs (front_then j _ (common xs ys) xs (following_front j h (common xs ys)) (common_fronts j xs ys).0)).0

leaf_whole : (k m : ℕ) (ss : List Step) → k ≤ length (take m ss) → drop k (take m ss) ++ drop m ss ≡ drop k ss
leaf_whole k m ss l = sym (drop-append-le k (take m ss) (drop m ss) l) ∙ ap (drop k) (take-append-drop m ss)

module _ (j : Judge) where
  -- the migrated tree, from the front and what is left
  pub moved_is : (n : ℕ) (t : Tree) (h : Facts) (k : ℕ) → HasAtoms n t → k ≤ length (front j h t) → moved j h t k ≡ attached (drop k (front j h t)) (without_front j h t)
  moved_is n (Leaf ss) h k a l = ap Leaf (sym (leaf_whole k (length ss - 1) ss l))
  moved_is n (Steps ss t) h k a l = absurd a
  moved_is n (Split a t f) h k at l =
      let ft = front j (if_true j a h) t in
      let ff = front j (if_false j a h) f in
      let F = front j h (Split a t f) in
      let m = length F in
      let within = shared_within j h ft ff in
      ap (λ x. under (drop k F) (Split a x (moved j (if_false j a h) f m))) (moved_is n t (if_true j a h) m at.1 within.0)
      ∙ ap (λ x. under (drop k F) (Split a (shortened m ft (without_front j (if_true j a h) t)) x)) (moved_is n f (if_false j a h) m at.2 within.1)

  pub lifted_is : (n : ℕ) (t : Tree) (h : Facts) → HasAtoms n t → lifted j h t ≡ attached (front j h t) (without_front j h t)
  lifted_is n t h at = moved_is n t h 0 at (omega arith)

  has_atoms : (t : Tree) (h : Facts) (d : ℕ) → IsPlain t → Checks j d h t → HasAtoms (length j.atoms) t
  has_atoms (Leaf ss) h d p c = tt
  has_atoms (Split a t f) h d p c = (c.1, has_atoms t (if_true j a h) (d + 1) p.0 c.2, has_atoms f (if_false j a h) (d + 1) p.1 c.3)
  has_atoms (Steps ss t) h d p c = absurd p

  -- the SPLITs of a tree that checks name atoms
  pub checked_atoms : (t : Tree) (h : Facts) → IsPlain t → first_fault j h t ≡ None → HasAtoms (length j.atoms) t
  checked_atoms t h p e = has_atoms t h 0 p (checks_from j t h 0 0 0 e)

  pub leaf_raised : (ss : List Step) (h : Facts) (r : Raised) → r.front.items ≡ take (length ss - 1) ss → tree r.rest ≡ Leaf (drop (length ss - 1) ss) → IsRaised j h (Leaf ss) r
  leaf_raised ss h r a b = record { front = a; rest = b }

  -- a split raised, from its branches
  pub split_raised : (h : Facts) (a : ℕ) (t f : Tree) (first second : Raised) (n : ℕ) → IsRaised j (if_true j a h) t first → IsRaised j (if_false j a h) f second
      → n ≡ length (following j h (common first.front.items second.front.items)) → (r : Raised) → IsJoined a first second n r → IsRaised j h (Split a t f) r
  split_raised h a t f first second n x y e r z =
      let ft = front j (if_true j a h) t in
      let ff = front j (if_false j a h) f in
      let F = front j h (Split a t f) in
      let count : n ≡ length F = e ∙ ap (λ l. length (following j h (common l second.front.items))) x.front ∙ ap (λ l. length (following j h (common ft l))) y.front in
      record {
        front = z.front ∙ ap (λ k. take k first.front.items) count ∙ ap (take (length F)) x.front ∙ shared_front j h ft ff;
        rest = z.rest ∙ ap (λ k. Split a (shortened k first.front.items (tree first.rest)) (shortened k second.front.items (tree second.rest))) count
            ∙ ap (λ l. Split a (shortened (length F) l (tree first.rest)) (shortened (length F) second.front.items (tree second.rest))) x.front
            ∙ ap (λ l. Split a (shortened (length F) ft (tree first.rest)) (shortened (length F) l (tree second.rest))) y.front
            ∙ ap (λ u. Split a (shortened (length F) ft u) (shortened (length F) ff (tree second.rest))) x.rest
            ∙ ap (λ u. Split a (shortened (length F) ft (without_front j (if_true j a h) t)) (shortened (length F) ff u)) y.rest;
      }
