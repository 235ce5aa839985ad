-- What is migrated can be spelled in the second format.
use Rattle.std.proofs.Common.{◌≡◌, ℕ, zero, suc, ◌+◌, ◌-◌, ◌<◌, ◌≤◌, List, [], ◌∷◌, ◌++◌, length, take, drop, None, refl, sym, ap, ◌∙◌, subst, inr, arith, length-append}
use Rattle.std.specs.List.{All}
use Rattle.std.proofs.lemmas.List.{take-append-drop}
use Rattle.std.proofs.lemmas.List.Elements.{All-cons}
use Rattle.sp_rules.specs.declared.fact.Step.{Step}
use Rattle.sp_cert.specs.Tree.{Tree, File, Split, Leaf, Steps}
use Rattle.sp_cert.specs.Within.{AreSteps, AreTrees, IsFile, IsNumber, IsTree}
use Rattle.sp_cert.specs.Checks.{Judge, Facts, first_fault}
use Rattle.sp_checker.specs.Migration.{common, following, if_true, if_false, front, under, moved, lifted, IsPlain}
use Rattle.sp_checker.proofs.Lifting.{Checks, Front, checks_from, common_fronts, following_front, front_then}

-- The first format has no STEPS node

one_not_two : {P : Type 0} → ◌≡◌ {A = ℕ} 1 2 → P
one_not_two e = absurd (omega (arith, e))

pub plain_tree : (b : ℕ) (t : Tree) → IsTree 1 b t → IsPlain t
plain_tree b (Leaf ss) g = tt
plain_tree zero (Split a t f) g = absurd g
plain_tree zero (Steps ss t) g = absurd g
plain_tree (suc b) (Split a t f) g = (plain_tree b t g.1, plain_tree b f g.2)
plain_tree (suc b) (Steps ss t) g = one_not_two g.3

plain_trees : (b n : ℕ) (ts : List Tree) → AreTrees 1 b n ts → All IsPlain ts
plain_trees b n [] g = λ k d l. absurd (omega arith)
plain_trees b n (t ∷ ts) g = All-cons IsPlain t ts (plain_tree b t g.1) (plain_trees b (n + 1) ts g.2)

pub first_format_is_plain : (depth : ℕ) (f : File) → IsFile depth f → f.format ≡ 1 → All IsPlain f.trees
first_format_is_plain depth f g e = plain_trees depth 1 f.trees (subst (λ v. AreTrees v depth 1 f.trees) e g.trees)

-- Steps that can be spelled

steps_front : (xs ys : List Step) → AreSteps (xs ++ ys) → AreSteps xs
steps_front [] ys g = tt
steps_front (x ∷ xs) ys g = (g.0, steps_front xs ys g.1)

steps_behind : (xs ys : List Step) → AreSteps (xs ++ ys) → AreSteps ys
steps_behind [] ys g = g
steps_behind (x ∷ xs) ys g = steps_behind xs ys g.1

-- steps of one node
abbrev AreNode : List Step → Type 0
AreNode ss = IsNumber (length ss) × AreSteps ss

node_front : (xs ys : List Step) → AreNode (xs ++ ys) → AreNode xs
node_front xs ys g = (omega (arith, g.0, length-append xs ys), steps_front xs ys g.1)

node_behind : (xs ys : List Step) → AreNode (xs ++ ys) → AreNode ys
node_behind xs ys g = (omega (arith, g.0, length-append xs ys), steps_behind xs ys g.1)

node_take : (k : ℕ) (ss : List Step) → AreNode ss → AreNode (take k ss)
node_take k ss g = node_front (take k ss) (drop k ss) (subst AreNode (sym (take-append-drop k ss)) g)

node_drop : (k : ℕ) (ss : List Step) → AreNode ss → AreNode (drop k ss)
node_drop k ss g = node_behind (take k ss) (drop k ss) (subst AreNode (sym (take-append-drop k ss)) g)

-- Trees that can be spelled

wider : (v b : ℕ) (t : Tree) → IsTree v b t → IsTree v (suc b) t
wider v b (Leaf ss) g = g
wider v zero (Split a t f) g = absurd g
wider v zero (Steps ss t) g = absurd g
wider v (suc b) (Split a t f) g = (g.0, wider v b t g.1, wider v b f g.2)
wider v (suc b) (Steps ss t) g = (g.0, g.1, wider v b t g.2, g.3)

abbrev more : ℕ → ℕ → ℕ
more zero b = b
more (suc n) b = suc (more n b)

wider_by : (n v b : ℕ) (t : Tree) → IsTree v b t → IsTree v (more n b) t
wider_by zero v b t g = g
wider_by (suc n) v b t g = wider v (more n b) t (wider_by n v b t g)

abbrev twice : ℕ → ℕ
twice zero = zero
twice (suc n) = suc (suc (twice n))

module _ (j : Judge) where
  few_around : (t : Tree) (h : Facts) (d : ℕ) → Checks j d h t → d ≤ 20
  few_around (Leaf ss) h d c = c.0
  few_around (Split a t f) h d c = c.0
  few_around (Steps ss t) h d c = c.0

  -- a tree that checks has few splits in one another
  shallow : (b n : ℕ) (t : Tree) (h : Facts) (d : ℕ) → d + n ≡ 20 → IsTree 1 b t → Checks j d h t → IsTree 1 n t
  shallow b n (Leaf ss) h d e g c = g
  shallow zero n (Split a t f) h d e g c = absurd g
  shallow zero n (Steps ss t) h d e g c = absurd g
  shallow (suc b) zero (Split a t f) h d e g c = let few = few_around t (if_true j a h) (d + 1) c.2 in absurd (omega (arith, few, e))
  shallow (suc b) (suc n) (Split a t f) h d e g c =
      let below : d + 1 + n ≡ 20 = omega (arith, e) in
      (g.0, shallow b n t (if_true j a h) (d + 1) below g.1 c.2, shallow b n f (if_false j a h) (d + 1) below g.2 c.3)
  shallow (suc b) n (Steps ss t) h d e g c = one_not_two g.3

  front_fits : (n : ℕ) (t : Tree) (h : Facts) → IsTree 1 n t → AreNode (front j h t)
  front_fits n (Leaf ss) h g = node_take (length ss - 1) ss g
  front_fits zero (Split a t f) h g = absurd g
  front_fits zero (Steps ss t) h g = absurd g
  front_fits (suc n) (Split a t f) h g =
      let ft = front j (if_true j a h) t in
      let ff = front j (if_false j a h) f in
      let both = front_then j (front j h (Split a t f)) (common ft ff) ft (following_front j h (common ft ff)) (common_fronts j ft ff).0 in
      node_front (front j h (Split a t f)) both.rest (subst AreNode both.is (front_fits n t (if_true j a h) g.1))
  front_fits (suc n) (Steps ss t) h g = one_not_two g.3

  under_fits : (b a : ℕ) (ss : List Step) (t f : Tree) → AreNode ss → IsNumber a → IsTree 2 b t → IsTree 2 b f → IsTree 2 (suc (suc b)) (under ss (Split a t f))
  under_fits b a [] t f s n x y = (n, wider 2 b t x, wider 2 b f y)
  under_fits b a (s ∷ ss) t f g n x y = (g.0, g.1, (n, x, y), refl)

  moved_fits : (n : ℕ) (t : Tree) (h : Facts) (k : ℕ) → IsTree 1 n t → IsTree 2 (twice n) (moved j h t k)
  moved_fits n (Leaf ss) h k g = node_drop k ss g
  moved_fits zero (Split a t f) h k g = absurd g
  moved_fits zero (Steps ss t) h k g = absurd g
  moved_fits (suc n) (Split a t f) h k g =
      let F = front j h (Split a t f) in
      under_fits (twice n) a (drop k F) (moved j (if_true j a h) t (length F)) (moved j (if_false j a h) f (length F)) (node_drop k F (front_fits (suc n) (Split a t f) h g)) g.0
      (moved_fits n t (if_true j a h) (length F) g.1) (moved_fits n f (if_false j a h) (length F) g.2)
  moved_fits (suc n) (Steps ss t) h k g = one_not_two g.3

  pub lifted_is_spelled : (h : Facts) (b : ℕ) (t : Tree) → IsTree 1 b t → first_fault j h t ≡ None → IsTree 2 64 (lifted j h t)
  lifted_is_spelled h b t g e = wider_by 24 2 40 (lifted j h t) (moved_fits 20 t h 0 (shallow b 20 t h 0 (omega arith) g (checks_from j t h 0 0 0 e)))
