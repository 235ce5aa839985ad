-- Steps that both branches of a split need, written once above it: a function of the tree.
use Rattle.std.specs.Prelude.{◌≡◌, ◌==◌, ◌&&◌, ℕ, ◌-◌, Bool, true, false, if◌then◌else◌, List, [], ◌∷◌, length, take, drop, slice_index, Option, Some, None}
use Rattle.sp_rules.specs.declared.fact.Lack.{Lack}
use Rattle.sp_rules.specs.declared.fact.Step.{Step}
use Rattle.sp_rules.specs.Facts.{is_fact}
use Rattle.sp_cert.specs.Tree.{Tree, Split, Leaf, Steps}
use Rattle.sp_cert.specs.Checks.{Judge, Facts, first_fault}
use Rattle.sp_rules.specs.Facts.{has_truth, with_fact}

abbrev pub same_step : Step → Step → Bool
same_step s t = is_fact s.fact t.fact && ((s.rule == t.rule) && ((s.p == t.p) && (s.q == t.q)))

-- what both lists begin with
abbrev pub common : List Step → List Step → List Step
common [] ts = []
common (s ∷ ss) [] = []
common (s ∷ ss) (t ∷ ts) = if same_step s t then s ∷ common ss ts else []

abbrev pub follow_or : Option Lack → Step → List Step → List Step
follow_or None s ss = s ∷ ss
follow_or (Some l) s ss = []

-- the longest front of which each step follows from the set and the earlier ones
abbrev pub following : Judge → Facts → List Step → List Step
following j h [] = []
following j h (s ∷ ss) = follow_or (j.lack h s) s (following j (with_fact s.fact h) ss)

abbrev pub if_true : Judge → ℕ → Facts → Facts
if_true j a h = with_fact (has_truth (slice_index j.atoms a) true) h

abbrev pub if_false : Judge → ℕ → Facts → Facts
if_false j a h = with_fact (has_truth (slice_index j.atoms a) false) h

-- The front of a leaf is its steps without the last. That of a split is the longest list that begins both branches' fronts and
-- of which each step follows without the split's own atom.
abbrev pub front : Judge → Facts → Tree → List Step
front j h (Leaf ss) = take (length ss - 1) ss
front j h (Split a t f) = following j h (common (front j (if_true j a h) t) (front j (if_false j a h) f))
front j h (Steps ss t) = []

-- the tree below these steps, if there are any
abbrev pub under : List Step → Tree → Tree
under [] t = t
under (s ∷ ss) t = Steps (s ∷ ss) t

-- the tree without the first k steps of its front
abbrev pub moved : Judge → Facts → Tree → ℕ → Tree
moved j h (Leaf ss) k = Leaf (drop k ss)
moved j h (Split a t f) k =
    under (drop k (front j h (Split a t f)))
    (Split a (moved j (if_true j a h) t (length (front j h (Split a t f)))) (moved j (if_false j a h) f (length (front j h (Split a t f)))))
moved j h (Steps ss t) k = Steps ss t

abbrev pub lifted : Judge → Facts → Tree → Tree
lifted j given t = moved j given t 0

-- no STEPS node
abbrev pub IsPlain : Tree → Type 0
IsPlain (Leaf ss) = Unit {0}
IsPlain (Split a t f) = IsPlain t × IsPlain f
IsPlain (Steps ss t) = ⊥

-- the law: what is lifted checks where it did before
abbrev pub LiftedChecks : Type 0
LiftedChecks = (j : Judge) (given : Facts) (t : Tree) → IsPlain t → first_fault j given t ≡ None → first_fault j given (lifted j given t) ≡ None
