-- A node's front, and what is left of the node without it: how a tree is migrated from its leaves up, so that each front is
-- made once. Only this crate's own functions cite it.
use Rattle.std.specs.Prelude.{◌≡◌, ◌&&◌, ℕ, ◌-◌, ◌<◌, Bool, false, List, [], ◌∷◌, ◌++◌, length, take, drop, Option}
use Rattle.std.specs.Option.{is_none}
use Rattle.sp_rules.specs.declared.fact.Step.{Step}
use Rattle.sp_cert.specs.Tree.{Tree, Split, Leaf, Steps, tree}
use Rattle.sp_cert.specs.Checks.{Judge, Facts}
use Rattle.sp_checker.specs.declared.lift.Raised.{Raised}
use Rattle.sp_checker.specs.Migration.{same_step, if_true, if_false, front, under}

-- steps of a node's front put above what is left of it
abbrev pub attached : List Step → Tree → Tree
attached ss (Leaf xs) = Leaf (ss ++ xs)
attached ss (Split a t f) = under ss (Split a t f)
attached ss (Steps xs t) = under ss (Steps xs t)

-- the front of a branch behind so many steps, and what is left of the branch
abbrev pub shortened : ℕ → List Step → Tree → Tree
shortened n ss t = attached (drop n ss) t

-- what is left of a node without its front
abbrev pub without_front : Judge → Facts → Tree → Tree
without_front j h (Leaf ss) = Leaf (drop (length ss - 1) ss)
without_front j h (Split a t f) =
    Split a (shortened (length (front j h (Split a t f))) (front j (if_true j a h) t) (without_front j (if_true j a h) t))
    (shortened (length (front j h (Split a t f))) (front j (if_false j a h) f) (without_front j (if_false j a h) f))
without_front j h (Steps ss t) = Steps ss t

-- each SPLIT names one of n atoms, and there is no STEPS node
abbrev pub HasAtoms : ℕ → Tree → Type 0
HasAtoms n (Leaf ss) = Unit {0}
HasAtoms n (Split a t f) = (a < n) × HasAtoms n t × HasAtoms n f
HasAtoms n (Steps ss t) = ⊥

-- the step also begins the other list, and lacks nothing
abbrev pub goes_on : Judge → Facts → Step → List Step → Bool
goes_on j h s [] = false
goes_on j h s (t ∷ ts) = same_step s t && is_none (j.lack h s)

-- a node's front, and what is left of the node
pub record IsRaised (j : Judge) (h : Facts) (t : Tree) (r : Raised) : Type 0 where
  pub front : r.front.items ≡ front j h t
  pub rest : tree r.rest ≡ without_front j h t

-- two branches below a split, of whose fronts the first n steps move above it
pub record IsJoined (a : ℕ) (first second : Raised) (n : ℕ) (r : Raised) : Type 0 where
  pub front : r.front.items ≡ take n first.front.items
  pub rest : tree r.rest ≡ Split a (shortened n first.front.items (tree first.rest)) (shortened n second.front.items (tree second.rest))
