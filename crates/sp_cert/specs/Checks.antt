-- Whether a certificate checks, and its first fault: one function of the tree.
use Rattle.std.specs.Prelude.{nat_lt, ℕ, ◌+◌, Bool, true, false, if◌then◌else◌, List, [], ◌∷◌, length, slice_index, Option, Some, None}
use Rattle.sp_rules.specs.declared.fact.Fact.{Fact}
use Rattle.sp_rules.specs.declared.fact.Lack.{Lack}
use Rattle.sp_rules.specs.declared.fact.Step.{Step}
use Rattle.sp_rules.specs.Facts.{has_truth, with_fact}
use Rattle.sp_cert.specs.declared.cert.CertFault.{CertFault}
use Rattle.sp_cert.specs.declared.cert.CertFault.TheVariants.{BadStep, NotAnAtom, TooDeep, NoClash}
use Rattle.sp_cert.specs.Tree.{Tree, Split, Leaf, Steps}

-- a set of facts, as its test
abbrev pub Facts : Type 0
Facts = Fact → Bool

-- What a formula is to its certificates: what a step lacks over a set of facts, which facts are clashes, and the terms that
-- are its atoms.
pub record Judge : Type 0 where
  pub lack : Facts → Step → Option Lack
  pub is_clash : Fact → Bool
  pub atoms : List ℕ

-- the next number of a count, which stops at the greatest
abbrev pub next : ℕ → ℕ
next n = if nat_lt n 18446744073709551615 then n + 1 else 18446744073709551615

-- the set with the facts of these steps
abbrev pub with_steps : List Step → Facts → Facts
with_steps [] h = h
with_steps (s ∷ ss) h = with_steps ss (with_fact s.fact h)

-- the count behind so many steps
abbrev pub count_steps : ℕ → List Step → ℕ
count_steps n [] = n
count_steps n (s ∷ ss) = count_steps (next n) ss

-- the first of two faults
abbrev pub first_of : Option CertFault → Option CertFault → Option CertFault
first_of (Some e) o = Some e
first_of None o = o

abbrev pub bad_or : Option Lack → ℕ → Option CertFault → Option CertFault
bad_or (Some l) n o = Some (BadStep n l)
bad_or None n o = o

-- the first step that lacks something, n steps being counted before: each follows from the set and the earlier ones
abbrev pub bad_step : Judge → Facts → ℕ → List Step → Option CertFault
bad_step j h n [] = None
bad_step j h n (s ∷ ss) = bad_or (j.lack h s) (next n) (bad_step j (with_fact s.fact h) (next n) ss)

-- whether the last fact is a clash, c for the one before
abbrev pub ends_in_clash : Judge → Bool → List Step → Bool
ends_in_clash j c [] = c
ends_in_clash j c (s ∷ ss) = ends_in_clash j (j.is_clash s.fact) ss

-- the first fault of a leaf: a step, else that the last is no clash
abbrev pub leaf_fault : Judge → Facts → ℕ → ℕ → List Step → Option CertFault
leaf_fault j h node n ss = first_of (bad_step j h n ss) (if ends_in_clash j false ss then None else Some (NoClash node))

-- a node below more than twenty splits is too deep, before all else
abbrev pub unless_deep : ℕ → ℕ → Option CertFault → Option CertFault
unless_deep depth node o = if nat_lt 20 depth then Some (TooDeep node) else o

-- the counts of nodes and of steps behind a tree
abbrev pub count_nodes : ℕ → Tree → ℕ
count_nodes n (Split a t f) = count_nodes (count_nodes (next n) t) f
count_nodes n (Leaf ss) = next n
count_nodes n (Steps ss t) = count_nodes (next n) t

abbrev pub count_all : ℕ → Tree → ℕ
count_all n (Split a t f) = count_all (count_all n t) f
count_all n (Leaf ss) = count_steps n ss
count_all n (Steps ss t) = count_all (count_steps n ss) t

-- The first fault of a tree below so many splits, over a set of facts, so many nodes and steps being counted before it.
abbrev pub fault : Judge → Tree → Facts → ℕ → ℕ → ℕ → Option CertFault
fault j (Split a t f) h depth nodes steps =
    unless_deep depth (next nodes) (if nat_lt a (length j.atoms) then
    first_of (fault j t (with_fact (has_truth (slice_index j.atoms a) true) h) (depth + 1) (next nodes) steps)
    (fault j f (with_fact (has_truth (slice_index j.atoms a) false) h) (depth + 1) (count_nodes (next nodes) t) (count_all steps t))
    else Some (NotAnAtom (next nodes)))
fault j (Leaf ss) h depth nodes steps =
    unless_deep depth (next nodes) (leaf_fault j h (next nodes) steps ss)
fault j (Steps ss t) h depth nodes steps =
    unless_deep depth (next nodes) (first_of (bad_step j h steps ss) (fault j t (with_steps ss h) depth (next nodes) (count_steps steps ss)))

-- the certificate checks: it has no fault
abbrev pub first_fault : Judge → Facts → Tree → Option CertFault
first_fault j given t = fault j t given 0 0 0
