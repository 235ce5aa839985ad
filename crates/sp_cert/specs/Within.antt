-- The certificate files that a text can spell.
use Rattle.std.specs.Prelude.{◌≡◌, ◌⊎◌, ℕ, zero, suc, ◌+◌, ◌≤◌, List, [], ◌∷◌, length}
use Rattle.sp_rules.specs.declared.fact.Fact.{Fact}
use Rattle.sp_rules.specs.declared.fact.Fact.TheVariants as fact
use Rattle.sp_rules.specs.declared.fact.Step.{Step}
use Rattle.sp_cert.specs.Tree.{Tree, File, Split, Leaf, Steps}

-- a number of a certificate's text
abbrev pub IsNumber : ℕ → Type 0
IsNumber n = n ≤ 4294967295

abbrev pub IsFact : Fact → Type 0
IsFact (fact.Eq i j) = IsNumber i × IsNumber j
IsFact (fact.Le i j) = IsNumber i × IsNumber j

-- the numbers fit, and the rule is one of the twenty-three
pub record IsStep (s : Step) : Type 0 where
  pub fact : IsFact s.fact
  pub rule : (1 ≤ s.rule) × (s.rule ≤ 23)
  pub p : IsNumber s.p
  pub q : IsNumber s.q

abbrev pub AreSteps : List Step → Type 0
AreSteps [] = Unit {0}
AreSteps (s ∷ ss) = IsStep s × AreSteps ss

-- one of the two formats
abbrev pub IsFormat : ℕ → Type 0
IsFormat v = (v ≡ 1) ⊎ (v ≡ 2)

-- a tree of format v with at most b SPLIT and STEPS nodes in one another; STEPS nodes stand in format 2 alone
abbrev pub IsTree : ℕ → ℕ → Tree → Type 0
IsTree v b (Leaf ss) = IsNumber (length ss) × AreSteps ss
IsTree v zero (Split a t f) = ⊥
IsTree v zero (Steps ss t) = ⊥
IsTree v (suc b) (Steps ss t) = IsNumber (length ss) × AreSteps ss × IsTree v b t × (v ≡ 2)
IsTree v (suc b) (Split a t f) = IsNumber a × IsTree v b t × IsTree v b f

-- trees of the formulas from the n-th on
abbrev pub AreTrees : ℕ → ℕ → ℕ → List Tree → Type 0
AreTrees v b n [] = Unit {0}
AreTrees v b n (t ∷ ts) = IsNumber n × IsTree v b t × AreTrees v b (n + 1) ts

-- a file that a text can spell, with at most so many SPLIT and STEPS nodes in one another
pub record IsFile (depth : ℕ) (f : File) : Type 0 where
  pub format : IsFormat f.format
  pub trees : AreTrees f.format depth 1 f.trees
