-- The plain tree that a certificate stands for, and the plain file. All further definitions go by recursion on trees.
use Rattle.std.specs.Prelude.{ℕ, List, map, Vec}
use Rattle.sp_rules.specs.declared.fact.Step.{Step}
use Rattle.sp_cert.specs.declared.cert.Cert.{Cert}
use Rattle.sp_cert.specs.declared.cert.CertFile.{CertFile}
use Rattle.sp_cert.specs.declared.cert.Cert.TheOpen.{Cert-F}
use Rattle.sp_cert.specs.declared.cert.Cert.TheOpen as layer
use Rattle.sp_cert.specs.declared.cert.Cert.TheFolds.{fold-Cert}

-- a certificate, with the forms of the code's type
pub data Tree : Type 0 where
  Split : ℕ → Tree → Tree → Tree
  Leaf : List Step → Tree
  Steps : List Step → Tree → Tree

-- one form, with the tree of each part in its place
abbrev pub tree_step : Cert-F Tree → Tree
tree_step (layer.Split a t f) = Split a t f
tree_step (layer.Leaf steps) = Leaf steps
tree_step (layer.Steps steps t) = Steps steps t

-- the tree of a certificate
abbrev pub tree : Cert → Tree
tree = fold-Cert Tree tree_step

-- the trees of certificates in a vector
abbrev pub trees : {A : Type 0} → Vec Cert A → List Tree
trees cs = map tree cs.items

-- a format, and trees
pub record File : Type 0 where
  pub format : ℕ
  pub trees : List Tree

-- what a certificate file stands for
abbrev pub file_of : CertFile → File
file_of f = record { format = f.format; trees = trees f.certs }
