-- The tree of each form.
use Rattle.std.proofs.Common.{◌≡◌, rules, ℕ, List}
use Rattle.sp_rules.specs.declared.fact.Step.{Step}
use Rattle.sp_cert.specs.declared.cert.Cert.{Cert}
use Rattle.sp_cert.specs.declared.cert.Cert.TheVariants as cert
use Rattle.sp_cert.specs.declared.cert.Cert.TheFolds.{the_lemmas}
use Rattle.sp_cert.specs.Tree.{tree, Split, Leaf, Steps}

pub tree_split : (a : ℕ) (t f : Cert) → tree (cert.Split a t f) ≡ Split a (tree t) (tree f)
tree_split a t f = search (rules, the_lemmas)

pub tree_leaf : (ss : List Step) → tree (cert.Leaf ss) ≡ Leaf ss
tree_leaf ss = search (rules, the_lemmas)

pub tree_steps : (ss : List Step) (t : Cert) → tree (cert.Steps ss t) ≡ Steps ss (tree t)
tree_steps ss t = search (rules, the_lemmas)
