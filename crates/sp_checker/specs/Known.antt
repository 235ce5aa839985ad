-- What a formula is to its certificates, and the measures of a tree.
use Rattle.std.specs.Prelude.{ℕ, Bool, true, false, suc, ◌+◌, List}
use Rattle.sp_rules.specs.Clash.{is_clash}
use Rattle.sp_rules.specs.Table.{lack_of}
use Rattle.sp_rules.specs.Terms.{Terms}
use Rattle.sp_cert.specs.Checks.{Judge}
use Rattle.sp_cert.specs.Tree.{Tree, Split, Leaf, Steps}

-- steps and clashes by the rules over these terms
abbrev pub judge : Terms → List ℕ → Judge
judge ts atoms = record { lack = lack_of ts; is_clash = is_clash ts; atoms = atoms }

-- no STEPS node
abbrev pub is_last : Tree → Bool
is_last (Steps ss t) = false
is_last t = true

-- how many STEPS nodes stand directly below one another
abbrev pub chain : Tree → ℕ
chain (Steps ss t) = suc (chain t)
chain t = 0

-- how many splits there are
abbrev pub weight : Tree → ℕ
weight (Split a t f) = suc (weight t + weight f)
weight (Leaf ss) = 0
weight (Steps ss t) = weight t
