-- Each expression has nodes.
use Rattle.std.proofs.Common.{◌<◌}
use Rattle.sp_core.specs.Measures.{nodes}
use Rattle.sp_core.specs.Tree.{Tree}
use Rattle.sp_expand.proofs.TreeLemmas.{nodes_some as some_nodes}

pub nodes_some : (e : Tree) → 0 < nodes e
nodes_some e = some_nodes e
