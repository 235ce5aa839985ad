use Rattle.std.proofs.Common.{◌<◌, ℕ}
use Rattle.std.specs.Prelude.{slice_index_or}
use Rattle.sp_pool.specs.Nodes.{term}
use Rattle.sp_cert_tests.proofs.root.are_terms.Given as goal

abbrev pub invariant-loop-place : goal.invariant-loop-place
invariant-loop-place l = (k : ℕ) → k < l.place → (slice_index_or l.terms k (term 0)).0 < l.count
