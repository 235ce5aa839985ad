use Rattle.std.proofs.Common.{refl, inl, length, arith}
use Rattle.sp_pool.proofs.NodeLaws.{plain_node}
use Rattle.sp_ground_tests.proofs.pool.intern_plain.Goals as goal

pub intern-requires : goal.intern-requires
intern-requires c = plain_node (length c.args.pool.now) c.args.head 0 (omega arith) (inl refl)
