use Rattle.sp_examples.proofs.CountingLemmas.{count_more}
use Rattle.sp_report_tests.proofs.counting.count_functions.Goals as goal

pub loop-k-preserved : goal.loop-k-preserved
loop-k-preserved c =
    count_more c.loop-k.k c.loop-k.all.items c.push.new.self.items c.in_ok-count_function.field-0 c.loop-k.invariant c.in_ok-count_function.ensures c.in_ok-push.ensures.items
