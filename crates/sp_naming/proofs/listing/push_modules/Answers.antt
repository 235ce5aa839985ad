use Rattle.std.proofs.Common.{◌∙◌, arith}
use Rattle.sp_naming.specs.Declarations.{no_counts}
use Rattle.sp_naming.proofs.Numbering.{counts_pushed, module_pushed}
use Rattle.sp_naming.proofs.Gathering.{number_after}
use Rattle.sp_naming.proofs.listing.push_modules.Goals as goal

pub loop-text-preserved : goal.loop-text-preserved
loop-text-preserved c =
    let i = c.loop-text.invariant in
    record {
      listed = module_pushed 1 no_counts c.args.modules.now c.loop-text.text-index c.text-item.result c.args.all.now.items c.loop-text.all.items c.push_module.new.all.items c.loop-text.file c.loop-text.counts
          (omega arith) c.loop-text-test.true c.text-item.is i.listed i.file i.counts c.in_ok-push_module.ensures;
      file = c.after-file.ensures ∙ number_after 1 c.loop-text.text-index c.loop-text.file (omega arith) i.file;
      counts = c.counts_after-counts.ensures ∙ counts_pushed no_counts c.args.modules.now c.loop-text.text-index c.text-item.result c.loop-text.counts c.loop-text-test.true c.text-item.is i.counts;
    }
