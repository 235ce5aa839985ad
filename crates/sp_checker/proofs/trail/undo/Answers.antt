use Rattle.std.proofs.Common.{◌∙◌, arith}
use Rattle.sp_rules.specs.Facts.{holds_in}
use Rattle.sp_checker.proofs.Trails.{popped, nothing_laid}
use Rattle.sp_checker.proofs.trail.undo.Goals as goal

pub loop-left-preserved : goal.loop-left-preserved
loop-left-preserved c = record {
  eq = c.take_out.ensures.eq ∙ c.loop-left.invariant.eq;
  le = c.take_out.ensures.le ∙ c.loop-left.invariant.le;
  left = omega arith;
  trailed = λ h0 t.
      popped h0 c.args.trail.now c.args.from c.loop-left.left (holds_in c.loop-left.eq c.loop-left.le) (holds_in c.take_out.new.eq c.take_out.new.le) (omega arith) c.take_out.ensures.has
      (c.loop-left.invariant.trailed h0 t);
}

pub returns-clause-has : goal.returns-clause-has
returns-clause-has c = λ h0 t f.
    nothing_laid h0 c.args.trail.now c.args.from c.loop-left.left (holds_in c.loop-left.eq c.loop-left.le) (omega arith) (c.loop-left.invariant.trailed h0 t) f
