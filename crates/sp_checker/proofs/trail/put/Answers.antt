use Rattle.std.proofs.Common.{◌≡◌, Bool, true, false, not, refl, sym, ◌∙◌, arith}
use Rattle.sp_rules.specs.Facts.{holds_in}
use Rattle.sp_checker.proofs.Trails.{pushed}
use Rattle.sp_checker.proofs.trail.put.Goals as goal

not_true : (b : Bool) → not b ≡ true → b ≡ false
not_true true e = cc
not_true false e = refl

pub returns-then-add-clause-trailed : goal.returns-then-add-clause-trailed
returns-then-add-clause-trailed c = λ h0 from t.
    pushed h0 c.args.trail.now from c.args.len (holds_in c.args.eq.now c.args.le.now) (holds_in c.add.new.eq c.add.new.le) c.args.fact (omega (arith, c.add.ensures.less c.if-add.true))
    (not_true _ (sym c.add.ensures.new ∙ c.if-add.true)) c.add.ensures.has t
