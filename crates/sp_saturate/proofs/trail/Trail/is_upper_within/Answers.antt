use Rattle.std.proofs.Common.{sym, ◌∙◌}
use Rattle.sp_rules.specs.declared.fact.Fact.TheVariants.{Le}
use Rattle.sp_saturate.proofs.trail.Trail.is_upper_within.Goals as goal

pub returns-clause-all : goal.returns-clause-all
returns-clause-all c =
    rw (← c.self.view_is) (λ pairs.
    c.is_row_within.ensures.all (λ j there. c.self.invariant.here (Le c.args.i j) ∙ pairs j (sym (c.self.invariant.here (Le c.args.p j)) ∙ there)))
