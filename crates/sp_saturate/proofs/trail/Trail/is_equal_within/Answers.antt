use Rattle.std.proofs.Common.{sym, ◌∙◌}
use Rattle.sp_rules.specs.declared.fact.Fact.TheVariants.{Eq}
use Rattle.sp_saturate.proofs.trail.Trail.is_equal_within.Goals as goal

pub returns-clause-all : goal.returns-clause-all
returns-clause-all c =
    rw (← c.self.view_is) (λ pairs.
    c.is_row_within.ensures.all (λ j there. c.self.invariant.here (Eq c.args.i j) ∙ pairs j (sym (c.self.invariant.here (Eq c.args.p j)) ∙ there)))
