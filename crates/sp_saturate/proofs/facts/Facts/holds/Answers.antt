use Rattle.std.proofs.Common.{◌++◌, sym, ◌∙◌}
use Rattle.sp_saturate.proofs.Levels.{level_has, level_all}
use Rattle.sp_saturate.proofs.facts.Facts.holds.Goals as goal

pub returns : goal.returns
returns c =
    let a = c.self.inside in
    let k = c.self.invariant.0 in
    rw (← c.self.view_is) (
      (λ t. level_has a.trail.terms a.trail.steps (a.given.now ++ a.assumed.items) c.tell_found.ensures k.whole c.args.fact (sym c.holds.ensures ∙ t)),
      (λ w. c.holds.ensures ∙ level_all a.trail.terms a.trail.steps (a.given.now ++ a.assumed.items) k.whole c.args.fact w),
    )
