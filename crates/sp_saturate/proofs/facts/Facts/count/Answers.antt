use Rattle.std.proofs.Common.{sym, subst}
use Rattle.sp_rules.specs.Questions.{Question}
use Rattle.sp_saturate.specs.Situations.{FollowAsMany}
use Rattle.sp_saturate.proofs.Counted.{counted}
use Rattle.sp_saturate.proofs.facts.Facts.count.Goals as goal

pub returns : goal.returns
returns c =
    let a = c.self.inside in
    let q : Question = record { terms = a.trail.terms; given = a.given.now; atoms = a.atoms.now } in
    rw (← c.self.view_is) (subst (λ n. FollowAsMany (record { question = q; assumed = a.assumed.items }) n) (sym c.count.ensures) (counted q a.trail.steps a.assumed.items c.tell_found.ensures c.self.invariant.0.whole))
