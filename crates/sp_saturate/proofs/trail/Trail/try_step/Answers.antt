use Rattle.std.proofs.Common.{◌≡◌, true, Option, None, Some, is_none, refl, sym, ◌∙◌, subst}
use Rattle.sp_rules.specs.Table.{lack_of}
use Rattle.sp_rules.specs.declared.fact.Lack.{Lack}
use Rattle.sp_rules.proofs.Steps.{ready, no_lack}
use Rattle.sp_saturate.specs.Steps.{on}
use Rattle.sp_saturate.specs.Trail.{Extends}
use Rattle.sp_saturate.proofs.Trails.{extends_one}
use Rattle.sp_saturate.proofs.trail.Trail.try_step.Goals as goal
use Rattle.sp_rules.proofs.FactLemmas.{both_hold}

none_of : (o : Option Lack) → is_none o ≡ true → o ≡ no_lack
none_of None e = refl
none_of (Some l) e = absurd (cc)

lacks : (c : goal.After-put-arg-1) → lack_of c.args.self.now.terms (on c.args.self.now.steps) c.args.step.now ≡ no_lack
lacks c = none_of _ (both_hold _ _ (sym c.is_new.ensures ∙ c.if-is_new.true)).1

pub put-requires-clause-terms : goal.put-requires-clause-terms
put-requires-clause-terms c = (ready c.args.self.now.terms (on c.args.self.now.steps) c.args.step.now (lacks c)).are_terms_here

pub returns-then-is_new-clause-extends : goal.returns-then-is_new-clause-extends
returns-then-is_new-clause-extends c =
    subst (λ f. Extends c.args.self.now f) (sym c.put.ensures)
    (extends_one c.args.self.now c.args.step.now (none_of _ (both_hold _ _ (sym c.is_new.ensures ∙ c.if-is_new.true)).1))
