use Rattle.std.proofs.Common.{◌++◌, Option, Some, None}
use Rattle.sp_rules.specs.Terms.{Terms}
use Rattle.sp_rules.specs.Follows.{Follows}
use Rattle.sp_rules.specs.declared.fact.Fact.{Fact}
use Rattle.sp_saturate.specs.Steps.{on}
use Rattle.sp_saturate.specs.Looking.{IsOn}
use Rattle.sp_saturate.proofs.Levels.{level_all, level_has}
use Rattle.sp_saturate.proofs.facts.Facts.clash.Goals as goal
use Rattle.sp_rules.specs.Clash.{IsFirstClash}
use Rattle.sp_rules.specs.Facts.{is_one_of}

-- the same of facts that are told otherwise
same_clash : (ts : Terms) (P Q : Fact → Type 0) → ((f : Fact) → P f → Q f) → ((f : Fact) → Q f → P f) → (o : Option Fact) → IsFirstClash ts P o → IsFirstClash ts Q o
same_clash ts P Q to from None h = λ f q. h f (from f q)
same_clash ts P Q to from (Some f) h = record { there = to f h.there; clash = h.clash; first = λ g b q. h.first g b (from g q) }

pub returns : goal.returns
returns c =
    let a = c.self.inside in
    let facts = a.given.now ++ a.assumed.items in
    let whole = c.self.invariant.0.whole in
    rw (← c.self.view_is) (same_clash a.trail.terms (IsOn (on a.trail.steps)) (Follows a.trail.terms (is_one_of facts))
    (level_has a.trail.terms a.trail.steps facts c.tell_found.ensures whole) (level_all a.trail.terms a.trail.steps facts whole) c.first_clash.result c.first_clash.ensures)
