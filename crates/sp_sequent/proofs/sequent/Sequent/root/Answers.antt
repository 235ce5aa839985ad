use Rattle.std.proofs.Common.{◌≡◌, ap, sym, ◌∙◌, length}
use Rattle.sp_rules.specs.Terms.{Terms}
use Rattle.sp_sequent.specs.Sequents.{TermNumbers}
use Rattle.sp_sequent.proofs.Sequencing.{numbers_below}
use Rattle.sp_sequent.proofs.sequent.Sequent.root.Goals as goal

pub new-requires-clause-hypotheses : goal.new-requires-clause-hypotheses
new-requires-clause-hypotheses c =
    let count : length c.in_ok-terms.terms.nodes ≡ length c.self.inside.levels.items = ap (λ (t : Terms). length t.nodes) c.in_ok-terms.ensures ∙ c.requires ∙ sym (ap (λ (s : TermNumbers). length s.levels) c.self.view_is) in
    numbers_below c.deref-2.result.now c.self.inside.hyps.items _ _ c.deref-2.ensures.value count c.self.invariant.hypotheses

pub new-requires-clause-atoms : goal.new-requires-clause-atoms
new-requires-clause-atoms c =
    let count : length c.in_ok-terms.terms.nodes ≡ length c.self.inside.levels.items = ap (λ (t : Terms). length t.nodes) c.in_ok-terms.ensures ∙ c.requires ∙ sym (ap (λ (s : TermNumbers). length s.levels) c.self.view_is) in
    numbers_below c.deref-3.result.now c.self.inside.atoms.items _ _ c.deref-3.ensures.value count c.self.invariant.atoms
