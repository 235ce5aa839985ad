use Rattle.std.proofs.Common.{◌≡◌, List, ℕ, length, sym, ap, ◌∙◌, subst}
use Rattle.std.proofs.Math.Path.{fun_ext}
use Rattle.sp_rules.specs.Facts.{holds_in, is_one_of}
use Rattle.sp_rules.specs.Terms.{Terms}
use Rattle.sp_rules.specs.declared.fact.Step.{Step}
use Rattle.sp_cert.specs.Checks.{Facts}
use Rattle.sp_cert.specs.Tree.{tree}
use Rattle.sp_checker.specs.Known.{judge}
use Rattle.sp_checker.specs.Lifts.{lifted_for}
use Rattle.sp_checker.specs.Migration.{front}
use Rattle.sp_checker.specs.Raising.{IsRaised, attached}
use Rattle.sp_checker.proofs.Raising.{if_ok, lifted_is}
use Rattle.sp_checker.proofs.lift.lifted.Goals as goal

pub returns-clause-lifted : goal.returns-clause-lifted
returns-clause-lifted c =
    let q = c.args.root.now in
    let t = tree c.args.cert.now in
    let h = holds_in c.args.eq.now c.args.le.now in
    let given = is_one_of q.given in
    let j = judge q.terms q.atoms in
    let r = c.in_ok-raised.raised in
    let over_terms : IsRaised (judge q.terms c.atoms.result.now) h t r = subst (λ (ts : Terms). IsRaised (judge ts c.atoms.result.now) h t r) c.terms-terms.ensures c.in_ok-raised.ensures.raised in
    let over_atoms : IsRaised j h t r = subst (λ (l : List ℕ). IsRaised (judge q.terms l) h t r) c.atoms.ensures over_terms in
    let raised : IsRaised j given t r = subst (λ (g : Facts). IsRaised j g t r) (fun_ext c.requires.holds) over_atoms in
    if_ok (λ x. tree x ≡ attached c.deref.result.now (tree r.rest)) (λ x. tree x ≡ lifted_for q t) c.attach.result
    (λ x e. e ∙ ap (λ (l : List Step). attached l (tree r.rest)) (c.deref.ensures.value ∙ raised.front) ∙ ap (attached (front j given t)) raised.rest ∙ sym (lifted_is j (length q.atoms) t given c.requires.shape)) c.attach.ensures
