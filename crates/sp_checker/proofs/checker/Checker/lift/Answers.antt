use Rattle.std.proofs.Common.{◌≡◌, List, ℕ, None, sym, ap, ◌∙◌, subst}
use Rattle.sp_rules.specs.Facts.{is_one_of}
use Rattle.sp_rules.specs.Questions.{Question}
use Rattle.sp_cert.specs.Tree.{Tree, tree}
use Rattle.sp_cert.specs.Within.{IsTree}
use Rattle.sp_checker.specs.Accepting.{fault_for}
use Rattle.sp_checker.specs.Known.{judge}
use Rattle.sp_checker.specs.Lifts.{lifted_for}
use Rattle.sp_checker.proofs.Lifting.{lifted_checks}
use Rattle.sp_checker.proofs.Raising.{checked_atoms}
use Rattle.sp_checker.proofs.Spelled.{lifted_is_spelled}
use Rattle.sp_checker.proofs.checker.Checker.lift.Goals as goal

pub returns-in-Some-clause-answer : goal.returns-in-Some-clause-answer
returns-in-Some-clause-answer c = sym (c.fault_for-fault.ensures.fault ∙ ap (λ (q : Question). fault_for q (tree c.args.cert.now)) c.self.view_is) ∙ c.in-Some.is

pub lifted-requires-clause-shape : goal.lifted-requires-clause-shape
lifted-requires-clause-shape c =
    let q = c.self.inside.root.now in
    checked_atoms (judge q.terms q.atoms) (tree c.args.cert.now) (is_one_of q.given) c.requires.plain (sym c.fault_for-fault.ensures.fault ∙ c.in_default.is)

pub returns-clause-answer : goal.returns-clause-answer
returns-clause-answer c =
    let t = tree c.args.cert.now in
    (sym (c.fault_for-fault.ensures.fault ∙ ap (λ (q : Question). fault_for q t) c.self.view_is) ∙ c.in_default.is, c.in-Ok.ensures.lifted ∙ ap (λ (q : Question). lifted_for q t) c.self.view_is)

pub returns-clause-checks : goal.returns-clause-checks
returns-clause-checks c =
    let t = tree c.args.cert.now in
    let q = c.self.inside.root.now in
    let none : fault_for q t ≡ None = sym c.fault_for-fault.ensures.fault ∙ c.in_default.is in
    ap (λ (k : Question). fault_for k (tree c.in-Ok.migrated)) (sym c.self.view_is) ∙ ap (fault_for q) c.in-Ok.ensures.lifted
    ∙ lifted_checks (judge q.terms q.atoms) (is_one_of q.given) t c.requires.plain none

pub returns-clause-spelled : goal.returns-clause-spelled
returns-clause-spelled c = λ depth g.
    let t = tree c.args.cert.now in
    let q = c.self.inside.root.now in
    let none : fault_for q t ≡ None = sym c.fault_for-fault.ensures.fault ∙ c.in_default.is in
    subst (λ (u : Tree). IsTree 2 64 u) (sym c.in-Ok.ensures.lifted) (lifted_is_spelled (judge q.terms q.atoms) (is_one_of q.given) depth t g none)
