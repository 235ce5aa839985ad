use Rattle.std.proofs.Common.{◌≡◌, ℕ, List, Option, Some, sym, ap, ◌∙◌, arith}
use Rattle.std.specs.Option.{is_some}
use Rattle.std.proofs.Math.Path.{fun_ext}
use Rattle.sp_rules.specs.declared.fact.Fact.{Fact}
use Rattle.sp_rules.specs.declared.fact.Step.{Step}
use Rattle.sp_rules.specs.Facts.{holds_in}
use Rattle.sp_cert.specs.declared.cert.Cert.{Cert}
use Rattle.sp_cert.specs.declared.cert.CertFault.{CertFault}
use Rattle.sp_cert.specs.declared.cert.CertFault.TheVariants.{TooDeep}
use Rattle.sp_cert.specs.Tree.{tree, Steps}
use Rattle.sp_cert.specs.Checks.{Facts, fault, next, bad_step, with_steps, count_nodes, count_all, count_steps}
use Rattle.sp_cert.proofs.Trees.{tree_steps}
use Rattle.sp_checker.specs.Known.{judge, weight}
use Rattle.sp_checker.proofs.Faults.{none_fault, first_some, first_none, tree_deep, steps_is, behind_steps}
use Rattle.sp_checker.proofs.walk.front.Goals as goal

abbrev deep_at : ℕ → Option CertFault
deep_at n = Some (TooDeep n)

pub returns-then-depth-gt20-clause-fault : goal.returns-then-depth-gt20-clause-fault
returns-then-depth-gt20-clause-fault c = λ atoms.
    let j = judge c.args.terms.now atoms in
    c.loop-at.invariant.fault atoms
    ∙ tree_deep j (tree c.loop-at.at.now) (holds_in c.loop-at.eq c.loop-at.le) c.args.depth c.loop-at.number c.loop-at.count c.if-depth-gt20.true
    ∙ ap deep_at (sym c.next_number-node.ensures)

pub returns-then-is_some-clause-trailed : goal.returns-then-is_some-clause-trailed
returns-then-is_some-clause-trailed c = c.follow-done.ensures.trailed (holds_in c.args.eq.now c.args.le.now) c.args.from c.loop-at.invariant.trailed

pub returns-then-is_some-clause-fault : goal.returns-then-is_some-clause-fault
returns-then-is_some-clause-fault c = λ atoms.
    let j = judge c.args.terms.now atoms in
    let h = holds_in c.loop-at.eq c.loop-at.le in
    let ss = c.in-Steps.steps in
    let t = tree c.in-Steps.below in
    let d = c.args.depth in
    let m = c.loop-at.number in
    let n = c.loop-at.count in
    let bad : c.follow-done.result.fault ≡ bad_step j h n ss = c.follow-done.ensures.fault atoms ∙ ap (bad_step j h n) c.items.ensures in
    let some = sym c.is_some.ensures ∙ c.if-is_some.true in
    c.loop-at.invariant.fault atoms
    ∙ ap (λ (x : Cert). fault j (tree x) h d m n) c.in-Steps.is ∙ ap (λ x. fault j x h d m n) (tree_steps ss c.in-Steps.below)
    ∙ steps_is j ss t h d m n (omega arith) ∙ first_some (bad_step j h n ss) (behind_steps j ss t h d m n) (ap is_some (sym bad) ∙ some) ∙ sym bad
    ∙ sym (first_some c.follow-done.result.fault _ some)

pub loop-at-preserved : goal.loop-at-preserved
loop-at-preserved c =
    let h = holds_in c.loop-at.eq c.loop-at.le in
    let h1 = holds_in c.follow-done.new.eq c.follow-done.new.le in
    let ss = c.in-Steps.steps in
    let t = tree c.in-Steps.below in
    let d = c.args.depth in
    let m = c.loop-at.number in
    let n = c.loop-at.count in
    let none = none_fault c.follow-done.result.fault (sym c.is_some.ensures ∙ c.if-is_some.false) in
    let holds : (f : Fact) → h1 f ≡ with_steps ss h f = λ f. c.follow-done.ensures.holds none f ∙ ap (λ (l : List Step). with_steps l h f) c.items.ensures in
    let counted : c.follow-done.result.count ≡ count_steps n ss = c.follow-done.ensures.counted none ∙ ap (count_steps n) c.items.ensures in
    let at : tree c.loop-at.at.now ≡ Steps ss t = ap (λ (x : Cert). tree x) c.in-Steps.is ∙ tree_steps ss c.in-Steps.below in
    let below : t ≡ tree c.get-at.result.now = sym (ap (λ (x : Cert). tree x) c.get-at.ensures) in
    record {
      eq = c.follow-done.ensures.eq ∙ c.loop-at.invariant.eq;
      le = c.follow-done.ensures.le ∙ c.loop-at.invariant.le;
      size = omega arith;
      room = c.follow-done.ensures.room;
      longer = omega (arith, c.follow-done.ensures.longer, c.loop-at.invariant.longer);
      within = c.follow-done.ensures.within;
      kept = λ k l. c.follow-done.ensures.kept k (omega (arith, l, c.loop-at.invariant.longer)) ∙ c.loop-at.invariant.kept k l;
      trailed = c.follow-done.ensures.trailed (holds_in c.args.eq.now c.args.le.now) c.args.from c.loop-at.invariant.trailed;
      fault = λ atoms.
          let j = judge c.args.terms.now atoms in
          c.loop-at.invariant.fault atoms ∙ ap (λ x. fault j x h d m n) at ∙ steps_is j ss t h d m n (omega arith)
          ∙ first_none (bad_step j h n ss) (behind_steps j ss t h d m n) (sym (c.follow-done.ensures.fault atoms ∙ ap (bad_step j h n) c.items.ensures) ∙ none)
          ∙ ap (λ (g : Facts). fault j t g d (next m) (count_steps n ss)) (sym (fun_ext holds))
          ∙ ap (λ k. fault j t h1 d k (count_steps n ss)) (sym c.next_number-node.ensures) ∙ ap (λ k. fault j t h1 d c.next_number-node.result k) (sym counted)
          ∙ ap (λ x. fault j x h1 d c.next_number-node.result c.follow-done.result.count) below;
      weight = ap weight (sym below) ∙ ap weight (sym at) ∙ c.loop-at.invariant.weight;
      nodes = c.loop-at.invariant.nodes ∙ ap (count_nodes m) at ∙ ap (λ k. count_nodes k t) (sym c.next_number-node.ensures) ∙ ap (count_nodes c.next_number-node.result) below;
      counted = c.loop-at.invariant.counted ∙ ap (count_all n) at ∙ ap (λ k. count_all k t) (sym counted) ∙ ap (count_all c.follow-done.result.count) below;
    }
