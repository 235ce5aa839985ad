use Rattle.std.proofs.Common.{◌≡◌, ℕ, ◌&&◌, not, Bool, true, false, List, [], length, refl, sym, ap, ◌∙◌, subst, arith}
use Rattle.std.specs.Prelude.{IfOk, slice_index}
use Rattle.std.proofs.Math.Path.{fun_ext}
use Rattle.sp_bits.specs.Table.{Bits}
use Rattle.sp_rules.specs.declared.fact.Fact.{Fact}
use Rattle.sp_rules.specs.declared.fact.Step.{Step}
use Rattle.sp_rules.specs.Facts.{has_truth, holds_in, is_fact, with_fact}
use Rattle.sp_cert.specs.declared.cert.Cert.{Cert}
use Rattle.sp_cert.specs.Checks.{Facts}
use Rattle.sp_cert.specs.Tree.{Leaf, Split, Tree, tree}
use Rattle.sp_cert.proofs.Trees.{tree_leaf, tree_split}
use Rattle.sp_checker.specs.Known.{judge}
use Rattle.sp_checker.specs.Migration.{common, following, if_false, if_true}
use Rattle.sp_checker.specs.Raising.{HasAtoms, IsJoined, IsRaised}
use Rattle.sp_checker.proofs.Faults.{same_tables, taken_out}
use Rattle.sp_checker.proofs.Raising.{if_ok, shared_within, split_raised}
use Rattle.sp_checker.proofs.lift.+raise.Goals as goal

not_true : (b : Bool) → not b ≡ true → b ≡ false
not_true true e = cc
not_true false e = refl

pub raise-join-requires-clause-first : goal.raise-join-requires-clause-first
raise-join-requires-clause-first t c =
    let h = holds_in c.raise_branch-in-Split.new.eq c.raise_branch-in-Split.new.le in
    let few = shared_within (judge c.args.terms.now []) h c.deref.result.now c.deref-in-Split.result.now in
    omega (arith, c.shared_count-count.ensures.count [], few.0, ap length c.deref.ensures.value)

pub raise-join-requires-clause-second : goal.raise-join-requires-clause-second
raise-join-requires-clause-second t c =
    let h = holds_in c.raise_branch-in-Split.new.eq c.raise_branch-in-Split.new.le in
    let few = shared_within (judge c.args.terms.now []) h c.deref.result.now c.deref-in-Split.result.now in
    omega (arith, c.shared_count-count.ensures.count [], few.1, ap length c.deref-in-Split.ensures.value)

pub raise-returns-in-Leaf-clause-raised : goal.raise-returns-in-Leaf-clause-raised
raise-returns-in-Leaf-clause-raised t c =
    let j = judge c.args.terms.now c.args.atoms.now in
    let h = holds_in c.args.eq.now c.args.le.now in
    let is : Leaf c.items.result.now ≡ tree c.args.cert.now = ap Leaf c.items.ensures ∙ sym (ap (λ (x : Cert). tree x) c.in-Leaf.is ∙ tree_leaf c.in-Leaf.steps) in
    if_ok _ _ c.raise_leaf.result (λ r f. subst (λ u. IsRaised j h u r) is (f j h)) c.raise_leaf.ensures

pub raise-returns-in_ok-second-in-Split-clause-raised : goal.raise-returns-in_ok-second-in-Split-clause-raised
raise-returns-in_ok-second-in-Split-clause-raised t c =
    let j = judge c.args.terms.now c.args.atoms.now in
    let h = holds_in c.args.eq.now c.args.le.now in
    let a = c.in-Split.atom in
    let left = c.in_ok-first-in-Split.first in
    let right = c.in_ok-second-in-Split.second in
    let s = c.raise_branch.ensures.same in
    let u = c.raise_branch-in-Split.ensures.same in
    let is : Split a (tree c.in-Split.first) (tree c.in-Split.second) ≡ tree c.args.cert.now = sym (ap (λ (x : Cert). tree x) c.in-Split.is ∙ tree_split a c.in-Split.first c.in-Split.second) in
    let x : IsRaised j (if_true j a h) (tree c.in-Split.first) left = subst (λ (x : Cert). IsRaised j (if_true j a h) (tree x) left) c.get.ensures c.in_ok-first-in-Split.ensures.raised in
    let no = has_truth (slice_index c.args.atoms.now a) false in
    let y0 : IsRaised j (with_fact no (holds_in c.args.eq.now c.raise_branch.new.le)) (tree c.get-in-Split.result.now) right =
    subst (λ (e : Bits). IsRaised j (with_fact no (holds_in e c.raise_branch.new.le)) (tree c.get-in-Split.result.now) right) s.0 c.in_ok-second-in-Split.ensures.raised in
    let y1 : IsRaised j (if_false j a h) (tree c.get-in-Split.result.now) right = subst (λ (e : Bits). IsRaised j (with_fact no (holds_in c.args.eq.now e)) (tree c.get-in-Split.result.now) right) s.1 y0 in
    let y : IsRaised j (if_false j a h) (tree c.in-Split.second) right = subst (λ (x : Cert). IsRaised j (if_false j a h) (tree x) right) c.get-in-Split.ensures y1 in
    let count : c.shared_count-count.result ≡ length (following j h (common left.front.items right.front.items)) =
    c.shared_count-count.ensures.count c.args.atoms.now
    ∙ ap (λ (e : Bits). length (following j (holds_in e c.raise_branch-in-Split.new.le) (common c.deref.result.now c.deref-in-Split.result.now))) (u.0 ∙ s.0)
    ∙ ap (λ (e : Bits). length (following j (holds_in c.args.eq.now e) (common c.deref.result.now c.deref-in-Split.result.now))) (u.1 ∙ s.1)
    ∙ ap (λ (l : List Step). length (following j h (common l c.deref-in-Split.result.now))) c.deref.ensures.value
    ∙ ap (λ (l : List Step). length (following j h (common left.front.items l))) c.deref-in-Split.ensures.value in
    if_ok (IsJoined a left right c.shared_count-count.result) (IsRaised j h (tree c.args.cert.now)) c.join.result
    (λ r z. subst (λ v. IsRaised j h v r) is (split_raised j h a (tree c.in-Split.first) (tree c.in-Split.second) left right c.shared_count-count.result x y count r z)) c.join.ensures

pub raise_branch-returns-then-new-clause-same : goal.raise_branch-returns-then-new-clause-same
raise_branch-returns-then-new-clause-same t c =
    let h = holds_in c.args.eq.now c.args.le.now in
    let h1 = holds_in c.add-new.new.eq c.add-new.new.le in
    let h2 = holds_in c.take_out.new.eq c.take_out.new.le in
    let s = c.raise-raised.ensures.same in
    let out : (f : Fact) → h2 f ≡ (not (is_fact c.args.fact f) && h1 f) = λ f. c.take_out.ensures.has f ∙ ap (λ (e : Bits). not (is_fact c.args.fact f) && holds_in e c.raise-raised.new.le f) s.0 ∙ ap (λ (e : Bits). not (is_fact c.args.fact f) && holds_in c.add-new.new.eq e f) s.1 in
    same_tables c.args.eq.now c.args.le.now c.take_out.new.eq c.take_out.new.le c.tell_within.ensures.table c.tell_within-2.ensures.table c.tell_within-then-new.ensures.table c.tell_within-then-new-2.ensures.table
    (c.take_out.ensures.eq ∙ ap (λ (e : Bits). e.count) s.0 ∙ c.add-new.ensures.sizes.0) (c.take_out.ensures.le ∙ ap (λ (e : Bits). e.count) s.1 ∙ c.add-new.ensures.sizes.1)
    (taken_out c.args.fact h h1 h2 (not_true _ (sym c.add-new.ensures.new ∙ c.if-new.true)) c.add-new.ensures.has out)

pub raise_branch-returns-then-new-clause-raised : goal.raise_branch-returns-then-new-clause-raised
raise_branch-returns-then-new-clause-raised t c =
    subst (λ (g : Facts). IfOk c.raise-raised.result (IsRaised (judge c.args.terms.now c.args.atoms.now) g (tree c.args.cert.now))) (fun_ext c.add-new.ensures.has) c.raise-raised.ensures.raised
