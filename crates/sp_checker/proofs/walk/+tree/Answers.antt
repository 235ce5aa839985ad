use Rattle.std.proofs.Common.{◌≡◌, ◌+◌, ◌&&◌, not, Bool, true, false, Option, None, refl, sym, ap, ◌∙◌, subst, arith}
use Rattle.std.specs.Prelude.{slice_index}
use Rattle.std.specs.Option.{is_some}
use Rattle.sp_rules.specs.declared.fact.Fact.{Fact}
use Rattle.sp_bits.specs.Table.{Bits}
use Rattle.sp_rules.specs.Facts.{holds_in}
use Rattle.sp_rules.specs.Facts.{is_fact}
use Rattle.sp_cert.specs.declared.cert.Cert.{Cert}
use Rattle.sp_cert.specs.declared.cert.CertFault.{CertFault}
use Rattle.sp_cert.specs.Tree.{tree}
use Rattle.sp_cert.specs.Checks.{first_of, fault, next, count_nodes, count_all, leaf_fault}
use Rattle.sp_rules.specs.Facts.{has_truth, with_fact}
use Rattle.sp_cert.proofs.Trees.{tree_split, tree_leaf}
use Rattle.sp_checker.specs.Known.{judge}
use Rattle.sp_checker.specs.Trail.{Trailed}
use Rattle.sp_checker.proofs.Trails.{kept_trailed}
use Rattle.sp_checker.proofs.Faults.{same_tables, none_fault, first_some, taken_out, leaf_is, split_is, true_branch, false_branch, first_none}
use Rattle.sp_checker.proofs.walk.+tree.Goals as goal

not_true : (b : Bool) → not b ≡ true → b ≡ false
not_true true e = cc
not_true false e = refl

pub branch_fault-returns-then-new-clause-same : goal.branch_fault-returns-then-new-clause-same
branch_fault-returns-then-new-clause-same t c =
    let h = holds_in c.args.eq.now c.args.le.now in
    let h1 = holds_in c.add-new.new.eq c.add-new.new.le in
    let h2 = holds_in c.take_out.new.eq c.take_out.new.le in
    let s = c.tree_fault-fault.ensures.same in
    let out : (f : Fact) → h2 f ≡ (not (is_fact c.args.fact f) && h1 f) = λ f. c.take_out.ensures.has f ∙ ap (λ (e : Bits). not (is_fact c.args.fact f) && holds_in e c.tree_fault-fault.new.le f) s.0 ∙ ap (λ (e : Bits). not (is_fact c.args.fact f) && holds_in c.add-new.new.eq e f) s.1 in
    same_tables c.args.eq.now c.args.le.now c.take_out.new.eq c.take_out.new.le c.tell_within.ensures.table c.tell_within-2.ensures.table c.tell_within-then-new.ensures.table c.tell_within-then-new-2.ensures.table
    (c.take_out.ensures.eq ∙ ap (λ (e : Bits). e.count) s.0 ∙ c.add-new.ensures.sizes.0) (c.take_out.ensures.le ∙ ap (λ (e : Bits). e.count) s.1 ∙ c.add-new.ensures.sizes.1)
    (taken_out c.args.fact h h1 h2 (not_true _ (sym c.add-new.ensures.new ∙ c.if-new.true)) c.add-new.ensures.has out)

pub node_fault-returns-then-is_some-clause-fault : goal.node_fault-returns-then-is_some-clause-fault
node_fault-returns-then-is_some-clause-fault t c =
    let j = judge c.args.terms.now c.args.atoms.now in
    let h = holds_in c.args.eq.now c.args.le.now in
    let a = c.in-Split.atom in
    let first = tree c.in-Split.first in
    let second = tree c.in-Split.second in
    let d = c.args.depth in
    let m = c.args.number.now in
    let n = c.args.count.now in
    let left : c.branch_fault-fault.result ≡ true_branch j a first h d m n = cc (c.next_number.ensures, c.get.ensures, c.branch_fault-fault.ensures.fault) in
    left ∙ sym (ap (λ (x : Cert). fault j (tree x) h d m n) c.in-Split.is ∙ ap (λ x. fault j x h d m n) (tree_split a c.in-Split.first c.in-Split.second)
    ∙ split_is j a first second h d m n (omega arith) c.if-place-atoms.false
    ∙ first_some (true_branch j a first h d m n) (false_branch j a first second h d m n) (ap is_some (sym left) ∙ sym c.is_some.ensures ∙ c.if-is_some.true))

pub node_fault-returns-in-Leaf-clause-fault : goal.node_fault-returns-in-Leaf-clause-fault
node_fault-returns-in-Leaf-clause-fault t c =
    let j = judge c.args.terms.now c.args.atoms.now in
    let h = holds_in c.args.eq.now c.args.le.now in
    c.leaf_fault.ensures.fault c.args.atoms.now ∙ ap (λ k. leaf_fault j h k c.args.count.now c.items.result.now) c.next_number.ensures
    ∙ ap (leaf_fault j h (next c.args.number.now) c.args.count.now) c.items.ensures
    ∙ sym (ap (λ (x : Cert). fault j (tree x) h c.args.depth c.args.number.now c.args.count.now) c.in-Leaf.is ∙ ap (λ x. fault j x h c.args.depth c.args.number.now c.args.count.now) (tree_leaf c.in-Leaf.steps)
    ∙ leaf_is j c.in-Leaf.steps h c.args.depth c.args.number.now c.args.count.now (omega arith))

pub node_fault-returns-else-is_some-clause-fault : goal.node_fault-returns-else-is_some-clause-fault
node_fault-returns-else-is_some-clause-fault t c =
    let j = judge c.args.terms.now c.args.atoms.now in
    let h = holds_in c.args.eq.now c.args.le.now in
    let a = c.in-Split.atom in
    let first = tree c.in-Split.first in
    let second = tree c.in-Split.second in
    let d = c.args.depth in
    let m = c.args.number.now in
    let n = c.args.count.now in
    let b = c.branch_fault-fault in
    let none : b.result ≡ None = none_fault b.result (sym c.is_some.ensures ∙ c.if-is_some.false) in
    let left : b.result ≡ true_branch j a first h d m n = cc (c.next_number.ensures, c.get.ensures, b.ensures.fault) in
    let nodes : b.new.number ≡ count_nodes (next m) first = b.ensures.nodes none ∙ (cc (c.next_number.ensures, c.get.ensures)) in
    let steps : b.new.count ≡ count_all n first = b.ensures.counted none ∙ (cc (c.get.ensures)) in
    let right : c.branch_fault.result ≡ false_branch j a first second h d m n =
    c.branch_fault.ensures.fault
    ∙ ap (λ (e : Bits). fault j (tree c.get-in-Split.result.now) (with_fact (has_truth (slice_index c.args.atoms.now a) false) (holds_in e b.new.le)) (d + 1) b.new.number b.new.count) b.ensures.same.0
    ∙ ap (λ (e : Bits). fault j (tree c.get-in-Split.result.now) (with_fact (has_truth (slice_index c.args.atoms.now a) false) (holds_in c.args.eq.now e)) (d + 1) b.new.number b.new.count) b.ensures.same.1
    ∙ (cc (c.get-in-Split.ensures, nodes, steps)) in
    right ∙ sym (ap (λ (x : Cert). fault j (tree x) h d m n) c.in-Split.is ∙ ap (λ x. fault j x h d m n) (tree_split a c.in-Split.first c.in-Split.second)
    ∙ split_is j a first second h d m n (omega arith) c.if-place-atoms.false
    ∙ first_none (true_branch j a first h d m n) (false_branch j a first second h d m n) (sym left ∙ none))

pub tree_fault-returns-in-Some-clause-same : goal.tree_fault-returns-in-Some-clause-same
tree_fault-returns-in-Some-clause-same t c =
    same_tables c.args.eq.now c.args.le.now c.undo.new.eq c.undo.new.le c.tell_within.ensures.table c.tell_within-2.ensures.table c.tell_within-in-Some.ensures.table c.tell_within-in-Some-2.ensures.table
    (c.undo.ensures.eq ∙ c.front-top.ensures.eq) (c.undo.ensures.le ∙ c.front-top.ensures.le) (c.undo.ensures.has (holds_in c.args.eq.now c.args.le.now) c.front-top.ensures.trailed)

pub tree_fault-returns-in-Some-clause-fault : goal.tree_fault-returns-in-Some-clause-fault
tree_fault-returns-in-Some-clause-fault t c =
    sym (c.front-top.ensures.fault c.args.atoms.now
    ∙ ap (λ (o : Option CertFault). first_of o (fault (judge c.args.terms.now c.args.atoms.now) (tree c.front-top.result.2.now) (holds_in c.front-top.new.eq c.front-top.new.le) c.args.depth c.front-top.new.number c.front-top.new.count)) c.in-Some.is)

pub tree_fault-returns-in-None-clause-same : goal.tree_fault-returns-in-None-clause-same
tree_fault-returns-in-None-clause-same t c =
    let h0 = holds_in c.args.eq.now c.args.le.now in
    let f = c.front-top in
    let n = c.node_fault-fault in
    let s = n.ensures.same in
    let there : Trailed h0 n.new.trail c.args.from f.result.0 (holds_in f.new.eq f.new.le) = kept_trailed h0 (holds_in f.new.eq f.new.le) f.new.trail n.new.trail c.args.from f.result.0 n.ensures.kept f.ensures.trailed in
    let one : Trailed h0 n.new.trail c.args.from f.result.0 (holds_in n.new.eq f.new.le) = subst (λ (e : Bits). Trailed h0 n.new.trail c.args.from f.result.0 (holds_in e f.new.le)) (sym s.0) there in
    let both : Trailed h0 n.new.trail c.args.from f.result.0 (holds_in n.new.eq n.new.le) = subst (λ (e : Bits). Trailed h0 n.new.trail c.args.from f.result.0 (holds_in n.new.eq e)) (sym s.1) one in
    same_tables c.args.eq.now c.args.le.now c.undo-in-None.new.eq c.undo-in-None.new.le c.tell_within.ensures.table c.tell_within-2.ensures.table c.tell_within-in-None.ensures.table c.tell_within-in-None-2.ensures.table
    (c.undo-in-None.ensures.eq ∙ ap (λ (e : Bits). e.count) s.0 ∙ f.ensures.eq) (c.undo-in-None.ensures.le ∙ ap (λ (e : Bits). e.count) s.1 ∙ f.ensures.le) (c.undo-in-None.ensures.has h0 both)

pub tree_fault-returns-in-None-clause-fault : goal.tree_fault-returns-in-None-clause-fault
tree_fault-returns-in-None-clause-fault t c =
    c.node_fault-fault.ensures.fault
    ∙ sym (c.front-top.ensures.fault c.args.atoms.now
    ∙ ap (λ (o : Option CertFault). first_of o (fault (judge c.args.terms.now c.args.atoms.now) (tree c.front-top.result.2.now) (holds_in c.front-top.new.eq c.front-top.new.le) c.args.depth c.front-top.new.number c.front-top.new.count)) c.in-None.is)
