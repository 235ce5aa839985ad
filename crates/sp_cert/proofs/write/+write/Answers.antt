use Rattle.std.proofs.Common.{◌++◌, length, map, sym, ap, ◌∙◌}
use Rattle.sp_cert.specs.declared.cert.Cert.{Cert}
use Rattle.sp_cert.specs.Tree.{tree}
use Rattle.sp_cert.specs.Spelling.{text, tree_lines, step_line}
use Rattle.sp_cert.proofs.Trees.{tree_split, tree_leaf, tree_steps}
use Rattle.sp_cert.proofs.Texts.{leaf_pushed, split_pushed, steps_pushed}
use Rattle.sp_cert.proofs.write.+write.Goals as goal

pub returns-in_ok-push_tree-in-Split-2 : goal.returns-in_ok-push_tree-in-Split-2
returns-in_ok-push_tree-in-Split-2 t c =
    let x0 = c.args.out.now.items in
    split_pushed x0 c.push_line.new.out.items c.push_tree.new.out.items c.push_tree-in-Split.new.out.items c.in-Split.atom (tree c.in-Split.first) (tree c.in-Split.second)
    c.in_ok-push_line-in-Split.ensures
    (c.in_ok-push_tree-in-Split.ensures ∙ ap (λ x. c.push_line.new.out.items ++ text (tree_lines (tree x))) c.get.ensures)
    (c.in_ok-push_tree-in-Split-2.ensures ∙ ap (λ x. c.push_tree.new.out.items ++ text (tree_lines (tree x))) c.get-in-Split.ensures)
    ∙ sym (ap (λ (x : Cert). x0 ++ text (tree_lines (tree x))) c.in-Split.is ∙ ap (λ x. x0 ++ text (tree_lines x)) (tree_split c.in-Split.atom c.in-Split.first c.in-Split.second))

pub returns-in_ok-push_steps-in-Leaf : goal.returns-in_ok-push_steps-in-Leaf
returns-in_ok-push_steps-in-Leaf t c =
    let x0 = c.args.out.now.items in
    leaf_pushed x0 c.push_line-in-Leaf.new.out.items c.push_steps.new.out.items (length c.items.result.now) c.in-Leaf.steps (sym (ap length c.items.ensures)) c.in_ok-push_line-in-Leaf.ensures
    (c.in_ok-push_steps-in-Leaf.ensures ∙ ap (λ l. c.push_line-in-Leaf.new.out.items ++ text (map step_line l)) c.items-in-Leaf.ensures)
    ∙ sym (ap (λ (x : Cert). x0 ++ text (tree_lines (tree x))) c.in-Leaf.is ∙ ap (λ x. x0 ++ text (tree_lines x)) (tree_leaf c.in-Leaf.steps))

pub returns-in_ok-push_tree-in-Steps : goal.returns-in_ok-push_tree-in-Steps
returns-in_ok-push_tree-in-Steps t c =
    let x0 = c.args.out.now.items in
    steps_pushed x0 c.push_line-in-Steps.new.out.items c.push_steps-in-Steps.new.out.items c.push_tree-in-Steps.new.out.items (length c.items-in-Steps.result.now) c.in-Steps.steps (tree c.in-Steps.below)
    (sym (ap length c.items-in-Steps.ensures)) c.in_ok-push_line-in-Steps.ensures
    (c.in_ok-push_steps-in-Steps.ensures ∙ ap (λ l. c.push_line-in-Steps.new.out.items ++ text (map step_line l)) c.items-in-Steps-2.ensures)
    (c.in_ok-push_tree-in-Steps.ensures ∙ ap (λ x. c.push_steps-in-Steps.new.out.items ++ text (tree_lines (tree x))) c.get-in-Steps.ensures)
    ∙ sym (ap (λ (x : Cert). x0 ++ text (tree_lines (tree x))) c.in-Steps.is ∙ ap (λ x. x0 ++ text (tree_lines x)) (tree_steps c.in-Steps.steps c.in-Steps.below))
