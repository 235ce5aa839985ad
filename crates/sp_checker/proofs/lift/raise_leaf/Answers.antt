use Rattle.std.proofs.Common.{◌≡◌, ◌-◌, length, take, drop, sym, ap, ◌∙◌, arith}
use Rattle.std.proofs.lemmas.List.{take_all, length-drop}
use Rattle.sp_cert.specs.Tree.{Leaf}
use Rattle.sp_cert.proofs.Trees.{tree_leaf}
use Rattle.sp_checker.proofs.lift.raise_leaf.Goals as goal

pub returns : goal.returns
returns c = λ j h.
    let ss = c.args.steps.now in
    let n = c.saturating_sub-count.result in
    record {
      front = c.in_ok-front.ensures.items ∙ ap (λ k. take k ss) c.saturating_sub-count.ensures;
      rest = tree_leaf c.new.result ∙ ap Leaf (c.new.ensures ∙ c.in_ok-last.ensures.items ∙ take_all (length ss - n) (drop n ss) (omega (arith, length-drop n ss)) ∙ ap (λ k. drop k ss) c.saturating_sub-count.ensures);
    }
