use Rattle.std.proofs.Common.{◌≡◌, ◌∙◌, ◌++◌, [], ap, append-nil, arith, drop, map, sym}
use Rattle.sp_core.specs.Tree.{tree}
use Rattle.sp_rules.specs.Questions.{numbers}
use Rattle.sp_deciding.specs.Verdicts.{atom_lines}
use Rattle.sp_deciding.proofs.Lines.{all_dropped, no_atoms}
use Rattle.sp_deciding.proofs.atoms.push_each.Goals as goal

pub returns : goal.returns
returns c =
    let p = c.args.spec.now in
    let xs = c.args.formula.now.vars in
    let es = map (λ r. tree r.now) c.args.terms.now in
    let k = c.loop-k.k in
    let ts = numbers (drop k c.args.atoms.now) in
    let none : drop k c.args.values.now ≡ [] = all_dropped c.args.values.now k (omega arith) in
    let lines : atom_lines p xs es ts (drop k c.args.values.now) ≡ [] = ap (atom_lines p xs es ts) none ∙ no_atoms p xs es ts in
    sym (append-nil c.loop-k.out.items) ∙ ap (λ ys. c.loop-k.out.items ++ ys) (sym lines) ∙ c.loop-k.invariant
