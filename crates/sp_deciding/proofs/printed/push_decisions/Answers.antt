use Rattle.std.proofs.Common.{◌≡◌, ◌∙◌, ◌++◌, ◌+◌, [], ap, append-nil, arith, drop, map, sym}
use Rattle.sp_formulas.specs.Formulas.{formula_as}
use Rattle.sp_formulas.specs.Typed.{IsTypedFormula}
use Rattle.sp_deciding.specs.Verdicts.{all_lines}
use Rattle.sp_deciding.proofs.Lines.{all_dropped, no_decisions, typed_at}
use Rattle.sp_deciding.proofs.printed.push_decisions.Goals as goal

pub push_decision-requires : goal.push_decision-requires
push_decision-requires c = record { typed = typed_at (IsTypedFormula c.args.spec.now) c.args.formulas.now c.loop-k.k c.in-Some.formula.now c.requires.typed (omega (arith, c.in-Some.ensures.lookup)) c.in-Some.ensures.lookup.1 }

pub returns : goal.returns
returns c =
    let p = c.args.spec.now in
    let k = c.loop-k.k in
    let os = map formula_as (drop k c.args.formulas.now) in
    let none : drop k c.args.decisions.now ≡ [] = all_dropped c.args.decisions.now k (omega arith) in
    let lines : all_lines p (k + 1) os (drop k c.args.decisions.now) ≡ [] = ap (all_lines p (k + 1) os) none ∙ no_decisions p (k + 1) os in
    sym (append-nil c.loop-k.out.items) ∙ ap (λ ys. c.loop-k.out.items ++ ys) (sym lines) ∙ c.loop-k.invariant
