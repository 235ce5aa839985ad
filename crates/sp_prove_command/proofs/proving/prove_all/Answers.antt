use Rattle.std.proofs.Common.{◌∙◌, ◌+◌, ◌++◌, ◌∷◌, [], ap, arith, drop, length, map, subst, sym}
use Rattle.std.proofs.lemmas.Result.{err_from_is_err_and}
use Rattle.sp_formulas.specs.Formulas.{formula_as}
use Rattle.sp_formulas.specs.Typed.{IsTypedFormula}
use Rattle.sp_cert.specs.Tree.{tree}
use Rattle.sp_prove_command.specs.Kept.{decision_found, trees_found}
use Rattle.sp_prove_command.proofs.Kept.{KeptFirst, all_kept, next_kept}
use Rattle.sp_prove_command.proofs.Progress.{First, all_decided, holds_at, next_decided, next_stops}
use Rattle.sp_prove_command.proofs.proving.prove_all.Goals as goal

pub prove_one-requires-clause-typed : goal.prove_one-requires-clause-typed
prove_one-requires-clause-typed c = holds_at c.args.spec.now (IsTypedFormula c.args.spec.now) c.args.formulas.now c.loop-k.k c.index-formulas-k.result c.requires.typed (omega arith) c.index-formulas-k.is

pub returns-in_err-found-clause-decided : goal.returns-in_err-found-clause-decided
returns-in_err-found-clause-decided c =
    let p = err_from_is_err_and c.from_residual-in_err-found.result c.from_residual-in_err-found.ensures.1 in
    rw (p.1, p.2) (next_stops c.args.spec.now c.args.formulas.now c.loop-k.k c.loop-k.decisions.items c.index-formulas-k.result _ (omega arith) c.index-formulas-k.is c.loop-k.invariant.1 c.in_err-found.ensures.does)

pub loop-k-preserved : goal.loop-k-preserved
loop-k-preserved c =
    let p = c.args.spec.now in
    let fs = c.args.formulas.now in
    let k = c.loop-k.k in
    let ds = c.loop-k.decisions.items in
    let ts = map tree c.loop-k.certs.items in
    let f = c.index-formulas-k.result in
    let found = c.in_ok-found.found in (
      ap length c.prove_one.ensures.pool ∙ c.loop-k.invariant.0,
      subst (First p (map formula_as fs) (k + 1 + 1) (map formula_as (drop (k + 1) fs))) (sym c.in_ok-keep.ensures.decisions)
          (next_decided p fs k ds f (decision_found found) (omega arith) c.index-formulas-k.is c.loop-k.invariant.1 c.in_ok-found.ensures.does),
      subst (λ xs. KeptFirst p (map formula_as fs) (map formula_as (drop (k + 1) fs)) xs (map tree c.keep.new.certs.items)) (sym c.in_ok-keep.ensures.decisions)
          (subst (KeptFirst p (map formula_as fs) (map formula_as (drop (k + 1) fs)) (ds ++ decision_found found ∷ [])) (sym c.in_ok-keep.ensures.certs)
          (next_kept p fs k ds ts f found (omega arith) c.index-formulas-k.is c.in_ok-found.ensures.found c.loop-k.invariant.2)),
    )

pub returns-clause-decided : goal.returns-clause-decided
returns-clause-decided c = all_decided c.args.spec.now c.args.formulas.now c.loop-k.k c.loop-k.decisions.items (omega arith) c.loop-k.invariant.1

pub returns-clause-kept : goal.returns-clause-kept
returns-clause-kept c = all_kept c.args.spec.now c.args.formulas.now c.loop-k.k c.loop-k.decisions.items (map tree c.loop-k.certs.items) (omega arith) c.loop-k.invariant.2
