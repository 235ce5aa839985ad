use Rattle.std.proofs.Common.{subst}
use Rattle.sp_core.specs.Tree.{tree}
use Rattle.sp_eval.specs.Conditions.{HasItsType}
use Rattle.sp_eval.specs.Settings.{Setting}
use Rattle.sp_eval.proofs.Own.{ready_at, value_has_type}
use Rattle.sp_eval.proofs.values.eval_over.Goals as goal

pub value-requires : goal.value-requires
value-requires g c = ready_at c.new.result _ c.new.ensures.value c.new.ensures.setting c.functions.result.now c.functions.ensures.value c.args.env.now (tree c.args.e.now) c.requires.typed

pub returns-clause-typed : goal.returns-clause-typed
returns-clause-typed g c =
    subst (λ (s : Setting). HasItsType s.parts s.instance c.args.env.now (tree c.args.e.now) c.value.result) c.new.ensures.value
    (value_has_type c.new.result c.new.ensures.setting c.args.env.now (tree c.args.e.now) c.value.result c.value.ensures)
