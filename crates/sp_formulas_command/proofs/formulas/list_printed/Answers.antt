use Rattle.std.proofs.Common.{◌∙◌, List, Ok, ap, map, refl}
use Rattle.sp_sequent.specs.declared.formula.Formula.{Formula}
use Rattle.sp_formulas.specs.Formulas.{formula_as}
use Rattle.sp_formulas_command.specs.Formulas.{list_printed}
use Rattle.sp_formulas_command.specs.Printed.{list_text}
use Rattle.sp_formulas_command.proofs.formulas.list_printed.Goals as goal

pub returns : goal.returns
returns c =
    let p = c.args.spec.now in
    let fs = map formula_as c.in_ok-all.all in (
      list_printed p fs,
      (Ok fs, c.in_ok-all.ensures.does, refl),
      c.in_ok-report_lines.ensures ∙ ap (λ (all : List Formula). list_text p (map formula_as all)) c.items.ensures,
      refl,
    )
