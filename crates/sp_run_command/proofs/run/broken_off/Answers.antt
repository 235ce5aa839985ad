use Rattle.std.proofs.Common.{◌∙◌, List, Ok, ap, refl, subst, sym}
use Rattle.sp_core.specs.declared.function.Answer.{Answer}
use Rattle.sp_stepping.specs.declared.fault.StepFault.{StepFault}
use Rattle.sp_frame.specs.declared.refusal.Verdict.TheVariants as verdict
use Rattle.sp_frame.specs.Endings.{printed}
use Rattle.sp_run_command.specs.Run.{IsBroken, broken_text}
use Rattle.sp_run_command.proofs.run.broken_off.Goals as goal

pub returns-in_ok-conflict_lines-in-Conflict : goal.returns-in_ok-conflict_lines-in-Conflict
returns-in_ok-conflict_lines-in-Conflict c =
    let p = c.args.x.now.elaborated.spec in
    let i = c.args.x.now.instance in
    let js = c.args.x.now.script in
    let f = c.args.found.now in
    let lines = broken_text p i js f.at f.answers c.in-Conflict.place c.in-Conflict.first c.in-Conflict.second in (
      printed lines verdict.Conflict,
      subst (λ (e : StepFault). IsBroken p i js f.at f.answers e (Ok (printed lines verdict.Conflict))) (sym c.in-Conflict.is) refl,
      c.in_ok-conflict_lines-in-Conflict.ensures ∙ ap (λ (as' : List Answer). broken_text p i js f.at as' c.in-Conflict.place c.in-Conflict.first c.in-Conflict.second) c.items.ensures,
      refl,
    )
