use Rattle.std.proofs.Common.{Ok, refl, subst, sym}
use Rattle.sp_animator.specs.declared.comparing.Compared.{Compared}
use Rattle.sp_frame.specs.declared.refusal.Verdict.TheVariants as verdict
use Rattle.sp_frame.specs.Endings.{printed}
use Rattle.sp_compare_command.specs.Compare.{IsCompared, differs_text, same_text}
use Rattle.sp_compare_command.proofs.compare.told.Goals as goal

pub returns-in_ok-same_lines-in-Same : goal.returns-in_ok-same_lines-in-Same
returns-in_ok-same_lines-in-Same c =
    let p = c.args.x.now.elaborated.spec in
    let lines = same_text p c.args.level c.in-Same.kept in (
      printed lines verdict.Ok,
      subst (λ (d : Compared). IsCompared p c.args.x.now.instance c.args.x.now.script c.args.level d (Ok (printed lines verdict.Ok))) (sym c.in-Same.is) refl,
      c.in_ok-same_lines-in-Same.ensures,
      refl,
    )

pub returns-in_ok-differs_lines-in-Differs : goal.returns-in_ok-differs_lines-in-Differs
returns-in_ok-differs_lines-in-Differs c =
    let p = c.args.x.now.elaborated.spec in
    let i = c.args.x.now.instance in
    let js = c.args.x.now.script in
    let lines = differs_text p i js c.args.level c.in-Differs.at c.in-Differs.whole c.in-Differs.purged in (
      printed lines verdict.Refused,
      subst (λ (d : Compared). IsCompared p i js c.args.level d (Ok (printed lines verdict.Refused))) (sym c.in-Differs.is) refl,
      c.in_ok-differs_lines-in-Differs.ensures,
      refl,
    )
