use Rattle.std.proofs.Common.{[], subst, sym}
use Rattle.sp_text.specs.Violations.{Judges}
use Rattle.sp_plain.specs.Text.{text}
use Rattle.sp_judge.specs.Broken.{typed_broken}
use Rattle.sp_judge.specs.Translation.{IsElaborated}
use Rattle.sp_definitions.specs.Definitions.{AreCores}
use Rattle.sp_elaborate.proofs.Views.{seen_as}
use Rattle.sp_elaborate.proofs.expr.elaborate_between.Goals as goal

pub returns : goal.returns
returns c =
    let l = c.args.locals.now in
    let q = c.args.expected in
    let e = text c.args.e.now in
    let names = c.args.scopes.now in
    let cores = subst (AreCores names c.args.ends.0 c.args.ends.1 [] names.definitions) (sym c.deref.ensures.value) c.in_ok-cores.ensures.cores in
    subst (λ v. Judges (typed_broken v l q e) (IsElaborated v l q e) c.elaborate_expr.result)
    (seen_as names c.args.ends.0 c.args.ends.1 c.args.module c.deref.result.now cores) c.elaborate_expr.ensures
