use Rattle.std.proofs.Common.{◌≡◌, sym, ◌∙◌, ap}
use Rattle.std.specs.Prelude.{slice_get}
use Rattle.sp_naming.specs.Names.{at_name, named}
use Rattle.sp_naming.proofs.Indexes.{named_none, named_some}
use Rattle.sp_naming.proofs.declared.Declared.named.Goals as goal

pub returns-in-None : goal.returns-in-None
returns-in-None c =
    let e : c.self.inside.all.items ≡ c.args.self.now = cc in
    sym (named_none c.self.inside.all.items (at_name c.self.inside.index) c.args.name.now c.self.invariant (sym c.in-None.ensures.value)) ∙ ap (λ ds. named ds c.args.name.now) e

pub returns-in-Some : goal.returns-in-Some
returns-in-Some c =
    let e : c.self.inside.all.items ≡ c.args.self.now = cc in
    let k = c.in-Some.place.now in
    c.at.ensures ∙ ap (λ xs. slice_get xs k) c.as_slice.ensures.value ∙ named_some c.self.inside.all.items (at_name c.self.inside.index) c.args.name.now k c.self.invariant (sym c.in-Some.ensures.value) ∙ ap (λ ds. named ds c.args.name.now) e
