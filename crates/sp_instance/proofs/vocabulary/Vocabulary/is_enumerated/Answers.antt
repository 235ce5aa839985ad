use Rattle.std.proofs.Common.{◌≡◌, sym, ◌∙◌, ap, false}
use Rattle.std.specs.Prelude.{slice_get}
use Rattle.sp_instance.proofs.Texts.{got_none}
use Rattle.sp_instance.proofs.vocabulary.Vocabulary.is_enumerated.Goals as goal

pub returns-in-None : goal.returns-in-None
returns-in-None c =
    let e : c.self.inside.enumerated.items ≡ c.args.self.now.enumerated = ap (λ w. w.enumerated) c.self.view_is in
    got_none c.args.self.now.enumerated c.args.ty false (sym (c.in-None.ensures ∙ ap (λ xs. slice_get xs c.args.ty) (c.as_slice.ensures.value ∙ e)))
