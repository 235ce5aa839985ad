use Rattle.std.proofs.Common.{◌≡◌, ◌∙◌, ap}
use Rattle.sp_instance.specs.Words.{place_of}
use Rattle.sp_instance.proofs.names.NameList.place.Goals as goal

pub returns : goal.returns
returns c =
    let e : c.self.inside.all.items ≡ c.args.self.now = cc in
    c.copied.ensures ∙ c.get.ensures.value ∙ c.self.invariant c.args.name.now ∙ ap (λ names. place_of names c.args.name.now) e
