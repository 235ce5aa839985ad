use Rattle.std.proofs.Common.{◌≡◌, ◌∙◌, ap}
use Rattle.sp_naming.specs.Names.{at_name, is_among}
use Rattle.sp_instance.proofs.Indexes.{known_name}
use Rattle.sp_instance.proofs.names.NameList.contains.Goals as goal

pub returns : goal.returns
returns c =
    let e : c.self.inside.all.items ≡ c.args.self.now = cc in
    c.contains_key.ensures ∙ known_name c.self.inside.all.items (at_name c.self.inside.index) c.args.name.now c.self.invariant ∙ ap (λ names. is_among names c.args.name.now) e
