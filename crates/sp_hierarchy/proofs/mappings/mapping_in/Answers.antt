use Rattle.std.proofs.Common.{◌∙◌, length, refl, subst}
use Rattle.std.proofs.lemmas.Option.{slice_get_read}
use Rattle.sp_frame.specs.Steps.{Does, IsNamed}
use Rattle.sp_hierarchy.proofs.Meant.{made_in}
use Rattle.sp_hierarchy.proofs.mappings.mapping_in.Goals as goal

pub returns : goal.returns
returns c =
    made_in c.args.members.now c.args.row.now c.args.upper c.args.lower c.index-members-upper.result c.index-members-lower.result c.mapping_between.result c.judged.result
    (slice_get_read c.args.members.now (length c.args.members.now) c.args.upper c.index-members-upper.result refl c.requires.upper c.index-members-upper.is)
    (slice_get_read c.args.members.now (length c.args.members.now) c.args.lower c.index-members-lower.result refl c.requires.lower c.index-members-lower.is)
    c.mapping_between.ensures (subst (λ n. Does (IsNamed n c.mapping_between.result) c.judged.result) (c.deref.ensures.value ∙ c.in_ok-file.ensures) c.judged.ensures.does)
