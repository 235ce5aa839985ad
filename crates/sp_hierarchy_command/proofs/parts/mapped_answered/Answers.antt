use Rattle.std.proofs.Common.{length, refl}
use Rattle.std.proofs.lemmas.Option.{slice_get_read, slice_get_within}
use Rattle.sp_hierarchy_command.proofs.parts.mapped_answered.Goals as goal

pub returns : goal.returns
returns c =
    let within = slice_get_within c.args.members.now c.args.mapped.now.lower c.requires.0 c.requires.1 in
    rw (slice_get_read c.args.members.now (length c.args.members.now) c.args.mapped.now.lower c.index-members-mapped.result refl within c.index-members-mapped.is) c.mapping_answered.ensures
