use Rattle.std.proofs.Common.{◌≡◌, refl}
use Rattle.sp_examples.specs.WorkedFiles.{small}
use Rattle.sp_examples.proofs.WorkedLemmas.{small_assembles}
use Rattle.sp_eval_examples.proofs.specifications.small.Goals as goal

pub assemble-requires : goal.assemble-requires
assemble-requires c =
    let tables : c.push-2.new.self.items ≡ small.tables = rw (c.in_ok-push-2.ensures.items, c.in_ok-push.ensures.items, c.new-tables.ensures.items, c.in_ok-high_at.ensures, c.in_ok-high_at-2.ensures) refl in
    small_assembles c.args.spec.now _ _ c.requires c.in_ok-members.ensures tables
