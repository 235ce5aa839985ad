use Rattle.std.proofs.Common.{◌∙◌, subst, List}
use Rattle.sp_core.specs.declared.state.Entry.{Entry}
use Rattle.sp_listing.specs.Listing.{IsFirstConflict}
use Rattle.sp_stepping.specs.Moments.{laid}
use Rattle.sp_stepping.proofs.changing.Changing.judge.Goals as goal

pub returns-in-Err-Conflict-clause-fault : goal.returns-in-Err-Conflict-clause-fault
returns-in-Err-Conflict-clause-fault c = (
  c.args.rank,
  laid c.args.self.now c.args.made.now,
  record {
    rank = c.requires.rank;
    before = c.requires.made.stage;
    within = c.requires.made.within;
    conflict = subst (λ (es : List Entry). IsFirstConflict es c.in-Err-Conflict.place c.in-Err-Conflict.first c.in-Err-Conflict.second) (c.deref.ensures.value ∙ c.in_ok-entries.ensures) (rw c.in-Err-Conflict.field-0-is at c.in-Err-Conflict.ensures.conflict);
  },
)
