-- What a command of the code stands for.
use Rattle.sp_words.specs.Words as meaning
use Rattle.sp_words.specs.declared.words.Command.{Command}
use Rattle.sp_words.specs.declared.words.Command.TheVariants.{Check, Formulas, Prove, Verify, Migrate, Run, Compare, Hierarchy, Sample}

abbrev pub command_meant : Command → meaning.Command
command_meant (Check i) = meaning.check i.now
command_meant (Formulas i) = meaning.formulas i.now
command_meant (Prove i) = meaning.prove i.now
command_meant (Verify i c) = meaning.verify i.now c.now
command_meant (Migrate i c) = meaning.migrate i.now c.now
command_meant (Run i n s) = meaning.run i.now n.now s.now
command_meant (Compare i n s l) = meaning.compare i.now n.now s.now l.now
command_meant (Hierarchy h) = meaning.hierarchy h.now
command_meant (Sample n) = meaning.sample n
