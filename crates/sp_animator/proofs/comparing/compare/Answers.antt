use Rattle.std.proofs.Common.{List, sym, ◌∙◌, ap, subst, inl, inr, length}
use Rattle.sp_core.specs.declared.function.Answer.{Answer}
use Rattle.sp_core.specs.Instances.{filling_of, machine_of}
use Rattle.sp_core.specs.Security as security
use Rattle.sp_core.specs.States.{entry_of}
use Rattle.sp_animator.specs.Comparing.{Ends}
use Rattle.sp_animator.proofs.RunLemmas.{run_length}
use Rattle.sp_animator.proofs.SecureLemmas.{err_quiet, ok_quiet}
use Rattle.sp_animator.proofs.comparing.compare.Goals as goal

pub returns-in-Err-clause-fault : goal.returns-in-Err-clause-fault
returns-in-Err-clause-fault c = inl c.in-Err.ensures.fault

pub returns-in-Err-clause-secure : goal.returns-in-Err-clause-secure
returns-in-Err-clause-secure c secure admissible =
    let i = filling_of c.args.inst.now in
    err_quiet c.args.spec.now i c.functions.ensures.well_formed c.requires.given.instance.instance c.conflict_fault_law.ensures (secure i c.requires.given.instance.instance admissible)
    (entry_of c.args.start.now.entries) c.args.bound c.args.list.now c.requires.given.state c.requires.invocations c.requires.level c.in-Err.fault (inl c.in-Err.ensures.fault)

pub returns-in-Err-animate_purged-clause-secure : goal.returns-in-Err-animate_purged-clause-secure
returns-in-Err-animate_purged-clause-secure c secure admissible =
    let i = filling_of c.args.inst.now in
    err_quiet c.args.spec.now i c.functions.ensures.well_formed c.requires.given.instance.instance c.conflict_fault_law.ensures (secure i c.requires.given.instance.instance admissible)
    (entry_of c.args.start.now.entries) c.args.bound c.args.list.now c.requires.given.state c.requires.invocations c.requires.level c.in-Err-animate_purged.fault
    (inr ((c.in-Ok.answers.items, c.in-Ok.ensures.run), c.in-Err-animate_purged.ensures.fault))

pub first_difference-requires-clause-whole : goal.first_difference-requires-clause-whole
first_difference-requires-clause-whole c =
    let m = machine_of c.args.spec.now (filling_of c.args.inst.now) in
    ap length c.deref.ensures.value ∙ run_length m c.args.list.now (entry_of c.args.start.now.entries) c.in-Ok.answers.items c.in-Ok.ensures.run.0 c.in-Ok.ensures.run.1

pub first_difference-requires-clause-purged : goal.first_difference-requires-clause-purged
first_difference-requires-clause-purged c =
    let m = machine_of c.args.spec.now (filling_of c.args.inst.now) in
    ap length c.deref-2.ensures.value ∙ run_length m (security.purge m c.args.bound c.args.list.now) (entry_of c.args.start.now.entries) c.in-Ok-animate_purged.answers.items c.in-Ok-animate_purged.ensures.run.0 c.in-Ok-animate_purged.ensures.run.1

pub returns-clause-secure : goal.returns-clause-secure
returns-clause-secure c secure admissible =
    let i = filling_of c.args.inst.now in
    let m = machine_of c.args.spec.now i in
    let s = entry_of c.args.start.now.entries in
    ok_quiet c.args.spec.now i c.functions.ensures.well_formed c.requires.given.instance.instance c.conflict_fault_law.ensures (secure i c.requires.given.instance.instance admissible)
    s c.args.bound c.args.list.now c.requires.given.state c.requires.invocations c.requires.level c.first_difference.result (
      c.deref.result.now,
      c.deref-2.result.now,
      record {
        whole = subst (λ (xs : List Answer). Ends m s c.args.list.now xs) (sym c.deref.ensures.value) c.in-Ok.ensures.run;
        purged = subst (λ (xs : List Answer). Ends m s (security.purge m c.args.bound c.args.list.now) xs) (sym c.deref-2.ensures.value) c.in-Ok-animate_purged.ensures.run;
        comparison = c.first_difference.ensures;
      },
    )
