use Rattle.std.proofs.Common.{◌<◌, ◌≤◌, sym, ◌∙◌, ap, subst, length}
use Rattle.sp_core.specs.Instances.{InstanceParts}
use Rattle.sp_core.proofs.InstanceLemmas.{few-at, names-at, size-at, within-at}
use Rattle.sp_core.proofs.instance.Instance.names.Goals as goal

pub returns-clause-names : goal.returns-clause-names
returns-clause-names c =
    let vs = c.self.inside.members.items in
    let l = within-at (λ v. v.items) vs c.args.ty (subst (λ (i : InstanceParts). c.args.ty < length i.members) (sym c.self.view_is) c.requires) in
    rw (← c.self.view_is) (c.as_slice.ensures.value ∙ sym (names-at (λ v. v.items) vs c.args.ty c.index.result.now l c.index.ensures))

pub returns-clause-size : goal.returns-clause-size
returns-clause-size c =
    let vs = c.self.inside.members.items in
    let l = within-at (λ v. v.items) vs c.args.ty (subst (λ (i : InstanceParts). c.args.ty < length i.members) (sym c.self.view_is) c.requires) in
    rw (← c.self.view_is) (ap length c.as_slice.ensures.value ∙ sym (size-at (λ v. v.items) vs c.args.ty c.index.result.now l c.index.ensures))

pub returns-clause-few : goal.returns-clause-few
returns-clause-few c =
    let vs = c.self.inside.members.items in
    let l = within-at (λ v. v.items) vs c.args.ty (subst (λ (i : InstanceParts). c.args.ty < length i.members) (sym c.self.view_is) c.requires) in
    subst (λ n. n ≤ 64) (sym (ap length c.as_slice.ensures.value)) (few-at (λ v. v.items) vs c.args.ty c.index.result.now c.self.invariant l c.index.ensures)
