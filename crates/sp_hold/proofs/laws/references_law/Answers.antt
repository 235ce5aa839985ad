use Rattle.std.proofs.Common.{subst, sym}
use Rattle.sp_core.specs.Instances.{machine_of, sizes_of, world_of}
use Rattle.sp_core.specs.Parts.{signature}
use Rattle.sp_core.specs.Values.{look}
use Rattle.sp_core.proofs.Bindings.{length_values}
use Rattle.sp_flow.specs.Flows.{IsUnder}
use Rattle.sp_flow.proofs.Reference.{reference}
use Rattle.sp_hold.proofs.Bridge.{below}
use Rattle.sp_hold.proofs.Flow.{flows_upward}
use Rattle.sp_hold.proofs.Scoped.{scoped}
use Rattle.sp_hold.proofs.Scopes.{IsScoped}
use Rattle.sp_hold.proofs.laws.references_law.Goals as goal

pub returns : goal.returns
returns c = λ p i wf inst admits holds l is_level s u t v state new_state alike new_alike xs x e ty typed has refs.
    let here = subst (λ k. IsScoped k e) (sym (length_values (sizes_of p i) xs x typed)) (scoped (signature p) xs e ty has) in
    reference p i wf inst (flows_upward p i wf inst admits holds).derivations l is_level s u t v state new_state alike new_alike l is_level (wf.lattice.partial.reflexive l is_level) e xs x ty typed has
    (below (world_of p i) (look (world_of p i) p.functions s) (look (world_of p i) p.functions u) (IsUnder (machine_of p i) l) e x here refs)
