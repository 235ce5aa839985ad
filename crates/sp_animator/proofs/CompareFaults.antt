-- Where both runs end, neither breaks off but for want of memory.
use Rattle.std.proofs.Common.{◌≡◌, sym, subst, ℕ, inl, inr, List}
use Rattle.sp_values.specs.declared.place.Invocation.{Invocation}
use Rattle.sp_core.specs.Machine.{Machine}
use Rattle.sp_core.specs.Security.{purge}
use Rattle.sp_core.specs.Values.{Store}
use Rattle.sp_stepping.specs.Laws.{FaultLaw}
use Rattle.sp_stepping.specs.declared.fault.StepFault.TheVariants as fault
use Rattle.sp_animator.specs.Comparing.{Compares, IsCompareFault, kept_before}
use Rattle.sp_animator.specs.Runs.{RunsWithin}
use Rattle.sp_animator.specs.declared.comparing.CompareFault.{CompareFault}
use Rattle.sp_animator.specs.declared.comparing.Compared.{Compared}
use Rattle.sp_animator.proofs.CompareLemmas.{kept_front, kept_there}
use Rattle.sp_animator.proofs.RunLemmas.{refused_within}

module _ (m : Machine) (law : FaultLaw) (s : Store) (l : ℕ) (list : List Invocation) where
  pub compared_fault : (c : Compared) (f : CompareFault) → Compares m s l list c → IsCompareFault m s l list f → f.fault ≡ fault.Memory
  compared_fault c f (as', bs, h) (inl w) = elim w.why [
    | inl e ↦ e
    | inr (cs, u, i, b) ↦ refused_within m law list s as' h.whole.0 f.at cs u i f.fault h.whole.1 b.run b.refused.there b.refused.fault
  ]
  compared_fault c f (as', bs, h) (inr (ends, k)) = elim k.why [
    | inl e ↦ e
    | inr (cs, u, i, b) ↦
        refused_within m law (purge m l list) s bs h.purged.0 (kept_before m l list f.at) cs u i f.fault h.purged.1 (subst (λ js. RunsWithin m s js cs u) (sym (kept_front m l list f.at)) b.run)
        (kept_there m l list f.at i b.refused.there b.kept) b.refused.fault
  ]
