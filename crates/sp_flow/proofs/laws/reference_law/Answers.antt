use Rattle.sp_flow.proofs.Reference.{reference}
use Rattle.sp_flow.proofs.laws.reference_law.Goals as goal

pub returns : goal.returns
returns c = λ p i wf inst flows l is_level s u t v state new_state alike new_alike xs x e ty args typed reads.
    reference p i wf inst flows l is_level s u t v state new_state alike new_alike l is_level (wf.lattice.partial.reflexive l is_level) e xs x ty args typed reads
