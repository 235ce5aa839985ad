use Rattle.std.proofs.Common.{[], refl, subst, subst₂}
use Rattle.sp_text.specs.Violations.{JudgesFiles}
use Rattle.sp_lattice.specs.Order.{bottom_level, top_level}
use Rattle.sp_order.specs.Orders.{AreEnds, KeepsLattice}
use Rattle.sp_order.proofs.Ends.{one_bottom, one_top}
use Rattle.sp_scopes.specs.Scopes.{scopes_of}
use Rattle.sp_specification.specs.Broken.{Rest, rest_broken}
use Rattle.sp_types.specs.Elaborated.{IsElaborated}
use Rattle.sp_types.proofs.Passes.{headers_found, later, same_fault}
use Rattle.sp_types.proofs.whole.elaborate.Goals as goal

pub returns-in-Ok-clause-judges : goal.returns-in-Ok-clause-judges
returns-in-Ok-clause-judges c =
    let i = c.args.interface.now in
    let ms = c.args.modules.now in
    let o = c.in-Ok.names.lattice in
    let r = c.elaborate_ordered.result in
    let s = (c.in-Ok.ensures.judged [] c.in-Ok.ensures.fine).1 in
    let kept = subst KeepsLattice s c.in-Ok.ensures.kept in
    let ends = subst (λ x. AreEnds x (bottom_level o) (top_level o)) s c.in-Ok.ensures.ends in
    later (IsElaborated i ms) i ms r (λ vs j. (c.in-Ok.ensures.judged vs j).0)
    (λ b t e. subst₂ (λ x y. JudgesFiles (rest_broken i ms x y) (IsElaborated i ms) r)
    (one_bottom (scopes_of i ms) (bottom_level o) (top_level o) b t kept ends e)
    (one_top (scopes_of i ms) (bottom_level o) (top_level o) b t kept ends e)
    c.elaborate_ordered.ensures)

pub returns-in-Ok-clause-found : goal.returns-in-Ok-clause-found
returns-in-Ok-clause-found c = λ lost.
    let i = c.args.interface.now in
    let ms = c.args.modules.now in
    let o = c.in-Ok.names.lattice in
    let judged = c.in-Ok.ensures.judged [] c.in-Ok.ensures.fine in
    let ends = subst (λ x. AreEnds x (bottom_level o) (top_level o)) judged.1 c.in-Ok.ensures.ends in
    (rest_broken i ms (bottom_level o) (top_level o), Rest (bottom_level o) (top_level o) c.in-Ok.ensures.fine judged.0 ends)

pub returns-in-Err-clause-found : goal.returns-in-Err-clause-found
returns-in-Err-clause-found c = λ lost.
    let i = c.args.interface.now in
    let ms = c.args.modules.now in
    let f = c.in-Err.fault in
    let o = c.in-Err.ensures.found (λ g e. lost g (same_fault f g e)) in
    headers_found i ms o.0 f o.1 (lost f refl) (c.in-Err.ensures.judged o.0 o.1)
