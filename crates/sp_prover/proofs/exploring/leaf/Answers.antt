use Rattle.std.proofs.Common.{sym, subst}
use Rattle.sp_prover.specs.Exploring.{IsRefuted}
use Rattle.sp_prover.proofs.Firsts.{leaf_refuted}
use Rattle.sp_prover.proofs.exploring.leaf.Goals as goal

pub returns : goal.returns
returns c =
    let s = c.args.facts.now in
    let clash = c.requires.clash in
    subst (IsRefuted s) (sym c.unsplit.ensures)
    (leaf_refuted s c.in_ok-steps.steps.items c.requires.question c.requires.few c.in_ok-steps.ensures.accepted c.in_ok-steps.ensures.few
    (c.in_ok-steps.ensures.ends clash.0 clash.2 clash.1) clash)
