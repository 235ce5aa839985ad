use Rattle.std.proofs.Common.{◌≡◌, ◌∙◌, ◌++◌, ◌∷◌, [], length, arith}
use Rattle.std.specs.Prelude.{slice_index_or}
use Rattle.std.proofs.lemmas.List.{take_all}
use Rattle.sp_instance.proofs.Lists.{length_at}
use Rattle.sp_instance.proofs.Texts.{next_got}
use Rattle.sp_instance.proofs.members.names.Goals as goal

pub loop-k-preserved : goal.loop-k-preserved
loop-k-preserved c =
    let names = slice_index_or c.args.inst.now.members c.args.ty [] in
    c.in_ok-push.ensures.items ∙ (λ i. c.loop-k.invariant i ++ (c.in_ok-name.ensures ∙ c.bytes.ensures) i ∷ []) ∙ next_got names c.loop-k.k c.member.result.now c.member.ensures

pub returns : goal.returns
returns c =
    let names = slice_index_or c.args.inst.now.members c.args.ty [] in
    let size : c.size-size.result ≡ length names = c.size-size.ensures.size ∙ length_at c.args.inst.now.members c.args.ty c.requires in
    c.loop-k.invariant ∙ take_all c.loop-k.k names (omega (arith, size, c.loop-k-test.false))
