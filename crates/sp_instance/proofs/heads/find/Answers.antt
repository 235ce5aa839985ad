use Rattle.std.proofs.Common.{sym, ◌∙◌}
use Rattle.sp_instance.specs.Words.{place_of}
use Rattle.sp_instance.proofs.Seen.{found_none, found_some}
use Rattle.sp_instance.proofs.heads.find.Goals as goal

pub returns-in-None : goal.returns-in-None
returns-in-None g c = found_none g.T.Headed.head_of c.args.items.now c.args.name.now (sym (c.in-None.ensures ∙ (λ i. place_of (c.requires i) (c.bytes.ensures i))))

pub returns-in-Some : goal.returns-in-Some
returns-in-Some g c =
    c.at.ensures ∙ found_some g.T.Headed.head_of c.args.items.now c.args.name.now c.in-Some.place (sym (c.in-Some.ensures ∙ (λ i. place_of (c.requires i) (c.bytes.ensures i))))
