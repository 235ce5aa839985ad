use Rattle.std.proofs.Common.{sym, ◌∙◌, ap}
use Rattle.sp_core.specs.States.{entry_of}
use Rattle.sp_eval.specs.Overlays.{upper_or}
use Rattle.sp_eval.proofs.Overlaid.{entry_of-append}
use Rattle.sp_eval.proofs.entries.OverlayEntries.find.Goals as goal

pub returns-in-Some : goal.returns-in-Some
returns-in-Some g c =
    let d = g.D.Entries.entries c.args.self.now.changes.now in
    let s = g.S.Entries.entries c.args.self.now.state.now in
    ap (λ o. upper_or o (entry_of s c.args.place.now.fun c.args.place.now.args)) (sym c.in-Some.is ∙ c.find.ensures) ∙ sym (entry_of-append d s c.args.place.now.fun c.args.place.now.args)

pub returns-in-None : goal.returns-in-None
returns-in-None g c =
    let d = g.D.Entries.entries c.args.self.now.changes.now in
    let s = g.S.Entries.entries c.args.self.now.state.now in
    c.find-in-None.ensures ∙ ap (λ o. upper_or o (entry_of s c.args.place.now.fun c.args.place.now.args)) (sym c.in-None.is ∙ c.find.ensures) ∙ sym (entry_of-append d s c.args.place.now.fun c.args.place.now.args)
