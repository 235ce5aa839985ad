use Rattle.std.proofs.Common.{◌≡◌, ◌+◌, refl, subst, arith, suc, length, Some}
use Rattle.std.proofs.lemmas.Option.{slice_get_read}
use Rattle.std.specs.Prelude.{slice_get}
use Rattle.sp_values.specs.declared.place.Place.{Place}
use Rattle.sp_listing.specs.Listing.{IsAdded, IsClash}
use Rattle.sp_listing.proofs.Lists.{AreListed, first_clash, listed_next}
use Rattle.sp_listing.proofs.listed.list_all.Goals as goal

pub returns-in-Err-clause-conflict : goal.returns-in-Err-clause-conflict
returns-in-Err-clause-conflict c =
    let es = c.args.changes.now in
    let k = c.loop-change.change-index in
    let e = c.change-item.result in
    let there : slice_get es k ≡ Some e = slice_get_read es (length es) k e refl (omega (arith, c.loop-change-test.true, c.loop-change.auto.change-index-end)) c.change-item.is in
    let place : c.copied.result ≡ e.place = c.copied.ensures in
    first_clash es c.loop-change.listed k e c.in-Err.fault there c.loop-change.invariant
    (subst (λ (p : Place). IsClash c.loop-change.listed p e.value c.in-Err.fault) place c.in-Err.ensures.clash)

pub loop-change-preserved : goal.loop-change-preserved
loop-change-preserved c =
    let es = c.args.changes.now in
    let k = c.loop-change.change-index in
    let e = c.change-item.result in
    let more : suc k ≡ k + 1 = omega arith in
    let there : slice_get es k ≡ Some e = slice_get_read es (length es) k e refl (omega (arith, c.loop-change-test.true, c.loop-change.auto.change-index-end)) c.change-item.is in
    let place : c.copied.result ≡ e.place = c.copied.ensures in
    subst (λ n. AreListed es n c.add.new.self) more
    (listed_next es c.loop-change.listed c.add.new.self k e there c.loop-change.invariant (subst (λ (p : Place). IsAdded c.loop-change.listed p e.value c.add.new.self) place c.in-Ok.ensures.ok))
