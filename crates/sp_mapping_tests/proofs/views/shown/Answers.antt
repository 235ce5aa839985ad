use Rattle.std.proofs.Common.{◌≡◌, length, refl, subst, Some, slice_get}
use Rattle.std.proofs.lemmas.Option.{slice_get_read}
use Rattle.sp_mapping_tests.proofs.Rows.{mapped_at, row_in}
use Rattle.sp_mapping_tests.proofs.views.shown.Goals as goal

pub is_at-requires-clause-row : goal.is_at-requires-clause-row
is_at-requires-clause-row c =
    let rows = c.items.result.now in
    let there = slice_get_read rows (length rows) c.args.number c.in-Some.row.now refl c.in-Some.ensures.lookup.3.0 c.in-Some.ensures.lookup.1 in
    row_in c.args.lower.now c.args.mapping.now c.args.number c.in-Some.row.now c.requires.mapping
    (subst (λ xs. slice_get xs c.args.number ≡ Some c.in-Some.row.now) c.items.ensures there)

pub view-requires-clause-place : goal.view-requires-clause-place
view-requires-clause-place c =
    let rows = c.items.result.now in
    let there = slice_get_read rows (length rows) c.args.number c.in-Some.row.now refl c.in-Some.ensures.lookup.3.0 c.in-Some.ensures.lookup.1 in
    mapped_at c.args.lower.now c.args.inst.now c.args.mapping.now c.args.number c.in-Some.row.now c.args.member.0 c.args.member.1 c.in-Some-lowered.value c.new-2.result
    (subst (λ xs. slice_get xs c.args.number ≡ Some c.in-Some.row.now) c.items.ensures there) c.in-Some-lowered.ensures.same c.in-Some-lowered.ensures.typed c.new-2.ensures
