use Rattle.std.proofs.Common.{sym, ◌∙◌}
use Rattle.sp_lattice.specs.Order.{bottom_level, top_level}
use Rattle.sp_types.proofs.Passes.{nothing_left}
use Rattle.sp_types.proofs.whole.elaborate_ordered.Goals as goal

pub make_spec-requires-clause-nothing : goal.make_spec-requires-clause-nothing
make_spec-requires-clause-nothing c =
    let o = c.args.names.lattice in
    nothing_left c.args.interface.now c.args.modules.now c.args.names.scopes c.bottom.result c.top.result (bottom_level o) (top_level o)
    c.requires.scopes c.bottom.ensures.value c.top.ensures.value (sym c.in-None.is ∙ c.in-Ok-judge_rest.ensures)

pub returns-in-Ok-make_spec : goal.returns-in-Ok-make_spec
returns-in-Ok-make_spec c =
    let o = c.args.names.lattice in (
      nothing_left c.args.interface.now c.args.modules.now c.args.names.scopes c.bottom.result c.top.result (bottom_level o) (top_level o)
          c.requires.scopes c.bottom.ensures.value c.top.ensures.value (sym c.in-None.is ∙ c.in-Ok-judge_rest.ensures),
      c.in-Ok-make_spec.ensures,
    )
