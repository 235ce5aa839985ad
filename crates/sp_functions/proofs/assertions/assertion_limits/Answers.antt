use Rattle.std.proofs.Common.{◌∙◌, ◌+◌, ◌++◌, [], ap}
use Rattle.std.specs.Prelude.{if◌then◌else◌, nat_lt}
use Rattle.sp_text.specs.declared.fault.Quantity.TheVariants as quantity
use Rattle.sp_text.specs.declared.limits.TheConstants.{MOST_EXPRESSION_NODES, MOST_HEIGHT, MOST_QUANTIFIERS}
use Rattle.sp_text.specs.Violations.{exceeds, first}
use Rattle.sp_core.specs.Measures.{nodes, quantifiers}
use Rattle.sp_expand.specs.Sizes.{height}
use Rattle.sp_functions.proofs.Asserted.{high_is, many_is, nested_is}
use Rattle.sp_functions.proofs.assertions.assertion_limits.Goals as goal

pub returns : goal.returns
returns c = λ t h.
    let p = c.args.place in
    let x = c.args.size in
    let n = c.args.variables in
    let one = if nat_lt MOST_HEIGHT (height t) then exceeds p quantity.Height else [] in
    let two = if nat_lt MOST_QUANTIFIERS (n + quantifiers t) then exceeds p quantity.Quantifiers else [] in
    let three = if nat_lt MOST_EXPRESSION_NODES (nodes t) then exceeds p quantity.ExpressionNodes else [] in
    let high = c.exceeds_where-high.ensures ∙ ap (λ b. first (if b then exceeds p quantity.Height else [])) (high_is t x h) in
    let nested = c.exceeds_where-nested.ensures ∙ ap (λ b. first (if b then exceeds p quantity.Quantifiers else [])) (nested_is t n x h) in
    let many = c.exceeds_where-many.ensures ∙ ap (λ b. first (if b then exceeds p quantity.ExpressionNodes else [])) (many_is t x h) in
    c.earlier.ensures one (two ++ three) high (c.earlier-rest.ensures two three nested many)
