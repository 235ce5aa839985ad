use Rattle.std.proofs.Common.{◌≡◌, ℕ, Some, ap, arith, below_more, length, refl, slice_get, sym, ◌∙◌, subst}
use mathlib.Core.Bool.{true≢false}
use Rattle.sp_core.specs.Instances.{Filling, IsAsserted, filling_of, world_of}
use Rattle.sp_core.specs.Parts.{Parts, signature}
use Rattle.sp_core.specs.Tree.{tree}
use Rattle.sp_core.specs.WellFormed.{IsAssertion}
use Rattle.sp_eval.specs.Admissible.{HoldsForAll}
use Rattle.sp_eval.specs.Settings.{world}
use Rattle.sp_core.specs.declared.function.Assertion.{Assertion}
use Rattle.sp_core.specs.Machine.{types_of}
use Rattle.sp_eval.proofs.Claims.{all_listed, asserted, assertion_ready, listed, not_asserted}
use Rattle.sp_eval.proofs.Ready.{at_index}
use Rattle.sp_eval.proofs.assertions.admissible.Goals as goal

abbrev AssertedAt : Parts → Filling → ℕ → Type 0
AssertedAt p i j = (a : Assertion) → slice_get p.assertions j ≡ Some a → IsAsserted (world_of p i) a

pub holds_for_all-requires : goal.holds_for_all-requires
holds_for_all-requires c =
    let there = listed c.assertions-assertions.result.now c.args.spec.now.assertions c.loop-index.index c.index-assertions-index.result c.assertions-assertions.ensures.value c.loop-index-test.true c.index-assertions-index.is in
    assertion_ready c.new-evaluator.result _ c.new-evaluator.ensures.value c.index-assertions-index.result c.items.result.now c.items.ensures c.new-none.result (c.new-none.ensures ∙ c.new.ensures)
    (at_index (IsAssertion (signature c.args.spec.now)) c.args.spec.now.assertions c.loop-index.index c.index-assertions-index.result c.assertions-assertions.ensures.well_formed.assertions there)

pub returns-then-not-holds_for_all : goal.returns-then-not-holds_for_all
returns-then-not-holds_for_all c =
    let there = listed c.assertions-assertions.result.now c.args.spec.now.assertions c.loop-index.index c.index-assertions-index.result c.assertions-assertions.ensures.value c.loop-index-test.true c.index-assertions-index.is in
    let fails : HoldsForAll (world c.new-evaluator.result) (types_of c.items.result.now) c.new-none.result (tree c.index-assertions-index.result.body) → ⊥ = λ all. true≢false (sym (c.holds_for_all.ensures.1 all) ∙ c.if-not-holds_for_all.true) in
    let is_false = not_asserted c.new-evaluator.result _ c.new-evaluator.ensures.value c.index-assertions-index.result c.items.result.now c.items.ensures c.new-none.result (c.new-none.ensures ∙ c.new.ensures) fails in
    record {
      ok = (
        λ e. absurd (true≢false (sym e)),
        λ all. absurd (is_false (at_index (IsAsserted (world_of c.args.spec.now (filling_of c.args.inst.now))) c.args.spec.now.assertions c.loop-index.index c.index-assertions-index.result all there)),
      );
      first = (
        c.loop-index.index,
        c.index-assertions-index.result,
        record {
          number = refl;
          there = there;
          is_false = is_false;
          earlier = λ j b l k. c.loop-index.invariant j l b k;
        },
      );
    }

pub loop-index-preserved : goal.loop-index-preserved
loop-index-preserved c =
    let there = listed c.assertions-assertions.result.now c.args.spec.now.assertions c.loop-index.index c.index-assertions-index.result c.assertions-assertions.ensures.value c.loop-index-test.true c.index-assertions-index.is in
    let here = asserted c.new-evaluator.result _ c.new-evaluator.ensures.value c.index-assertions-index.result c.items.result.now c.items.ensures c.new-none.result (c.new-none.ensures ∙ c.new.ensures) (c.holds_for_all.ensures.0 c.if-not-holds_for_all.false) in
    below_more (AssertedAt c.args.spec.now (filling_of c.args.inst.now)) c.loop-index.index c.loop-index.invariant
    (λ a k. let some : Some c.index-assertions-index.result ≡ Some a = sym there ∙ k in let one : c.index-assertions-index.result ≡ a = cc in subst (IsAsserted (world_of c.args.spec.now (filling_of c.args.inst.now))) one here)

pub returns-clause-ok : goal.returns-clause-ok
returns-clause-ok c = (
  λ e. all_listed (IsAsserted (world_of c.args.spec.now (filling_of c.args.inst.now))) c.args.spec.now.assertions (λ k l. c.loop-index.invariant k (omega (arith, ap length c.assertions-assertions.ensures.value))),
  λ all. refl,
)
