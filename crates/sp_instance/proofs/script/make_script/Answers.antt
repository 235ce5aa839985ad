use Rattle.std.proofs.Common.{◌≡◌, ◌≤◌, sym, ◌∙◌, ap, subst, [], length}
use Rattle.std.specs.Prelude.{map}
use Rattle.std.specs.List.{All}
use Rattle.sp_text.specs.Violations.{first}
use Rattle.sp_core.specs.Instances.{filling_of, machine_of}
use Rattle.sp_core.specs.Machine.{IsInvocation}
use Rattle.sp_instance.specs.Words.{AreFew, words_of}
use Rattle.sp_instance.specs.Scripts.{calls_broken, invocation_of, script_broken}
use Rattle.sp_instance.proofs.Lists.{each_all}
use Rattle.sp_instance.proofs.Judged.{nothing, refused}
use Rattle.sp_instance.proofs.Made.{few}
use Rattle.sp_instance.proofs.Called.{invocations}
use Rattle.sp_instance.proofs.script.make_script.Goals as goal

pub new-requires : goal.new-requires
new-requires c =
    let p = c.args.spec.now in
    rw c.deref.ensures.value (subst (λ z. AreFew (words_of p z)) (sym c.in_ok-members.ensures) (few p c.functions-functions.ensures.well_formed c.args.inst.now.members c.requires.few))

pub calls-requires : goal.calls-requires
calls-requires c =
    let wf = c.functions-functions.ensures.well_formed in
    record {
      few = subst (All (λ f. length f.formals ≤ 8)) (sym c.functions-functions.ensures.value) (each_all (λ f. length f.formals ≤ 8) c.args.spec.now.functions (λ g f e. (wf.functions g f e).formals.few));
      numbered = subst (λ fs. length fs ≤ 512) (sym c.functions-functions.ensures.value) wf.few_functions;
    }

pub returns : goal.returns
returns c =
    let p = c.args.spec.now in
    let i = c.args.inst.now in
    let t = c.args.t.now in
    let m : map (λ names. names.items) c.deref.result.now ≡ i.members = rw c.deref.ensures.value c.in_ok-members.ensures in
    let w = c.in_ok-words.ensures ∙ ap (words_of p) m in
    let fs = c.functions-functions.ensures.value in
    let told = c.in_ok-made.ensures.found ∙ (λ j. first (calls_broken (fs j) (c.in_ok-all.ensures j) (w j) (c.items-texts.ensures j))) in
    let same = c.in_ok-made.ensures.made ∙ (λ j. map (invocation_of (fs j) (w j)) (c.items-texts.ensures j)) in
    let none : script_broken p i.members t ≡ [] = nothing (script_broken p i.members t) (sym told ∙ c.in-None.is) in
    record {
      judges = (none, same);
      invocations = subst (All (IsInvocation (machine_of p (filling_of i)))) (sym same) (invocations p c.functions-functions.ensures.well_formed i t none);
    }

pub returns-in-Some : goal.returns-in-Some
returns-in-Some c =
    let p = c.args.spec.now in
    let i = c.args.inst.now in
    let t = c.args.t.now in
    let m : map (λ names. names.items) c.deref.result.now ≡ i.members = rw c.deref.ensures.value c.in_ok-members.ensures in
    let w = c.in_ok-words.ensures ∙ ap (words_of p) m in
    let fs = c.functions-functions.ensures.value in
    let told = c.in_ok-made.ensures.found ∙ (λ j. first (calls_broken (fs j) (c.in_ok-all.ensures j) (w j) (c.items-texts.ensures j))) in
    record { judges = refused (script_broken p i.members t) c.in-Some.found c.from.result (sym told ∙ c.in-Some.is) c.from.ensures; invocations = tt }
