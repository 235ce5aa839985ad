-- Where the tree of a script's text breaks nothing, each call stands for an invocation of the machine.
use Rattle.std.proofs.Common.{◌≡◌, refl, sym, ◌∙◌, ap, arith, ℕ, ◌<◌, List, [], Bool, true, false, Option, Some, None, length}
use Rattle.std.specs.Prelude.{map, slice_get, if◌then◌else◌}
use Rattle.std.specs.List.{All, flat_map}
use Rattle.sp_text.specs.declared.fault.Rule.TheVariants as rule
use Rattle.sp_text.specs.declared.fault.Span.{Span}
use Rattle.sp_text.specs.declared.violation.Violation.{Violation}
use Rattle.sp_text.specs.Violations.{breaks, first}
use Rattle.sp_values.specs.declared.place.Invocation.{Invocation}
use Rattle.sp_values.specs.declared.value.Value.{Value}
use Rattle.sp_tree.specs.declared.instance.ScriptTree.{ScriptTree}
use Rattle.sp_core.specs.declared.function.Function.{Function}
use Rattle.sp_core.specs.Instances.{InstanceParts, filling_of, machine_of, sizes_of}
use Rattle.sp_core.specs.Machine.{IsInvocation, types_of}
use Rattle.sp_core.specs.Parts.{Parts}
use Rattle.sp_core.specs.WellFormed.{IsWellFormed, names_of}
use Rattle.sp_instance.specs.Words.{Words, words_of}
use Rattle.sp_instance.specs.Meanings.{arguments_broken}
use Rattle.sp_instance.proofs.Typed.{arguments_proper, place_below}
use Rattle.sp_instance.specs.Scripts.{CallText, call_broken, called, called_as, called_broken, count_broken, function_broken, function_name, given, hidden_broken, invocation_of, invocations_of, script_broken, there_broken}
use Rattle.sp_instance.proofs.Lists.{all_map, each_none, left_none, length_map, right_none, short}
use Rattle.sp_instance.proofs.Made.{fit}

abbrev pub invocation_with : ℕ → List Value → Invocation
invocation_with k args = record { fun = k; args = args }

seen : (p : Span) (b : Bool) → (if b then [] else breaks p rule.NotVisible) ≡ [] → b ≡ true
seen p true h = refl
seen p false h = absurd cc

invoked : (p : Parts) → IsWellFormed p → (i : InstanceParts) (c : CallText) (k : ℕ) → called p.functions c ≡ Some k → (o : Option Function) → slice_get p.functions k ≡ o →
    there_broken (words_of p i.members) c o ≡ [] → IsInvocation (machine_of p (filling_of i)) (record { fun = k; args = given (words_of p i.members) c o })
invoked p wf i c k n (Some f) e h = (
  f,
  record {
    function = e;
    visible = seen c.0.span f.visible (left_none (hidden_broken c f) (arguments_broken (words_of p i.members) true c.0.span (types_of f.formals) c.1) h);
    arguments = arguments_proper (sizes_of p (filling_of i)) (words_of p i.members) (fit p wf i.members i.tables) c.0.span (types_of f.formals) c.1
        (right_none (hidden_broken c f) (arguments_broken (words_of p i.members) true c.0.span (types_of f.formals) c.1) h);
  },
)
invoked p wf i c k n None e h =
    let below : k < length (map function_name p.functions) = place_below (map function_name p.functions) c.0.name k n in
    absurd (omega (arith, below, length_map function_name p.functions, short p.functions k e))

invocation : (p : Parts) → IsWellFormed p → (i : InstanceParts) (c : CallText) → call_broken p.functions (names_of p) (words_of p i.members) c ≡ [] →
    IsInvocation (machine_of p (filling_of i)) (invocation_of p.functions (words_of p i.members) c)
invocation p wf i c h = by (called p.functions c) refl h
  where
    by : (o : Option ℕ) → called p.functions c ≡ o → called_broken p.functions (names_of p) (words_of p i.members) c o ≡ [] → IsInvocation (machine_of p (filling_of i)) (called_as p.functions (words_of p i.members) c o)
    by (Some k) e g = invoked p wf i c k e (slice_get p.functions k) refl g
    by None e g = absurd cc

pub invocations : (p : Parts) → IsWellFormed p → (i : InstanceParts) (t : ScriptTree) → script_broken p i.members t ≡ [] →
    All (IsInvocation (machine_of p (filling_of i))) (invocations_of p i.members t)
invocations p wf i t h =
    all_map (IsInvocation (machine_of p (filling_of i))) (invocation_of p.functions (words_of p i.members)) t.calls (λ k c e.
    invocation p wf i c (each_none (call_broken p.functions (names_of p) (words_of p i.members)) t.calls k c
    (left_none (flat_map (call_broken p.functions (names_of p) (words_of p i.members)) t.calls) (count_broken t.calls) h) e))

-- what the code makes of a call whose function is found
pub called_made : (fs : List Function) (w : Words) (c : CallText) (k : ℕ) (f : Function) (args : List Value) → called fs c ≡ Some k → slice_get fs k ≡ Some f → args ≡ given w c (Some f) →
    invocation_with k args ≡ invocation_of fs w c
called_made fs w c k f args n g a = (λ i. invocation_with k ((a ∙ ap (given w c) (sym g)) i)) ∙ ap (called_as fs w c) (sym n)

pub called_found : (fs : List Function) (all : List (List ℕ)) (w : Words) (c : CallText) (k : ℕ) (f : Function) (found : Option Violation) → called fs c ≡ Some k → slice_get fs k ≡ Some f →
    found ≡ first (function_broken w c f) → found ≡ first (call_broken fs all w c)
called_found fs all w c k f found n g a = a ∙ ap (λ o. first (there_broken w c o)) (sym g) ∙ ap (λ o. first (called_broken fs all w c o)) (sym n)
