-- A script that breaks nothing has at most 10,000 invocations.
use Rattle.std.proofs.Common.{◌≡◌, ◌∙◌, ℕ, ◌<◌, ◌≤◌, List, [], ◌∷◌, ◌++◌, Option, None, Some, ap, arith, inl, inr, length, refl, sym}
use Rattle.std.specs.Prelude.{map, slice_get}
use Rattle.std.specs.List.{flat_map}
use Rattle.std.proofs.lemmas.List.{length-map}
use Rattle.std.proofs.lemmas.Option.{slice_get_cases, slice_get_within}
use Rattle.sp_text.specs.declared.fault.Quantity.TheVariants as quantity
use Rattle.sp_text.specs.declared.limits.TheConstants.{MOST_INVOCATIONS}
use Rattle.sp_text.specs.declared.violation.Violation.{Violation}
use Rattle.sp_tree.specs.declared.instance.ScriptTree.{ScriptTree}
use Rattle.sp_core.specs.Parts.{Parts}
use Rattle.sp_core.specs.WellFormed.{names_of}
use Rattle.sp_instance.specs.Heads.{over}
use Rattle.sp_instance.specs.Scripts.{CallText, call_broken, count_broken, head_if, invocation_of, invocations_of, script_broken}
use Rattle.sp_instance.specs.Words.{words_of}

behind_none : (xs ys : List Violation) → xs ++ ys ≡ [] → ys ≡ []
behind_none [] ys e = e
behind_none (x ∷ xs) ys e = absurd cc

none_over : (o : Option CallText) → over quantity.Invocations (head_if o) ≡ [] → o ≡ None
none_over None e = refl
none_over (Some c) e = absurd cc

pub few_calls : (p : Parts) (members : List (List (List ℕ))) (t : ScriptTree) → script_broken p members t ≡ [] → length (invocations_of p members t) ≤ MOST_INVOCATIONS
few_calls p members t e =
    let none = none_over (slice_get t.calls MOST_INVOCATIONS) (behind_none (flat_map (call_broken p.functions (names_of p) (words_of p members)) t.calls) (count_broken t.calls) e) in
    let same = length-map t.calls (invocation_of p.functions (words_of p members)) in
    elim (slice_get_cases t.calls MOST_INVOCATIONS).1 [
      | inl found ↦ let d : None ≡ Some found.0 = sym none ∙ found.2 in absurd cc
      | inr past ↦ let h = past.0 in omega (arith, same, h)
    ]
