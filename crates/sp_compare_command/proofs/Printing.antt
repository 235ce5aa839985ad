-- What is printed of a comparison, and of a run that breaks off, as what comes of comparing.
use Rattle.std.proofs.Common.{◌≡◌, ◌∙◌, ℕ, ◌<◌, ◌≤◌, List, [], Result, Ok, Err, arith, inl, inr, length, refl, sym, subst}
use Rattle.std.proofs.lemmas.Option.{slice_get_within}
use Rattle.sp_values.specs.declared.place.Invocation.{Invocation}
use Rattle.sp_core.specs.declared.state.Entry.{Entry}
use Rattle.sp_core.specs.Instances.{InstanceParts, filling_of, machine_of}
use Rattle.sp_core.specs.Parts.{Parts}
use Rattle.sp_core.specs.States.{entry_of}
use Rattle.sp_stepping.specs.declared.fault.StepFault.TheVariants as fault
use Rattle.sp_animator.specs.Comparing.{Compares, IsCompareFault, IsKeptFault, IsWholeFault}
use Rattle.sp_animator.specs.declared.comparing.CompareFault.{CompareFault}
use Rattle.sp_animator.specs.declared.comparing.Compared.{Compared}
use Rattle.sp_frame.specs.declared.refusal.Printed.{Printed}
use Rattle.sp_frame.specs.declared.refusal.Stop.{Stop}
use Rattle.sp_frame.specs.declared.refusal.Stop.TheVariants as stop
use Rattle.sp_frame.specs.Endings.{Printing}
use Rattle.sp_frame.specs.Steps.{Does}
use Rattle.sp_frame.specs.Uncertified.{spells}
use Rattle.sp_run_command.specs.Prepared.{RunPrepared}
use Rattle.sp_run_command.specs.declared.texts.Prepared.{Prepared}
use Rattle.sp_run_command.specs.declared.texts.RunTexts.{RunTexts}
use Rattle.sp_compare_command.specs.Compare.{ComparePrinted, CompareWork, IsBroken, IsCompared, SpecLevelJudged}

module _ (p : Parts) (i : InstanceParts) (js : List Invocation) (l : ℕ) where
  -- both runs from a state without entries are compared
  pub told : (es : List Entry) (c : Compared) (r : Result Printed Stop) → es ≡ [] → Compares (machine_of p (filling_of i)) (entry_of es) l js c
      → Does (Printing spells (IsCompared p i js l c)) r → Does (Printing spells (ComparePrinted p i js l)) r
  told es c (Ok q) none b h = (h.0, inl (c, subst (λ xs. Compares (machine_of p (filling_of i)) (entry_of xs) l js c) none b, h.1), h.2, h.3)
  told es c (Err (stop.Refused s)) none b h = inl (c, subst (λ xs. Compares (machine_of p (filling_of i)) (entry_of xs) l js c) none b, h)
  told es c (Err stop.Memory) none b h = tt

  -- one of them breaks off
  pub breaks : (es : List Entry) (f : CompareFault) (r : Result Printed Stop) → es ≡ [] → IsCompareFault (machine_of p (filling_of i)) (entry_of es) l js f
      → Does (Printing spells (IsBroken p i js l f.purged f.at f.fault)) r → Does (Printing spells (ComparePrinted p i js l)) r
  breaks es f (Ok q) none b h = (h.0, inr (f, subst (λ xs. IsCompareFault (machine_of p (filling_of i)) (entry_of xs) l js f) none b, h.1), h.2, h.3)
  breaks es f (Err (stop.Refused s)) none b h = inr (f, subst (λ xs. IsCompareFault (machine_of p (filling_of i)) (entry_of xs) l js f) none b, h)
  breaks es f (Err stop.Memory) none b h = tt

  -- the number of an invocation after which the state would be full
  module _ (es : List Entry) (f : CompareFault) (few : length js ≤ 10000) (is : f.fault ≡ fault.StateFull) where
    no_memory : f.fault ≡ fault.Memory → ⊥
    no_memory e = let d : fault.StateFull ≡ fault.Memory = sym is ∙ e in absurd cc

    whole_number : IsWholeFault (machine_of p (filling_of i)) (entry_of es) js f → f.at < 10000
    whole_number v = elim v.why [
      | inl e ↦ absurd (no_memory e)
      | inr (as', t, j, b) ↦ let below = slice_get_within js f.at j b.refused.there in omega (arith, below, few)
    ]

    kept_number : IsKeptFault (machine_of p (filling_of i)) (entry_of es) l js f → f.at < 10000
    kept_number v = elim v.why [
      | inl e ↦ absurd (no_memory e)
      | inr (as', t, j, b) ↦ let below = slice_get_within js f.at j b.refused.there in omega (arith, below, few)
    ]

    full_by : IsCompareFault (machine_of p (filling_of i)) (entry_of es) l js f → f.at < 10000
    full_by (inl v) = whole_number v
    full_by (inr (ends, v)) = kept_number v

  pub full_number : (es : List Entry) (f : CompareFault) → IsCompareFault (machine_of p (filling_of i)) (entry_of es) l js f → length js ≤ 10000 → f.fault ≡ fault.StateFull → f.at < 10000
  full_number es f b few is = full_by es f few is b

-- the work ends with the word for a level
pub after_level : (interface instance script level : List ℕ) (t : RunTexts) (x : Prepared) (s : Stop) → RunPrepared interface instance script t (Ok x) → Does (SpecLevelJudged x.elaborated.spec level) (Err s)
    → Does (Printing spells (CompareWork interface instance script level t)) (Err s)
after_level interface instance script level t x (stop.Refused r) first h = (Ok x, first, (Err r, h, refl))
after_level interface instance script level t x stop.Memory first h = tt
