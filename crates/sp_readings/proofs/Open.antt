-- The values of the atoms under a reading are an open branch.
use Rattle.std.proofs.Common.{◌≡◌, sym, ap, ◌∙◌, subst, arith, ℕ, zero, suc, ◌<◌, ◌≤◌, Bool, true, false, ⊎_elim, List, length}
use Rattle.std.specs.Prelude.{slice_index}
use Rattle.sp_values.specs.declared.value.Value.{Value}
use Rattle.sp_values.specs.declared.value.Value.TheVariants.{Truth}
use Rattle.sp_core.specs.Values.{is_true}
use Rattle.sp_rules.specs.Terms.{Terms}
use Rattle.sp_rules.specs.declared.fact.Fact.{Fact}
use Rattle.sp_rules.specs.Branches.{IsOpen, valued, with_values}
use Rattle.sp_rules.specs.Facts.{has_truth, is_fact}
use Rattle.sp_rules.proofs.FactLemmas.{is_fact-true, one_holds}
use Rattle.sp_readings.specs.Laws.{EachHolds}
use Rattle.sp_readings.specs.Readings.{Holds, IsReading, IsTruth, Reading}
use Rattle.sp_readings.proofs.Recursion.{no_clash_follows}

module _ (r : Reading) (ts : Terms) (v : ℕ → Value) (h : IsReading r ts v) where
  carried : (f g : Fact) → f ≡ g → Holds ts.lattice v f → Holds ts.lattice v g
  carried f g e w = subst (Holds ts.lattice v) e w

  -- a term whose value is a truth value has this truth value
  pub truth_holds : (a : ℕ) (b : Bool) → v a ≡ Truth b → Holds ts.lattice v (has_truth a b)
  truth_holds a true e = e ∙ sym h.true_first
  truth_holds a false e = e ∙ sym h.false_second

  module _ (given : Fact → Bool) (each : EachHolds ts v given) (atoms : List ℕ) (truths : (k : ℕ) → k < length atoms → IsTruth (v (slice_index atoms k))) where
    abbrev value_at : ℕ → Bool
    value_at k = is_true (v (slice_index atoms k))

    atom_holds : (k : ℕ) → k < length atoms → Holds ts.lattice v (has_truth (slice_index atoms k) (value_at k))
    atom_holds k l = let t = truths k l in truth_holds (slice_index atoms k) (value_at k) (t.1 ∙ ap Truth (sym (ap is_true t.1)))

    values_hold : (n : ℕ) → n ≤ length atoms → EachHolds ts v (with_values atoms value_at n given)
    values_hold zero l f e = each f e
    values_hold (suc n) l f e =
        ⊎_elim (λ (s : is_fact (has_truth (slice_index atoms n) (value_at n)) f ≡ true). carried (has_truth (slice_index atoms n) (value_at n)) f (is_fact-true (has_truth (slice_index atoms n) (value_at n)) f s) (atom_holds n (omega (arith, l))))
        (λ (s : with_values atoms value_at n given f ≡ true). values_hold n (omega (arith, l)) f s) (one_holds _ _ e)

    pub readings_are_open : IsOpen ts atoms given value_at
    readings_are_open clash = no_clash_follows r ts v h (valued atoms value_at given) (values_hold (length atoms) (omega arith)) clash.0 clash.1 clash.2
