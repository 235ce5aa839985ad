-- The last part of a list of formulas that is added in turns.
use Rattle.std.proofs.Common.{◌≡◌, refl, sym, ap, subst, List, [], ◌++◌, length}
use Rattle.std.specs.Prelude.{Result, Ok, Err, OnOk, IfErr}
use Rattle.std.proofs.lemmas.List.{append-nil}
use Rattle.std.proofs.lemmas.Result.{on_ok_weaker}
use Rattle.sp_core.specs.Parts.{Parts}
use Rattle.sp_sequent.specs.declared.formula.Formula.{Formula as Made}
use Rattle.sp_formulas.specs.Formulas.{Formula}
use Rattle.sp_formulas.specs.Generated.{IsAdded, IsRefused, IsUnderWay}
use Rattle.sp_formulas.specs.Typed.{AreTypedFormulas}
use Rattle.sp_formulas.specs.declared.fault.FormulaFault.{FormulaFault}
use Rattle.sp_formulas.proofs.WayLemmas.{way_end, way_refused, way_start, way_step, way_typed}

module _ (p : Parts) (old : List Made) (all : List Formula) (now : List Made) (gs : List Formula) (w : IsUnderWay p old now gs all) where
  pub last_typed : AreTypedFormulas p all → AreTypedFormulas p gs
  last_typed h = way_typed p old all now gs [] gs w (sym (append-nil gs)) h

  pub last_added : (new : List Made) (r : Result (Unit {0}) FormulaFault) → OnOk r (IsAdded p now new gs) → OnOk r (IsAdded p old new all)
  last_added new r q =
      let whole : IsAdded p now new gs → IsAdded p old new all = λ a. way_end p old all new [] refl (way_step p old all now new gs [] gs w (sym (append-nil gs)) a) in
      on_ok_weaker r whole q

  pub last_refused : (r : Result (Unit {0}) FormulaFault) → IfErr r (λ f. IsRefused p (length now) gs f) → IfErr r (λ f. IsRefused p (length old) all f)
  last_refused (Ok x) q = tt
  last_refused (Err f) q = way_refused p old all now gs [] gs f w (sym (append-nil gs)) q

-- a list of two parts, the first of which is added first
module _ (p : Parts) (old : List Made) (all as' bs : List Formula) (split : all ≡ as' ++ bs) where
  pub first_typed : AreTypedFormulas p all → AreTypedFormulas p as'
  first_typed h = way_typed p old all old all bs as' (way_start p old all) split h

  pub first_refused : (f : FormulaFault) → IsRefused p (length old) as' f → IsRefused p (length old) all f
  first_refused f r = way_refused p old all old all bs as' f (way_start p old all) split r

  pub second_way : (now : List Made) → IsAdded p old now as' → IsUnderWay p old now bs all
  second_way now a = way_step p old all old now all bs as' (way_start p old all) split a
