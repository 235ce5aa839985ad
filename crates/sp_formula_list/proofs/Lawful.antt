-- Listing formulas comes to one outcome at most, and its refusals say nothing of files.
use Rattle.std.proofs.Common.{◌≡◌, ◌∙◌, ℕ, List, Option, None, Some, Err, sym, subst}
use Rattle.sp_text.specs.declared.fault.Quantity.{Quantity}
use Rattle.sp_text.specs.declared.fault.Quantity.TheVariants as quantity
use Rattle.sp_outside.specs.Files.{Files}
use Rattle.sp_core.specs.Parts.{Parts}
use Rattle.sp_formulas.specs.Formulas.{formulas}
use Rattle.sp_formulas.specs.Limits.{first_fault}
use Rattle.sp_formulas.specs.declared.fault.FormulaFault.{FormulaFault}
use Rattle.sp_formulas.specs.declared.fault.FormulaFault.TheVariants as fault
use Rattle.sp_frame.specs.declared.refusal.Refusal.{Refusal}
use Rattle.sp_frame.specs.declared.refusal.WorkPlace.{WorkPlace}
use Rattle.sp_frame.specs.declared.refusal.WorkPlace.TheVariants as work_place
use Rattle.sp_frame.specs.Laws.{IsDue, IsLawful}
use Rattle.sp_frame.proofs.Lawful.{gives_lawful}
use Rattle.sp_formula_list.specs.Listed.{FormulasListed, IsLimited, IsListing, exceeded}

module _ (files : Files) (owner : Option (List ℕ)) where
  pub exceeded_due : (q : Quantity) (place : WorkPlace) (found : Option ℕ) (r : Refusal) → r ≡ exceeded owner q place found → IsDue files r
  exceeded_due q place found r e = subst (IsDue files) (sym e) tt

  exceeded_lawful : {T : Type 0} (q : Quantity) (place : WorkPlace) → IsLawful {T = T} files (λ out. out ≡ Err (exceeded owner q place None))
  exceeded_lawful q place = record { once = λ a b h k. h ∙ sym k; due = λ r h. exceeded_due q place None r cc }

  pub limited_lawful : {T : Type 0} (f : FormulaFault) → IsLawful files (IsLimited {T = T} owner f)
  limited_lawful fault.TooManyFormulas = exceeded_lawful quantity.Formulas work_place.Interface
  limited_lawful (fault.TooManyInstances n) = exceeded_lawful quantity.AssertionInstances (work_place.Formula n)
  limited_lawful (fault.TooManyNodes n) = exceeded_lawful quantity.FormulaNodes (work_place.Formula n)
  limited_lawful (fault.TooManyTerms n) = exceeded_lawful quantity.Terms (work_place.Formula n)
  limited_lawful fault.Memory = record { once = λ a b h k. absurd h; due = λ r h. absurd h }

  pub listing_lawful : {T : Type 0} (os : T) (o : Option FormulaFault) → IsLawful files (IsListing owner os o)
  listing_lawful os None = gives_lawful files os
  listing_lawful os (Some f) = limited_lawful f

  pub listed_lawful : (p : Parts) → IsLawful files (FormulasListed owner p)
  listed_lawful p = listing_lawful (formulas p) (first_fault p 1 (formulas p))
