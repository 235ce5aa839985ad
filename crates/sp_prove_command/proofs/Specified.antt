-- What is certified is the specification of the texts, from the chain of the work.
use Rattle.std.proofs.Common.{◌≡◌, ◌∙◌, ℕ, zero, suc, List, None, Result, Ok, Err, refl, subst, sym}
use Rattle.sp_outside.specs.Files.{Files}
use Rattle.sp_core.specs.Parts.{Parts}
use Rattle.sp_formulas.specs.Formulas.{Formula, formulas}
use Rattle.sp_formulas.specs.Limits.{first_fault}
use Rattle.sp_frame.specs.declared.refusal.Refusal.{Refusal}
use Rattle.sp_frame.specs.Endings.{certified}
use Rattle.sp_frame.specs.Steps.{Onward, Then, Gives}
use Rattle.sp_system.specs.System.{SystemJudged, SystemRead}
use Rattle.sp_system.specs.declared.interface.Elaborated.{Elaborated}
use Rattle.sp_system.specs.declared.system.System.{System}
use Rattle.sp_formula_list.specs.Listed.{FormulasListed}
use Rattle.sp_formula_list.proofs.Given.{listing_is}
use Rattle.sp_deciding.specs.Decided.{AllDecided, open_count}
use Rattle.sp_deciding.specs.declared.deciding.Decision.{Decision}
use Rattle.sp_prove_command.specs.Certificates.{Certificates}
use Rattle.sp_prove_command.specs.Laws.{CertifiedAreSpecified, IsSpecified}
use Rattle.sp_prove_command.specs.Prove.{ProveAnswered, ProveDone, ProveWork, answer_by, prove_answer}

proofs_of : (k : ℕ) (p q : Parts) (os : List Formula) (ds : List Decision) → certified p ≡ answer_by k q os ds → p ≡ q
proofs_of zero p q os ds e = cc
proofs_of (suc k) p q os ds e = absurd cc

same_answer : (a b : Certificates) → Gives {E = Refusal} b (Ok a) → a ≡ b
same_answer a b e = cc

by_decisions : (p q : Parts) (os : List Formula) (second : Result (List Decision) Refusal) → Onward (λ ds. Gives (prove_answer q os ds)) second (Ok (certified p)) → p ≡ q
by_decisions p q os (Err r) h = absurd cc
by_decisions p q os (Ok ds) h = proofs_of (open_count ds) p q os ds (same_answer _ _ h)

-- what is certified is this specification, and these are its formulas
by_formulas : (p q : Parts) (first : Result (List Formula) Refusal) → FormulasListed None q first → Onward (λ os. Then (AllDecided None q 1 os) (λ ds. Gives (prove_answer q os ds))) first (Ok (certified p))
    → (p ≡ q) × FormulasListed None q (Ok (formulas q))
by_formulas p q (Err r) l h = absurd cc
by_formulas p q (Ok os) l h =
    (by_decisions p q os h.0 h.2, subst (λ xs. FormulasListed None q (Ok xs)) (listing_is None (formulas q) os (first_fault q 1 (formulas q)) l) l)

module _ (files : Files) (interface : List ℕ) (p : Parts) where
  by_spec : (x : System) → SystemRead interface files (Ok x) → (first : Result Elaborated Refusal) → SystemJudged interface x first
      → Onward (λ e. ProveAnswered e.spec) first (Ok (certified p)) → IsSpecified interface files p
  by_spec x read (Err r) j h = absurd cc
  by_spec x read (Ok e) j h =
      let own = by_formulas p e.spec h.0 h.1 h.2 in
      record { system = x; elaborated = e; read = read; judged = j; same = own.0; listed = subst (λ q. FormulasListed None q (Ok (formulas q))) (sym own.0) own.1 }

  by_system : (first : Result System Refusal) → SystemRead interface files first → Onward (ProveWork interface) first (Ok (certified p)) → IsSpecified interface files p
  by_system (Err r) read h = absurd cc
  by_system (Ok x) read h = by_spec x read h.0 h.1 h.2

pub certified_specified : CertifiedAreSpecified
unfolding ProveDone
certified_specified files interface p h = by_system files interface p h.0 h.1 h.2
