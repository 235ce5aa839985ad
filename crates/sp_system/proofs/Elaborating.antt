-- The answer of `elaborate` as the step that judges an interface.
use Rattle.std.proofs.Common.{◌≡◌, ◌≢◌, List, Result, Ok, Err, refl, subst}
use Rattle.std.specs.Prelude.{ℕ, IfOk}
use Rattle.sp_text.specs.declared.fault.SpecFault.{SpecFault}
use Rattle.sp_text.specs.declared.fault.TextFault.{TextFault}
use Rattle.sp_text.specs.declared.fault.TextFault.TheVariants as fault
use Rattle.sp_text.specs.declared.violation.FileViolation.{FileViolation}
use Rattle.sp_text.specs.Violations.{JudgesFiles}
use Rattle.sp_tree.specs.declared.interface.InterfaceTree.{InterfaceTree}
use Rattle.sp_tree.specs.declared.module.Module.{Module}
use Rattle.sp_scopes.specs.declared.scopes.Scopes.{Scopes}
use Rattle.sp_core.specs.Parts.{Parts}
use Rattle.sp_core.specs.WellFormed.{IsWellFormed}
use Rattle.sp_specification.specs.Broken.{AreBroken}
use Rattle.sp_ordered.specs.Laws.{BrokenLaw}
use Rattle.sp_one_spec.specs.Laws.{OneSpecLaw}
use Rattle.sp_types.specs.Elaborated.{IsElaborated}
use Rattle.sp_frame.specs.declared.refusal.Refusal.{Refusal}
use Rattle.sp_frame.specs.declared.refusal.Stop.{Stop}
use Rattle.sp_frame.specs.declared.refusal.Stop.TheVariants as stop
use Rattle.sp_frame.specs.Steps.{Does}
use Rattle.sp_system.specs.Interfaces.{Elaborates, InterfaceJudged, IsFaulty, IsFiled, TellsFiles, file_of}
use Rattle.sp_system.specs.declared.interface.Elaborated.{Elaborated}

same_fault : (f : SpecFault) → f.fault ≢ fault.Memory → (r : Result (Parts × Scopes) SpecFault) → r ≡ Err f → (g : SpecFault) → r ≡ Err g → g.fault ≢ fault.Memory
same_fault f is r e g d = let p : f ≡ g = cc in subst (λ (h : SpecFault). h.fault ≢ fault.Memory) p is

module _ (i : InterfaceTree) (ms : List Module) where
  -- where all that is broken is one list, and the specification is determined
  module _ (one_list : BrokenLaw) (one_spec : OneSpecLaw) where
    pub elaborates : (r : Result (Parts × Scopes) SpecFault)
        → (((f : SpecFault) → r ≡ Err f → f.fault ≢ fault.Memory) → (vs : List FileViolation) × AreBroken i ms vs)
        → ((vs : List FileViolation) → AreBroken i ms vs → JudgesFiles vs (IsElaborated i ms) r)
        → IfOk r (λ x. IsWellFormed x.0) → TellsFiles (Elaborates i ms) r
    elaborates (Ok x) found judges formed =
        let b = found (λ f e. absurd cc) in
        let j = judges b.0 b.1 in
        record {
          all = b.0;
          broken = record { broken = b.1; only = λ ws h. one_list i ms ws b.0 h b.1 };
          judges = (
            j.0,
            record {
              spec = record { meant = j.1.spec; well_formed = formed; only = λ q h w. one_spec i ms q x.0 h j.1.spec w.lattice formed.lattice };
              scopes = j.1.scopes;
            },
          );
          definite = λ f e. absurd cc;
        }
    elaborates (Err f) found judges formed = λ is.
        let same = same_fault f is (Err f) refl in
        let b = found same in
        record {
          all = b.0;
          broken = record { broken = b.1; only = λ ws h. one_list i ms ws b.0 h b.1 };
          judges = judges b.0 b.1;
          definite = same;
        }

  definite : (name : List ℕ) (t : TextFault) (out : Result Elaborated Refusal) → IsFaulty i name t out → t ≢ fault.Memory
  definite name (fault.Malformed m) out d e = absurd cc
  definite name (fault.Limit l) out d e = absurd cc
  definite name fault.Memory out d e = d

  module _ (file : List ℕ) where
    pub filed_after : (answer : Result (Parts × Scopes) SpecFault) (r : Result Elaborated Stop) → TellsFiles (Elaborates i ms) answer → Does (IsFiled file i answer) r → Does (InterfaceJudged file i ms) r
    filed_after (Ok x) (Ok y) told filed = (Ok x, told, filed)
    filed_after (Ok x) (Err (stop.Refused s)) told filed = (Ok x, told, filed)
    filed_after (Err f) (Ok y) told filed = (Err f, told (definite (file_of file i f.file) f.fault _ filed), filed)
    filed_after (Err f) (Err (stop.Refused s)) told filed = (Err f, told (definite (file_of file i f.file) f.fault _ filed), filed)
    filed_after answer (Err stop.Memory) told filed = tt
