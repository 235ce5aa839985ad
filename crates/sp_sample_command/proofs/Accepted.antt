-- What ACCEPTED means of a sample: where its summary accepts, `check` accepts the same specification.
use Rattle.std.proofs.Common.{◌≡◌, ◌∙◌, ℕ, List, None, Result, Ok, Err, ap, refl}
use Rattle.sp_core.specs.Parts.{Parts}
use Rattle.sp_formulas.specs.Formulas.{Formula}
use Rattle.sp_instance.proofs.Made.{made}
use Rattle.sp_frame.specs.declared.refusal.Refusal.{Refusal}
use Rattle.sp_frame.specs.declared.refusal.Verdict.TheVariants as verdict
use Rattle.sp_frame.specs.Endings.{printed, verdict_of}
use Rattle.sp_frame.specs.Steps.{Onward}
use Rattle.sp_frame.specs.Uncertified.{Lines}
use Rattle.sp_formula_list.specs.Listed.{FormulasListed}
use Rattle.sp_deciding.specs.Decided.{AllDecided}
use Rattle.sp_deciding.specs.declared.deciding.Decision.{Decision}
use Rattle.sp_system.specs.System.{SystemJudged}
use Rattle.sp_system.specs.declared.interface.Elaborated.{Elaborated}
use Rattle.sp_system.specs.declared.system.System.{System}
use Rattle.sp_check_command.specs.Check.{CheckAnswered, check_answer, check_text}
use Rattle.sp_check_command.specs.Secure.{AnsweredAreProved}
use Rattle.sp_check_command.proofs.Accepted.{judged_by}
use Rattle.sp_sample_command.specs.Sample.{SampleAnswered, SampleDone, SampleWork}
use Rattle.sp_sample_command.specs.Secure.{IsSecureSample, SampledAreSecure}
use Rattle.sp_sample_command.specs.Summary.{sample_answer}
use Rattle.sp_sample_command.specs.Texts.{SampleRead, interface_file}

module _ (n : ℕ) (bytes : List ℕ) where
  module _ (p : Parts) where
    abbrev Checked : Type 0
    Checked = (text : List ℕ) × CheckAnswered None p (Ok (printed text verdict.Ok))

    by_decisions : (os : List Formula) → FormulasListed None p (Ok os) → (second : Result (List Decision) Refusal) → AllDecided None p 1 os second
        → Onward (λ ds. λ (out : Result Lines Refusal). out ≡ Ok (sample_answer n p os ds)) second (Ok (printed bytes verdict.Ok)) → Checked
    by_decisions os listed (Err r) h e = absurd cc
    by_decisions os listed (Ok ds) h e =
        let same : printed bytes verdict.Ok ≡ sample_answer n p os ds = cc in
        let told : Ok (printed (check_text p os ds) verdict.Ok) ≡ Ok (check_answer p os ds) = ap (λ v. Ok (printed (check_text p os ds) v)) (ap verdict_of same) in
        (check_text p os ds, (Ok os, listed, (Ok ds, h, told)))

    by_formulas : (first : Result (List Formula) Refusal) → FormulasListed None p first
        → Onward (λ os. λ (out : Result Lines Refusal). (second : Result (List Decision) Refusal) × AllDecided None p 1 os second × Onward (λ ds. λ (last : Result Lines Refusal). last ≡ Ok (sample_answer n p os ds)) second out)
        first (Ok (printed bytes verdict.Ok)) → Checked
    by_formulas (Err r) h e = absurd cc
    by_formulas (Ok os) h e = by_decisions os h e.0 e.1 e.2

    checked : SampleAnswered n p (Ok (printed bytes verdict.Ok)) → Checked
    checked h = by_formulas h.0 h.1 h.2

  module _ (proved : AnsweredAreProved) where
    by_spec : (x : System) → SampleRead n (Ok x) → (first : Result Elaborated Refusal) → SystemJudged interface_file x first
        → Onward (λ e. SampleAnswered n e.spec) first (Ok (printed bytes verdict.Ok)) → IsSecureSample n
    by_spec x read (Err r) j h = absurd cc
    by_spec x read (Ok e) j h =
        let judged = judged_by interface_file x e j.0 j.1 j.2 in
        let told = checked e.spec h in
        record {
          system = x;
          spec = e.spec;
          read = read;
          meant = judged.meant;
          sample = made e.spec judged.meant.well_formed x.sample judged.unbroken;
          admissible = judged.admissible;
          secure = (proved None e.spec told.0 judged.meant.well_formed told.1).secure;
        }

    by_system : (first : Result System Refusal) → SampleRead n first → Onward (SampleWork n) first (Ok (printed bytes verdict.Ok)) → IsSecureSample n
    by_system (Err r) read h = absurd cc
    by_system (Ok x) read h = by_spec x read h.0 h.1 h.2

pub sampled_secure : AnsweredAreProved → SampledAreSecure
unfolding SampleDone
sampled_secure proved n bytes h = by_system n bytes proved h.0 h.1 h.2
