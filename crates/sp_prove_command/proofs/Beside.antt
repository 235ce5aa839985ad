-- The work of `prove` is that of `check` but for its answer, step by step.
use Rattle.std.proofs.Common.{◌≡◌, ◌∙◌, ℕ, zero, suc, List, None, Result, Ok, Err, refl, subst, sym}
use Rattle.sp_outside.specs.Files.{Files}
use Rattle.sp_core.specs.Parts.{Parts}
use Rattle.sp_formulas.specs.Formulas.{Formula}
use Rattle.sp_frame.specs.declared.refusal.Refusal.{Refusal}
use Rattle.sp_frame.specs.Endings.{certified, printed}
use Rattle.sp_frame.specs.Steps.{Gives, Onward, Step, Then}
use Rattle.sp_frame.specs.Uncertified.{Lines}
use Rattle.sp_system.specs.System.{SystemJudged, SystemRead}
use Rattle.sp_check_command.specs.Check.{CheckAnswered, CheckDone, CheckWork, check_answer, check_text}
use Rattle.sp_formula_list.specs.Listed.{FormulasListed}
use Rattle.sp_deciding.specs.Decided.{AllDecided, open_count}
use Rattle.sp_check_command.specs.Secure.{AcceptedAreSecure}
use Rattle.sp_deciding.specs.Verdicts.{verdict_by}
use Rattle.sp_deciding.specs.declared.deciding.Decision.{Decision}
use Rattle.sp_prove_command.specs.Certificates.{Certificates}
use Rattle.sp_prove_command.specs.Laws.{IsBeside, ProvedAreChecked, ProvedAreSecure}
use Rattle.sp_prove_command.specs.Prove.{ProveAnswered, ProveDone, ProveWork, answer_by, prove_answer}

-- an outcome of other work stands beside this one
abbrev Beside : Step Lines → Result Certificates Refusal → Type 0
Beside work a = (b : Result Lines Refusal) × work b × IsBeside a b

-- where what is next is beside, so is the work after a step
module _ {T : Type 0} (step : Step T) (next : T → Step Certificates) (other : T → Step Lines) (rest : (x : T) (a : Result Certificates Refusal) → next x a → Beside (other x) a) where
  onward : (first : Result T Refusal) (a : Result Certificates Refusal) → step first → Onward next first a → Beside (Then step other) a
  onward (Ok x) a s h = let r = rest x a h in (r.0, (Ok x, s, r.1), r.2)
  onward (Err r) a s h = (Err r, (Err r, s, refl), subst (λ z. IsBeside z (Err r)) (sym h) refl)

  after : (a : Result Certificates Refusal) → Then step next a → Beside (Then step other) a
  after a h = onward h.0 a h.1 h.2

beside_by : (k : ℕ) (p : Parts) (os : List Formula) (ds : List Decision) → IsBeside (Ok (answer_by k p os ds)) (Ok (printed (check_text p os ds) (verdict_by k)))
beside_by zero p os ds = (check_text p os ds, refl)
beside_by (suc k) p os ds = (refl, refl)

beside_answer : (p : Parts) (os : List Formula) (ds : List Decision) (a : Result Certificates Refusal) → Gives (prove_answer p os ds) a → Beside (Gives (check_answer p os ds)) a
beside_answer p os ds a h = (Ok (check_answer p os ds), refl, subst (λ z. IsBeside z (Ok (check_answer p os ds))) (sym h) (beside_by (open_count ds) p os ds))

beside_answered : (p : Parts) (a : Result Certificates Refusal) → ProveAnswered p a → Beside (CheckAnswered None p) a
beside_answered p =
    after (FormulasListed None p) _ _ (λ os.
    after (AllDecided None p 1 os) _ _ (λ ds. beside_answer p os ds))

pub proved_checked : ProvedAreChecked
unfolding ProveDone CheckDone
proved_checked files interface =
    after (SystemRead interface files) (ProveWork interface) (CheckWork interface) (λ x.
    after (SystemJudged interface x) _ _ (λ e. beside_answered e.spec))

pub proved_secure : AcceptedAreSecure → ProvedAreChecked → ProvedAreSecure
proved_secure accepted checked files interface p h =
    let c = checked files interface (Ok (certified p)) h in
    accepted files interface c.2.0 (subst (CheckDone interface files) c.2.1 c.1)
