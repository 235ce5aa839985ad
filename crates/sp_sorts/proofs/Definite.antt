-- Answers that aren't want of memory: as what a call tells, and that there is one at most.
use Rattle.std.proofs.Common.{◌≡◌, ◌≢◌, Result, Ok, Err}
use Rattle.sp_text.specs.declared.fault.TextFault.{TextFault}
use Rattle.sp_text.specs.declared.fault.TextFault.TheVariants as fault
use Rattle.sp_frame.specs.Laws.{IsOnce}
use Rattle.sp_frame.specs.Steps.{Tells}
use Rattle.sp_sorts.specs.Texts.{Answered}

module _ {T : Type 0} (answers : Result T TextFault → Type 0) where
  pub tells_answered : (r : Result T TextFault) → answers r → Tells (Answered answers) r
  tells_answered (Ok x) h = h
  tells_answered (Err (fault.Malformed m)) h = h
  tells_answered (Err (fault.Limit l)) h = h
  tells_answered (Err fault.Memory) h = tt

  definite : (r : Result T TextFault) → Answered answers r → answers r × (r ≢ Err fault.Memory)
  definite (Ok x) h = (h, λ e. absurd cc)
  definite (Err (fault.Malformed m)) h = (h, λ e. absurd cc)
  definite (Err (fault.Limit l)) h = (h, λ e. absurd cc)
  definite (Err fault.Memory) h = absurd h

  pub answered_by : ((a b : Result T TextFault) → a ≢ Err fault.Memory → b ≢ Err fault.Memory → answers a → answers b → a ≡ b) → IsOnce (Answered answers)
  answered_by once a b p q =
      let x = definite a p in
      let y = definite b q in
      once a b x.1 y.1 x.0 y.0
