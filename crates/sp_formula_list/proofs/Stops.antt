-- A call that stops for a refusal does a step that comes to this refusal alone.
use Rattle.std.proofs.Common.{◌≡◌, Err, ap}
use Rattle.sp_frame.specs.declared.refusal.Refusal.{Refusal}
use Rattle.sp_frame.specs.declared.refusal.Stop.{Stop}
use Rattle.sp_frame.specs.declared.refusal.Stop.TheVariants as stop
use Rattle.sp_frame.specs.Steps.{Does, StopsFor}

pub stops : (T : Type 0) (r : Refusal) (s : Stop) → StopsFor r s → Does {T = T} (λ out. out ≡ Err r) (Err s)
stops T r (stop.Refused q) h = ap Err h
stops T r stop.Memory h = tt
