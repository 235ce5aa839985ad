-- A command that certifies nothing does the same work among commands that certify.
use Rattle.std.proofs.Common.{◌≡◌, ℕ, List, Option, None, Some, Result, Ok, Err, refl}
use Rattle.std.specs.Prelude.{IfSome}
use Rattle.sp_outside.specs.Files.{Files}
use Rattle.sp_frame.specs.declared.refusal.LoadStop.TheVariants as load_stop
use Rattle.sp_frame.specs.declared.refusal.Printed.{Printed}
use Rattle.sp_frame.specs.declared.refusal.LoadStop.{LoadStop}
use Rattle.sp_frame.specs.Endings.{Answer, Printing, certified, printed}
use Rattle.sp_frame.specs.Laws.{IsLawful}
use Rattle.sp_frame.specs.Loads.{Loads}
use Rattle.sp_frame.specs.Steps.{DoesLoad, Step}
use Rattle.sp_frame.specs.Uncertified.{Lines, Widened, spells, widen}
use Rattle.sp_frame.proofs.Lawful.{gives_lawful, then_lawful}

module _ {C : Type 0} (spelt : C → List ℕ → Type 0) where
  prints_widened : (step : Step Lines) (r : Result Printed LoadStop) → DoesLoad (Printing spells step) r → DoesLoad (Printing spelt (Widened step)) r
  prints_widened step (Ok p) (printed bytes v, done, shown, same) = (printed bytes v, (Ok (printed bytes v), done, refl), shown, same)
  prints_widened step (Ok p) (certified c, done, shown, same) = absurd c
  prints_widened step (Err (load_stop.Refused r)) h = (Err r, h, refl)
  prints_widened step (Err load_stop.ReadFault) h = tt
  prints_widened step (Err load_stop.Memory) h = tt

  module _ {L : Type 0} (told : L → Option Files) (faults : L → ℕ) (step : Files → Step Lines) (a b : L) where
    told_widened : (before : Option Files) (r : Result Printed LoadStop) → IfSome before (λ files. DoesLoad (Printing spells (step files)) r)
        → IfSome before (λ files. DoesLoad (Printing spelt (Widened (step files))) r)
    told_widened None r h = tt
    told_widened (Some files) r h = prints_widened (step files) r h

    pub loads_widened : (r : Result Printed LoadStop) → Loads told faults a b (λ files. Printing spells (step files)) r → Loads told faults a b (λ files. Printing spelt (Widened (step files))) r
    loads_widened r h = record {
      does = told_widened (told a) r h.does;
      failed = h.failed;
      same = h.same;
      later = h.later;
    }

pub widened_lawful : (files : Files) {C : Type 0} (step : Step Lines) → IsLawful files step → IsLawful files (Widened {C = C} step)
widened_lawful files step lawful = then_lawful files _ _ lawful (λ a. gives_lawful files (widen a))
