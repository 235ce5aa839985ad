-- The work of a command in steps, in the order in which they are done. A step is a relation: what it may come to, a value
-- with which the work goes on, or a refusal with which it ends. For what the work of each command is.
use Rattle.std.specs.Prelude.{◌≡◌, ◌⊎◌, List, [], ◌∷◌, Result, Ok, Err}
use Rattle.sp_text.specs.declared.fault.TextFault.{TextFault}
use Rattle.sp_text.specs.declared.fault.TextFault.TheVariants as fault
use Rattle.std.specs.Prelude.{ℕ}
use Rattle.sp_frame.specs.declared.refusal.Refusal.{Refusal}
use Rattle.sp_frame.specs.declared.refusal.Refusal.TheVariants as refusal
use Rattle.sp_frame.specs.declared.refusal.Stop.{Stop}
use Rattle.sp_frame.specs.declared.refusal.Stop.TheVariants as stop
use Rattle.sp_frame.specs.declared.refusal.LoadStop.{LoadStop}
use Rattle.sp_frame.specs.declared.refusal.LoadStop.TheVariants as load_stop

-- a step by what it may come to
abbrev pub Step : Type 0 → Type 1
Step T = Result T Refusal → Type 0

-- Reading a text is such work too, with its faults for refusals, so the connectives are for refusals of any type.
module _ {E : Type 0} where
  -- the work after a step: what is next, or the refusal of the step
  abbrev pub Onward : {T U : Type 0} → (T → Result U E → Type 0) → Result T E → Result U E → Type 0
  Onward next (Ok x) out = next x out
  Onward next (Err r) out = out ≡ Err r

  -- a step, and then what is next for its value
  abbrev pub Then : {T U : Type 0} → (Result T E → Type 0) → (T → Result U E → Type 0) → Result U E → Type 0
  Then {T} step next out = (first : Result T E) × step first × Onward next first out

  -- a value without more work
  abbrev pub Gives : {T : Type 0} → T → Result T E → Type 0
  Gives x out = out ≡ Ok x

  -- a step for each of the list in order, with the list of their values
  abbrev pub Each : {X T : Type 0} → (X → Result T E → Type 0) → List X → Result (List T) E → Type 0
  Each step [] = Gives []
  Each step (x ∷ xs) = Then (step x) (λ y. Then (Each step xs) (λ ys. Gives (y ∷ ys)))

-- the rule holds and the work goes on, or it doesn't and this is the refusal
abbrev pub Demand : Type 0 → Refusal → Step (Unit {0})
Demand rule r out = (rule × (out ≡ Ok tt)) ⊎ (¬ rule × (out ≡ Err r))

-- the answer about the text of this name, as the outcome of a step; want of memory is none
abbrev pub IsNamed : {T : Type 0} → List ℕ → Result T TextFault → Step T
IsNamed name (Ok x) out = out ≡ Ok x
IsNamed name (Err (fault.Malformed m)) out = out ≡ Err (refusal.Broken name m)
IsNamed name (Err (fault.Limit l)) out = out ≡ Err (refusal.Exceeded name l)
IsNamed name (Err fault.Memory) out = ⊥

-- a step that judges the text of this name
abbrev pub Judged : {T : Type 0} → List ℕ → (Result T TextFault → Type 0) → Step T
Judged {T} name answers out = (answer : Result T TextFault) × answers answer × IsNamed name answer out

-- ---- what calls do

-- the call answers so, unless memory was refused
abbrev pub Tells : {T : Type 0} → (Result T TextFault → Type 0) → Result T TextFault → Type 0
Tells answers (Ok x) = answers (Ok x)
Tells answers (Err fault.Memory) = Unit {0}
Tells answers (Err f) = answers (Err f)

-- why a call stopped, where it is for this refusal or for want of memory
abbrev pub StopsFor : Refusal → Stop → Type 0
StopsFor r (stop.Refused s) = s ≡ r
StopsFor r stop.Memory = Unit {0}

-- the call does the step, unless memory was refused
abbrev pub Does : {T : Type 0} → Step T → Result T Stop → Type 0
Does step (Ok x) = step (Ok x)
Does step (Err (stop.Refused r)) = step (Err r)
Does step (Err stop.Memory) = Unit {0}

-- and of a call that loads files, unless a read failed
abbrev pub DoesLoad : {T : Type 0} → Step T → Result T LoadStop → Type 0
DoesLoad step (Ok x) = step (Ok x)
DoesLoad step (Err (load_stop.Refused r)) = step (Err r)
DoesLoad step (Err load_stop.ReadFault) = Unit {0}
DoesLoad step (Err load_stop.Memory) = Unit {0}

-- why a call stopped, for a call that loads files too
abbrev pub loading : Stop → LoadStop
loading (stop.Refused r) = load_stop.Refused r
loading stop.Memory = load_stop.Memory

abbrev pub as_loading : {T : Type 0} → Result T Stop → Result T LoadStop
as_loading (Ok x) = Ok x
as_loading (Err s) = Err (loading s)
