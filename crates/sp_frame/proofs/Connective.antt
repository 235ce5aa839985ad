-- How a call that goes on after a step, and one that ends with it, does the two steps. Each function with `?` is proved by these.
use Rattle.std.proofs.Common.{◌≡◌, ◌∙◌, ℕ, ◌≤◌, Option, Some, None, List, Result, Ok, Err, ap, refl, sym, subst, arith}
use Rattle.std.specs.Prelude.{IfSome}
use Rattle.sp_text.specs.declared.fault.TextFault.{TextFault}
use Rattle.sp_text.specs.declared.fault.TextFault.TheVariants as fault
use Rattle.sp_outside.specs.Causes.{Rose}
use Rattle.sp_outside.specs.Files.{Files}
use Rattle.sp_frame.specs.declared.refusal.Printed.{Printed}
use Rattle.sp_frame.specs.declared.refusal.Stop.{Stop}
use Rattle.sp_frame.specs.declared.refusal.Stop.TheVariants as stop
use Rattle.sp_frame.specs.declared.refusal.LoadStop.{LoadStop}
use Rattle.sp_frame.specs.declared.refusal.LoadStop.TheVariants as load_stop
use Rattle.sp_frame.specs.declared.status.Status.{Status}
use Rattle.sp_frame.specs.Endings.{Answer, Ending, EndsBy, IsReportOf, Printing, Reports, Shows, answered, judged_status, refused, verdict_of}
use Rattle.sp_frame.specs.Loads.{Loads}
use Rattle.sp_frame.specs.Steps.{Does, DoesLoad, Gives, IsNamed, Judged, Step, Tells, Then, as_loading}

module _ {T U : Type 0} (step : Step T) (next : T → Step U) where
  pub does_after : (x : T) (r : Result U Stop) → step (Ok x) → Does (next x) r → Does (Then step next) r
  does_after x (Ok y) first rest = (Ok x, first, rest)
  does_after x (Err (stop.Refused refusal)) first rest = (Ok x, first, rest)
  does_after x (Err stop.Memory) first rest = tt

  pub does_refused : (s : Stop) → Does step (Err s) → Does (Then step next) (Err s)
  does_refused (stop.Refused r) h = (Err r, h, refl)
  does_refused stop.Memory h = tt

  load_after : (x : T) (r : Result U LoadStop) → step (Ok x) → DoesLoad (next x) r → DoesLoad (Then step next) r
  load_after x (Ok y) first rest = (Ok x, first, rest)
  load_after x (Err (load_stop.Refused refusal)) first rest = (Ok x, first, rest)
  load_after x (Err load_stop.ReadFault) first rest = tt
  load_after x (Err load_stop.Memory) first rest = tt

  load_refused : (s : LoadStop) → DoesLoad step (Err s) → DoesLoad (Then step next) (Err s)
  load_refused (load_stop.Refused r) h = (Err r, h, refl)
  load_refused load_stop.ReadFault h = tt
  load_refused load_stop.Memory h = tt

module _ {T U : Type 0} (step : Result T TextFault → Type 0) (next : T → Result U TextFault → Type 0) where
  pub tells_after : (x : T) (r : Result U TextFault) → step (Ok x) → Tells (next x) r → Tells (Then step next) r
  tells_after x (Ok y) first rest = (Ok x, first, rest)
  tells_after x (Err (fault.Malformed m)) first rest = (Ok x, first, rest)
  tells_after x (Err (fault.Limit l)) first rest = (Ok x, first, rest)
  tells_after x (Err fault.Memory) first rest = tt

  pub tells_refused : (f : TextFault) → Tells step (Err f) → Tells (Then step next) (Err f)
  tells_refused (fault.Malformed m) h = (_, h, refl)
  tells_refused (fault.Limit l) h = (_, h, refl)
  tells_refused fault.Memory h = tt

module _ {C T : Type 0} (spells : C → List ℕ → Type 0) (step : Step T) (next : T → Step (Answer C)) where
  pub prints_after : (x : T) (r : Result Printed Stop) → step (Ok x) → Does (Printing spells (next x)) r → Does (Printing spells (Then step next)) r
  prints_after x (Ok p) first rest = (rest.0, (Ok x, first, rest.1), rest.2, rest.3)
  prints_after x (Err (stop.Refused refusal)) first rest = (Ok x, first, rest)
  prints_after x (Err stop.Memory) first rest = tt

  pub prints_refused : (s : Stop) → Does step (Err s) → Does (Printing spells (Then step next)) (Err s)
  prints_refused (stop.Refused r) h = (Err r, h, refl)
  prints_refused stop.Memory h = tt

-- an answer without more work
pub prints_answer : {C : Type 0} (spells : C → List ℕ → Type 0) (a : Answer C) (p : Printed) → Shows spells a p.bytes.items → p.verdict ≡ verdict_of a → Does (Printing spells (Gives a)) (Ok p)
prints_answer spells a p shows same = (a, refl, shows, same)

-- a text of this name is judged
module _ {T : Type 0} (name : List ℕ) (answers : Result T TextFault → Type 0) where
  pub judged_after : (answer : Result T TextFault) (r : Result T Stop) → Tells answers answer → Does (IsNamed name answer) r → Does (Judged name answers) r
  judged_after (Ok x) (Ok y) told named = (Ok x, told, named)
  judged_after (Ok x) (Err (stop.Refused s)) told named = (Ok x, told, named)
  judged_after (Err (fault.Malformed m)) (Ok y) told named = (_, told, named)
  judged_after (Err (fault.Malformed m)) (Err (stop.Refused s)) told named = (_, told, named)
  judged_after (Err (fault.Limit l)) (Ok y) told named = (_, told, named)
  judged_after (Err (fault.Limit l)) (Err (stop.Refused s)) told named = (_, told, named)
  judged_after (Err fault.Memory) (Ok y) told named = absurd named
  judged_after (Err fault.Memory) (Err (stop.Refused s)) told named = absurd named
  judged_after answer (Err stop.Memory) told named = tt

-- a step that is a function of texts doesn't stop at a failed read
never_reads : {T : Type 0} (r : Result T Stop) → as_loading r ≡ Err load_stop.ReadFault → ⊥
never_reads (Ok x) e = absurd cc
never_reads (Err (stop.Refused r)) e = absurd cc
never_reads (Err stop.Memory) e = absurd cc

pub rose_earlier : (a b c : ℕ) → a ≤ b → Rose b c → Rose a c
rose_earlier a b c h rose = omega arith

module _ {L T U : Type 0} (told : L → Option Files) (faults : L → ℕ) (step : Files → Step T) (next : Files → T → Step U) where
  told_after : (before now : Option Files) (x : T) (r : Result U LoadStop) → now ≡ before → IfSome before (λ files. step files (Ok x)) → IfSome now (λ files. DoesLoad (next files x) r)
      → IfSome before (λ files. DoesLoad (Then (step files) (next files)) r)
  told_after None now x r same first rest = tt
  told_after (Some files) now x r same first rest = load_after (step files) (next files) x r first (subst (λ o. IfSome o (λ files. DoesLoad (next files x) r)) same rest)

  -- the call goes on to load
  pub loads_after : (a b c : L) (x : T) (r : Result U LoadStop) → Loads told faults a b step (Ok x) → Loads told faults b c (λ files. next files x) r
      → Loads told faults a c (λ files. Then (step files) (next files)) r
  loads_after a b c x r first rest = record {
    does = told_after (told a) (told b) x r first.same first.does rest.does;
    failed = λ e. rose_earlier _ _ _ first.later (rest.failed e);
    same = rest.same ∙ first.same;
    later = omega (arith, first.later, rest.later);
  }

  told_refused : (before : Option Files) (s : LoadStop) → IfSome before (λ files. DoesLoad (step files) (Err s)) → IfSome before (λ files. DoesLoad (Then (step files) (next files)) (Err s))
  told_refused None s h = tt
  told_refused (Some files) s h = load_refused (step files) (next files) s h

  -- the call ends with the refusal
  pub loads_refused : (a b : L) (s : LoadStop) → Loads told faults a b step (Err s) → Loads told faults a b (λ files. Then (step files) (next files)) (Err s)
  loads_refused a b s h = record {
    does = told_refused (told a) s h.does;
    failed = λ e. h.failed (again (Err s) (Err s) refl refl e);
    same = h.same;
    later = h.later;
  }
    where
      again : (x : Result U LoadStop) (y : Result T LoadStop) → x ≡ Err s → y ≡ Err s → x ≡ Err load_stop.ReadFault → y ≡ Err load_stop.ReadFault
      again x y p q e = cc

-- what is next is a function of texts
module _ {L T U : Type 0} (told : L → Option Files) (faults : L → ℕ) (step : Files → Step T) (next : T → Step U) where
  told_gives : (before : Option Files) (x : T) (y : U) → IfSome before (λ files. step files (Ok x)) → next x (Ok y) → IfSome before (λ files. Then (step files) next (Ok y))
  told_gives None x y first rest = tt
  told_gives (Some files) x y first rest = (Ok x, first, rest)

  pub loads_gives : (a b : L) (x : T) (y : U) → Loads told faults a b step (Ok x) → next x (Ok y) → Loads told faults a b (λ files. Then (step files) next) (Ok y)
  loads_gives a b x y first rest = record {
    does = told_gives (told a) x y first.does rest;
    failed = λ e. absurd cc;
    same = first.same;
    later = first.later;
  }

  told_last : (before : Option Files) (x : T) (r : Result U Stop) → IfSome before (λ files. step files (Ok x)) → Does (next x) r → IfSome before (λ files. DoesLoad (Then (step files) next) (as_loading r))
  told_last None x r first rest = tt
  told_last (Some files) x (Ok y) first rest = (Ok x, first, rest)
  told_last (Some files) x (Err (stop.Refused r)) first rest = (Ok x, first, rest)
  told_last (Some files) x (Err stop.Memory) first rest = tt

  pub loads_last : (a b : L) (x : T) (r : Result U Stop) (l : Result U LoadStop) → Loads told faults a b step (Ok x) → Does (next x) r → l ≡ as_loading r
      → Loads told faults a b (λ files. Then (step files) next) l
  loads_last a b x r l first rest is = subst (λ l. Loads told faults a b (λ files. Then (step files) next) l) (sym is) record {
    does = told_last (told a) x r first.does rest;
    failed = λ e. absurd (never_reads r e);
    same = first.same;
    later = first.later;
  }

-- a call that is a function of its words alone loads nothing
module _ {L T : Type 0} (told : L → Option Files) (faults : L → ℕ) (a : L) (step : Step T) where
  told_nothing : (before : Option Files) (r : Result T Stop) → Does step r → IfSome before (λ files. DoesLoad step (as_loading r))
  told_nothing None r h = tt
  told_nothing (Some files) (Ok x) h = h
  told_nothing (Some files) (Err (stop.Refused e)) h = h
  told_nothing (Some files) (Err stop.Memory) h = tt

  pub loads_nothing : (r : Result T Stop) (l : Result T LoadStop) → Does step r → l ≡ as_loading r → Loads told faults a a (λ files. step) l
  loads_nothing r l does is = subst (λ l. Loads told faults a a (λ files. step) l) (sym is) record {
    does = told_nothing (told a) r does;
    failed = λ e. absurd (never_reads r e);
    same = refl;
    later = omega arith;
  }

-- the work over texts that were loaded
module _ {C L T : Type 0} (spells : C → List ℕ → Type 0) (told : L → Option Files) (faults : L → ℕ) (step : Files → Step T) (work : T → Step (Answer C)) where
  told_prints : (before : Option Files) (x : T) (r : Result Printed Stop) → IfSome before (λ files. step files (Ok x)) → Does (Printing spells (work x)) r
      → IfSome before (λ files. DoesLoad (Printing spells (Then (step files) work)) (as_loading r))
  told_prints None x r first rest = tt
  told_prints (Some files) x (Ok p) first rest = (rest.0, (Ok x, first, rest.1), rest.2, rest.3)
  told_prints (Some files) x (Err (stop.Refused r)) first rest = (Ok x, first, rest)
  told_prints (Some files) x (Err stop.Memory) first rest = tt

  pub prints_last : (a b : L) (x : T) (r : Result Printed Stop) (l : Result Printed LoadStop) → Loads told faults a b step (Ok x) → Does (Printing spells (work x)) r → l ≡ as_loading r
      → Loads told faults a b (λ files. Printing spells (Then (step files) work)) l
  prints_last a b x r l first rest is = subst (λ l. Loads told faults a b (λ files. Printing spells (Then (step files) work)) l) (sym is) record {
    does = told_prints (told a) x r first.does rest;
    failed = λ e. absurd (never_reads r e);
    same = first.same;
    later = first.later;
  }

  told_unread : (before : Option Files) (s : LoadStop) → IfSome before (λ files. DoesLoad (step files) (Err s)) → IfSome before (λ files. DoesLoad (Printing spells (Then (step files) work)) (Err s))
  told_unread None s h = tt
  told_unread (Some files) (load_stop.Refused r) h = (_, h, refl)
  told_unread (Some files) load_stop.ReadFault h = tt
  told_unread (Some files) load_stop.Memory h = tt

  pub prints_unread : (a b : L) (s : LoadStop) → Loads told faults a b step (Err s) → Loads told faults a b (λ files. Printing spells (Then (step files) work)) (Err s)
  prints_unread a b s h = record {
    does = told_unread (told a) s h.does;
    failed = λ e. h.failed (again (Err s) (Err s) refl refl e);
    same = h.same;
    later = h.later;
  }
    where
      again : (x : Result Printed LoadStop) (y : Result T LoadStop) → x ≡ Err s → y ≡ Err s → x ≡ Err load_stop.ReadFault → y ≡ Err load_stop.ReadFault
      again x y p q e = cc

-- what is printed of an answer or a refusal is what is printed of an ending
pub reports_ending : {C : Type 0} (spells : C → List ℕ → Type 0) (work : Step (Answer C)) (ended : Result Printed LoadStop) (bytes : List ℕ) (code : Status) → DoesLoad (Printing spells work) ended → IsReportOf ended bytes code
    → (e : Ending C) × EndsBy work e × Reports spells e bytes code
reports_ending spells work (Ok p) bytes code h shown =
    (answered h.0, (Ok h.0, h.1, refl), (subst (Shows spells h.0) (sym shown.0) h.2, shown.1 ∙ ap judged_status h.3))
reports_ending spells work (Err (load_stop.Refused r)) bytes code h shown = (refused r, (Err r, h, refl), (shown.0, shown.1))
reports_ending spells work (Err load_stop.ReadFault) bytes code h shown = absurd shown
reports_ending spells work (Err load_stop.Memory) bytes code h shown = absurd shown
