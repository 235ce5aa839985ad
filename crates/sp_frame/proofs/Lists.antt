-- A step for each of a list, done by a loop: what holds when the first of them are done, and how it goes on.
use Rattle.std.proofs.Common.{◌≡◌, ◌∙◌, ℕ, ◌+◌, ◌<◌, ◌≤◌, List, [], ◌∷◌, ◌++◌, append_assoc, append-nil, drop, get_or, length, Option, Some, None, Result, Ok, Err, ap, refl, sym, subst, arith}
use Rattle.std.specs.Prelude.{IfSome}
use Rattle.std.proofs.lemmas.Grind.{common_steps}
use Rattle.std.proofs.lemmas.List.{drop_more}
use Rattle.sp_outside.specs.Files.{Files}
use Rattle.sp_frame.specs.declared.refusal.Refusal.{Refusal}
use Rattle.sp_frame.specs.declared.refusal.Stop.{Stop}
use Rattle.sp_frame.specs.declared.refusal.Stop.TheVariants as stop
use Rattle.sp_frame.specs.declared.refusal.LoadStop.{LoadStop}
use Rattle.sp_frame.specs.declared.refusal.LoadStop.TheVariants as load_stop
use Rattle.sp_frame.specs.Loads.{Loads}
use Rattle.sp_frame.specs.Steps.{Does, DoesLoad, Each, Step}
use Rattle.sp_frame.proofs.Connective.{rose_earlier}

-- the values of the first ones stand before those of the others
abbrev pub after : {T E : Type 0} → List T → Result (List T) E → Result (List T) E
after done (Ok rest) = Ok (done ++ rest)
after done (Err e) = Err e

-- the first of all are done, with these values: what comes of the rest comes of all
abbrev pub First : {X T : Type 0} → (X → Step T) → List X → List X → List T → Type 0
First {X} {T} step all rest done = (r : Result (List T) Refusal) → Each step rest r → Each step all (after done r)

after_more : {T E : Type 0} (done : List T) (y : T) (r : Result (List T) E) → after done (after (y ∷ []) r) ≡ after (done ++ y ∷ []) r
after_more done y (Ok rest) = ap Ok (sym (append_assoc done (y ∷ []) rest))
after_more done y (Err e) = refl

each_next : {X T E : Type 0} (step : X → Result T E → Type 0) (x : X) (y : T) (xs : List X) (r : Result (List T) E) → step x (Ok y) → Each step xs r → Each step (x ∷ xs) (after (y ∷ []) r)
each_next step x y xs (Ok ys) first rest = (Ok y, first, (Ok ys, rest, refl))
each_next step x y xs (Err e) first rest = (Ok y, first, (Err e, rest, refl))

at_index : {X : Type 0} (all : List X) (i : ℕ) (x : X) → i < length all → x ≡ get_or all i x → drop i all ≡ x ∷ drop (i + 1) all
at_index all i x h e = drop_more all i x h ∙ ap (λ y. y ∷ drop (i + 1) all) (sym e)

at_end : {X : Type 0} (all : List X) (i : ℕ) → length all ≤ i → drop i all ≡ []
at_end all i h = grind (arith, common_steps)

-- ---- functions of texts

module _ {X T : Type 0} (step : X → Step T) (all : List X) where
  pub none_done : First step all all []
  none_done (Ok ys) h = h
  none_done (Err e) h = h

  pub next_done : (i : ℕ) (done : List T) (x : X) (y : T) → i < length all → x ≡ get_or all i x → First step all (drop i all) done → step x (Ok y) → First step all (drop (i + 1) all) (done ++ y ∷ [])
  next_done i done x y h e first now = λ r rest.
      subst (Each step all) (after_more done y r) (first (after (y ∷ []) r) (subst (λ xs. Each step xs (after (y ∷ []) r)) (sym (at_index all i x h e)) (each_next step x y (drop (i + 1) all) r now rest)))

  next_err : (i : ℕ) (done : List T) (x : X) (r : Refusal) → i < length all → x ≡ get_or all i x → First step all (drop i all) done → step x (Err r) → Each step all (Err r)
  next_err i done x r h e first now = first (Err r) (subst (λ xs. Each step xs (Err r)) (sym (at_index all i x h e)) (Err r, now, refl))

  pub next_stops : (i : ℕ) (done : List T) (x : X) (s : Stop) → i < length all → x ≡ get_or all i x → First step all (drop i all) done → Does (step x) (Err s) → Does (Each step all) (Err s)
  next_stops i done x (stop.Refused r) h e first now = next_err i done x r h e first now
  next_stops i done x stop.Memory h e first now = tt

  pub all_done : (i : ℕ) (done : List T) → length all ≤ i → First step all (drop i all) done → Each step all (Ok done)
  all_done i done h first = subst (λ ys. Each step all (Ok ys)) (append-nil done) (first (Ok []) (subst (λ xs. Each step xs (Ok [])) (sym (at_end all i h)) refl))

-- ---- calls that load files

-- the first of all are loaded
pub record LoadsFirst {L X T : Type 0} (told : L → Option Files) (faults : L → ℕ) (before now : L) (step : Files → X → Step T) (all rest : List X) (done : List T) : Type 0 where
  pub first : IfSome (told before) (λ files. First (step files) all rest done)
  pub same : told now ≡ told before
  pub later : faults before ≤ faults now

module _ {L X T : Type 0} (told : L → Option Files) (faults : L → ℕ) (step : Files → X → Step T) (all : List X) (a : L) where
  told_none : (before : Option Files) → IfSome before (λ files. First (step files) all all [])
  told_none None = tt
  told_none (Some files) = none_done (step files) all

  pub none_loaded : LoadsFirst told faults a a step all all []
  none_loaded = record { first = told_none (told a); same = refl; later = omega arith }

  module _ (b : L) (i : ℕ) (done : List T) (first : LoadsFirst told faults a b step all (drop i all) done) where
    module _ (c : L) (x : X) (h : i < length all) (e : x ≡ get_or all i x) where
      told_next : (before now : Option Files) (y : T) → now ≡ before → IfSome before (λ files. First (step files) all (drop i all) done) → IfSome now (λ files. step files x (Ok y))
          → IfSome before (λ files. First (step files) all (drop (i + 1) all) (done ++ y ∷ []))
      told_next None now y same f s = tt
      told_next (Some files) now y same f s = next_done (step files) all i done x y h e f (subst (λ o. IfSome o (λ files. step files x (Ok y))) same s)

      pub next_loaded : (y : T) → Loads told faults b c (λ files. step files x) (Ok y) → LoadsFirst told faults a c step all (drop (i + 1) all) (done ++ y ∷ [])
      next_loaded y s = record {
        first = told_next (told a) (told b) y first.same first.first s.does;
        same = s.same ∙ first.same;
        later = omega (arith, first.later, s.later);
      }

      told_refused : (before now : Option Files) (s : LoadStop) → now ≡ before → IfSome before (λ files. First (step files) all (drop i all) done) → IfSome now (λ files. DoesLoad (step files x) (Err s))
          → IfSome before (λ files. DoesLoad (Each (step files) all) (Err s))
      told_refused None now s same f n = tt
      told_refused (Some files) now (load_stop.Refused r) same f n = next_err (step files) all i done x r h e f (subst (λ o. IfSome o (λ files. step files x (Err r))) same n)
      told_refused (Some files) now load_stop.ReadFault same f n = tt
      told_refused (Some files) now load_stop.Memory same f n = tt

      pub next_refused : (s : LoadStop) → Loads told faults b c (λ files. step files x) (Err s) → Loads told faults a c (λ files. Each (step files) all) (Err s)
      next_refused s n = record {
        does = told_refused (told a) (told b) s first.same first.first n.does;
        failed = λ f. rose_earlier _ _ _ first.later (n.failed (again (Err s) (Err s) refl refl f));
        same = n.same ∙ first.same;
        later = omega (arith, first.later, n.later);
      }
        where
          again : (p : Result (List T) LoadStop) (q : Result T LoadStop) → p ≡ Err s → q ≡ Err s → p ≡ Err load_stop.ReadFault → q ≡ Err load_stop.ReadFault
          again p q d f g = cc

    told_all : (before : Option Files) → length all ≤ i → IfSome before (λ files. First (step files) all (drop i all) done) → IfSome before (λ files. Each (step files) all (Ok done))
    told_all None h f = tt
    told_all (Some files) h f = all_done (step files) all i done h f

    pub all_loaded : length all ≤ i → Loads told faults a b (λ files. Each (step files) all) (Ok done)
    all_loaded h = record {
      does = told_all (told a) h first.first;
      failed = λ e. absurd cc;
      same = first.same;
      later = first.later;
    }
