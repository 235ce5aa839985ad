-- A step comes to one outcome at most, and its refusals hold of the files. One lemma for each connective.
use Rattle.std.proofs.Common.{◌≡◌, ◌∙◌, ℕ, ◌<◌, Bool, true, false, nat_le, if◌then◌else◌, List, [], ◌∷◌, Option, Result, Ok, Err, Some, None, inl, inr, refl, sym, subst, arith, length}
use Rattle.std.proofs.lemmas.Bool.Decides.{nat_tests}
use Rattle.sp_text.specs.declared.fault.TextFault.{TextFault}
use Rattle.sp_text.specs.declared.fault.TextFault.TheVariants as fault
use Rattle.sp_outside.specs.Files.{Files, first_file}
use Rattle.sp_frame.specs.declared.refusal.Refusal.{Refusal}
use Rattle.sp_frame.specs.declared.refusal.Refusal.TheVariants as refusal
use Rattle.sp_frame.specs.Files.{FileRead, Loaded, Sort, text_found}
use Rattle.sp_frame.specs.Laws.{IsDue, IsOnce, IsLawful}
use Rattle.sp_frame.specs.Steps.{Demand, Each, Gives, IsNamed, Judged, Onward, Step, Then}

module _ {T U E : Type 0} (step : Result T E → Type 0) (next : T → Result U E → Type 0) (first : IsOnce step) (rest : (x : T) → IsOnce (next x)) where
  onward_once : (f : Result T E) (a b : Result U E) → Onward next f a → Onward next f b → a ≡ b
  onward_once (Ok x) a b p q = rest x a b p q
  onward_once (Err r) a b p q = p ∙ sym q

  pub then_once : IsOnce (Then step next)
  then_once a b p q = onward_once q.0 a b (subst (λ f. Onward next f a) (first p.0 q.0 p.1 q.1) p.2) q.2

pub gives_once : {T E : Type 0} (x : T) → IsOnce {E = E} (Gives x)
gives_once x a b p q = p ∙ sym q

module _ (files : Files) where
  pub gives_lawful : {T : Type 0} (x : T) → IsLawful files (Gives x)
  gives_lawful x = record { once = λ a b p q. p ∙ sym q; due = λ r p. absurd cc }

  module _ {T U : Type 0} (step : Step T) (next : T → Step U) (first : IsLawful files step) (rest : (x : T) → IsLawful files (next x)) where
    onward_due : (f : Result T Refusal) (r : Refusal) → step f → Onward next f (Err r) → IsDue files r
    onward_due (Ok x) r s p = (rest x).due r p
    onward_due (Err e) r s p = let same : r ≡ e = cc in subst (IsDue files) (sym same) (first.due e s)

    pub then_lawful : IsLawful files (Then step next)
    then_lawful = record {
      once = then_once step next first.once (λ x. (rest x).once);
      due = λ r p. onward_due p.0 r p.1 p.2;
    }

  pub each_lawful : {X T : Type 0} (step : X → Step T) (xs : List X) → ((x : X) → IsLawful files (step x)) → IsLawful files (Each step xs)
  each_lawful step [] h = gives_lawful _
  each_lawful step (x ∷ xs) h = then_lawful _ _ (h x) (λ y. then_lawful _ _ (each_lawful step xs h) (λ ys. gives_lawful _))

  pub demand_lawful : (rule : Type 0) (r : Refusal) → IsDue files r → IsLawful files (Demand rule r)
  demand_lawful rule r due = record { once = once; due = refused }
    where
      once : (a b : Result (Unit {0}) Refusal) → Demand rule r a → Demand rule r b → a ≡ b
      once a b (inl p) (inl q) = p.1 ∙ sym q.1
      once a b (inl p) (inr q) = absurd (q.0 p.0)
      once a b (inr p) (inl q) = absurd (p.0 q.0)
      once a b (inr p) (inr q) = p.1 ∙ sym q.1

      refused : (s : Refusal) → Demand rule r (Err s) → IsDue files s
      refused s (inl p) = absurd cc
      refused s (inr p) = let same : s ≡ r = cc in subst (IsDue files) (sym same) due

  named_once : {T : Type 0} (name : List ℕ) (answer : Result T TextFault) (a b : Result T Refusal) → IsNamed name answer a → IsNamed name answer b → a ≡ b
  named_once name (Ok x) a b p q = p ∙ sym q
  named_once name (Err (fault.Malformed m)) a b p q = p ∙ sym q
  named_once name (Err (fault.Limit l)) a b p q = p ∙ sym q
  named_once name (Err fault.Memory) a b p q = absurd p

  named_due : {T : Type 0} (name : List ℕ) (answer : Result T TextFault) (r : Refusal) → IsNamed name answer (Err r) → IsDue files r
  named_due name (Ok x) r p = absurd cc
  named_due name (Err (fault.Malformed m)) r p = let same : r ≡ refusal.Broken name m = cc in subst (IsDue files) (sym same) tt
  named_due name (Err (fault.Limit l)) r p = let same : r ≡ refusal.Exceeded name l = cc in subst (IsDue files) (sym same) tt
  named_due name (Err fault.Memory) r p = absurd p

  pub judged_lawful : {T : Type 0} (name : List ℕ) (answers : Result T TextFault → Type 0) → IsOnce answers → IsLawful files (Judged name answers)
  judged_lawful name answers exact = record {
    once = λ a b p q. named_once name q.0 a b (subst (λ x. IsNamed name x a) (exact p.0 q.0 p.1 q.1) p.2) q.2;
    due = λ r p. named_due name p.0 r p.2;
  }

  within_due : (name : List ℕ) (most : ℕ) (text : List ℕ) (r : Refusal) (test : Bool) → nat_le (length text) most ≡ test → first_file name files ≡ Some text
      → Err r ≡ (if test then Ok text else Err (refusal.TooLong name most)) → IsDue files r
  within_due name most text r true t found e = absurd cc
  within_due name most text r false t found e =
      let same : r ≡ refusal.TooLong name most = cc in
      let long : most < length text = grind (arith, nat_tests) in
      subst (IsDue files) (sym same) (text, found, long)

  found_due : (name : List ℕ) (most : ℕ) (found : Option (List ℕ)) (r : Refusal) → first_file name files ≡ found → Err r ≡ text_found name most found → IsDue files r
  found_due name most None r f e = let same : r ≡ refusal.Missing name = cc in subst (IsDue files) (sym same) f
  found_due name most (Some text) r f e = within_due name most text r _ refl f e

  pub loaded_lawful : (name : List ℕ) (most : ℕ) → IsLawful files (Loaded name most files)
  loaded_lawful name most = record { once = λ a b p q. p ∙ sym q; due = λ r p. found_due name most _ r refl p }

  pub file_lawful : {T : Type 0} (sort : Sort T) (name : List ℕ) → ((text : List ℕ) → IsOnce (sort.reads text)) → IsLawful files (FileRead sort name files)
  file_lawful sort name exact = then_lawful _ _ (loaded_lawful name sort.most) (λ text. judged_lawful name _ (exact text))
