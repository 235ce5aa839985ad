-- The facts of a list of steps, and steps that are accepted over more facts. Public: for all who speak of such steps.
use Rattle.std.proofs.Common.{◌≡◌, ℕ, zero, suc, ◌<◌, ◌||◌, ◌++◌, ◌∷◌, Bool, true, false, List, [], length, take, refl, ap, ◌∙◌, ⊎_elim, arith}
use Rattle.std.proofs.lemmas.List.Folds.{list_any-append}
use Rattle.sp_rules.specs.Facts.{is_fact}
use Rattle.sp_rules.specs.Terms.{Terms}
use Rattle.sp_rules.specs.declared.fact.Fact.{Fact}
use Rattle.sp_rules.specs.declared.fact.Step.{Step}
use Rattle.sp_rules.proofs.FactLemmas.{first_holds, is_fact-itself, one_holds, or_false, second_holds}
use Rattle.sp_rules.proofs.Steps.{lacks_no_more}
use Rattle.sp_saturate.specs.Accepted.{AreAccepted}
use Rattle.sp_saturate.specs.Steps.{on, step_at}

pub on-none : (f : Fact) → on [] f ≡ false
unfolding on
on-none f = refl

pub on-append : (xs : List Step) (s : Step) (f : Fact) → on (xs ++ s ∷ []) f ≡ (on xs f || is_fact s.fact f)
unfolding on
on-append xs s f = list_any-append (λ t. is_fact t.fact f) xs (s ∷ []) ∙ ap (λ b. on xs f || b) (or_false (is_fact s.fact f))

pub on_at : (xs : List Step) (k : ℕ) → k < length xs → on xs (step_at xs k).fact ≡ true
unfolding on
on_at [] k l = absurd (omega arith)
on_at (x ∷ xs) zero l = ap (λ b. b || on xs x.fact) (is_fact-itself x.fact)
on_at (x ∷ xs) (suc k) l = second (is_fact x.fact (step_at xs k).fact) (on xs (step_at xs k).fact) (on_at xs k (omega arith))
  where
    second : (a b : Bool) → b ≡ true → (a || b) ≡ true
    second true b e = refl
    second false b e = e

-- steps that are accepted over some facts are accepted over more
pub accepted_over : (ts : Terms) (g h : Fact → Bool) → ((f : Fact) → g f ≡ true → h f ≡ true) → (steps : List Step) → AreAccepted ts g steps → AreAccepted ts h steps
accepted_over ts g h more steps a = record {
  accepted = λ k l. lacks_no_more ts (λ f. g f || on (take k steps) f) (λ f. h f || on (take k steps) f)
      (λ f e. ⊎_elim (λ d. first_holds _ _ (more f d)) (λ d. second_holds (h f) (on (take k steps) f) d) (one_holds _ _ e)) (step_at steps k) (a.accepted k l);
  apart = a.apart;
}
