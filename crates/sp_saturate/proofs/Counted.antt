-- The facts of a trail, as a list.
use Rattle.std.proofs.Common.{◌≡◌, ℕ, ◌<◌, ◌||◌, ◌++◌, false, List, [], ◌∷◌, length, map, take, get_or, refl, sym, ap, ◌∙◌, arith}
use Rattle.std.proofs.lemmas.List.{get_or-map, length-map, take-map}
use Rattle.sp_rules.specs.Terms.{Terms}
use Rattle.sp_rules.specs.Facts.{is_fact, is_one_of}
use Rattle.sp_rules.specs.declared.fact.Fact.{Fact}
use Rattle.sp_rules.specs.declared.fact.Fact.TheVariants.{Eq}
use Rattle.sp_rules.specs.declared.fact.Step.{Step}
use Rattle.sp_rules.specs.Questions.{Question}
use Rattle.sp_saturate.specs.Steps.{on, given, AreFound}
use Rattle.sp_saturate.specs.Situations.{FollowAsMany, IsLevel}
use Rattle.sp_saturate.proofs.Levels.{level_all, level_has}

abbrev facts_of : List Step → List Fact
facts_of steps = map (λ s. s.fact) steps

one_of_facts : (steps : List Step) (f : Fact) → is_one_of (facts_of steps) f ≡ on steps f
unfolding is_one_of on
one_of_facts [] f = refl
one_of_facts (s ∷ steps) f = ap (λ b. is_fact s.fact f || b) (one_of_facts steps f)

-- the facts of a trail without repetition
once : (ts : Terms) (steps : List Step) → AreFound ts steps → (k : ℕ) → k < length (facts_of steps) → is_one_of (take k (facts_of steps)) (get_or (facts_of steps) k (Eq 0 0)) ≡ false
once ts steps found k l =
    let within : k < length steps = omega (arith, length-map steps (λ s. s.fact)) in
    ap (λ fs. is_one_of fs (get_or (facts_of steps) k (Eq 0 0))) (take-map (λ s. s.fact) k steps)
    ∙ one_of_facts (take k steps) (get_or (facts_of steps) k (Eq 0 0))
    ∙ ap (on (take k steps)) (get_or-map (λ s. s.fact) steps k (given (Eq 0 0)) (Eq 0 0) within)
    ∙ (found k within).new

pub counted : (q : Question) (steps : List Step) (assumed : List Fact) → AreFound q.terms steps → IsLevel q.terms steps (q.given ++ assumed) → FollowAsMany (record { question = q; assumed = assumed }) (length steps)
counted q steps assumed found level = (
  facts_of steps,
  record {
    each = λ f. (
      (λ t. level_has q.terms steps (q.given ++ assumed) found level f (sym (one_of_facts steps f) ∙ t)),
      (λ w. one_of_facts steps f ∙ level_all q.terms steps (q.given ++ assumed) level f w),
    );
    once = once q.terms steps found;
  },
  length-map steps (λ s. s.fact),
)
