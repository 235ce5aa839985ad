-- Given facts and atoms are truth values of terms, and terms.
use Rattle.std.proofs.Common.{◌≡◌, ℕ, ◌<◌, true, false, List, [], ◌∷◌, map, arith}
use Rattle.std.specs.Prelude.{All, IsTrue, slice_index_or, zero, suc}
use Rattle.std.proofs.lemmas.Bool.Decides.{Decides-ltb}
use Rattle.std.proofs.lemmas.List.Elements.{All-append, All-map}
use Rattle.sp_pool.specs.declared.node.TermId.{TermId}
use Rattle.sp_rules.specs.Terms.{Terms, AreSmall, count}
use Rattle.sp_rules.specs.Questions.{IsQuestion, given_facts, is_truth_below, numbers}
use Rattle.sp_rules.specs.Facts.{has_truth}
use Rattle.sp_rules.specs.declared.fact.Fact.{Fact}
use Rattle.sp_rules.specs.declared.fact.Fact.TheVariants.{Eq}
use Rattle.sp_rules.proofs.FactLemmas.{both_true}

module _ (ts : Terms) where
  -- a truth value of a term
  truth_below : (i j : ℕ) → i < count ts → j < 2 → is_truth_below (count ts) (Eq i j) ≡ true
  truth_below i j l two = both_true _ _ ((Decides-ltb i (count ts)).1 l) ((Decides-ltb j 2).1 two)

  pub question_is : AreSmall ts → (hypotheses : List TermId) (goal : ℕ) (atoms : List TermId)
      → All (λ t. t.0 < count ts) hypotheses → goal < count ts → All (λ t. t.0 < count ts) atoms
      → IsQuestion (record { terms = ts; given = given_facts (numbers hypotheses) goal; atoms = numbers atoms })
  question_is small hypotheses goal atoms hs g held = record {
    small = small;
    given = All-append P (map (λ h. has_truth h true) (numbers hypotheses)) (has_truth goal false ∷ [])
        (All-map P (λ h. has_truth h true) (numbers hypotheses)
        (All-map (λ h. P (has_truth h true)) (λ (t : TermId). t.0) hypotheses (λ k d l. truth_below (slice_index_or hypotheses k d).0 0 (hs k d l) (omega arith)))) last;
    atoms = All-map (λ a. a < count ts) (λ (t : TermId). t.0) atoms held;
  }
    where
      P : Fact → Type 0
      P f = IsTrue (is_truth_below (count ts) f)

      last : All P (has_truth goal false ∷ [])
      last zero d l = truth_below goal 1 g (omega arith)
      last (suc k) d l = absurd (omega arith)
