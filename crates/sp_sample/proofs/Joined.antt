-- Texts that are appended one after the other.
use Rattle.std.proofs.Common.{◌≡◌, ◌∙◌, ◌++◌, ℕ, List, Result, Ok, Err, OnOk, ap, append_assoc}

module _ {E : Type 0} (r : Result (Unit {0}) E) (old first : List ℕ) (a b : List ℕ) (begun : first ≡ old ++ a) where
  pub two_joined : (new : List ℕ) → OnOk r (new ≡ first ++ b) → OnOk r (new ≡ old ++ (a ++ b))
  two_joined new h = by r h
    where
      by : (s : Result (Unit {0}) E) → OnOk s (new ≡ first ++ b) → OnOk s (new ≡ old ++ (a ++ b))
      by (Ok u) e = e ∙ ap (λ t. t ++ b) begun ∙ append_assoc old a b
      by (Err f) e = tt

-- one behind the other
pub joined : (old first second a b : List ℕ) → first ≡ old ++ a → second ≡ first ++ b → second ≡ old ++ (a ++ b)
joined old first second a b p q = q ∙ ap (λ t. t ++ b) p ∙ append_assoc old a b
