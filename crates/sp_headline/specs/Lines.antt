-- What stands at the beginning of a line of a text.
use Rattle.std.specs.Prelude.{◌≡◌, ◌⊎◌, ℕ, List, [], ◌∷◌, ◌++◌, codes}

-- a line begins behind these bytes: there are none, or the last is a line feed
abbrev pub IsLineStart : List ℕ → Type 0
IsLineStart front = (front ≡ []) ⊎ ((before : List ℕ) × (front ≡ before ++ 10 ∷ []))

-- the text holds a line that begins with the word
pub record HoldsLine (word text : List ℕ) : Type 0 where
  pub front : List ℕ
  pub rest : List ℕ
  pub is : text ≡ front ++ (word ++ rest)
  pub start : IsLineStart front

-- a line that begins with ACCEPTED
abbrev pub HoldsAccepted : List ℕ → Type 0
HoldsAccepted text = HoldsLine (codes "ACCEPTED") text
