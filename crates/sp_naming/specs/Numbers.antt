-- The numbers of declarations and of files, each with 16 bits, and lists whose items are numbered by them.
use Rattle.std.specs.Prelude.{ℕ, ◌+◌, min, List, [], ◌∷◌, ◌++◌}

-- The number after k. 65535 stands for itself and for all greater ones: the limits on what may be declared are far below, and
-- no rule compares two numbers.
abbrev pub after : ℕ → ℕ
after k = min 65535 (k + 1)

-- the number that comes n numbers after k
abbrev pub counted : ℕ → ℕ → ℕ
counted k n = min 65535 (k + n)

-- what each item makes, with its number, of which the first is k
abbrev pub numbered : {A B : Type 0} → (ℕ → A → List B) → ℕ → List A → List B
numbered make k [] = []
numbered make k (x ∷ xs) = make k x ++ numbered make (after k) xs
