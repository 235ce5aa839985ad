-- The forms that have two budgets, of height for the expressions in them and of nesting for the effects in them, and what a
-- reader may find of such a form. For the grammars of whole texts and the contracts of their readers.
use Rattle.std.specs.Prelude.{◌≡◌, ℕ, suc, ◌≤◌}
use Rattle.sp_grammar.specs.Lang.{Lang, Prefix}

-- both budgets
pub record Limits : Type 0 where
  pub height : ℕ
  pub nesting : ℕ

-- one of the two
pub data Budget : Type 0 where
  of_height : Budget
  of_nesting : Budget

-- this budget is the same in l as in b, whatever the other is
abbrev pub Keeps : Budget → Limits → Limits → Type 0
Keeps of_height b l = l.height ≡ b.height
Keeps of_nesting b l = l.nesting ≡ b.nesting

-- l is b with a larger budget of this kind
abbrev pub Raises : Budget → Limits → Limits → Type 0
Raises of_height b l = (b.height ≤ l.height) × (l.nesting ≡ b.nesting)
Raises of_nesting b l = (l.height ≡ b.height) × (b.nesting ≤ l.nesting)

-- Within b the tokens from i to j are F and stand for v, and with no token more they are a prefix of it, whatever the budgets.
pub record ReadsWithin {V : Type 0} (b : Limits) (F : Limits → Lang V) (v : V) (i j : ℕ) : Type 0 where
  pub whole : (F b).whole v i j
  pub front : (l : Limits) (m : ℕ) → Prefix (F l) i m → m ≤ j

-- The tokens from i to n are a prefix of F within b, they aren't F, and with one token more they are a prefix of F within no budgets.
pub record StopsWithin {V : Type 0} (b : Limits) (F : Limits → Lang V) (i n : ℕ) : Type 0 where
  pub so_far : Prefix (F b) i n
  pub front : (l : Limits) (m : ℕ) → Prefix (F l) i m → m ≤ n
  pub not_whole : (l : Limits) (v : V) → (F l).whole v i n → ⊥

-- The tokens from i to n are a prefix of F within b; with one token more they are one where this budget is larger, and
-- none while it is the same.
pub record ExceedsWithin {V : Type 0} (b : Limits) (F : Limits → Lang V) (q : Budget) (i n : ℕ) : Type 0 where
  pub so_far : Prefix (F b) i n
  pub front : (l : Limits) (m : ℕ) → Keeps q b l → Prefix (F l) i m → m ≤ n
  pub over : (l : Limits) × Raises q b l × Prefix (F l) i (suc n)

-- where a form is refused, and why
pub data Halt : Type 0 where
  stops : ℕ → Halt
  exceeds : Budget → ℕ → Halt

abbrev pub RefusesWithin : {V : Type 0} → Limits → (Limits → Lang V) → ℕ → Halt → Type 0
RefusesWithin b F i (stops n) = StopsWithin b F i n
RefusesWithin b F i (exceeds q n) = ExceedsWithin b F q i n
