-- Rows judged by a loop: what holds when the first of them are, and how it goes on. And how interfaces are collected from rows.
use Rattle.std.proofs.Common.{◌≡◌, ◌∙◌, ◌⊎◌, ℕ, zero, suc, ◌+◌, ◌<◌, ◌≤◌, List, [], ◌∷◌, ◌++◌, add-one, ap, arith, drop, drop-cons, get_or, inl, inr, length, refl, sym, subst, take, Result, Ok, Err}
use Rattle.std.proofs.lemmas.Grind.{common_steps}
use Rattle.std.proofs.lemmas.List.{drop_more, take_more}
use Rattle.sp_frame.specs.declared.refusal.Refusal.{Refusal}
use Rattle.sp_frame.specs.declared.refusal.Stop.{Stop}
use Rattle.sp_frame.specs.declared.refusal.Stop.TheVariants as stop
use Rattle.sp_frame.specs.Steps.{Demand, Does, StopsFor}
use Rattle.sp_hierarchy_rows.specs.Lowest.{AreDifferent}
use Rattle.sp_hierarchy_rows.specs.Names.{with_name, with_rows}
use Rattle.sp_hierarchy_rows.specs.Rows.{IsUpper, RowJudged, RowsJudged}
use Rattle.sp_hierarchy_rows.proofs.Chains.{Row}

-- a rule that doesn't hold is refused
pub stops : (rule : Type 0) (r : Refusal) (s : Stop) → ¬ rule → StopsFor r s → Does (Demand rule r) (Err s)
stops rule r (stop.Refused e) broken is = inr (broken, ap Err is)
stops rule r stop.Memory broken is = tt

-- ---- no interface is the upper one of two rows

upper_cases : (rows : List Row) (row : Row) (x : List ℕ) → IsUpper (rows ++ row ∷ []) x → (IsUpper rows x) ⊎ (row.0.name ≡ x)
upper_cases [] row x (inl h) = inr h
upper_cases [] row x (inr h) = absurd h
upper_cases (r ∷ rows) row x (inl h) = inl (inl h)
upper_cases (r ∷ rows) row x (inr h) = elim (upper_cases rows row x h) [
  | inl u ↦ inl (inr u)
  | inr e ↦ inr e
]

pub different_more : (rows : List Row) (row : Row) → AreDifferent rows → ¬ IsUpper rows row.0.name → AreDifferent (rows ++ row ∷ [])
different_more [] row d free = (λ u. u, tt)
different_more (r ∷ rows) row d free = (
  λ u. elim (upper_cases rows row r.0.name u) [
    | inl v ↦ d.0 v
    | inr e ↦ free (inl (sym e))
  ],
  different_more rows row d.1 (λ u. free (inr u)),
)

-- ---- the rows in order

-- what comes of the rest, behind these, comes of all
abbrev pub First : List ℕ → List Row → List Row → List Row → Type 0
First file rows before rest = (r : Result (Unit {0}) Refusal) → RowsJudged file before rest r → RowsJudged file [] rows r

here : (rows : List Row) (k : ℕ) (row : Row) → k < length rows → row ≡ get_or rows k row → drop k rows ≡ row ∷ drop (k + 1) rows
here rows k row h e = drop_more rows k row h ∙ ap (λ y. y ∷ drop (k + 1) rows) (sym e)

pub taken : (rows : List Row) (k : ℕ) (row : Row) → k < length rows → row ≡ get_or rows k row → take (k + 1) rows ≡ take k rows ++ row ∷ []
taken rows k row h e = grind (arith, common_steps, take_more)

module _ (file : List ℕ) (rows : List Row) (k : ℕ) (row : Row) (h : k < length rows) (e : row ≡ get_or rows k row) (first : First file rows (take k rows) (drop k rows)) where
  first_here : First file rows (take k rows) (row ∷ drop (k + 1) rows)
  first_here = subst (First file rows (take k rows)) (here rows k row h e) first

  pub next_judged : RowJudged file (take k rows) row (Ok tt) → First file rows (take (k + 1) rows) (drop (k + 1) rows)
  next_judged judged = subst (λ before. First file rows before (drop (k + 1) rows)) (sym (taken rows k row h e)) (λ r rest. first_here r (Ok tt, judged, rest))

  pub next_refused : (s : Stop) → Does (RowJudged file (take k rows) row) (Err s) → Does (RowsJudged file [] rows) (Err s)
  next_refused (stop.Refused x) now = first_here (Err x) (Err x, now, refl)
  next_refused stop.Memory now = tt

at_end : (rows : List Row) (k : ℕ) → length rows ≤ k → drop k rows ≡ []
at_end rows k h = grind (arith, common_steps)

pub all_judged : (file : List ℕ) (rows : List Row) (k : ℕ) → length rows ≤ k → First file rows (take k rows) (drop k rows) → RowsJudged file [] rows (Ok tt)
all_judged file rows k h first = subst (First file rows (take k rows)) (at_end rows k h) first (Ok tt) refl

-- ---- the names

pub names_here : (rows : List Row) (k : ℕ) (row : Row) (names : List (List ℕ)) → k < length rows → row ≡ get_or rows k row
    → with_rows names (drop k rows) ≡ with_rows (with_name (with_name names row.0.name) row.1.name) (drop (k + 1) rows)
names_here rows k row names h e = ap (with_rows names) (here rows k row h e)

pub names_end : (rows : List Row) (k : ℕ) (names : List (List ℕ)) → length rows ≤ k → with_rows names (drop k rows) ≡ names
names_end rows k names h = ap (with_rows names) (at_end rows k h)
