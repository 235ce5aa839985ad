-- The forms that a grammar is written in, over the tokens of one text, and what a reader may find of them within a budget of
-- height. For the grammars of all texts and the contracts of their readers. A place is the number of a token.
use Rattle.std.specs.Prelude.{if◌then◌else◌, ◌≡◌, ℕ, zero, suc, ◌<◌, ◌≤◌, ◌⊎◌, Bool, true, false, not, ◌&&◌, ◌||◌, eqb, IsTrue, List, [], ◌∷◌, Option, Some, None}

-- Which tokens, from one place to another, are whole and stand for a value, and which end within the form: they are whole
-- parts of it, followed by the front of its next part. A token's own front is the empty list alone: a whole token is a
-- whole part, behind which the front of the next part has to be possible, within its budget.
pub record Lang (V : Type 0) : Type 1 where
  pub whole : V → ℕ → ℕ → Type 0
  pub part : ℕ → ℕ → Type 0

-- the tokens from i to m are a prefix of the form
abbrev pub Prefix : {V : Type 0} → Lang V → ℕ → ℕ → Type 0
Prefix {V} L i m = L.part i m ⊎ ((v : V) × L.whole v i m)

-- a form that has no tokens at all
abbrev pub nothing : {V : Type 0} → Lang V
nothing = record { whole = λ v i j. ⊥; part = λ i m. ⊥ }

-- f, then g
abbrev pub seq : {A B : Type 0} → Lang A → Lang B → Lang (A × B)
seq {A} {B} f g = record {
  whole = λ v i j. (k : ℕ) × f.whole v.0 i k × g.whole v.1 k j;
  part = λ i m. f.part i m ⊎ ((a : A) × (k : ℕ) × f.whole a i k × g.part k m);
}

abbrev pub either : {V : Type 0} → Lang V → Lang V → Lang V
either f g = record {
  whole = λ v i j. f.whole v i j ⊎ g.whole v i j;
  part = λ i m. f.part i m ⊎ g.part i m;
}

-- f, with what h makes of its value and of the places
abbrev pub made : {A B : Type 0} → (A → ℕ → ℕ → B) → Lang A → Lang B
made {A} h f = record {
  whole = λ v i j. (a : A) × (v ≡ h a i j) × f.whole a i j;
  part = f.part;
}

abbrev pub all_whole : {V : Type 0} → Lang V → List V → ℕ → ℕ → Type 0
all_whole f [] i j = i ≡ j
all_whole f (v ∷ vs) i j = (k : ℕ) × f.whole v i k × all_whole f vs k j

-- any number of f
abbrev pub star : {V : Type 0} → Lang V → Lang (List V)
star {V} f = record {
  whole = all_whole f;
  part = λ i m. (vs : List V) × (k : ℕ) × all_whole f vs i k × f.part k m;
}

abbrev pub maybe_whole : {V : Type 0} → Lang V → Option V → ℕ → ℕ → Type 0
maybe_whole f None i j = i ≡ j
maybe_whole f (Some v) i j = f.whole v i j

abbrev pub optional : {V : Type 0} → Lang V → Lang (Option V)
optional f = record { whole = maybe_whole f; part = f.part }

module _ (at : ℕ → ℕ) where
  -- a token of this code
  abbrev pub token : ℕ → Lang (Unit {0})
  token c = record { whole = λ v i j. (at i ≡ c) × (j ≡ suc i); part = λ i m. i ≡ m }

abbrev pub has : List ℕ → ℕ → Bool
has [] n = false
has (x ∷ xs) n = eqb x n || has xs n

abbrev pub apart : List ℕ → List ℕ → Bool
apart [] ys = true
apart (x ∷ xs) ys = not (has ys x) && apart xs ys

module _ {V : Type 0} (at : ℕ → ℕ) (ops : List ℕ) (make : ℕ → V → V → ℕ → ℕ → V) where
  -- f alone, or a left part, an operator and a right part
  abbrev pub binary : Lang V → Lang V → Lang V → Lang V
  binary f left right = record {
    whole = λ v i j. f.whole v i j
        ⊎ ((l : V) × (r : V) × (k : ℕ) × left.whole l i k × IsTrue (has ops (at k)) × right.whole r (suc k) j × (v ≡ make (at k) l r i j));
    part = λ i m. f.part i m
        ⊎ ((l : V) × (k : ℕ) × left.whole l i k × ((k ≡ m) ⊎ (IsTrue (has ops (at k)) × right.part (suc k) m)));
  }

-- A form with a budget of height: F b is the form within the budget b.

-- Within the budget b the tokens from i to j are F and stand for v, and with no token more they are a prefix of it, whatever
-- the budget; h is the height: the least budget that is enough.
pub record Measures {V : Type 0} (F : ℕ → Lang V) (b : ℕ) (v : V) (h i j : ℕ) : Type 0 where
  pub whole : (F h).whole v i j
  pub fits : h ≤ b
  pub least : (c : ℕ) (w : V) → (F c).whole w i j → h ≤ c
  pub front : (c m : ℕ) → Prefix (F c) i m → m ≤ j

-- The tokens from i to n are a prefix of F within the budget b, they aren't F, and with one token more they are a prefix of F within no budget.
pub record Stops {V : Type 0} (F : ℕ → Lang V) (b i n : ℕ) : Type 0 where
  pub so_far : Prefix (F b) i n
  pub front : (c m : ℕ) → Prefix (F c) i m → m ≤ n
  pub not_whole : (c : ℕ) (v : V) → (F c).whole v i n → ⊥

-- The tokens from i to n are a prefix of F within the budget b, and with one token more they are one within a larger budget alone.
pub record Exceeds {V : Type 0} (F : ℕ → Lang V) (b i n : ℕ) : Type 0 where
  pub so_far : Prefix (F b) i n
  pub front : (m : ℕ) → Prefix (F b) i m → m ≤ n
  pub over : (c : ℕ) × Prefix (F c) i (suc n)

-- one less to spend on height
abbrev pub lower : {V : Type 0} → (ℕ → Lang V) → ℕ → Lang V
lower F zero = nothing
lower F (suc b) = F b

-- where a form is refused
pub data Refusal : Type 0 where
  stops : ℕ → Refusal
  exceeds : ℕ → Refusal

abbrev pub Refuses : {V : Type 0} → (ℕ → Lang V) → ℕ → ℕ → Refusal → Type 0
Refuses F b i (stops n) = Stops F b i n
Refuses F b i (exceeds n) = Exceeds F b i n

abbrev pub place : Refusal → ℕ
place (stops n) = n
place (exceeds n) = n

abbrev pub subset : List ℕ → List ℕ → Bool
subset [] ys = true
subset (x ∷ xs) ys = has ys x && subset xs ys

-- nothing, where the empty list is a prefix of f
abbrev pub room : {V : Type 0} → Lang V → Lang (Unit {0})
room f = record { whole = λ u i j. (i ≡ j) × f.part i i; part = λ i m. ⊥ }

-- f that begins with no token of these
module _ (at : ℕ → ℕ) (xs : List ℕ) where
  abbrev pub not_from : {V : Type 0} → Lang V → Lang V
  not_from f = record {
    whole = λ v i j. f.whole v i j × (IsTrue (has xs (at i)) → ⊥);
    part = λ i m. f.part i m × ((i < m) → IsTrue (has xs (at i)) → ⊥);
  }

-- the set without these
abbrev pub without : List ℕ → List ℕ → List ℕ
without xs [] = []
without xs (y ∷ ys) = if has xs y then without xs ys else y ∷ without xs ys

-- a token of this code, then f
module _ (at : ℕ → ℕ) where
  abbrev pub behind : {V : Type 0} → ℕ → Lang V → Lang V
  behind {V} c f = made (λ (p : Unit {0} × V) (i : ℕ) (j : ℕ). p.1) (seq (token at c) f)
