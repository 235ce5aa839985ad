-- What stands in one line, read from its front.
use Rattle.std.specs.Prelude.{ℕ, ◌+◌, ◌-◌, ◌*◌, ◌==◌, ◌||◌, ◌&&◌, nat_le, Bool, false, if◌then◌else◌, List, [], ◌∷◌, Option, Some, None, option_and_then, codes}
use Rattle.sp_text.specs.Classes.{digit_byte}
use Rattle.sp_rules.specs.declared.fact.Fact.{Fact}
use Rattle.sp_rules.specs.declared.fact.Fact.TheVariants as fact
use Rattle.sp_rules.specs.declared.fact.Step.{Step}
use Rattle.sp_cert.specs.declared.line.NodeLine.{NodeLine}
use Rattle.sp_cert.specs.declared.line.NodeLine.TheVariants as node

infixl 10 ◌>>=◌
abbrev pub ◌>>=◌ : {A B : Type 0} → Option A → (A → Option B) → Option B
o >>= f = option_and_then f o

-- what stands behind these bytes
unfoldable pub behind_mark : List ℕ → List ℕ → Option (List ℕ)
behind_mark [] l = Some l
behind_mark (c ∷ cs) [] = None
behind_mark (c ∷ cs) (b ∷ l) = if c == b then behind_mark cs l else None

-- the digits at the front, read behind those of v, and what stands behind them; none where the number is too large
unfoldable pub digits_after : ℕ → List ℕ → Option (ℕ × List ℕ)
digits_after v [] = Some (v, [])
digits_after v (b ∷ l) =
    if digit_byte b then (if nat_le (10 * v + (b - 48)) 4294967295 then digits_after (10 * v + (b - 48)) l else None) else Some (v, b ∷ l)

abbrev pub begins_digit : List ℕ → Bool
begins_digit [] = false
begins_digit (b ∷ l) = digit_byte b

-- the number at the front, without leading zeros and at most 4294967295, and what stands behind it
unfoldable pub number : List ℕ → Option (ℕ × List ℕ)
number [] = None
number (b ∷ l) =
    if b == 48 then (if begins_digit l then None else Some (0, l)) else (if digit_byte b then digits_after 0 (b ∷ l) else None)

-- a number behind these bytes
unfoldable pub field : List ℕ → List ℕ → Option (ℕ × List ℕ)
field mark l = do
  rest ← behind_mark mark l
  number rest

-- v where nothing is left
abbrev pub ended : {A : Type 0} → A → List ℕ → Option A
ended v [] = Some v
ended v (b ∷ l) = None

-- a number behind these bytes and nothing behind it
unfoldable pub last_field : List ℕ → List ℕ → Option ℕ
last_field mark l = do
  f ← field mark l
  ended f.0 f.1

unfoldable pub pair : List ℕ → List ℕ → Option (ℕ × ℕ × List ℕ)
pair mark l = do
  i ← field mark l
  j ← field (codes " ") i.1
  Some (i.0, j.0, j.1)

abbrev pub fact_or : Option (ℕ × ℕ × List ℕ) → List ℕ → Option (Fact × List ℕ)
fact_or (Some (i, j, rest)) l = Some (fact.Eq i j, rest)
fact_or None l = do
  p ← pair (codes "LE ") l
  Some (fact.Le p.0 p.1, p.2)

unfoldable pub fact_of : List ℕ → Option (Fact × List ℕ)
fact_of l = fact_or (pair (codes "EQ ") l) l

abbrev pub rule_in_range : ℕ → Bool
rule_in_range r = nat_le 1 r && nat_le r 23

unfoldable pub step_of : List ℕ → Option Step
step_of l = do
  f ← fact_of l
  r ← field (codes " K") f.1
  p ← field (codes " ") r.1
  q ← last_field (codes " ") p.1
  if rule_in_range r.0 then Some (record { fact = f.0; rule = r.0; p = p.0; q = q }) else None

abbrev pub steps_in : ℕ → ℕ → Option NodeLine
steps_in v k = if v == 2 then Some (node.Steps k) else None

abbrev pub leaf_or : ℕ → Option ℕ → List ℕ → Option NodeLine
leaf_or v (Some k) l = Some (node.Leaf k)
leaf_or v None l = do
  k ← last_field (codes "STEPS ") l
  steps_in v k

abbrev pub node_or : ℕ → Option ℕ → List ℕ → Option NodeLine
node_or v (Some a) l = Some (node.Split a)
node_or v None l = leaf_or v (last_field (codes "LEAF ") l) l

-- the node that a line begins in format v
unfoldable pub node_of : ℕ → List ℕ → Option NodeLine
node_of v l = node_or v (last_field (codes "SPLIT ") l) l

unfoldable pub formula_of : List ℕ → Option ℕ
formula_of l = last_field (codes "FORMULA ") l

abbrev pub is_number : ℕ → Option ℕ → Bool
is_number n (Some m) = n == m
is_number n None = false

-- the n-th formula's line
unfoldable pub is_formula : ℕ → List ℕ → Bool
is_formula n l = is_number n (formula_of l)

abbrev pub in_format : ℕ → Option ℕ
in_format v = if (v == 1) || (v == 2) then Some v else None

-- the format that a first line names, 1 or 2
unfoldable pub format_of : List ℕ → Option ℕ
format_of l = do
  v ← last_field (codes "CERT ") l
  in_format v
