-- The first of a list by an order, and lists of which the second counts only where the first is empty. For all that judges.
use Rattle.std.specs.Prelude.{List, [], ◌∷◌, Bool, Option, Some, None, if◌then◌else◌}

-- the sooner of two; of two that stand alike, the one that is listed first
abbrev pub earlier_by : {A : Type 0} → (A → A → Bool) → A → A → A
earlier_by sooner f g = if sooner g f then g else f

-- the sooner of two that may be there
abbrev pub earliest_by : {A : Type 0} → (A → A → Bool) → Option A → Option A → Option A
earliest_by sooner None y = y
earliest_by sooner (Some f) None = Some f
earliest_by sooner (Some f) (Some g) = Some (earlier_by sooner f g)

-- the first of a list
abbrev pub first_by : {A : Type 0} → (A → A → Bool) → List A → Option A
first_by sooner [] = None
first_by sooner (f ∷ fs) = earliest_by sooner (Some f) (first_by sooner fs)

-- What a part breaks, where the parts that it is made of break `inner` and it would break `own` by itself: it is judged only
-- where they break nothing. Likewise what a later pass finds counts only where an earlier one finds nothing.
abbrev pub behind : {A : Type 0} → List A → List A → List A
behind [] own = own
behind (f ∷ fs) own = f ∷ fs
