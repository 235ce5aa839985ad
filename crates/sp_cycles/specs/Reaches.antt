-- How the functions are found to which chains lead: one after the other, those one step behind each, until there are no
-- more.
use Rattle.std.specs.Prelude.{◌≡◌, ℕ, Bool, ◌==◌, ◌&&◌, nat_eq, List, [], ◌∷◌, ◌++◌, if◌then◌else◌}
use Rattle.std.specs.List.{list_any}
use Rattle.sp_cycles.specs.Order.{is_led}
use Rattle.sp_cycles.specs.declared.order.Quoted.{Quoted}
use Rattle.sp_cycles.specs.declared.order.Reach.{Reach}

-- whether the function is one of these
abbrev pub is_among : List ℕ → ℕ → Bool
is_among xs g = list_any (λ x. nat_eq x g) xs

-- the functions and one more, if it is none of them
abbrev pub with_new : List ℕ → ℕ → List ℕ
with_new xs g = if is_among xs g then xs else xs ++ g ∷ []

-- the functions and those that read function h new
abbrev pub with_readers : List Quoted → ℕ → List ℕ → List ℕ
with_readers [] h xs = xs
with_readers (q ∷ qs) h xs = with_readers qs h (if q.read == h then with_new xs q.changed else xs)

-- all functions to which a chain leads from one
abbrev pub IsReach : List Quoted → Reach → Type 0
IsReach qs r = (g : ℕ) → is_among r.led g ≡ is_led qs r.from g

-- whether the functions behind h are known, and whether g is one of them
abbrev pub is_known : List Reach → ℕ → Bool
is_known rs h = list_any (λ r. nat_eq r.from h) rs

abbrev pub is_told : List Reach → ℕ → ℕ → Bool
is_told rs h g = list_any (λ r. nat_eq r.from h && is_among r.led g) rs
