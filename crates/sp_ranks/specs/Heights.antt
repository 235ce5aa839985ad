-- How the ranks of changed functions are found: chains of at most so many steps are made longer by one, step by step.
use Rattle.std.specs.Prelude.{ℕ, zero, suc, ◌==◌, max, if◌then◌else◌, List, [], ◌∷◌, map}
use Rattle.sp_core.specs.Effects.{GuardedChange}
use Rattle.sp_core.specs.Ranks.{change_reads, greatest}
use Rattle.sp_ranks.specs.declared.heights.Height.{Height}

-- how many steps the longest chain has that ends at function g, by the heights of changes; 0 where it isn't changed
abbrev pub height_of : List Height → ℕ → ℕ
height_of [] g = 0
height_of (h ∷ hs) g = if h.fun == g then max h.steps (height_of hs g) else height_of hs g

-- one step more than the longest chain that ends at one of these functions
abbrev pub height_above : List Height → List ℕ → ℕ
height_above hs gs = greatest (λ g. suc (height_of hs g)) gs

-- the heights of changes, where these are those of one step less
abbrev pub raised : List Height → List GuardedChange → List Height
raised hs as' = map (λ a. record { fun = a.fun; steps = height_above hs (change_reads a) }) as'

-- the heights by chains of at most n steps
abbrev pub heights_within : List GuardedChange → ℕ → List Height
heights_within as' zero = []
heights_within as' (suc n) = raised (heights_within as' n) as'
