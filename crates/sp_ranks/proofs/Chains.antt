-- The heights of changes are those of the longest chains.
use Rattle.std.proofs.Common.{◌≡◌, refl, sym, ◌∙◌, ap, arith, ℕ, zero, suc, ◌≤◌, Bool, true, false, List, [], ◌∷◌, ◌++◌, length, map}
use Rattle.std.specs.Prelude.{if◌then◌else◌, ◌==◌, max}
use Rattle.std.proofs.lemmas.List.{length-map}
use mathlib.Core.Path.{fun_ext}
use Rattle.sp_text.specs.declared.limits.TheConstants.{MOST_CHANGES}
use Rattle.sp_values.specs.declared.value.Ty.{Ty}
use Rattle.sp_core.specs.Effects.{GuardedChange, change_under, change_within}
use Rattle.sp_core.specs.Ranks.{change_rank, change_reads, functions_before, greatest, longest_within}
use Rattle.sp_core.specs.Tree.{Tree}
use Rattle.sp_ranks.specs.declared.heights.Height.{Height}
use Rattle.sp_ranks.specs.Heights.{height_above, height_of, heights_within, raised}

pub greatest-append : (f : ℕ → ℕ) (gs hs : List ℕ) → greatest f (gs ++ hs) ≡ max (greatest f gs) (greatest f hs)
greatest-append f [] hs = omega arith
greatest-append f (g ∷ gs) hs = let ih = greatest-append f gs hs in omega (arith, ih)

-- the heights of changes give each function the longest of what its changes read
height_raised : (hs : List Height) (as' : List GuardedChange) (g : ℕ) → height_of (raised hs as') g ≡ height_above hs (functions_before as' g)
height_raised hs [] g = refl
height_raised hs (a ∷ as') g = by (a.fun == g) (height_raised hs as' g)
  where
    by : (b : Bool) → height_of (raised hs as') g ≡ height_above hs (functions_before as' g)
        → (if b then max (height_above hs (change_reads a)) (height_of (raised hs as') g) else height_of (raised hs as') g)
        ≡ height_above hs (if b then change_reads a ++ functions_before as' g else functions_before as' g)
    by true ih = ap (λ n. max (height_above hs (change_reads a)) n) ih ∙ sym (greatest-append (λ h. suc (height_of hs h)) (change_reads a) (functions_before as' g))
    by false ih = ih

pub height_within : (as' : List GuardedChange) (n g : ℕ) → height_of (heights_within as' n) g ≡ longest_within as' n g
height_within as' zero g = refl
height_within as' (suc n) g =
    height_raised (heights_within as' n) as' g ∙ ap (λ f. greatest f (functions_before as' g)) (fun_ext (λ h. ap suc (height_within as' n h)))

greatest_least : (f : ℕ → ℕ) (n : ℕ) → ((g : ℕ) → f g ≤ n) → (gs : List ℕ) → greatest f gs ≤ n
greatest_least f n h [] = omega arith
greatest_least f n h (g ∷ gs) = let here = h g in let ih = greatest_least f n h gs in omega (arith, here, ih)

pub within_steps : (as' : List GuardedChange) (n g : ℕ) → longest_within as' n g ≤ n
within_steps as' zero g = omega arith
within_steps as' (suc n) g = greatest_least (λ h. suc (longest_within as' n h)) (suc n) (λ h. let l = within_steps as' n h in omega (arith, l)) (functions_before as' g)

pub low_heights : (as' : List GuardedChange) (n : ℕ) → n ≤ MOST_CHANGES → (hs : List Height) → hs ≡ heights_within as' n → (g : ℕ) → height_of hs g ≤ MOST_CHANGES
low_heights as' n l hs e g =
    let q : height_of hs g ≡ longest_within as' n g = ap (λ hs. height_of hs g) e ∙ height_within as' n g in
    let w = within_steps as' n g in
    omega (arith, q, w, l)

-- the ranks of the changes, by the heights of as long chains as there are changes
pub ranks_of : (as' bs : List GuardedChange) (hs : List Height) → hs ≡ heights_within as' (length as') → (os : List Height)
    → map (λ h. height_of hs h.fun) (raised os bs) ≡ map (λ a. change_rank as' a.fun) bs
ranks_of as' [] hs e os = refl
ranks_of as' (b ∷ bs) hs e os =
    λ i. (ap (λ hs. height_of hs b.fun) e ∙ height_within as' (length as') b.fun) i ∷ ranks_of as' bs hs e os i

-- without changes there are no heights, and with changes those of the last step are raised ones
pub all_ranks : (as' : List GuardedChange) (hs : List Height) → hs ≡ heights_within as' (length as') → map (λ h. height_of hs h.fun) hs ≡ map (λ a. change_rank as' a.fun) as'
all_ranks [] hs e = ap (λ ys. map (λ h. height_of hs h.fun) ys) e
all_ranks (a ∷ as') hs e = ap (λ ys. map (λ h. height_of hs h.fun) ys) e ∙ ranks_of (a ∷ as') (a ∷ as') hs e (heights_within (a ∷ as') (length as'))

-- the heights of the forms of effects
pub raised-append : (hs : List Height) (as' bs : List GuardedChange) → raised hs (as' ++ bs) ≡ raised hs as' ++ raised hs bs
raised-append hs [] bs = refl
raised-append hs (a ∷ as') bs = ap (λ ys. record { fun = a.fun; steps = height_above hs (change_reads a) } ∷ ys) (raised-append hs as' bs)

pub raised_under : (hs : List Height) (c : Tree) (as' : List GuardedChange) → raised hs (map (change_under c) as') ≡ raised hs as'
raised_under hs c [] = refl
raised_under hs c (a ∷ as') = ap (λ ys. record { fun = a.fun; steps = height_above hs (change_reads a) } ∷ ys) (raised_under hs c as')

pub length_raised : (hs : List Height) (as' : List GuardedChange) → length (raised hs as') ≡ length as'
length_raised hs as' = length-map as' (λ a. record { fun = a.fun; steps = height_above hs (change_reads a) })

pub raised_within : (hs : List Height) (t : Ty) (as' : List GuardedChange) → raised hs (map (change_within t) as') ≡ raised hs as'
raised_within hs t [] = refl
raised_within hs t (a ∷ as') = ap (λ ys. record { fun = a.fun; steps = height_above hs (change_reads a) } ∷ ys) (raised_within hs t as')
