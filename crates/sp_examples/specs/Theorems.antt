-- What the worked specifications show, each stated here and proved at a function of `theorems`.
use Rattle.std.specs.Prelude.{◌≡◌, false, [], ◌∷◌, codes}
use Rattle.sp_lattice.specs.Order.{IsLatticeOrder, Order}
use Rattle.sp_values.specs.declared.value.Value.{Value}
use Rattle.sp_values.specs.Arithmetic.{difference, sum}
use Rattle.sp_values.specs.Identity.{same_value}
use Rattle.sp_core.specs.declared.function.Answer.TheVariants as answer
use Rattle.sp_core.specs.Instances.{Filling, IsSecure, machine_of}
use Rattle.sp_core.specs.Machine.{Run, initial_state}
use Rattle.sp_core.specs.Parts.{Parts}
use Rattle.sp_core.specs.Values.{Store, look}
use Rattle.sp_core.specs.WellFormed.{IsWellFormed}
use Rattle.sp_examples.specs.Common.{IsLowHigh, int, over_low_high}
use Rattle.sp_examples.specs.Counting.{counting_to}
use Rattle.sp_examples.specs.Lamps.{lamps, not_injective, one_name_twice, two_results}
use Rattle.sp_examples.specs.Stacks.{cycle_of_one, cycle_of_two, popped, pops, pushed, pushes, stacks}
use Rattle.sp_examples.specs.WorkedFiles.{leaky}

-- a specification over any lattice of two levels is well-formed, or over none
abbrev AreWellFormed : (Order → Parts) → Type 0
AreWellFormed p = (o : Order) → IsLatticeOrder o → o.count ≡ 2 → IsWellFormed (p o)

abbrev AreNotWellFormed : (Order → Parts) → Type 0
AreNotWellFormed p = (o : Order) → IsWellFormed (p o) → ⊥

-- Security

-- files without the exceptions of `write` aren't secure, though they are well-formed: HIGH data flow to LOW
abbrev pub LeakyIsNotSecure : Type 0
LeakyIsNotSecure = AreWellFormed leaky × ((o : Order) → IsLatticeOrder o → IsLowHigh o → IsSecure (leaky o) → ⊥)

-- a specification that does nothing
abbrev pub silent : Order → Parts
silent = over_low_high (codes "silent") [] []

-- it is secure
abbrev pub SilentIsSecure : Type 0
SilentIsSecure = AreWellFormed silent × ((o : Order) → IsSecure (silent o))

-- Well-formed, and not

abbrev pub EffectsWithConditionsAndQuantifiers : Type 0
EffectsWithConditionsAndQuantifiers = AreWellFormed lamps

abbrev pub SecondResultIsRefused : Type 0
SecondResultIsRefused = AreNotWellFormed two_results

abbrev pub TargetThatIsNotInjectiveIsRefused : Type 0
TargetThatIsNotInjectiveIsRefused = AreNotWellFormed not_injective

abbrev pub NameThatStandsTwiceIsRefused : Type 0
NameThatStandsTwiceIsRefused = AreNotWellFormed one_name_twice

-- a chain of sixteen derivations is within the limit, one of seventeen isn't
abbrev pub SeventeenDerivationsAreRefused : Type 0
SeventeenDerivationsAreRefused = AreWellFormed (counting_to 17) × AreNotWellFormed (counting_to 18)

-- New values

abbrev pub StacksAreWellFormed : Type 0
StacksAreWellFormed = AreWellFormed stacks

abbrev pub CyclesAreRefused : Type 0
CyclesAreRefused = AreNotWellFormed cycle_of_one × AreNotWellFormed cycle_of_two

-- from every state whose pointer p may be counted up and down again, `push` and then `pop` gives the value back, and the
-- pointer is as before
abbrev pub PopGivesWhatWasPushed : Type 0
PopGivesWhatWasPushed = (o : Order) (i : Filling) (s : Store) (k v p q : Value) → look (machine_of (stacks o) i).world (machine_of (stacks o) i).functions s 0 (k ∷ []) ≡ p →
    sum p (int 1) ≡ q → difference q (int 1) ≡ p → same_value q (int 0) ≡ false →
    Run (machine_of (stacks o) i) s (pushes k v ∷ pops k ∷ []) (answer.Done ∷ answer.Value v ∷ []) (popped k p (pushed k q v s))

-- the state after 5 and 6 were pushed
abbrev pub two_pushed : Value → Store
two_pushed k = pushed k (int 2) (int 6) (pushed k (int 1) (int 5) initial_state)

-- from the initial state, on one stack: push 5, push 6, and pop thrice
abbrev pub LastPushedIsFirstPopped : Type 0
LastPushedIsFirstPopped = (o : Order) (i : Filling) (k : Value) →
    Run (machine_of (stacks o) i) initial_state (pushes k (int 5) ∷ pushes k (int 6) ∷ pops k ∷ pops k ∷ pops k ∷ [])
    (answer.Done ∷ answer.Done ∷ answer.Value (int 6) ∷ answer.Value (int 5) ∷ answer.Exception 0 ∷ [])
    (popped k (int 0) (popped k (int 1) (two_pushed k)))
