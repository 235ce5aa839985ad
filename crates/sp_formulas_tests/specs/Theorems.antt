-- What the worked specifications show, each stated here and proved at a function of `theorems`.
use Rattle.std.specs.Prelude.{◌≡◌, [], ◌∷◌, length}
use Rattle.sp_lattice.specs.Order.{Order}
use Rattle.sp_sequent.specs.Limits.{formula_terms}
use Rattle.sp_sequent.specs.Subterms.{quantified}
use Rattle.sp_formulas.specs.Formulas.{formulas}
use Rattle.sp_examples.specs.Stacks.{stacks}
use Rattle.sp_formulas_tests.specs.Lists.{both_list, box_list, mark_agreement, mark_change, mark_list, pool_list, repeated_list, stack_list, switch_list}
use Rattle.sp_formulas_tests.specs.Worked.{base_below_one, base_below_two, boxes, marks, pools, seen_by_one, seen_by_two, switches}

-- what a change's target reads flows below the level of the function that makes it
abbrev pub TargetsFlow : Type 0
TargetsFlow = (o : Order) → formulas (boxes o) ≡ box_list

-- two changes of one function agree where both are made
abbrev pub ChangesAgree : Type 0
ChangesAgree = (o : Order) → formulas (switches o) ≡ switch_list

-- a derivation's arguments may be `?`, and then an assertion says nothing of them
abbrev pub AssertionsAreShielded : Type 0
AssertionsAreShielded = (o : Order) → formulas (pools (base_below_one ∷ []) seen_by_one o) ≡ pool_list

-- an assertion about two users holds for one user twice, shielded twice; and for each two of two users
abbrev pub TuplesMayRepeat : Type 0
TuplesMayRepeat = (o : Order) → formulas (pools (base_below_one ∷ base_below_two ∷ []) seen_by_one o) ≡ repeated_list

abbrev pub TuplesAreInOrder : Type 0
TuplesAreInOrder = (o : Order) → formulas (pools (base_below_two ∷ []) seen_by_two o) ≡ both_list

-- references within arguments come before their own, and new values are read where old ones are
abbrev pub NewValuesFlow : Type 0
NewValuesFlow = (o : Order) → formulas (stacks o) ≡ stack_list

-- below FORALL effects each change has its own variables in an agreement
abbrev pub BoundChangesAgree : Type 0
BoundChangesAgree = (o : Order) → formulas (marks o) ≡ mark_list

-- equal quantifiers at different depths are one term of a formula
abbrev pub QuantifiersAreOneTerm : Type 0
QuantifiersAreOneTerm =
    (length (quantified (formula_terms mark_change.hypotheses mark_change.goal)) ≡ 1) × (length (quantified (formula_terms mark_agreement.hypotheses mark_agreement.goal)) ≡ 1)
