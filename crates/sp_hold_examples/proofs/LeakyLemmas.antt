-- Files without the exceptions of `write`: only the change formula doesn't hold, and the specification isn't secure.
use Rattle.std.proofs.Common.{◌≡◌, refl, sym, ◌∙◌, subst, Bool, true, false, not, [], ◌∷◌}
use Rattle.std.specs.Prelude.{codes, pos}
use Rattle.std.specs.List.{All}
use Rattle.std.proofs.lemmas.List.Elements.{All-cons, All-head, All-nil, All-tail}
use Rattle.sp_lattice.specs.Order.{IsLatticeOrder, Order}
use Rattle.sp_values.specs.declared.value.Value.TheVariants as value
use Rattle.sp_core.specs.declared.function.Answer.{Answer}
use Rattle.sp_core.specs.declared.function.Answer.TheVariants as answer
use Rattle.sp_values.specs.declared.value.Op.TheVariants as op
use Rattle.sp_core.specs.Instances.{IsSecure, filling_of, machine_of}
use Rattle.sp_core.specs.Machine.{IsInvocation, Machine, Run, initial_state}
use Rattle.sp_core.specs.Security.{purge, seen}
use Rattle.sp_core.specs.Tree.{Tree, Not, Param, Two, Var, more, none}
use Rattle.sp_core.proofs.Levels.{initial_typed}
use Rattle.sp_core.proofs.TreeLemmas.{effect_lemmas, tree_lemmas}
use Rattle.sp_sequent.specs.declared.formula.FormulaKind.TheVariants as is
use Rattle.sp_claims.specs.Models.{ClaimHolds, IsHeldOver}
use Rattle.sp_formulas.specs.Assertions.{is_unknown}
use Rattle.sp_formulas.specs.Formulas.{Formula, formulas}
use Rattle.sp_hold.specs.Holding.{claim}
use Rattle.sp_examples.specs.Common.{IsLowHigh}
use Rattle.sp_examples.specs.WorkedFiles.{file, leaky, number, read_function, small, user, write_function}
use Rattle.sp_examples.proofs.WorkedLemmas.{high_not_below, leaky_answers, low_below, read_step, reads, small_is_admissible, small_is_instance, writes, written}
use Rattle.sp_hold_examples.specs.Theorems.{OthersHold}

-- cls(f) <= clr(u)
abbrev readable : Tree
readable = Two op.LevelLe (Param 1 (more (Var 1) none)) (Param 0 (more (Var 0) none))

-- what `read` answers is data of the file; it isn't read where the exception is TRUE
abbrev read_formula : Formula
read_formula = record {
  kind = is.ResultReference;
  fun = 1;
  name = codes "read";
  vars = user ∷ file ∷ [];
  hypotheses = Not (is_unknown 0) ∷ Not (is_unknown 1) ∷ Not (Not readable) ∷ [];
  goal = readable;
}

-- `write` changes the file
abbrev write_formula : Formula
write_formula = record {
  kind = is.Change;
  fun = 2;
  name = codes "write";
  vars = user ∷ file ∷ number ∷ [];
  hypotheses = Not (is_unknown 0) ∷ Not (is_unknown 1) ∷ Not (is_unknown 2) ∷ [];
  goal = Two op.LevelLe (Param 0 (more (Var 0) none)) (Param 1 (more (Var 1) none));
}

the_list : (o : Order) → formulas (leaky o) ≡ read_formula ∷ write_formula ∷ []
the_list o = simp (effect_lemmas, tree_lemmas) refl

twice_not : (b : Bool) → not (not b) ≡ true → b ≡ true
twice_not true e = refl
twice_not false e = e

read_holds : (o : Order) → ClaimHolds (leaky o) (claim read_formula)
read_holds o i inst s t state new x typed held =
    let m = machine_of (leaky o) i in
    let first = All-tail (IsHeldOver m s t x) (Not (is_unknown 0)) (Not (is_unknown 1) ∷ Not (Not readable) ∷ []) held in
    let second = All-tail (IsHeldOver m s t x) (Not (is_unknown 1)) (Not (Not readable) ∷ []) first in
    twice_not _ (All-head (IsHeldOver m s t x) (Not (Not readable)) [] second)

pub others_hold : (o : Order) → OthersHold is.Change (leaky o)
others_hold o =
    subst (All (λ q. (q.kind ≡ is.Change → ⊥) → ClaimHolds (leaky o) (claim q))) (sym (the_list o))
    (All-cons (λ q. (q.kind ≡ is.Change → ⊥) → ClaimHolds (leaky o) (claim q)) read_formula (write_formula ∷ []) (λ other. read_holds o)
    (All-cons (λ q. (q.kind ≡ is.Change → ⊥) → ClaimHolds (leaky o) (claim q)) write_formula [] (λ other. absurd (other refl)) (All-nil (λ q. (q.kind ≡ is.Change → ⊥) → ClaimHolds (leaky o) (claim q)))))

-- Not secure

abbrev machine : Order → Machine
machine o = machine_of (leaky o) (filling_of small)

calls : (o : Order) → All (IsInvocation (machine o)) (writes ∷ reads ∷ [])
calls o =
    All-cons (IsInvocation (machine o)) writes (reads ∷ []) (write_function [], record { function = refl; visible = refl; arguments = refl })
    (All-cons (IsInvocation (machine o)) reads [] (read_function, record { function = refl; visible = refl; arguments = refl }) (All-nil (IsInvocation (machine o))))

purged_list : (o : Order) → IsLowHigh o → purge (machine o) 0 (writes ∷ reads ∷ []) ≡ reads ∷ []
purged_list o h = simp (tree_lemmas, low_below o h, high_not_below o h) refl

seen_list : (o : Order) → IsLowHigh o → (a b : Answer) → seen (machine o) 0 (writes ∷ reads ∷ []) (a ∷ b ∷ []) ≡ b ∷ []
seen_list o h a b = simp (tree_lemmas, low_below o h, high_not_below o h) refl

purged_run : (o : Order) → IsLowHigh o → Run (machine o) initial_state (reads ∷ []) (answer.Value (value.Int (pos 0)) ∷ []) initial_state
purged_run o h = (initial_state, read_step [] (codes "leaky") o h initial_state (value.Int (pos 0)) (simp tree_lemmas refl), refl)

-- purged, bob reads the initial value; else what alice wrote
pub leaky_is_not_secure : (o : Order) → IsLatticeOrder o → IsLowHigh o → IsSecure (leaky o) → ⊥
leaky_is_not_secure o lattice h secure =
    let own = secure (filling_of small) (small_is_instance [] (codes "leaky") o h.count_same).instance (small_is_admissible [] (codes "leaky") o) in
    let r = own.hides_above.hides 0 initial_state initial_state (writes ∷ reads ∷ []) lattice.some (initial_typed (machine o)) (initial_typed (machine o)) (record { same = λ g v n. refl }) (calls o)
    (answer.Done ∷ answer.Value (value.Int (pos 7)) ∷ []) (answer.Value (value.Int (pos 0)) ∷ []) written initial_state (leaky_answers o h) (subst (λ is'. Run (machine o) initial_state is' (answer.Value (value.Int (pos 0)) ∷ []) initial_state) (sym (purged_list o h)) (purged_run o h)) in
    let e : answer.Value (value.Int (pos 0)) ∷ [] ≡ answer.Value (value.Int (pos 7)) ∷ [] = r.0 ∙ seen_list o h answer.Done (answer.Value (value.Int (pos 7))) in
    cc
