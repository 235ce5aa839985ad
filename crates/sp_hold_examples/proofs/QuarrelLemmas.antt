-- A register that gets two values at once: the specification is well-formed, only its agreement formula doesn't hold, and
-- the operation has no step.
use Rattle.std.proofs.Common.{◌≡◌, refl, sym, ◌∙◌, subst, arith, ℕ, zero, suc, List, [], ◌∷◌, Some}
use Rattle.std.specs.Prelude.{codes, slice_get, true}
use Rattle.std.specs.List.{All}
use Rattle.std.proofs.lemmas.List.Elements.{All-cons, All-nil}
use Rattle.sp_lattice.specs.Order.{IsLatticeOrder, Order}
use Rattle.sp_values.specs.declared.place.Invocation.{Invocation}
use Rattle.sp_values.specs.declared.value.Op.TheVariants as op
use Rattle.sp_values.specs.declared.value.Ty.TheVariants as ty
use Rattle.sp_values.specs.declared.value.Value.TheVariants as value
use Rattle.sp_core.specs.declared.function.Answer.{Answer}
use Rattle.sp_core.specs.declared.function.Function.{Function}
use Rattle.sp_core.specs.Effects.{GuardedChange, changes_in, effect_trees}
use Rattle.sp_core.specs.Instances.{Filling, IsAdmissible, IsAsserted, IsInstance, IsSecure, machine_of, world_of}
use Rattle.sp_core.specs.Machine.{IsInvocation, IsNewState, Outcome, RunBy, Step, first_exception, initial_state}
use Rattle.sp_core.specs.Parts.{signature}
use Rattle.sp_core.specs.Ranks.{change_reads}
use Rattle.sp_core.specs.Tree.{Const, Two, none}
use Rattle.sp_core.specs.Values.{Store}
use Rattle.sp_core.specs.WellFormed.{IsFunction, IsInjective, IsKind, IsWellFormed}
use Rattle.sp_core.proofs.Levels.{initial_typed}
use Rattle.sp_core.proofs.NewStates.{new_state}
use Rattle.sp_core.proofs.RankLemmas.{no_new_no_cycle}
use Rattle.sp_core.proofs.TreeLemmas.{effect_lemmas, tree_lemmas}
use Rattle.sp_sequent.specs.declared.formula.FormulaKind.TheVariants as is
use Rattle.sp_claims.specs.Models.{ClaimHolds}
use Rattle.sp_formulas.specs.Formulas.{Formula, formulas}
use Rattle.sp_hold.specs.Holding.{claim}
use Rattle.sp_examples.specs.Common.{IsLowHigh, int, low}
use Rattle.sp_examples.proofs.NameLemmas.{some_same}
use Rattle.sp_examples.proofs.Parts.{All-one, All-two, function_fine, low_fine, no_formals, over_fine}
use Rattle.sp_examples.proofs.PlainChanges.{plain, plain_true}
use Rattle.sp_hold_examples.specs.Quarrel.{both_values, quarrel, register}
use Rattle.sp_hold_examples.specs.Theorems.{OthersHold}

abbrev first : GuardedChange
first = plain 0 none (Const (int 1))

abbrev second : GuardedChange
second = plain 0 none (Const (int 2))

the_changes : changes_in (effect_trees both_values.kind) ≡ first ∷ second ∷ []
the_changes = simp (effect_lemmas, tree_lemmas) refl

-- Well-formed

module _ (o : Order) (two : o.count ≡ 2) where
  register_kind : IsKind (signature (quarrel o)) [] 0 register.kind
  register_kind = record {
    type = refl;
    expression = simp tree_lemmas (record { typed = refl; few_nodes = omega arith; few_quantifiers = omega arith; no_new = tt });
    reads_nothing = simp tree_lemmas tt;
  }

  both_kind : IsKind (signature (quarrel o)) [] 1 both_values.kind
  both_kind = simp (effect_lemmas, tree_lemmas) (record {
    effects = record {
      effects = (
        (register, ty.Integer, refl, refl, tt, record { typed = refl; few_nodes = omega arith; few_quantifiers = omega arith }),
        ((register, ty.Integer, refl, refl, tt, record { typed = refl; few_nodes = omega arith; few_quantifiers = omega arith }), tt),
      );
      few_bound = omega arith;
      few_changes = omega arith;
      injective = All-two (IsInjective 0) first second (λ j l. absurd (omega (arith, l))) (λ j l. absurd (omega (arith, l)));
      no_cycle = no_new_no_cycle (first ∷ second ∷ []) (All-two (λ a. change_reads a ≡ []) first second refl refl);
    };
    no_result = (0, 0, refl, refl, (0, 0, refl, refl, refl));
  })

  functions_fine : (g : ℕ) (f : Function) → slice_get (register ∷ both_values ∷ []) g ≡ Some f → IsFunction (signature (quarrel o)) g f
  functions_fine zero f e = subst (IsFunction (signature (quarrel o)) 0) (some_same e)
      (function_fine (signature (quarrel o)) 0 true (codes "a") [] register.kind low (no_formals (signature (quarrel o))) register_kind (simp tree_lemmas (omega arith)) (low_fine (signature (quarrel o)) two []))
  functions_fine (suc zero) f e = subst (IsFunction (signature (quarrel o)) 1) (some_same e)
      (function_fine (signature (quarrel o)) 1 true (codes "both") [] both_values.kind low (no_formals (signature (quarrel o))) both_kind (simp (effect_lemmas, tree_lemmas) (omega arith)) (low_fine (signature (quarrel o)) two []))
  functions_fine (suc (suc g)) f e = cc

pub quarrel_well_formed : (o : Order) → IsLatticeOrder o → o.count ≡ 2 → IsWellFormed (quarrel o)
quarrel_well_formed o lattice two = over_fine (codes "quarrel") [] (register ∷ both_values ∷ []) o lattice two refl (omega arith) (omega arith) (functions_fine o two)

-- Formulas

abbrev change_formula : Formula
change_formula = record {
  kind = is.Change;
  fun = 1;
  name = codes "both";
  vars = [];
  hypotheses = [];
  goal = Two op.LevelLe (Const (value.Level 0)) (Const (value.Level 0));
}

abbrev agreement_formula : Formula
agreement_formula = record {
  kind = is.Agreement;
  fun = 1;
  name = codes "both";
  vars = [];
  hypotheses = [];
  goal = Two op.Same (Const (int 1)) (Const (int 2));
}

the_list : (o : Order) → formulas (quarrel o) ≡ change_formula ∷ change_formula ∷ agreement_formula ∷ []
the_list o = simp (effect_lemmas, tree_lemmas) refl

change_holds : (o : Order) → IsLatticeOrder o → ClaimHolds (quarrel o) (claim change_formula)
change_holds o lattice i inst s t state new x typed held = lattice.partial.reflexive 0 lattice.some

pub others_hold : (o : Order) → IsLatticeOrder o → OthersHold is.Agreement (quarrel o)
others_hold o lattice =
    subst (All (λ q. (q.kind ≡ is.Agreement → ⊥) → ClaimHolds (quarrel o) (claim q))) (sym (the_list o))
    (All-cons (λ q. (q.kind ≡ is.Agreement → ⊥) → ClaimHolds (quarrel o) (claim q)) change_formula (change_formula ∷ agreement_formula ∷ []) (λ other. change_holds o lattice)
    (All-two (λ q. (q.kind ≡ is.Agreement → ⊥) → ClaimHolds (quarrel o) (claim q)) change_formula agreement_formula (λ other. change_holds o lattice) (λ other. absurd (other refl))))

-- Not secure

abbrev nobody : Filling
nobody = record { sizes = []; tables = [] }

abbrev call : Invocation
call = record { fun = 1; args = [] }

module _ (o : Order) (lattice : IsLatticeOrder o) (h : IsLowHigh o) where
  is_instance : IsInstance (quarrel o) nobody
  is_instance = record { sizes = refl; enumerations = λ k info names e f. cc; tables = refl; each = λ n q t e f. cc }

  is_admissible : IsAdmissible (quarrel o) nobody
  is_admissible = All-nil (IsAsserted (world_of (quarrel o) nobody))

  two_values : (t : Store) → IsNewState (machine_of (quarrel o) nobody) initial_state call (first ∷ second ∷ []) t → ⊥
  two_values t new =
      let m = machine_of (quarrel o) nobody in
      let one : t 0 [] ≡ Some (int 1) = new.named first [] (plain_true m initial_state call (first ∷ second ∷ []) 0 none (Const (int 1)) (0, omega arith, refl)) in
      let other : t 0 [] ≡ Some (int 2) = new.named second [] (plain_true m initial_state call (first ∷ second ∷ []) 0 none (Const (int 2)) (1, omega arith, refl)) in
      let both : Some (int 1) ≡ Some (int 2) = sym one ∙ other in
      cc

  no_step : (a : Answer) (t : Store) → Step (machine_of (quarrel o) nobody) initial_state call a t → ⊥
  no_step a t (f, step) =
      let m = machine_of (quarrel o) nobody in
      let own : f ≡ both_values = sym (some_same step.function) in
      let outcome : Outcome m initial_state call both_values (first_exception m initial_state call both_values) a t = subst (λ (x : Function). Outcome m initial_state call x (first_exception m initial_state call x) a t) own step.outcome in
      let new = (new_state (quarrel o) nobody (quarrel_well_formed o lattice h.count_same) 1 both_values refl initial_state call t).0 outcome.0 in
      two_values t (subst (λ as'. IsNewState m initial_state call as' t) the_changes new)

  no_run : (as' : List Answer) (t : Store) → RunBy (Step (machine_of (quarrel o) nobody)) initial_state (call ∷ []) as' t → ⊥
  no_run [] t r = r
  no_run (a ∷ as') t r = no_step a r.0 r.1

  pub quarrel_is_not_secure : IsSecure (quarrel o) → ⊥
  quarrel_is_not_secure secure =
      let own = secure nobody is_instance is_admissible in
      let run = own.one_run.run initial_state (call ∷ []) (initial_typed (machine_of (quarrel o) nobody))
      (All-one (IsInvocation (machine_of (quarrel o) nobody)) call (both_values, record { function = refl; visible = refl; arguments = refl })) in
      no_run run.0 run.1 run.2
