-- The specification of lamps is well-formed, and each of the others breaks one rule.
use Rattle.std.proofs.Common.{◌≡◌, refl, subst, arith, ℕ, zero, suc, ◌+◌, ◌<◌, true, false, List, [], ◌∷◌, Some}
use Rattle.std.specs.Prelude.{IsTrue, codes, slice_get}
use Rattle.std.specs.List.{All}
use Rattle.std.proofs.lemmas.List.Elements.{All-head}
use Rattle.sp_lattice.specs.Order.{IsLatticeOrder, Order}
use Rattle.sp_values.specs.declared.value.Ty.{Ty}
use Rattle.sp_values.specs.declared.value.Ty.TheVariants as ty
use Rattle.sp_values.specs.declared.value.Value.TheVariants as value
use Rattle.sp_core.specs.declared.function.Effect.TheVariants as effect
use Rattle.sp_core.specs.declared.function.Function.{Function}
use Rattle.sp_core.specs.declared.function.Kind.TheVariants as kind
use Rattle.sp_core.specs.Effects.{EffectTree, EffectTrees, GuardedChange, changes_in, effect_trees}
use Rattle.sp_core.specs.Effects as works
use Rattle.sp_core.specs.Measures.{HaveResults}
use Rattle.sp_core.specs.Parts.{signature}
use Rattle.sp_core.specs.Ranks.{change_reads}
use Rattle.sp_core.specs.Tree.{Tree, Const, Var, Not, Look, none, more}
use Rattle.sp_core.specs.Typing.{Signature, is_type}
use Rattle.sp_core.specs.WellFormed.{AreFormals, IsExpression, IsFunction, IsInjective, IsKind, IsWellFormed, alone}
use Rattle.sp_core.proofs.RankLemmas.{no_new_no_cycle}
use Rattle.sp_core.proofs.TreeLemmas.{effect_lemmas, tree_lemmas}
use Rattle.sp_examples.specs.Common.{function, low}
use Rattle.sp_examples.specs.Lamps.{darken_function, lamp, lamps, lit_function, not_injective, one_name_twice, set_lit, toggle_effect, toggle_function, truth, two_results}
use Rattle.sp_examples.proofs.NameLemmas.{some_same}
use Rattle.sp_examples.proofs.Parts.{All-one, All-two, function_fine, low_fine, no_formals, over_fine}

-- `lit(l)`, and the changes of `toggle` and `darken`, as the definitions see them
abbrev lit : Tree
lit = Look 0 (more (Var 0) none)

abbrev set : List Ty → List Tree → Tree → GuardedChange
set vars guards v = record { vars = vars; guards = guards; fun = 0; args = more (Var 0) none; value = v }

abbrev off : GuardedChange
off = set [] (lit ∷ []) (Const (value.Truth false))

abbrev on : GuardedChange
on = set [] (Not lit ∷ []) (Const (value.Truth true))

abbrev all_off : GuardedChange
all_off = set (ty.Member 0 ∷ []) [] (Const (value.Truth false))

-- the one variable stands alone as the first argument
first_alone : (j : ℕ) → j < 1 → alone (0 + j) (more (Var 0) none) ≡ 1
first_alone zero l = refl
first_alone (suc j) l = absurd (omega (arith, l))

module _ (o : Order) (two : o.count ≡ 2) where
  abbrev sg : Signature
  sg = signature (lamps o)

  lamp_formals : AreFormals sg (lamp ∷ [])
  lamp_formals = record { few = omega arith; types = All-one (λ t. IsTrue (is_type sg t)) (ty.Member 0) refl }

  lit_fine : IsFunction sg 0 lit_function
  lit_fine =
      function_fine sg 0 true (codes "lit") (lamp ∷ []) (kind.Primitive ty.Boolean (truth false)) low lamp_formals
      (record {
        type = refl;
        expression = simp tree_lemmas (record { typed = refl; few_nodes = omega arith; few_quantifiers = omega arith; no_new = tt });
        reads_nothing = simp tree_lemmas tt;
      })
      (simp tree_lemmas (omega arith)) (low_fine sg two (ty.Member 0 ∷ []))

  lit_read : IsExpression sg (ty.Member 0 ∷ []) lit ty.Boolean
  lit_read = record { typed = (lit_function, refl, refl, (refl, tt)); few_nodes = omega arith; few_quantifiers = omega arith; no_new = (tt, (tt, tt)) }

  toggle_kind : IsKind sg (ty.Member 0 ∷ []) 1 (kind.Both ty.Boolean (toggle_effect ∷ []))
  toggle_kind = simp (effect_lemmas, tree_lemmas) (record {
    type = refl;
    effects = record {
      effects = (
        (
          lit_read,
          (
            (lit_function, ty.Boolean, refl, refl, (record { typed = refl; few_nodes = omega arith; few_quantifiers = omega arith }, tt), record { typed = refl; few_nodes = omega arith; few_quantifiers = omega arith }),
            ((ty.Boolean, refl, record { typed = refl; few_nodes = omega arith; few_quantifiers = omega arith }), tt),
          ),
          (
            (lit_function, ty.Boolean, refl, refl, (record { typed = refl; few_nodes = omega arith; few_quantifiers = omega arith }, tt), record { typed = refl; few_nodes = omega arith; few_quantifiers = omega arith }),
            ((ty.Boolean, refl, record { typed = refl; few_nodes = omega arith; few_quantifiers = omega arith }), tt),
          ),
        ),
        tt,
      );
      few_bound = omega arith;
      few_changes = omega arith;
      injective = All-two (IsInjective 1) off on (λ j l. absurd (omega (arith, l))) (λ j l. absurd (omega (arith, l)));
      no_cycle = no_new_no_cycle (off ∷ on ∷ []) (All-two (λ a. change_reads a ≡ []) off on refl refl);
    };
    one_result = (1, 0, refl, ((0, 1, refl, refl, (1, 0, refl, refl, refl)), (0, 1, refl, refl, (1, 0, refl, refl, refl))), refl);
  })

  toggle_fine : IsFunction sg 1 (toggle_function (toggle_effect ∷ []))
  toggle_fine = function_fine sg 1 true (codes "toggle") (lamp ∷ []) (kind.Both ty.Boolean (toggle_effect ∷ [])) low lamp_formals toggle_kind (simp (effect_lemmas, tree_lemmas) (omega arith)) (low_fine sg two (ty.Member 0 ∷ []))

  darken_kind : IsKind sg [] 2 darken_function.kind
  darken_kind = simp (effect_lemmas, tree_lemmas) (record {
    effects = record {
      effects = (
        (
          refl,
          refl,
          (
            (lit_function, ty.Boolean, refl, refl, (record { typed = refl; few_nodes = omega arith; few_quantifiers = omega arith }, tt), record { typed = refl; few_nodes = omega arith; few_quantifiers = omega arith }),
            tt,
          ),
        ),
        tt,
      );
      few_bound = omega arith;
      few_changes = omega arith;
      injective = All-one (IsInjective 0) all_off first_alone;
      no_cycle = no_new_no_cycle (all_off ∷ []) (All-one (λ a. change_reads a ≡ []) all_off refl);
    };
    no_result = (0, 0, refl, (refl, (0, 0, refl, refl, refl)), refl);
  })

  darken_fine : IsFunction sg 2 darken_function
  darken_fine = function_fine sg 2 true (codes "darken") [] darken_function.kind low (no_formals sg) darken_kind (simp (effect_lemmas, tree_lemmas) (omega arith)) (low_fine sg two [])

  functions_fine : (g : ℕ) (f : Function) → slice_get (lit_function ∷ toggle_function (toggle_effect ∷ []) ∷ darken_function ∷ []) g ≡ Some f → IsFunction sg g f
  functions_fine zero f e = subst (IsFunction sg 0) (some_same e) lit_fine
  functions_fine (suc zero) f e = subst (IsFunction sg 1) (some_same e) toggle_fine
  functions_fine (suc (suc zero)) f e = subst (IsFunction sg 2) (some_same e) darken_fine
  functions_fine (suc (suc (suc g))) f e = cc

  pub lamps_well_formed : IsLatticeOrder o → IsWellFormed (lamps o)
  lamps_well_formed lattice = over_fine (codes "lamps") (codes "lamp" ∷ []) (lit_function ∷ toggle_function (toggle_effect ∷ []) ∷ darken_function ∷ []) o lattice two refl (omega arith) (omega arith) functions_fine

-- Not well-formed

abbrev both : EffectTrees
both = works.more
    (works.If lit
    (works.more (works.Change 0 (more (Var 0) none) (Const (value.Truth false))) (works.more (works.Answer (Const (value.Truth false))) works.none))
    (works.more (works.Change 0 (more (Var 0) none) (Const (value.Truth true))) (works.more (works.Answer (Const (value.Truth true))) works.none)))
    (works.more (works.Answer (Const (value.Truth true))) works.none)

-- two results stand on each path
pub two_results_refused : (o : Order) → IsWellFormed (two_results o) → ⊥
two_results_refused o h =
    let r : HaveResults 1 both = subst (HaveResults 1) trees (h.functions 1 (toggle_function (toggle_effect ∷ effect.Answer (truth true) ∷ [])) refl).kind.one_result in
    omega (arith, r.2, r.3.0.2, r.3.0.3, r.3.0.4.2, r.3.0.4.3, r.3.0.4.4, r.4.2, r.4.3, r.4.4)
  where
    trees : effect_trees (kind.Both ty.Boolean (toggle_effect ∷ effect.Answer (truth true) ∷ [])) ≡ both
    trees = simp (effect_lemmas, tree_lemmas) refl

abbrev darken : Function
darken = function (codes "darken") (lamp ∷ []) (kind.Operation (effect.Every 1 (ty.Member 0) (set_lit false ∷ []) ∷ [])) low

-- the bound variable, which has number 1, stands nowhere in the target
pub not_injective_refused : (o : Order) → IsWellFormed (not_injective o) → ⊥
not_injective_refused o h =
    let all : All (IsInjective 1) (all_off ∷ []) = subst (All (IsInjective 1)) changes (h.functions 1 darken refl).kind.effects.injective in
    let e : 0 ≡ 1 = All-head (IsInjective 1) all_off [] all 0 (omega arith) in
    omega (arith, e)
  where
    changes : changes_in (effect_trees darken.kind) ≡ all_off ∷ []
    changes = simp (effect_lemmas, tree_lemmas) refl

-- `lit` stands at two places among the names
pub one_name_refused : (o : Order) → IsWellFormed (one_name_twice o) → ⊥
one_name_refused o h = let e : 1 ≡ 2 = h.names 1 2 (codes "lit") refl refl in omega (arith, e)
