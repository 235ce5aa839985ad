-- The specification of clearances is well-formed, and what may be asked of it and of its instances.
use Rattle.std.proofs.Common.{◌≡◌, refl, sym, subst, arith, true, ℕ, zero, suc, ◌<◌, ◌≤◌, List, [], ◌∷◌, length, Some}
use Rattle.std.specs.Prelude.{IsTrue, codes, pos, slice_get}
use Rattle.sp_lattice.specs.Order.{IsLatticeOrder, Order}
use Rattle.sp_values.specs.declared.value.Ty.TheVariants as ty
use Rattle.sp_values.specs.declared.value.Value.{Value}
use Rattle.sp_values.specs.declared.value.Value.TheVariants as value
use Rattle.sp_core.specs.declared.expr.Expr.{Expr}
use Rattle.sp_core.specs.declared.expr.Expr.TheVariants as expr
use Rattle.sp_core.specs.declared.function.Assertion.{Assertion}
use Rattle.sp_core.specs.declared.function.Function.{Function}
use Rattle.sp_core.specs.declared.function.Param.{Param}
use Rattle.sp_core.specs.declared.function.TypeInfo.{TypeInfo}
use Rattle.sp_core.specs.Instances.{InstanceParts, filling_of, machine_of}
use Rattle.sp_core.specs.Machine.{IsInvocation, IsState, initial_state}
use Rattle.sp_core.specs.Parts.{Parts, signature}
use Rattle.sp_core.specs.States.{put_at}
use Rattle.sp_core.specs.Tree.{Look, none, tree}
use Rattle.sp_core.specs.Typing.{HasType, Signature, is_finite, is_type}
use Rattle.sp_core.specs.Values.{Store}
use Rattle.sp_core.specs.WellFormed.{AreFormals, IsAssertion, IsEarlier, IsEarlierAs, IsExpression, IsFunction, IsKind, IsLevel, IsParam, IsWellFormed, members_of, names_of}
use Rattle.sp_eval.specs.Conditions.{IsRead, IsTypedIn}
use Rattle.sp_core.proofs.Levels.{initial_typed}
use Rattle.sp_core.proofs.StatesTyped.{put_typed}
use Rattle.sp_core.proofs.TreeLemmas.{tree_lemmas}
use Rattle.sp_examples.specs.Common.{AreOverLowHigh, IsLowHigh, look_at, low}
use Rattle.sp_examples.proofs.NameLemmas.{AreDifferent-by, some_same}
use Rattle.sp_examples.proofs.Parts.{All-one, All-two, function_fine, low_fine, no_formals}
use Rattle.sp_eval_examples.specs.Clearances.{base, base_is_below, base_level, clearance, clearances, clr, colour_type, colours, each_is_red, eq_function, functions, le_function, max_function, none_is_unknown, one_user, pool_function, seen_function, user, user_type}

module _ (o : Order) where
  abbrev sg : Signature
  sg = signature (clearances o)

  user_formals : AreFormals sg (user ∷ [])
  user_formals = record { few = omega arith; types = All-one (λ t. IsTrue (is_type sg t)) (ty.Member 0) refl }

  -- levels
  base_fine : IsLevel sg [] (tree base_level)
  base_fine = simp tree_lemmas (record {
    expression = record { typed = (base, refl, refl, tt); few_nodes = omega arith; few_quantifiers = omega arith; no_new = tt };
    reads_nothing = tt;
    no_quantifier = refl;
  })

  clearance_fine : IsLevel sg (ty.Member 0 ∷ []) (tree clearance)
  clearance_fine = simp tree_lemmas (record {
    expression = record { typed = (clr, refl, refl, (refl, tt)); few_nodes = omega arith; few_quantifiers = omega arith; no_new = (tt, tt) };
    reads_nothing = (tt, tt);
    no_quantifier = refl;
  })

  -- the sum stands before all other functions
  max_type : HasType sg [] (Look 0 none) ty.Integer
  max_type = (max_function, refl, refl, tt)

  max_earlier : (g : ℕ) → 0 < g → IsEarlier functions g 0
  max_earlier g l f e = subst (λ (x : Function). IsEarlierAs g 0 x.kind) (some_same e) l

  max_kind : IsKind sg [] 0 max_function.kind
  max_kind = record {
    type = refl;
    expression = simp tree_lemmas (record { typed = (ty.Integer, (refl, refl), refl, refl); few_nodes = omega arith; few_quantifiers = omega arith; no_new = (tt, tt) });
    reads_earlier = simp tree_lemmas (tt, tt);
    within_depth = simp tree_lemmas (tt, tt);
  }

  le_kind : IsKind sg [] 1 le_function.kind
  le_kind = record {
    type = refl;
    expression = simp tree_lemmas (record { typed = (ty.Integer, (refl, refl), max_type, refl); few_nodes = omega arith; few_quantifiers = omega arith; no_new = ((tt, tt), tt) });
    reads_earlier = simp tree_lemmas ((max_earlier 1 (omega arith), tt), tt);
    within_depth = simp tree_lemmas (((tt, tt), tt), tt);
  }

  eq_kind : IsKind sg [] 2 eq_function.kind
  eq_kind = record {
    type = refl;
    expression = simp tree_lemmas (record { typed = (ty.Integer, refl, max_type, max_type); few_nodes = omega arith; few_quantifiers = omega arith; no_new = ((tt, tt), (tt, tt)) });
    reads_earlier = simp tree_lemmas ((max_earlier 2 (omega arith), tt), (max_earlier 2 (omega arith), tt));
    within_depth = simp tree_lemmas (((tt, tt), tt), ((tt, tt), tt));
  }

  pool_kind : IsKind sg [] 3 pool_function.kind
  pool_kind = record {
    type = refl;
    expression = simp tree_lemmas (record { typed = refl; few_nodes = omega arith; few_quantifiers = omega arith; no_new = tt });
    reads_nothing = simp tree_lemmas tt;
  }

  pool_earlier : IsEarlier functions 4 3
  pool_earlier f e = subst (λ (x : Function). IsEarlierAs 4 3 x.kind) (some_same e) tt

  seen_kind : IsKind sg (ty.Member 0 ∷ []) 4 seen_function.kind
  seen_kind = record {
    type = refl;
    expression = simp tree_lemmas (record { typed = (pool_function, refl, refl, tt); few_nodes = omega arith; few_quantifiers = omega arith; no_new = (tt, tt) });
    reads_earlier = simp tree_lemmas (pool_earlier, tt);
    within_depth = simp tree_lemmas (tt, tt);
  }

  functions_fine : o.count ≡ 2 → (g : ℕ) (f : Function) → slice_get functions g ≡ Some f → IsFunction sg g f
  functions_fine two zero f e = subst (IsFunction sg 0) (some_same e) (function_fine sg 0 true (codes "max") [] max_function.kind low (no_formals sg) max_kind (simp tree_lemmas (omega arith)) (low_fine sg two []))
  functions_fine two (suc zero) f e = subst (IsFunction sg 1) (some_same e) (function_fine sg 1 true (codes "le") [] le_function.kind low (no_formals sg) le_kind (simp tree_lemmas (omega arith)) (low_fine sg two []))
  functions_fine two (suc (suc zero)) f e = subst (IsFunction sg 2) (some_same e) (function_fine sg 2 true (codes "eq") [] eq_function.kind low (no_formals sg) eq_kind (simp tree_lemmas (omega arith)) (low_fine sg two []))
  functions_fine two (suc (suc (suc zero))) f e = subst (IsFunction sg 3) (some_same e) (function_fine sg 3 true (codes "pool") [] pool_function.kind base_level (no_formals sg) pool_kind (simp tree_lemmas (omega arith)) base_fine)
  functions_fine two (suc (suc (suc (suc zero)))) f e = subst (IsFunction sg 4) (some_same e) (function_fine sg 4 true (codes "seen") (user ∷ []) seen_function.kind clearance user_formals seen_kind (simp tree_lemmas (omega arith)) clearance_fine)
  functions_fine two (suc (suc (suc (suc (suc g))))) f e = cc

  assertion_fine : IsAssertion sg base_is_below
  assertion_fine = record {
    variables = All-one (λ t. IsTrue (is_finite sg t)) (ty.Member 0) refl;
    body = simp tree_lemmas (record { typed = (ty.Level, (refl, refl), (base, refl, refl, tt), (clr, refl, refl, (refl, tt))); few_nodes = omega arith; few_quantifiers = omega arith; no_new = (tt, (tt, tt)) });
    reads_nothing = simp tree_lemmas (tt, (tt, tt));
    few_quantifiers = simp tree_lemmas (omega arith);
  }

  -- each part of what a well-formed specification asks
  pub clearances_well_formed : IsLatticeOrder o → o.count ≡ 2 → IsWellFormed (clearances o)
  clearances_well_formed lattice two = record {
    lattice = lattice;
    level_names = sym two;
    names = AreDifferent-by (names_of (clearances o)) refl;
    few_types = omega arith;
    few_members = All-two (λ i. length (members_of i) ≤ 64) user_type colour_type (omega arith) (omega arith);
    few_params = omega arith;
    few_assertions = omega arith;
    few_functions = omega arith;
    params = All-two (IsParam sg) clr base (record { formals = user_formals; type = refl }) (record { formals = no_formals sg; type = refl });
    assertions = All-one (IsAssertion sg) base_is_below assertion_fine;
    functions = functions_fine two;
  }

-- parts that are those of the specification are well-formed
pub clearances_assemble : (o : Order) (name : List ℕ) (levels : List (List ℕ)) (types : List TypeInfo) (params : List Param) (assertions : List Assertion) (fs : List Function) → IsLatticeOrder o → IsLowHigh o
    → name ≡ codes "clearances" → levels ≡ codes "LOW" ∷ codes "HIGH" ∷ [] → types ≡ user_type ∷ colour_type ∷ [] → params ≡ clr ∷ base ∷ [] → assertions ≡ base_is_below ∷ [] → fs ≡ functions
    → IsWellFormed (record { name = name; lattice = o; level_names = levels; types = types; params = params; assertions = assertions; functions = fs })
clearances_assemble o name levels types params assertions fs lattice order a b c d e f =
    subst IsWellFormed (sym (λ i. record { name = a i; lattice = o; level_names = b i; types = c i; params = d i; assertions = e i; functions = f i })) (clearances_well_formed o lattice order.count_same)

-- What may be asked

module _ (p : Parts) (a : AreOverLowHigh clearances p) where
  -- the first three functions, without arguments
  pub max_is_read : (i : InstanceParts) (v : List Value) → v ≡ [] → IsRead p i 0 v
  max_is_read i v e = subst (λ q. IsRead q i 0 v) (sym a.parts) (subst (IsRead (clearances p.lattice) i 0) (sym e) (max_function, ty.Integer, record { function = refl; type = refl; arguments = refl }))

  pub le_is_read : (i : InstanceParts) (v : List Value) → v ≡ [] → IsRead p i 1 v
  le_is_read i v e = subst (λ q. IsRead q i 1 v) (sym a.parts) (subst (IsRead (clearances p.lattice) i 1) (sym e) (le_function, ty.Boolean, record { function = refl; type = refl; arguments = refl }))

  pub eq_is_read : (i : InstanceParts) (v : List Value) → v ≡ [] → IsRead p i 2 v
  eq_is_read i v e = subst (λ q. IsRead q i 2 v) (sym a.parts) (subst (IsRead (clearances p.lattice) i 2) (sym e) (eq_function, ty.Boolean, record { function = refl; type = refl; arguments = refl }))

  -- `seen` at the first of the users
  pub seen_is_read : (i : InstanceParts) (v : List Value) → i.members ≡ one_user ∷ colours ∷ [] → v ≡ value.Member 0 0 ∷ [] → IsRead p i 4 v
  seen_is_read i v m e = subst (λ q. IsRead q i 4 v) (sym a.parts) (subst (λ j. IsRead (clearances p.lattice) j 4 v) (sym (λ k. record { members = m k; tables = i.tables })) (subst (IsRead (clearances p.lattice) (record { members = one_user ∷ colours ∷ []; tables = i.tables }) 4) (sym e) (seen_function, ty.Integer, record { function = refl; type = refl; arguments = refl })))

  pub seen_is_invoked : (i : InstanceParts) (v : List Value) → i.members ≡ one_user ∷ colours ∷ [] → v ≡ value.Member 0 0 ∷ [] → IsInvocation (machine_of p (filling_of i)) (record { fun = 4; args = v })
  seen_is_invoked i v m e = subst (λ q. IsInvocation (machine_of q (filling_of i)) (record { fun = 4; args = v })) (sym a.parts) (subst (λ j. IsInvocation (machine_of (clearances p.lattice) (filling_of j)) (record { fun = 4; args = v })) (sym (λ k. record { members = m k; tables = i.tables })) (subst (λ w. IsInvocation (machine_of (clearances p.lattice) (filling_of (record { members = one_user ∷ colours ∷ []; tables = i.tables }))) (record { fun = 4; args = w })) (sym e) (seen_function, record { function = refl; visible = refl; arguments = refl })))

  -- an expression that is a sentence of the specification
  sentence : (s e : Expr) → e ≡ s → IsExpression (sg p.lattice) [] (tree s) ty.Boolean → IsExpression (signature p) [] (tree e) ty.Boolean
  sentence s e f h = subst (λ q. IsExpression (signature q) [] (tree e) ty.Boolean) (sym a.parts) (subst (λ d. IsExpression (sg p.lattice) [] (tree d) ty.Boolean) (sym f) h)

  pub each_is_red_fine : (e : Expr) → e ≡ each_is_red → IsExpression (signature p) [] (tree e) ty.Boolean
  each_is_red_fine e f = sentence each_is_red e f (simp tree_lemmas (record { typed = (refl, refl, refl, (ty.Member 1, refl, refl, refl)); few_nodes = omega arith; few_quantifiers = omega arith; no_new = (tt, tt) }))

  pub none_is_unknown_fine : (e : Expr) → e ≡ none_is_unknown → IsExpression (signature p) [] (tree e) ty.Boolean
  none_is_unknown_fine e f = sentence none_is_unknown e f (simp tree_lemmas (record { typed = (refl, refl, refl, (refl, (ty.Member 0, refl, refl, refl))); few_nodes = omega arith; few_quantifiers = omega arith; no_new = (tt, tt) }))

-- the pool with a value is a state, and its old and new value are typed
pub pool_state : (p : Parts) → AreOverLowHigh clearances p → (i : InstanceParts) (s : Store) → s ≡ put_at 3 [] (value.Int (pos 7)) initial_state → IsState (machine_of p (filling_of i)) s
pool_state p a i s e =
    subst (λ q. IsState (machine_of q (filling_of i)) s) (sym a.parts) (subst (IsState (machine_of (clearances p.lattice) (filling_of i))) (sym e)
    (put_typed (machine_of (clearances p.lattice) (filling_of i)) initial_state 3 [] (value.Int (pos 7)) (initial_typed (machine_of (clearances p.lattice) (filling_of i)))
    (pool_function, ty.Integer, expr.Const (value.Int (pos 0)), record { function = refl; primitive = refl; arguments = refl }, refl)))

pub new_pool_typed : (p : Parts) → AreOverLowHigh clearances p → (i : InstanceParts) (e : Expr) → e ≡ expr.New 3 [] → IsTypedIn p i [] (tree e)
new_pool_typed p a i e q =
    subst (λ e. IsTypedIn p i [] (tree e)) (sym q) (subst (λ r. IsTypedIn r i [] (tree (expr.New 3 []))) (sym a.parts) (simp tree_lemmas ([], ty.Integer, record { values = refl; typed = (pool_function, refl, refl, tt); room = omega arith })))

pub old_pool_typed : (p : Parts) → AreOverLowHigh clearances p → (i : InstanceParts) (e : Expr) → e ≡ look_at 3 → IsTypedIn p i [] (tree e)
old_pool_typed p a i e q =
    subst (λ e. IsTypedIn p i [] (tree e)) (sym q) (subst (λ r. IsTypedIn r i [] (tree (look_at 3))) (sym a.parts) (simp tree_lemmas ([], ty.Integer, record { values = refl; typed = (pool_function, refl, refl, tt); room = omega arith })))
