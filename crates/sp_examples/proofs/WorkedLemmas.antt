-- The worked specification of files is well-formed, its instance is one, and what a script answers over it.
use Rattle.std.proofs.Common.{◌≡◌, refl, sym, ◌∙◌, ap, subst, arith, ℕ, zero, suc, ◌<◌, ◌≤◌, Bool, true, false, List, [], ◌∷◌, length, map, Some, None}
use Rattle.std.specs.Prelude.{pos, IsTrue, codes, slice_get, slice_index_or}
use Rattle.std.specs.List.{All}
use Rattle.std.proofs.lemmas.List.Elements.{All-cons, All-nil}
use Rattle.sp_lattice.specs.Closure.{IsDeclared, Path, here, step}
use Rattle.sp_lattice.specs.Order.{IsLatticeOrder, Order, is_below}
use Rattle.sp_values.specs.Domains.{Sizes, are_values, is_value}
use Rattle.sp_values.specs.declared.place.Invocation.{Invocation}
use Rattle.sp_values.specs.declared.value.Ty.{Ty}
use Rattle.sp_values.specs.declared.value.Ty.TheVariants as ty
use Rattle.sp_values.specs.declared.value.Value.{Value}
use Rattle.sp_values.specs.declared.value.Value.TheVariants as value
use Rattle.sp_core.specs.declared.expr.Expr.{Expr}
use Rattle.sp_core.specs.declared.function.Assertion.{Assertion}
use Rattle.sp_core.specs.declared.function.Formal.{Formal}
use Rattle.sp_core.specs.declared.function.Function.{Function}
use Rattle.sp_core.specs.declared.function.Param.{Param}
use Rattle.sp_core.specs.declared.function.TypeInfo.{TypeInfo}
use Rattle.sp_core.specs.declared.function.Answer.TheVariants as answer
use Rattle.sp_core.specs.Instances.{IsAdmissible, IsAsserted, IsInstanceOf, IsTable, TableParts, filling_of, machine_of, world_of}
use Rattle.sp_core.specs.Machine.{ChangesByRank, IsHeld, IsResult, Machine, Outcome, Run, Step, first_exception, initial_state, types_of}
use Rattle.sp_core.specs.Ranks.{change_reads}
use Rattle.sp_core.specs.Effects.{GuardedResult, changes_in, effect_trees, results_in}
use Rattle.sp_core.specs.States.{put_at}
use Rattle.sp_core.specs.Values.{Store, look}
use Rattle.sp_core.specs.Measures.{function_nodes}
use Rattle.sp_core.specs.Parts.{Parts, signature}
use Rattle.sp_core.specs.Tree.{Look, Var, none, more, tree}
use Rattle.sp_core.specs.Typing.{Signature, is_type}
use Rattle.sp_core.specs.WellFormed.{AreDifferent, AreFormals, IsAssertion, IsExpression, IsFunction, IsInjective, IsKind, IsLevel, IsParam, IsWellFormed, members_of, names_of}
use Rattle.sp_examples.specs.Common.{AreOverLowHigh, IsLowHigh, designator}
use Rattle.sp_examples.specs.WorkedFiles.{data_function, file, file_functions, file_params, file_types, files_with, high_at, leaky, level_at, level_param, files, no_write, not_below, number, read_function, small, user, write_function}
use Rattle.sp_examples.proofs.NameLemmas.{AreDifferent-by, some_same}
use Rattle.sp_examples.proofs.Parts.{All-one, All-two}
use Rattle.sp_examples.proofs.PlainChanges.{Puts, one_change, plain}
use Rattle.sp_core.proofs.RankLemmas.{no_new_no_cycle}
use Rattle.sp_core.proofs.TreeLemmas.{effect_lemmas, tree_lemmas}

-- the signature of files with these exceptions of `write`
abbrev signature_with : List (List ℕ × Expr) → Order → Signature
signature_with es o = signature (files_with es [] o)

module _ (es : List (List ℕ × Expr)) (o : Order) where
  user_formals : AreFormals (signature_with es o) (user ∷ [])
  user_formals = record { few = omega arith; types = All-one (λ t. IsTrue (is_type (signature_with es o) t)) (ty.Member 0) refl }

  file_formals : AreFormals (signature_with es o) (file ∷ [])
  file_formals = record { few = omega arith; types = All-one (λ t. IsTrue (is_type (signature_with es o) t)) (ty.Member 1) refl }

  read_formals : AreFormals (signature_with es o) (user ∷ file ∷ [])
  read_formals = record { few = omega arith; types = All-two (λ t. IsTrue (is_type (signature_with es o) t)) (ty.Member 0) (ty.Member 1) refl refl }

  write_formals : AreFormals (signature_with es o) (user ∷ file ∷ number ∷ [])
  write_formals = record { few = omega arith; types = All-cons (λ t. IsTrue (is_type (signature_with es o) t)) (ty.Member 0) (ty.Member 1 ∷ ty.Integer ∷ []) refl (All-two (λ t. IsTrue (is_type (signature_with es o) t)) (ty.Member 1) ty.Integer refl refl) }

  -- the level of a user or file that is the first formal
  user_level : (ts : List Ty) → IsLevel (signature_with es o) (ty.Member 0 ∷ ts) (tree (level_at 0 0))
  user_level ts = simp tree_lemmas (record {
    expression = record { typed = (level_param (codes "clr") user, refl, refl, (refl, tt)); few_nodes = omega arith; few_quantifiers = omega arith; no_new = (tt, tt) };
    reads_nothing = (tt, tt);
    no_quantifier = refl;
  })

  file_level : IsLevel (signature_with es o) (ty.Member 1 ∷ []) (tree (level_at 1 0))
  file_level = simp tree_lemmas (record {
    expression = record { typed = (level_param (codes "cls") file, refl, refl, (refl, tt)); few_nodes = omega arith; few_quantifiers = omega arith; no_new = (tt, tt) };
    reads_nothing = (tt, tt);
    no_quantifier = refl;
  })

  -- the conditions of the exceptions
  read_condition : IsExpression (signature_with es o) (ty.Member 0 ∷ ty.Member 1 ∷ []) (tree (not_below 1 1 0 0)) ty.Boolean
  read_condition = simp tree_lemmas (record {
    typed = (refl, (ty.Level, (refl, refl), (level_param (codes "cls") file, refl, refl, (refl, tt)), (level_param (codes "clr") user, refl, refl, (refl, tt))));
    few_nodes = omega arith;
    few_quantifiers = omega arith;
    no_new = ((tt, tt), (tt, tt));
  })

  pub write_condition : IsExpression (signature_with es o) (ty.Member 0 ∷ ty.Member 1 ∷ ty.Integer ∷ []) (tree (not_below 0 0 1 1)) ty.Boolean
  write_condition = simp tree_lemmas (record {
    typed = (refl, (ty.Level, (refl, refl), (level_param (codes "clr") user, refl, refl, (refl, tt)), (level_param (codes "cls") file, refl, refl, (refl, tt))));
    few_nodes = omega arith;
    few_quantifiers = omega arith;
    no_new = ((tt, tt), (tt, tt));
  })

  data_fine : IsFunction (signature_with es o) 0 data_function
  data_fine = record {
    formals = file_formals;
    few_exceptions = omega arith;
    exception_names = AreDifferent-by [] refl;
    exceptions = All-nil (λ e. IsExpression (signature_with es o) (ty.Member 1 ∷ []) (tree e.1) ty.Boolean);
    kind = record {
      type = refl;
      expression = simp tree_lemmas (record { typed = refl; few_nodes = omega arith; few_quantifiers = omega arith; no_new = tt });
      reads_nothing = simp tree_lemmas tt;
    };
    level = file_level;
    few_nodes = simp tree_lemmas (omega arith);
  }

  read_fine : IsFunction (signature_with es o) 1 read_function
  read_fine = record {
    formals = read_formals;
    few_exceptions = omega arith;
    exception_names = AreDifferent-by (codes "no_read" ∷ []) refl;
    exceptions = All-one (λ e. IsExpression (signature_with es o) (ty.Member 0 ∷ ty.Member 1 ∷ []) (tree e.1) ty.Boolean) (codes "no_read", not_below 1 1 0 0) read_condition;
    kind = simp (effect_lemmas, tree_lemmas) (record {
      type = refl;
      effects = record {
        effects = ((ty.Integer, refl, record { typed = (data_function, refl, refl, (refl, tt)); few_nodes = omega arith; few_quantifiers = omega arith }), tt);
        few_bound = omega arith;
        few_changes = omega arith;
        injective = λ k d l. absurd (omega (arith, l));
        no_cycle = no_new_no_cycle [] (All-nil (λ a. change_reads a ≡ []));
      };
      one_result = (1, 0, refl, refl, refl);
    });
    level = user_level (ty.Member 1 ∷ []);
    few_nodes = simp (effect_lemmas, tree_lemmas) (omega arith);
  }

  write_kind : IsKind (signature_with es o) (ty.Member 0 ∷ ty.Member 1 ∷ ty.Integer ∷ []) 2 (write_function es).kind
  write_kind = simp (effect_lemmas, tree_lemmas) (record {
    effects = record {
      effects = (
        (
          data_function,
          ty.Integer,
          refl,
          refl,
          (record { typed = refl; few_nodes = omega arith; few_quantifiers = omega arith }, tt),
          record { typed = refl; few_nodes = omega arith; few_quantifiers = omega arith },
        ),
        tt,
      );
      few_bound = omega arith;
      few_changes = omega arith;
      injective = All-one (IsInjective 3) (plain 0 (more (Var 1) none) (Var 2)) (λ j l. absurd (omega (arith, l)));
      no_cycle = no_new_no_cycle (plain 0 (more (Var 1) none) (Var 2) ∷ []) (All-one (λ a. change_reads a ≡ []) (plain 0 (more (Var 1) none) (Var 2)) refl);
    };
    no_result = (0, 0, refl, refl, refl);
  })

  -- where the exceptions are fine, so are the function and the specification
  write_fine : length es ≤ 16 → AreDifferent (map (λ e. e.0) es) → All (λ e. IsExpression (signature_with es o) (ty.Member 0 ∷ ty.Member 1 ∷ ty.Integer ∷ []) (tree e.1) ty.Boolean) es → function_nodes (write_function es) ≤ 8192 → IsFunction (signature_with es o) 2 (write_function es)
  write_fine few names conditions nodes = record {
    formals = write_formals;
    few_exceptions = few;
    exception_names = names;
    exceptions = conditions;
    kind = write_kind;
    level = user_level (ty.Member 1 ∷ ty.Integer ∷ []);
    few_nodes = nodes;
  }

  functions_fine : IsFunction (signature_with es o) 2 (write_function es) → (g : ℕ) (f : Function) → slice_get (data_function ∷ read_function ∷ write_function es ∷ []) g ≡ Some f → IsFunction (signature_with es o) g f
  functions_fine w zero f e = subst (IsFunction (signature_with es o) 0) (some_same e) data_fine
  functions_fine w (suc zero) f e = subst (IsFunction (signature_with es o) 1) (some_same e) read_fine
  functions_fine w (suc (suc zero)) f e = subst (IsFunction (signature_with es o) 2) (some_same e) w
  functions_fine w (suc (suc (suc g))) f e = cc

  -- each part of what a well-formed specification asks
  files_fine : (name : List ℕ) → IsLatticeOrder o → o.count ≡ 2 → IsFunction (signature_with es o) 2 (write_function es) → IsWellFormed (files_with es name o)
  files_fine name lattice count w = record {
    lattice = lattice;
    level_names = sym count;
    names = AreDifferent-by (names_of (files_with es name o)) refl;
    few_types = omega arith;
    few_members = All-two (λ i. length (members_of i) ≤ 64) (designator (codes "user")) (designator (codes "file")) (omega arith) (omega arith);
    few_params = omega arith;
    few_assertions = omega arith;
    few_functions = omega arith;
    params = All-two (IsParam (signature_with es o)) (level_param (codes "clr") user) (level_param (codes "cls") file) (record { formals = user_formals; type = refl }) (record { formals = file_formals; type = refl });
    assertions = All-nil (IsAssertion (signature_with es o));
    functions = functions_fine w;
  }

-- the specification of files is well-formed, with the exceptions of `write` and without
pub files_well_formed : (o : Order) → IsLatticeOrder o → o.count ≡ 2 → IsWellFormed (files o)
files_well_formed o lattice count = files_fine no_write o (codes "files") lattice count (write_fine no_write o (omega arith) (AreDifferent-by (codes "no_write" ∷ []) refl) (All-one (λ e. IsExpression (signature_with no_write o) (ty.Member 0 ∷ ty.Member 1 ∷ ty.Integer ∷ []) (tree e.1) ty.Boolean) (codes "no_write", not_below 0 0 1 1) (write_condition no_write o)) (simp (effect_lemmas, tree_lemmas) (omega arith)))

pub leaky_well_formed : (o : Order) → IsLatticeOrder o → o.count ≡ 2 → IsWellFormed (leaky o)
leaky_well_formed o lattice count = files_fine [] o (codes "leaky") lattice count (write_fine [] o (omega arith) (AreDifferent-by [] refl) (All-nil (λ e. IsExpression (signature_with [] o) (ty.Member 0 ∷ ty.Member 1 ∷ ty.Integer ∷ []) (tree e.1) ty.Boolean)) (simp (effect_lemmas, tree_lemmas) (omega arith)))

-- The instance

-- its sizes over an order of n levels
abbrev small_sizes : ℕ → Sizes
small_sizes n = record { levels = n; members = λ k. slice_index_or (2 ∷ 2 ∷ []) k 0 }

-- a table that gives HIGH at one member
high_fine : (n : ℕ) → n ≡ 2 → (k m : ℕ) (formal : Formal) (name : List ℕ) → IsTrue (are_values (small_sizes n) (formal.ty ∷ []) (value.Member k m ∷ [])) → IsTable (small_sizes n) (level_param name formal) (high_at k m)
high_fine n count k m formal name proper = record {
  arguments = All-one (λ r. IsTrue (are_values (small_sizes n) (formal.ty ∷ []) r.0)) (value.Member k m ∷ [], value.Level 1) proper;
  values = All-one (λ r. IsTrue (is_value (small_sizes n) ty.Level r.1)) (value.Member k m ∷ [], value.Level 1) (subst (λ c. IsTrue (is_value (small_sizes c) ty.Level (value.Level 1))) (sym count) refl);
  other = subst (λ c. IsTrue (is_value (small_sizes c) ty.Level (value.Level 0))) (sym count) refl;
  different = one;
}
  where
    one : (i j : ℕ) (a b : List Value × Value) → slice_get (high_at k m).rows i ≡ Some a → slice_get (high_at k m).rows j ≡ Some b → a.0 ≡ b.0 → i ≡ j
    one zero zero a b p q e = refl
    one zero (suc j) a b p q e = cc
    one (suc i) j a b p q e = cc

-- it is an instance of both specifications
pub small_is_instance : (es : List (List ℕ × Expr)) (name : List ℕ) (o : Order) → o.count ≡ 2 → IsInstanceOf (files_with es name o) small
small_is_instance es name o count = record {
  few = All-two (λ names. length names ≤ 64) (codes "alice" ∷ codes "bob" ∷ []) (codes "memo" ∷ codes "plan" ∷ []) (omega arith) (omega arith);
  different = All-two AreDifferent (codes "alice" ∷ codes "bob" ∷ []) (codes "memo" ∷ codes "plan" ∷ []) (AreDifferent-by (codes "alice" ∷ codes "bob" ∷ []) refl) (AreDifferent-by (codes "memo" ∷ codes "plan" ∷ []) refl);
  members = λ k info names e f. absurd (declared k info names e f);
  instance = record { sizes = refl; enumerations = λ k info names e f. absurd (declared k info names e f); tables = refl; each = each };
}
  where
    declared : (k : ℕ) (info : TypeInfo) (names : List (List ℕ)) → slice_get (designator (codes "user") ∷ designator (codes "file") ∷ []) k ≡ Some info → info.members ≡ Some names → ⊥
    declared zero info names e f = let g : None ≡ Some names = ap (λ (x : TypeInfo). x.members) (some_same e) ∙ f in cc
    declared (suc zero) info names e f = let g : None ≡ Some names = ap (λ (x : TypeInfo). x.members) (some_same e) ∙ f in cc
    declared (suc (suc k)) info names e f = cc

    each : (n : ℕ) (q : Param) (t : TableParts) → slice_get (level_param (codes "clr") user ∷ level_param (codes "cls") file ∷ []) n ≡ Some q → slice_get (high_at 0 0 ∷ high_at 1 1 ∷ []) n ≡ Some t → IsTable (small_sizes o.count) q t
    each zero q t e f = subst (λ (p : Param). IsTable (small_sizes o.count) p t) (some_same e) (subst (IsTable (small_sizes o.count) (level_param (codes "clr") user)) (some_same f) (high_fine o.count count 0 0 user (codes "clr") refl))
    each (suc zero) q t e f = subst (λ (p : Param). IsTable (small_sizes o.count) p t) (some_same e) (subst (IsTable (small_sizes o.count) (level_param (codes "cls") file)) (some_same f) (high_fine o.count count 1 1 file (codes "cls") refl))
    each (suc (suc n)) q t e f = cc

-- it is admissible, since there is no assertion
pub small_is_admissible : (es : List (List ℕ × Expr)) (name : List ℕ) (o : Order) → IsAdmissible (files_with es name o) (filling_of small)
small_is_admissible es name o = All-nil (IsAsserted (world_of (files_with es name o) (filling_of small)))

-- A script

-- LOW is declared to be below HIGH
abbrev declared_pairs : List (ℕ × ℕ)
declared_pairs = (0, 1) ∷ []

-- a path of declared pairs that starts at 1 goes nowhere
from_high : (x z : ℕ) → Path (IsDeclared declared_pairs) x z → x ≡ 1 → z ≡ 1
from_high x z here e = e
from_high x z (step {y = y} r p) e = absurd (declared r.0 r.1 r.2)
  where
    declared : (k : ℕ) → k < 1 → ◌≡◌ {A = ℕ × ℕ} (slice_index_or declared_pairs k (x, y)) (x, y) → ⊥
    declared zero l f = let g : ◌≡◌ {A = ℕ} 0 x = ap (λ (q : ℕ × ℕ). q.0) f in omega arith
    declared (suc k) l f = omega (arith, l)

-- LOW is below itself, and HIGH isn't below it
pub low_below : (o : Order) → IsLowHigh o → is_below o 0 0 ≡ true
low_below o h = h.below 0 0 (omega arith) (omega arith) here

pub high_not_below : (o : Order) → IsLowHigh o → is_below o 1 0 ≡ false
high_not_below o h = by (is_below o 1 0) (λ e. h.only_below 1 0 (omega arith) (omega arith) e)
  where
    by : (b : Bool) → (b ≡ true → Path (IsDeclared declared_pairs) 1 0) → b ≡ false
    by true p = let e : ◌≡◌ {A = ℕ} 0 1 = from_high 1 0 (p refl) refl in absurd (omega arith)
    by false p = refl

-- `write(alice, memo, 7)` and `read(bob, memo)`
abbrev pub writes : Invocation
writes = record { fun = 2; args = value.Member 0 0 ∷ value.Member 1 0 ∷ value.Int (pos 7) ∷ [] }

abbrev pub reads : Invocation
reads = record { fun = 1; args = value.Member 0 1 ∷ value.Member 1 0 ∷ [] }

-- the machine of files with these exceptions of `write`, in the instance
abbrev machine : List (List ℕ × Expr) → List ℕ → Order → Machine
machine es name o = machine_of (files_with es name o) (filling_of small)

-- the result of `read`, as the definitions see it
abbrev read_result : GuardedResult
read_result = record { guards = []; value = Look 0 (more (Var 1) none) }

-- bob reads the value that `data(memo)` has
pub read_step : (es : List (List ℕ × Expr)) (name : List ℕ) (o : Order) → IsLowHigh o → (s : Store) (v : Value) → look (machine es name o).world (machine es name o).functions s 0 (value.Member 1 0 ∷ []) ≡ v → Step (machine es name o) s reads (answer.Value v) s
read_step es name o h s v e = (
  read_function,
  record {
    function = refl;
    outcome = subst (λ n. Outcome (machine es name o) s reads read_function n (answer.Value v) s) (sym none_true) (
      subst (λ as'. ChangesByRank (machine es name o) s reads as' s) (sym changes) refl,
      (v, subst (λ rs. IsResult (machine es name o) s s reads rs v) (sym results) (0, read_result, record { there = refl; held = All-nil (IsHeld (machine es name o) s reads.args); only = only; value = sym e }), refl),
    );
  },
)
  where
    none_true : first_exception (machine es name o) s reads read_function ≡ None
    none_true = simp (tree_lemmas, low_below o h) refl

    results : results_in (effect_trees read_function.kind) ≡ read_result ∷ []
    results = simp (effect_lemmas, tree_lemmas) refl

    changes : changes_in (effect_trees read_function.kind) ≡ []
    changes = simp (effect_lemmas, tree_lemmas) refl

    only : (j : ℕ) (q : GuardedResult) → slice_get (read_result ∷ []) j ≡ Some q → All (IsHeld (machine es name o) s reads.args) q.guards → j ≡ 0
    only zero q p g = refl
    only (suc j) q p g = cc

-- with its exceptions `write` is refused to alice, since HIGH isn't below LOW, and bob reads the initial value
pub files_answers : (o : Order) → IsLowHigh o → Run (machine_of (files o) (filling_of small)) initial_state (writes ∷ reads ∷ []) (answer.Exception 0 ∷ answer.Value (value.Int (pos 0)) ∷ []) initial_state
files_answers o h = (initial_state, (write_function no_write, record { function = refl; outcome = outcome }), (initial_state, read_step no_write (codes "files") o h initial_state (value.Int (pos 0)) (simp tree_lemmas refl), refl))
  where
    first_true : first_exception (machine no_write (codes "files") o) initial_state writes (write_function no_write) ≡ Some 0
    first_true = simp (tree_lemmas, high_not_below o h) refl

    outcome : Outcome (machine no_write (codes "files") o) initial_state writes (write_function no_write) (first_exception (machine no_write (codes "files") o) initial_state writes (write_function no_write)) (answer.Exception 0) initial_state
    outcome = subst (λ n. Outcome (machine no_write (codes "files") o) initial_state writes (write_function no_write) n (answer.Exception 0) initial_state) (sym first_true) (refl, refl)

-- the state after alice wrote
abbrev pub written : Store
written = put_at 0 (value.Member 1 0 ∷ []) (value.Int (pos 7)) initial_state

-- without them alice writes, and bob reads what she wrote
pub leaky_answers : (o : Order) → IsLowHigh o → Run (machine_of (leaky o) (filling_of small)) initial_state (writes ∷ reads ∷ []) (answer.Done ∷ answer.Value (value.Int (pos 7)) ∷ []) written
leaky_answers o h = (written, (write_function [], record { function = refl; outcome = (made, refl) }), (written, read_step [] (codes "leaky") o h written (value.Int (pos 7)) refl, refl))
  where
    changes : changes_in (effect_trees (write_function []).kind) ≡ plain 0 (more (Var 1) none) (Var 2) ∷ []
    changes = simp (effect_lemmas, tree_lemmas) refl

    puts : Puts (machine [] (codes "leaky") o) initial_state initial_state writes 0 (more (Var 1) none) (Var 2) (value.Member 1 0 ∷ []) (value.Int (pos 7))
    puts = record { at = refl; gives = refl }

    made : ChangesByRank (machine [] (codes "leaky") o) initial_state writes (changes_in (effect_trees (write_function []).kind)) written
    made = subst (λ as'. ChangesByRank (machine [] (codes "leaky") o) initial_state writes as' written) (sym changes) (initial_state, refl, one_change (machine [] (codes "leaky") o) initial_state initial_state writes 0 (more (Var 1) none) (Var 2) (value.Member 1 0 ∷ []) (value.Int (pos 7)) puts)

-- parts that are those of the files are well-formed
pub files_assemble : (o : Order) (name : List ℕ) (levels : List (List ℕ)) (types : List TypeInfo) (params : List Param) (assertions : List Assertion) (functions : List Function) → IsLatticeOrder o → IsLowHigh o
    → name ≡ codes "files" → levels ≡ codes "LOW" ∷ codes "HIGH" ∷ [] → types ≡ file_types → params ≡ file_params → assertions ≡ [] → functions ≡ file_functions no_write
    → IsWellFormed (record { name = name; lattice = o; level_names = levels; types = types; params = params; assertions = assertions; functions = functions })
files_assemble o name levels types params assertions functions lattice order a b c d e f =
    subst IsWellFormed (sym (λ i. record { name = a i; lattice = o; level_names = b i; types = c i; params = d i; assertions = e i; functions = f i })) (files_well_formed o lattice order.count_same)

-- members and tables that are those of the instance are one
pub small_assembles : (p : Parts) (members : List (List (List ℕ))) (tables : List TableParts) → AreOverLowHigh files p → members ≡ small.members → tables ≡ small.tables → IsInstanceOf p (record { members = members; tables = tables })
small_assembles p members tables a e f = subst (IsInstanceOf p) (sym (λ i. record { members = e i; tables = f i })) (subst (λ q. IsInstanceOf q small) (sym a.parts) (small_is_instance no_write (codes "files") p.lattice a.order.count_same))
