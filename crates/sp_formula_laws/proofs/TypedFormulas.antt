-- Each formula of the list is typed over its variables.
use Rattle.std.proofs.Common.{◌≡◌, refl, sym, ◌∙◌, ap, subst, arith, ℕ, zero, suc, ◌+◌, ◌≤◌, Bool, true, false, ◌==◌, List, [], ◌∷◌, ◌++◌, length, map, take, drop, append_assoc}
use Rattle.std.specs.Prelude.{IsTrue, Some, if◌then◌else◌, slice_get}
use Rattle.std.specs.List.{All, flat_map}
use Rattle.std.proofs.lemmas.Bool.Decides.{Decides-eqb}
use Rattle.std.proofs.lemmas.List.{append-nil, length-append, length-map, length-take-le, map-append, take-append-drop}
use Rattle.std.proofs.lemmas.List.Elements.{All-append, All-cons, All-head, All-map, All-nil, All-push, All-tail, All-weaker}
use Rattle.std.proofs.lemmas.Option.{same_Some}
use Rattle.sp_text.specs.declared.limits.TheConstants.{MOST_BOUND_VARIABLES, MOST_QUANTIFIERS}
use Rattle.sp_values.specs.declared.value.Op.TheVariants as op
use Rattle.sp_values.specs.declared.value.Ty.{Ty}
use Rattle.sp_values.specs.declared.value.Ty.TheVariants as ty
use Rattle.sp_values.specs.Domains.{has_unknown}
use Rattle.sp_core.specs.declared.function.Formal.{Formal}
use Rattle.sp_core.specs.declared.function.Function.{Function}
use Rattle.sp_core.specs.declared.function.Kind.{Kind}
use Rattle.sp_core.specs.declared.function.Kind.TheVariants as kind
use Rattle.sp_core.specs.Effects.{effect_trees}
use Rattle.sp_core.specs.Machine.{types_of}
use Rattle.sp_core.specs.Measures.{quantifiers}
use Rattle.sp_core.specs.Parts.{Parts, signature}
use Rattle.sp_core.specs.Tree.{Tree, Trees, Not, New, Two, tree}
use Rattle.sp_core.specs.Typing.{HasType, HaveTypes, is_type, primitive_type}
use Rattle.sp_core.specs.WellFormed.{AreFormals, IsExpression, IsFunction, IsKind, IsWellFormed}
use Rattle.sp_sequent.specs.declared.formula.FormulaKind.{FormulaKind}
use Rattle.sp_sequent.specs.declared.formula.FormulaKind.TheVariants as is
use Rattle.sp_formulas.specs.Assertions.{instances, is_unknown}
use Rattle.sp_formulas.specs.Formulas.{About, Spot, about, agreement_of, agreements, agreements_with, bound_from, conditions, deed_formulas, denied, derivation_formulas, equal_all, exception_formulas, formula, formulas, formulas_from, function_formulas, guard_formulas, guards_of, item_formulas, known_from, level_at, reference_formula, reference_formulas, spot, types_with}
use Rattle.sp_formulas.specs.Items.{Answer, Change, Deed, Item, items_in}
use Rattle.sp_formulas.specs.Moves.{raise, raise_all, raised, settle}
use Rattle.sp_formulas.specs.References.{Reference, references, references_in}
use Rattle.sp_formulas.specs.Typed.{AreTypedFormulas, IsTypedFormula}
use Rattle.sp_formulas.proofs.Alls.{All-back}
use Rattle.sp_formulas.proofs.TypedLemmas.{raise_typed}
use Rattle.sp_formula_laws.proofs.Counts.{all_renumbered_count, raise_count, settle_count}
use Rattle.sp_formula_laws.proofs.FrontTypes.{AreTypes, IsFront, IsSettled, all_settled, both_levels, both_same, equal_settled, front_more, front_not, front_of, fronts_more, level_front, new_few, new_typed, whole_front}
use Rattle.sp_formula_laws.proofs.TypedItems.{IsDeed, IsItem, kind_items}
use Rattle.sp_formula_laws.proofs.TypedReferences.{IsReference, all_references_typed, references_typed}
use Rattle.sp_formula_laws.proofs.TypedTuples.{All-flat, IsClaim, instances_claims, unknown_typed}

-- the types of a formula's variables
bound_types : (k : ℕ) (ts : List Ty) → types_of (bound_from k ts) ≡ ts
bound_types k [] = refl
bound_types k (t ∷ ts) = ap (λ us. t ∷ us) (bound_types (k + 1) ts)

pub vars_are : (formals : List Formal) (ts : List Ty) → types_of (formals ++ bound_from (length formals) ts) ≡ types_of formals ++ ts
vars_are formals ts = map-append (λ f. f.ty) formals (bound_from (length formals) ts) ∙ ap (λ us. types_of formals ++ us) (bound_types (length formals) ts)

bound_length : (k : ℕ) (ts : List Ty) → length (bound_from k ts) ≡ length ts
bound_length k [] = refl
bound_length k (t ∷ ts) = ap suc (bound_length (k + 1) ts)

slice_seam : (pre us : List Ty) (t : Ty) (k : ℕ) → k ≡ length pre → slice_get (pre ++ t ∷ us) k ≡ Some t
slice_seam [] us t k e = ap (slice_get (t ∷ us)) e
slice_seam (x ∷ pre) us t zero e = absurd (omega (arith, e))
slice_seam (x ∷ pre) us t (suc k) e = slice_seam pre us t k (omega (arith, e))

module _ (p : Parts) (wf : IsWellFormed p) where
  -- NOT (x = ?) of the variables behind others
  known_claims : (pre us : List Ty) (k : ℕ) → k ≡ length pre → AreTypes (signature p) us → All (IsClaim (signature p) (pre ++ us)) (known_from k us)
  known_claims pre [] k e h = All-nil (IsClaim (signature p) (pre ++ []))
  known_claims pre (t ∷ us) k e h =
      by (has_unknown t) refl (subst (λ ys. All (IsClaim (signature p) ys) (known_from (k + 1) us)) (append_assoc pre (t ∷ []) us)
      (known_claims (pre ++ t ∷ []) us (k + 1) (omega (arith, e, length-append pre (t ∷ []))) (All-tail (λ t. IsTrue (is_type (signature p) t)) t us h)))
    where
      by : (c : Bool) → has_unknown t ≡ c → All (IsClaim (signature p) (pre ++ t ∷ us)) (known_from (k + 1) us)
          → All (IsClaim (signature p) (pre ++ t ∷ us)) (if c then Not (is_unknown k) ∷ known_from (k + 1) us else known_from (k + 1) us)
      by true q rest = All-cons (IsClaim (signature p) (pre ++ t ∷ us)) (Not (is_unknown k)) (known_from (k + 1) us)
          (record { typed = (refl, unknown_typed (signature p) (pre ++ t ∷ us) k t (slice_seam pre us t k e) q (All-head (λ t. IsTrue (is_type (signature p) t)) t us h)); few = omega arith }) rest
      by false q rest = rest

  -- from number k on
  known_behind : (xs : List Ty) (k : ℕ) → k ≤ length xs → AreTypes (signature p) xs → All (IsClaim (signature p) xs) (known_from k (drop k xs))
  known_behind xs k l h =
      let whole = take-append-drop k xs in
      subst (λ ys. All (IsClaim (signature p) ys) (known_from k (drop k xs))) whole
      (known_claims (take k xs) (drop k xs) k (sym (length-take-le k xs l)) (All-back (λ t. IsTrue (is_type (signature p) t)) (take k xs) (drop k xs) (subst (AreTypes (signature p)) (sym whole) h)))

  -- what a formula asks of what it is made of
  pub record IsBound (o : About) (ts : List Ty) : Type 0 where
    pub formals : AreFormals (signature p) o.formals
    pub types : AreTypes (signature p) ts
    pub few : length ts ≤ 16

  all_types : (o : About) (ts : List Ty) → IsBound o ts → AreTypes (signature p) (types_with o ts)
  all_types o ts h = All-append (λ t. IsTrue (is_type (signature p) t)) (types_of o.formals) ts h.formals.types h.types

  settled_claims : (vars : List Ty) (es : List Tree) → All (IsSettled (signature p) vars ty.Boolean) es → All (IsClaim (signature p) vars) (map (settle (length vars)) es)
  settled_claims vars es h = All-map (IsClaim (signature p) vars) (settle (length vars)) es (All-weaker (IsSettled (signature p) vars ty.Boolean) (λ e. IsClaim (signature p) vars (settle (length vars) e))
      (λ e s. record { typed = s.typed; few = subst (λ n. n ≤ MOST_QUANTIFIERS) (sym (settle_count (length vars) e)) s.few }) es h)

  claims_typed : (k : FormulaKind) (g : ℕ) (name : List ℕ) (vars : List Formal) (hyps : List Tree) (goal : Tree) → length vars ≤ 65536 → All (IsClaim (signature p) (types_of vars)) hyps
      → IsClaim (signature p) (types_of vars) goal → IsTypedFormula p (record { kind = k; fun = g; name = name; vars = vars; hypotheses = hyps; goal = goal })
  claims_typed k g name vars hyps goal few h q = record {
    few_variables = few;
    hypotheses = All-weaker (IsClaim (signature p) (types_of vars)) (λ e. HasType (signature p) (types_of vars) e ty.Boolean) (λ e c. c.typed) hyps h;
    goal = q.typed;
    few_quantifiers = All-weaker (IsClaim (signature p) (types_of vars)) (λ e. quantifiers e ≤ MOST_QUANTIFIERS) (λ e c. c.few) hyps h;
    few_in_goal = q.few;
  }

  formula_typed : (o : About) (k : ℕ) (ts : List Ty) (hyps : List Tree) (goal : Tree) → IsBound o ts → k ≤ length (types_with o ts) → All (IsSettled (signature p) (types_with o ts) ty.Boolean) hyps
      → IsSettled (signature p) (types_with o ts) ty.Boolean goal → IsTypedFormula p (formula p o k ts hyps goal)
  formula_typed o k ts hyps goal bound l h q =
      let sg = signature p in
      let xs = types_with o ts in
      let vars = o.formals ++ bound_from (length o.formals) ts in
      let same : xs ≡ types_of vars = sym (vars_are o.formals ts) in
      let claims : All (IsClaim sg xs) (known_from k (drop k xs) ++ (map (settle (length xs)) hyps ++ instances p.assertions xs)) =
      All-append (IsClaim sg xs) (known_from k (drop k xs)) (map (settle (length xs)) hyps ++ instances p.assertions xs) (known_behind xs k l (all_types o ts bound))
      (All-append (IsClaim sg xs) (map (settle (length xs)) hyps) (instances p.assertions xs) (settled_claims xs hyps h) (instances_claims sg xs (all_types o ts bound) p.assertions wf.assertions)) in
      let aim : IsClaim sg xs (settle (length xs) goal) = record { typed = q.typed; few = subst (λ n. n ≤ MOST_QUANTIFIERS) (sym (settle_count (length xs) goal)) q.few } in
      claims_typed o.kind o.fun o.name vars (known_from k (drop k xs) ++ (map (settle (length xs)) hyps ++ instances p.assertions xs)) (settle (length xs) goal)
      (omega (arith, length-append o.formals (bound_from (length o.formals) ts), bound_length (length o.formals) ts, bound.formals.few, bound.few))
      (subst (λ ys. All (IsClaim sg ys) (known_from k (drop k xs) ++ (map (settle (length xs)) hyps ++ instances p.assertions xs))) same claims) (subst (λ ys. IsClaim sg ys (settle (length xs) goal)) same aim)

  -- References

  pub record IsSpot (o : Spot) : Type 0 where
    pub formals : AreFormals (signature p) o.about.formals
    pub types : AreTypes (signature p) o.bound
    pub few : length o.bound ≤ 8
    pub known : o.known ≤ length (types_with o.about o.bound)
    pub upper : IsFront (signature p) (types_with o.about o.bound) ty.Level o.upper

  module _ (o : Spot) (here : IsSpot o) (hyps : List Tree) (assumed : All (IsFront (signature p) (types_with o.about o.bound) ty.Boolean) hyps) where
    reference_typed : (r : Reference) → IsReference (signature p) MOST_QUANTIFIERS (types_with o.about o.bound) r → IsTypedFormula p (reference_formula p o hyps r)
    reference_typed r k =
        let sg = signature p in
        let xs = types_with o.about o.bound in
        let same : xs ++ r.vars ≡ types_with o.about (o.bound ++ r.vars) = append_assoc (types_of o.about.formals) o.bound r.vars in
        let lower : IsFront sg (xs ++ r.vars) ty.Level (level_at p r.fun r.args) =
        subst (λ ys. IsFront sg ys ty.Level (level_at p r.fun r.args)) (append-nil (xs ++ r.vars))
        (level_front p (xs ++ r.vars) [] (types_of k.0.formals) r.fun k.0 r.args k.1.function (wf.functions r.fun k.0 k.1.function).level k.1.args k.1.few_in_args) in
        let aim = both_levels sg (xs ++ r.vars) (level_at p r.fun r.args) o.upper lower (front_more sg xs r.vars ty.Level o.upper here.upper) in
        let hyp = all_settled sg (xs ++ r.vars) ty.Boolean (hyps ++ r.path) (All-append (IsFront sg (xs ++ r.vars) ty.Boolean) hyps r.path (fronts_more sg xs r.vars ty.Boolean hyps assumed) k.1.path) in
        formula_typed o.about o.known (o.bound ++ r.vars) (hyps ++ r.path) (Two op.LevelLe (level_at p r.fun r.args) o.upper)
        (record {
          formals = here.formals;
          types = All-append (λ t. IsTrue (is_type sg t)) o.bound r.vars here.types k.1.types;
          few = omega (arith, here.few, k.1.few_variables, length-append o.bound r.vars);
        })
        (omega (arith, here.known, length-append xs r.vars, ap length same))
        (subst (λ ys. All (IsSettled sg ys ty.Boolean) (hyps ++ r.path)) same hyp)
        (subst (λ ys. IsSettled sg ys ty.Boolean (Two op.LevelLe (level_at p r.fun r.args) o.upper)) same aim)

    references_formulas : (rs : List Reference) → All (IsReference (signature p) MOST_QUANTIFIERS (types_with o.about o.bound)) rs → AreTypedFormulas p (reference_formulas p o hyps rs)
    references_formulas rs h = All-map (IsTypedFormula p) (reference_formula p o hyps) rs
        (All-weaker (IsReference (signature p) MOST_QUANTIFIERS (types_with o.about o.bound)) (λ r. IsTypedFormula p (reference_formula p o hyps r)) (λ r k. reference_typed r k) rs h)

    -- those of an expression
    expression_formulas : (e : Tree) (t : Ty) → HasType (signature p) (types_with o.about o.bound) e t → quantifiers e ≤ MOST_QUANTIFIERS → AreTypedFormulas p (reference_formulas p o hyps (references e))
    expression_formulas e t h l = references_formulas (references e) (references_typed (signature p) MOST_QUANTIFIERS (omega arith) e (types_with o.about o.bound) t l h)

  module _ (o : Spot) (here : IsSpot o) where
    exceptions_typed : (es before : List Tree) → All (IsClaim (signature p) (types_with o.about o.bound)) es → All (IsFront (signature p) (types_with o.about o.bound) ty.Boolean) before
        → AreTypedFormulas p (exception_formulas p o before es)
    exceptions_typed [] before h k = All-nil (IsTypedFormula p)
    exceptions_typed (e ∷ es) before h k =
        let xs = types_with o.about o.bound in
        let own = All-head (IsClaim (signature p) xs) e es h in
        All-append (IsTypedFormula p) (reference_formulas p o before (references e)) (exception_formulas p o (before ++ Not e ∷ []) es) (expression_formulas o here before k e ty.Boolean own.typed own.few)
        (exceptions_typed es (before ++ Not e ∷ []) (All-tail (IsClaim (signature p) xs) e es h)
        (All-push (IsFront (signature p) xs ty.Boolean) before (Not e) k (front_not (signature p) xs e (whole_front (signature p) xs ty.Boolean e own.typed own.few))))

    guards_typed : (cs before : List Tree) → All (IsClaim (signature p) (types_with o.about o.bound)) cs → All (IsFront (signature p) (types_with o.about o.bound) ty.Boolean) before
        → AreTypedFormulas p (guard_formulas p o before cs)
    guards_typed [] before h k = All-nil (IsTypedFormula p)
    guards_typed (c ∷ cs) before h k =
        let xs = types_with o.about o.bound in
        let own = All-head (IsClaim (signature p) xs) c cs h in
        All-append (IsTypedFormula p) (reference_formulas p o before (references c)) (guard_formulas p o (before ++ c ∷ []) cs) (expression_formulas o here before k c ty.Boolean own.typed own.few)
        (guards_typed cs (before ++ c ∷ []) (All-tail (IsClaim (signature p) xs) c cs h)
        (All-push (IsFront (signature p) xs ty.Boolean) before c k (whole_front (signature p) xs ty.Boolean c own.typed own.few)))

  -- Functions

  module _ (g : ℕ) (f : Function) (fine : IsFunction (signature p) g f) where
    abbrev Xs : List Ty
    Xs = types_of f.formals

    level_of_f : (ts : List Ty) → IsFront (signature p) (Xs ++ ts) ty.Level (tree f.level)
    level_of_f ts = front_of (signature p) Xs ts ty.Level (tree f.level) fine.level.expression.typed fine.level.expression.few_quantifiers

    own_conditions : All (IsClaim (signature p) Xs) (conditions f)
    own_conditions = All-map (IsClaim (signature p) Xs) (λ e. tree e.1) f.exceptions
        (All-weaker (λ e. IsExpression (signature p) Xs (tree e.1) ty.Boolean) (λ e. IsClaim (signature p) Xs (tree e.1)) (λ e h. record { typed = h.typed; few = h.few_quantifiers }) f.exceptions fine.exceptions)

    own_denied : (ts : List Ty) → All (IsFront (signature p) (Xs ++ ts) ty.Boolean) (denied f)
    own_denied ts = All-map (IsFront (signature p) (Xs ++ ts) ty.Boolean) Not (conditions f)
        (All-weaker (IsClaim (signature p) Xs) (λ c. IsFront (signature p) (Xs ++ ts) ty.Boolean (Not c)) (λ c h. front_of (signature p) Xs ts ty.Boolean (Not c) (refl, h.typed) h.few) (conditions f) own_conditions)

    here_spot : (k : FormulaKind) (ts : List Ty) (upper : Tree) → AreTypes (signature p) ts → length ts ≤ 8 → IsFront (signature p) (Xs ++ ts) ty.Level upper → IsSpot (spot k g f ts upper)
    here_spot k ts upper h l u = record { formals = fine.formals; types = h; few = l; known = omega arith; upper = u }

    exceptions_all : AreTypedFormulas p (exception_formulas p (spot is.ExceptionReference g f [] (tree f.level)) [] (conditions f))
    exceptions_all = exceptions_typed (spot is.ExceptionReference g f [] (tree f.level)) (here_spot is.ExceptionReference [] (tree f.level) (All-nil (λ t. IsTrue (is_type (signature p) t))) (omega arith) (level_of_f []))
        (conditions f) [] (subst (λ ys. All (IsClaim (signature p) ys) (conditions f)) (sym (append-nil Xs)) own_conditions) (All-nil (IsFront (signature p) (Xs ++ []) ty.Boolean))

    derivations_all : (k : Kind) → IsKind (signature p) Xs g k → AreTypedFormulas p (derivation_formulas p g f k)
    derivations_all (kind.Primitive t e) h = All-nil (IsTypedFormula p)
    derivations_all (kind.Derived t e) h =
        expression_formulas (record { about = about is.DerivationReference g f; known = length f.formals; bound = []; upper = tree f.level })
        (record {
          formals = fine.formals;
          types = All-nil (λ t. IsTrue (is_type (signature p) t));
          few = omega arith;
          known = omega (arith, length-append Xs [], length-map f.formals (λ a. a.ty));
          upper = level_of_f [];
        }) [] (All-nil (IsFront (signature p) (Xs ++ []) ty.Boolean)) (tree e) t (subst (λ ys. HasType (signature p) ys (tree e) t) (sym (append-nil Xs)) h.expression.typed) h.expression.few_quantifiers
    derivations_all (kind.Operation es) h = All-nil (IsTypedFormula p)
    derivations_all (kind.Both t es) h = All-nil (IsTypedFormula p)

    -- guards with quantifiers behind all variables are typed over all
    own_guards : (i : Item) → IsItem (signature p) MOST_BOUND_VARIABLES Xs i → All (IsClaim (signature p) (Xs ++ i.vars)) (guards_of f i)
    own_guards i h =
        let n : length (Xs ++ i.vars) ≡ length f.formals + length i.vars = omega (arith, length-append Xs i.vars, length-map f.formals (λ a. a.ty)) in
        subst (λ m. All (IsClaim (signature p) (Xs ++ i.vars)) (map (settle m) i.guards)) n
        (settled_claims (Xs ++ i.vars) i.guards (all_settled (signature p) (Xs ++ i.vars) ty.Boolean i.guards h.guards))

    claims_fronts : (vars : List Ty) (es : List Tree) → All (IsClaim (signature p) vars) es → All (IsFront (signature p) vars ty.Boolean) es
    claims_fronts vars es h = All-weaker (IsClaim (signature p) vars) (IsFront (signature p) vars ty.Boolean) (λ e c. whole_front (signature p) vars ty.Boolean e c.typed c.few) es h

    module _ (ts : List Ty) (types : AreTypes (signature p) ts) (few : length ts ≤ 8) (gs : List Tree) (guards : All (IsClaim (signature p) (Xs ++ ts)) gs) where
      assumed : All (IsFront (signature p) (Xs ++ ts) ty.Boolean) (denied f ++ gs)
      assumed = All-append (IsFront (signature p) (Xs ++ ts) ty.Boolean) (denied f) gs (own_denied ts) (claims_fronts (Xs ++ ts) gs guards)

      deed_typed : (d : Deed) → IsDeed (signature p) (Xs ++ ts) d → AreTypedFormulas p (deed_formulas p g f ts gs d)
      deed_typed (Change h ds e) k =
          let sg = signature p in
          let zs = Xs ++ ts in
          let args = new_typed sg zs ds (types_of k.0.formals) k.4 in
          let less = new_few sg zs ds (types_of k.0.formals) k.4 in
          let place : IsFront sg zs ty.Level (level_at p h ds) =
          subst (λ ys. IsFront sg ys ty.Level (level_at p h ds)) (append-nil zs) (level_front p zs [] (types_of k.0.formals) h k.0 ds k.2 (wf.functions h k.0 k.2).level args less) in
          All-cons (IsTypedFormula p) (formula p (about is.Change g f) 0 ts (denied f ++ gs) (Two op.LevelLe (tree f.level) (level_at p h ds)))
          (guard_formulas p (spot is.GuardReference g f ts (level_at p h ds)) (denied f) gs
          ++ (reference_formulas p (spot is.ValueReference g f ts (level_at p h ds)) (denied f ++ gs) (references e)
          ++ reference_formulas p (spot is.TargetReference g f ts (tree f.level)) (denied f) (references_in ds)))
          (formula_typed (about is.Change g f) 0 ts (denied f ++ gs) (Two op.LevelLe (tree f.level) (level_at p h ds)) (record { formals = fine.formals; types = types; few = omega (arith, few) }) (omega arith)
          (all_settled sg zs ty.Boolean (denied f ++ gs) assumed) (both_levels sg zs (tree f.level) (level_at p h ds) (level_of_f ts) place))
          (All-append (IsTypedFormula p) (guard_formulas p (spot is.GuardReference g f ts (level_at p h ds)) (denied f) gs)
          (reference_formulas p (spot is.ValueReference g f ts (level_at p h ds)) (denied f ++ gs) (references e)
          ++ reference_formulas p (spot is.TargetReference g f ts (tree f.level)) (denied f) (references_in ds))
          (guards_typed (spot is.GuardReference g f ts (level_at p h ds)) (here_spot is.GuardReference ts (level_at p h ds) types few place) gs (denied f) guards (own_denied ts))
          (All-append (IsTypedFormula p) (reference_formulas p (spot is.ValueReference g f ts (level_at p h ds)) (denied f ++ gs) (references e))
          (reference_formulas p (spot is.TargetReference g f ts (tree f.level)) (denied f) (references_in ds))
          (expression_formulas (spot is.ValueReference g f ts (level_at p h ds)) (here_spot is.ValueReference ts (level_at p h ds) types few place) (denied f ++ gs) assumed e k.1 k.5.typed k.5.few_quantifiers)
          (references_formulas (spot is.TargetReference g f ts (tree f.level)) (here_spot is.TargetReference ts (tree f.level) types few (level_of_f ts)) (denied f) (own_denied ts) (references_in ds)
          (all_references_typed sg MOST_QUANTIFIERS (omega arith) ds zs (types_of k.0.formals) less args))))
      deed_typed (Answer e) k =
          All-append (IsTypedFormula p) (guard_formulas p (spot is.ResultGuardReference g f ts (tree f.level)) (denied f) gs)
          (reference_formulas p (spot is.ResultReference g f ts (tree f.level)) (denied f ++ gs) (references e))
          (guards_typed (spot is.ResultGuardReference g f ts (tree f.level)) (here_spot is.ResultGuardReference ts (tree f.level) types few (level_of_f ts)) gs (denied f) guards (own_denied ts))
          (expression_formulas (spot is.ResultReference g f ts (tree f.level)) (here_spot is.ResultReference ts (tree f.level) types few (level_of_f ts)) (denied f ++ gs) assumed e k.0 k.1.typed k.1.few_quantifiers)

    item_typed : (i : Item) → IsItem (signature p) MOST_BOUND_VARIABLES Xs i → AreTypedFormulas p (item_formulas p g f i)
    item_typed i h = deed_typed i.vars h.types (omega (arith, h.few_variables)) (guards_of f i) (own_guards i h) i.deed h.deed

    -- Agreement

    module _ (i j : Item) (h : IsItem (signature p) MOST_BOUND_VARIABLES Xs i) (k : IsItem (signature p) MOST_BOUND_VARIABLES Xs j) where
      abbrev Both : List Ty
      Both = Xs ++ (i.vars ++ j.vars)

      moved : (e : Tree) (t : Ty) → HasType (signature p) (Xs ++ j.vars) e t → HasType (signature p) Both (raise (length f.formals) (length i.vars) e) t
      moved e t w = subst (λ n. HasType (signature p) Both (raise n (length i.vars) e) t) (length-map f.formals (λ a. a.ty)) (raise_typed (signature p) Xs i.vars j.vars e t w)

      few_moved : (e : Tree) → quantifiers e ≤ MOST_QUANTIFIERS → quantifiers (raise (length f.formals) (length i.vars) e) ≤ MOST_QUANTIFIERS
      few_moved e l = subst (λ n. n ≤ MOST_QUANTIFIERS) (sym (raise_count (length f.formals) (length i.vars) e)) l

      first_assumed : All (IsSettled (signature p) Both ty.Boolean) i.guards
      first_assumed = all_settled (signature p) Both ty.Boolean i.guards
          (subst (λ ys. All (IsFront (signature p) ys ty.Boolean) i.guards) (append_assoc Xs i.vars j.vars) (fronts_more (signature p) (Xs ++ i.vars) j.vars ty.Boolean i.guards h.guards))

      second_assumed : All (IsSettled (signature p) Both ty.Boolean) (map (raise (length f.formals) (length i.vars)) (guards_of f j))
      second_assumed = all_settled (signature p) Both ty.Boolean (map (raise (length f.formals) (length i.vars)) (guards_of f j))
          (All-map (IsFront (signature p) Both ty.Boolean) (raise (length f.formals) (length i.vars)) (guards_of f j)
          (All-weaker (IsClaim (signature p) (Xs ++ j.vars)) (λ c. IsFront (signature p) Both ty.Boolean (raise (length f.formals) (length i.vars) c))
          (λ c w. whole_front (signature p) Both ty.Boolean (raise (length f.formals) (length i.vars) c) (moved c ty.Boolean w.typed) (few_moved c w.few)) (guards_of f j) (own_guards j k)))

      changes_agree : (x y : ℕ) (ds es : Trees) (e d : Tree) → x ≡ y → IsDeed (signature p) (Xs ++ i.vars) (Change x ds e) → IsDeed (signature p) (Xs ++ j.vars) (Change y es d)
          → IsTypedFormula p (formula p (about is.Agreement g f) 0 (i.vars ++ j.vars)
          (denied f ++ (i.guards ++ (map (raise (length f.formals) (length i.vars)) (guards_of f j) ++ equal_all ds (raise_all (length f.formals) (length i.vars) es))))
          (Two op.Same e (raise (length f.formals) (length i.vars) d)))
      changes_agree x y ds es e d q a b =
          let sg = signature p in
          let one : a.0 ≡ b.0 = same_Some a.0 b.0 (sym a.2 ∙ ap (slice_get p.functions) q ∙ b.2) in
          let type : b.1 ≡ a.1 = same_Some b.1 a.1 (sym b.3 ∙ ap (λ u. primitive_type u.kind) (sym one) ∙ a.3) in
          let assoc = append_assoc Xs i.vars j.vars in
          let left = new_typed sg (Xs ++ i.vars) ds (types_of a.0.formals) a.4 in
          let right : HaveTypes sg (Xs ++ j.vars) es (types_of b.0.formals) = new_typed sg (Xs ++ j.vars) es (types_of b.0.formals) b.4 in
          let there : HaveTypes sg Both (raise_all (length f.formals) (length i.vars) es) (types_of b.0.formals) =
          subst (λ us. HaveTypes sg Both (raise_all (length f.formals) (length i.vars) es) us) refl (args_moved es b.0 b.1 y b.2 b.3 right) in
          let same_args : All (IsSettled sg Both ty.Boolean) (equal_all ds (raise_all (length f.formals) (length i.vars) es)) =
          subst (λ ys. All (IsSettled sg ys ty.Boolean) (equal_all ds (raise_all (length f.formals) (length i.vars) es))) assoc
          (equal_settled sg (Xs ++ i.vars) j.vars ds (raise_all (length f.formals) (length i.vars) es) (types_of a.0.formals) left (new_few sg (Xs ++ i.vars) ds (types_of a.0.formals) a.4)
          (subst (λ ys. HaveTypes sg ys (raise_all (length f.formals) (length i.vars) es) (types_of a.0.formals)) (sym assoc) (subst (λ u. HaveTypes sg Both (raise_all (length f.formals) (length i.vars) es) (types_of u.formals)) (sym one) there))
          (subst (λ n. n ≤ MOST_QUANTIFIERS) (sym (all_renumbered_count (raised (length f.formals) (length i.vars)) (λ m. m + length i.vars) es)) (new_few sg (Xs ++ j.vars) es (types_of b.0.formals) b.4))) in
          let value : IsFront sg Both a.1 e = subst (λ ys. IsFront sg ys a.1 e) assoc (front_of sg (Xs ++ i.vars) j.vars a.1 e a.5.typed a.5.few_quantifiers) in
          let other : IsFront sg Both a.1 (raise (length f.formals) (length i.vars) d) =
          whole_front sg Both a.1 (raise (length f.formals) (length i.vars) d) (moved d a.1 (subst (HasType sg (Xs ++ j.vars) d) type b.5.typed)) (few_moved d b.5.few_quantifiers) in
          formula_typed (about is.Agreement g f) 0 (i.vars ++ j.vars)
          (denied f ++ (i.guards ++ (map (raise (length f.formals) (length i.vars)) (guards_of f j) ++ equal_all ds (raise_all (length f.formals) (length i.vars) es))))
          (Two op.Same e (raise (length f.formals) (length i.vars) d))
          (record {
            formals = fine.formals;
            types = All-append (λ t. IsTrue (is_type sg t)) i.vars j.vars h.types k.types;
            few = omega (arith, h.few_variables, k.few_variables, length-append i.vars j.vars);
          })
          (omega arith)
          (All-append (IsSettled sg Both ty.Boolean) (denied f) (i.guards ++ (map (raise (length f.formals) (length i.vars)) (guards_of f j) ++ equal_all ds (raise_all (length f.formals) (length i.vars) es)))
          (all_settled sg Both ty.Boolean (denied f) (own_denied (i.vars ++ j.vars)))
          (All-append (IsSettled sg Both ty.Boolean) i.guards (map (raise (length f.formals) (length i.vars)) (guards_of f j) ++ equal_all ds (raise_all (length f.formals) (length i.vars) es)) first_assumed
          (All-append (IsSettled sg Both ty.Boolean) (map (raise (length f.formals) (length i.vars)) (guards_of f j)) (equal_all ds (raise_all (length f.formals) (length i.vars) es)) second_assumed same_args)))
          (both_same sg Both a.1 e (raise (length f.formals) (length i.vars) d) value other)
        where
          -- as arguments of the new value of the function changed
          args_moved : (es : Trees) (u : Function) (t : Ty) (y : ℕ) → slice_get p.functions y ≡ Some u → primitive_type u.kind ≡ Some t → HaveTypes (signature p) (Xs ++ j.vars) es (types_of u.formals)
              → HaveTypes (signature p) Both (raise_all (length f.formals) (length i.vars) es) (types_of u.formals)
          args_moved es u t y at primitive w =
              let whole = moved (New y es) t (u, at, primitive, w) in
              subst (λ v. HaveTypes (signature p) Both (raise_all (length f.formals) (length i.vars) es) (types_of v.formals)) (same_Some whole.0 u (sym whole.1 ∙ at)) whole.3

      pub agreement_typed : (a b : Deed) → IsDeed (signature p) (Xs ++ i.vars) a → IsDeed (signature p) (Xs ++ j.vars) b → AreTypedFormulas p (agreement_of p g f i j a b)
      agreement_typed (Change x ds e) (Change y es d) a b = by (x == y) refl
        where
          by : (c : Bool) → (x == y) ≡ c → AreTypedFormulas p (if c then
              formula p (about is.Agreement g f) 0 (i.vars ++ j.vars)
              (denied f ++ (i.guards ++ (map (raise (length f.formals) (length i.vars)) (guards_of f j) ++ equal_all ds (raise_all (length f.formals) (length i.vars) es))))
              (Two op.Same e (raise (length f.formals) (length i.vars) d)) ∷ [] else [])
          by true q = All-cons (IsTypedFormula p) (formula p (about is.Agreement g f) 0 (i.vars ++ j.vars)
              (denied f ++ (i.guards ++ (map (raise (length f.formals) (length i.vars)) (guards_of f j) ++ equal_all ds (raise_all (length f.formals) (length i.vars) es))))
              (Two op.Same e (raise (length f.formals) (length i.vars) d))) [] (changes_agree x y ds es e d ((Decides-eqb x y).0 q) a b) (All-nil (IsTypedFormula p))
          by false q = All-nil (IsTypedFormula p)
      agreement_typed (Change x ds e) (Answer d) a b = All-nil (IsTypedFormula p)
      agreement_typed (Answer e) b h k = All-nil (IsTypedFormula p)

    agreements_typed : (is' : List Item) → All (IsItem (signature p) MOST_BOUND_VARIABLES Xs) is' → AreTypedFormulas p (agreements p g f is')
    agreements_typed [] h = All-nil (IsTypedFormula p)
    agreements_typed (i ∷ is') h =
        let own = All-head (IsItem (signature p) MOST_BOUND_VARIABLES Xs) i is' h in
        let rest = All-tail (IsItem (signature p) MOST_BOUND_VARIABLES Xs) i is' h in
        All-append (IsTypedFormula p) (agreements_with p g f i is') (agreements p g f is')
        (All-flat (IsItem (signature p) MOST_BOUND_VARIABLES Xs) (IsTypedFormula p) (λ j. agreement_of p g f i j i.deed j.deed) is' (λ j k. agreement_typed i j own k i.deed j.deed own.deed k.deed) rest)
        (agreements_typed is' rest)

    pub function_typed : AreTypedFormulas p (function_formulas p g f)
    function_typed =
        let all = kind_items (signature p) Xs g f.kind fine.kind in
        All-append (IsTypedFormula p) (exception_formulas p (spot is.ExceptionReference g f [] (tree f.level)) [] (conditions f))
        (derivation_formulas p g f f.kind ++ (flat_map (item_formulas p g f) (items_in (effect_trees f.kind)) ++ agreements p g f (items_in (effect_trees f.kind)))) exceptions_all
        (All-append (IsTypedFormula p) (derivation_formulas p g f f.kind) (flat_map (item_formulas p g f) (items_in (effect_trees f.kind)) ++ agreements p g f (items_in (effect_trees f.kind))) (derivations_all f.kind fine.kind)
        (All-append (IsTypedFormula p) (flat_map (item_formulas p g f) (items_in (effect_trees f.kind))) (agreements p g f (items_in (effect_trees f.kind)))
        (All-flat (IsItem (signature p) MOST_BOUND_VARIABLES Xs) (IsTypedFormula p) (item_formulas p g f) (items_in (effect_trees f.kind)) (λ i h. item_typed i h) all) (agreements_typed (items_in (effect_trees f.kind)) all)))

  from_typed : (fs : List Function) (g : ℕ) → ((k : ℕ) (f : Function) → slice_get fs k ≡ Some f → IsFunction (signature p) (g + k) f) → AreTypedFormulas p (formulas_from p g fs)
  from_typed [] g h = All-nil (IsTypedFormula p)
  from_typed (f ∷ fs) g h =
      let z : g + 0 ≡ g = omega arith in
      All-append (IsTypedFormula p) (function_formulas p g f) (formulas_from p (g + 1) fs) (function_typed g f (subst (λ n. IsFunction (signature p) n f) z (h 0 f refl)))
      (from_typed fs (g + 1) (λ k u e. let n : g + suc k ≡ g + 1 + k = omega arith in subst (λ m. IsFunction (signature p) m u) n (h (suc k) u e)))

  pub formulas_typed : AreTypedFormulas p (formulas p)
  formulas_typed = from_typed p.functions 0 (λ k f e. let n : k ≡ 0 + k = omega arith in subst (λ m. IsFunction (signature p) m f) n (wf.functions k f e))
