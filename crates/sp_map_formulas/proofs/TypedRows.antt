-- Each formula of a mapping is typed over its variables.
use Rattle.std.proofs.Common.{◌≡◌, refl, sym, ◌∙◌, ap, subst, arith, ℕ, zero, suc, ◌+◌, ◌≤◌, Bool, true, false, List, [], ◌∷◌, ◌++◌, length, map, append_assoc}
use Rattle.std.specs.Prelude.{IsTrue, Some, if◌then◌else◌, slice_get}
use Rattle.std.specs.List.{All}
use Rattle.std.proofs.lemmas.List.{append-nil, length-append, length-map}
use Rattle.std.proofs.lemmas.List.Elements.{All-append, All-cons, All-head, All-map, All-nil, All-tail, All-weaker}
use Rattle.sp_text.specs.declared.limits.TheConstants.{MOST_QUANTIFIERS}
use Rattle.sp_values.specs.declared.value.Op.TheVariants as op
use Rattle.sp_values.specs.declared.value.Ty.{Ty}
use Rattle.sp_values.specs.declared.value.Ty.TheVariants as ty
use Rattle.sp_values.specs.Domains.{has_unknown}
use Rattle.sp_core.specs.declared.mapping.MapRow.{MapRow}
use Rattle.sp_core.specs.declared.mapping.Mapping.{Mapping}
use Rattle.sp_core.specs.Machine.{types_of}
use Rattle.sp_core.specs.Mappings.{IsMappingTo, IsRow}
use Rattle.sp_core.specs.Measures.{quantifiers}
use Rattle.sp_core.specs.Parts.{Parts, signature}
use Rattle.sp_core.specs.Tree.{Tree, Not, Two, tree}
use Rattle.sp_core.specs.Typing.{HasType, is_type}
use Rattle.sp_core.specs.WellFormed.{IsWellFormed}
use Rattle.sp_formulas.specs.Assertions.{instances, is_unknown}
use Rattle.sp_formulas.specs.Formulas.{bound_from, known_from, level_at, reference_formula}
use Rattle.sp_formulas.specs.Moves.{settle}
use Rattle.sp_formulas.specs.References.{Reference, references}
use Rattle.sp_formulas.specs.Typed.{AreTypedFormulas, IsTypedFormula}
use Rattle.sp_formula_laws.proofs.Counts.{settle_count}
use Rattle.sp_formula_laws.proofs.FrontTypes.{AreTypes, IsFront, IsSettled, all_settled, both_levels, front_of, level_front}
use Rattle.sp_formula_laws.proofs.TypedFormulas.{vars_are}
use Rattle.sp_formula_laws.proofs.TypedReferences.{IsReference, references_typed}
use Rattle.sp_formula_laws.proofs.TypedTuples.{All-flat, IsClaim, instances_claims, unknown_typed}
use Rattle.sp_map_formulas.specs.Rows.{map_formulas, row_formulas, row_spot}

slice_seam : (pre us : List Ty) (t : Ty) (k : ℕ) → k ≡ length pre → slice_get (pre ++ t ∷ us) k ≡ Some t
slice_seam [] us t k e = ap (slice_get (t ∷ us)) e
slice_seam (x ∷ pre) us t zero e = absurd (omega (arith, e))
slice_seam (x ∷ pre) us t (suc k) e = slice_seam pre us t k (omega (arith, e))

module _ (p : Parts) (wf : IsWellFormed p) where
  abbrev Claim : List Ty → Tree → Type 0
  Claim xs e = IsClaim (signature p) xs e

  -- NOT (x = ?) of the variables behind others
  known_claims : (pre us : List Ty) (k : ℕ) → k ≡ length pre → AreTypes (signature p) us → All (Claim (pre ++ us)) (known_from k us)
  known_claims pre [] k e h = All-nil (Claim (pre ++ []))
  known_claims pre (t ∷ us) k e h =
      by (has_unknown t) refl (subst (λ ys. All (Claim ys) (known_from (k + 1) us)) (append_assoc pre (t ∷ []) us)
      (known_claims (pre ++ t ∷ []) us (k + 1) (omega (arith, e, length-append pre (t ∷ []))) (All-tail (λ t. IsTrue (is_type (signature p) t)) t us h)))
    where
      by : (c : Bool) → has_unknown t ≡ c → All (Claim (pre ++ t ∷ us)) (known_from (k + 1) us) → All (Claim (pre ++ t ∷ us)) (if c then Not (is_unknown k) ∷ known_from (k + 1) us else known_from (k + 1) us)
      by true q rest = All-cons (Claim (pre ++ t ∷ us)) (Not (is_unknown k)) (known_from (k + 1) us)
          (record { typed = (refl, unknown_typed (signature p) (pre ++ t ∷ us) k t (slice_seam pre us t k e) q (All-head (λ t. IsTrue (is_type (signature p) t)) t us h)); few = omega arith }) rest
      by false q rest = rest

  -- what is settled is a claim over all variables
  settled_claims : (xs : List Ty) (es : List Tree) → All (IsFront (signature p) xs ty.Boolean) es → All (Claim xs) (map (settle (length xs)) es)
  settled_claims xs es h = All-map (Claim xs) (settle (length xs)) es (All-weaker (IsSettled (signature p) xs ty.Boolean) (λ e. Claim xs (settle (length xs) e))
      (λ e s. record { typed = s.typed; few = subst (λ n. n ≤ MOST_QUANTIFIERS) (sym (settle_count (length xs) e)) s.few }) es (all_settled (signature p) xs ty.Boolean es h))

  module _ (r : MapRow) (t : Ty) (row : IsRow (signature p) r t) where
    abbrev Xs : List Ty
    Xs = types_of r.formals

    -- the formula of one reference of its value
    reference_typed : (q : Reference) → IsReference (signature p) MOST_QUANTIFIERS Xs q → IsTypedFormula p (reference_formula p (row_spot r) [] q)
    reference_typed q k =
        let sg = signature p in
        let xs = Xs ++ q.vars in
        let n = length xs in
        let vars = r.formals ++ bound_from (length r.formals) q.vars in
        let same : xs ≡ types_of vars = sym (vars_are r.formals q.vars) in
        let types : AreTypes sg xs = All-append (λ t. IsTrue (is_type sg t)) Xs q.vars row.formals.types k.1.types in
        let lower : IsFront sg xs ty.Level (level_at p q.fun q.args) =
        subst (λ ys. IsFront sg ys ty.Level (level_at p q.fun q.args)) (append-nil xs)
        (level_front p xs [] (types_of k.0.formals) q.fun k.0 q.args k.1.function (wf.functions q.fun k.0 k.1.function).level k.1.args k.1.few_in_args) in
        let aim = both_levels sg xs (level_at p q.fun q.args) (tree r.level) lower (front_of sg Xs q.vars ty.Level (tree r.level) row.level.typed row.level.few_quantifiers) in
        let goal : Claim xs (settle n (Two op.LevelLe (level_at p q.fun q.args) (tree r.level))) =
        record { typed = aim.typed; few = subst (λ j. j ≤ MOST_QUANTIFIERS) (sym (settle_count n (Two op.LevelLe (level_at p q.fun q.args) (tree r.level)))) aim.few } in
        let hyps : All (Claim xs) (known_from 0 xs ++ (map (settle n) q.path ++ instances p.assertions xs)) =
        All-append (Claim xs) (known_from 0 xs) (map (settle n) q.path ++ instances p.assertions xs) (known_claims [] xs 0 refl types)
        (All-append (Claim xs) (map (settle n) q.path) (instances p.assertions xs) (settled_claims xs q.path k.1.path) (instances_claims sg xs types p.assertions wf.assertions)) in
        let long : length vars ≡ n = sym (length-map vars (λ f. f.ty)) ∙ ap length (sym same) in
        record {
          few_variables = omega (arith, long, length-append Xs q.vars, length-map r.formals (λ f. f.ty), row.formals.few, k.1.few_variables);
          hypotheses = subst (λ ys. All (λ h. HasType sg ys h ty.Boolean) (known_from 0 xs ++ (map (settle n) q.path ++ instances p.assertions xs))) same
              (All-weaker (Claim xs) (λ h. HasType sg xs h ty.Boolean) (λ h c. c.typed) (known_from 0 xs ++ (map (settle n) q.path ++ instances p.assertions xs)) hyps);
          goal = subst (λ ys. HasType sg ys (settle n (Two op.LevelLe (level_at p q.fun q.args) (tree r.level))) ty.Boolean) same goal.typed;
          few_quantifiers = All-weaker (Claim xs) (λ h. quantifiers h ≤ MOST_QUANTIFIERS) (λ h c. c.few) (known_from 0 xs ++ (map (settle n) q.path ++ instances p.assertions xs)) hyps;
          few_in_goal = goal.few;
        }

    pub row_typed : AreTypedFormulas p (row_formulas p r)
    row_typed = All-map (IsTypedFormula p) (reference_formula p (row_spot r) []) (references (tree r.value))
        (All-weaker (IsReference (signature p) MOST_QUANTIFIERS Xs) (λ q. IsTypedFormula p (reference_formula p (row_spot r) [] q)) (λ q k. reference_typed q k) (references (tree r.value))
        (references_typed (signature p) MOST_QUANTIFIERS (omega arith) (tree r.value) Xs t row.value.few_quantifiers row.value.typed))

  -- those of all rows
  pub map_formulas_typed : (m : Mapping) → IsMappingTo p m → AreTypedFormulas p (map_formulas p m)
  map_formulas_typed m fits = All-flat (λ r. (t : Ty) × IsRow (signature p) r t) (IsTypedFormula p) (row_formulas p) m.functions (λ r h. row_typed r h.0 h.1) fits.rows
