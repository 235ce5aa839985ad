-- The subterms of typed expressions are typed, and their values are of their types.
use Rattle.std.proofs.Common.{◌≡◌, refl, ap, subst, arith, ℕ, suc, ◌≤◌, ◌||◌, Bool, true, false, ltb, List, [], ◌∷◌, ◌++◌, length, Some, slice_get}
use Rattle.std.proofs.lemmas.Bool.Decides.{Decides-ltb}
use Rattle.std.proofs.lemmas.List.{length-map}
use Rattle.std.proofs.lemmas.List.Elements.{All-get_or}
use Rattle.std.proofs.lemmas.Option.{get_or_from_slice_get, slice_get_within}
use Rattle.sp_core.specs.declared.function.Formal.{Formal}
use Rattle.sp_core.specs.declared.function.Param.{Param as Parameter}
use Rattle.sp_values.specs.declared.value.Value.{Value}
use Rattle.sp_values.specs.declared.value.Value.TheVariants as value
use Rattle.sp_values.specs.declared.value.Ty.{Ty}
use Rattle.sp_values.specs.declared.value.Ty.TheVariants as ty
use Rattle.sp_values.specs.declared.value.Op.TheVariants as op
use Rattle.sp_values.specs.Domains.{is_value}
use Rattle.sp_core.specs.Instances.{sizes_of, world_of}
use Rattle.sp_core.specs.Machine.{types_of}
use Rattle.sp_core.specs.Measures.{Anything, LookAt, LooksAt}
use Rattle.sp_core.specs.Parts.{Parts, signature}
use Rattle.sp_core.specs.Tree.{Tree, Trees, Const, Var, Not, Two, If, Param, Look, Every, New, none, more}
use Rattle.sp_core.specs.Typing.{HasType, HaveTypes, Signature}
use Rattle.sp_core.specs.Values.{look}
use Rattle.sp_core.specs.WellFormed.{IsParam, IsWellFormed}
use Rattle.sp_core.proofs.Types.{look_typed, value_typed}
use Rattle.sp_sequent.specs.Numbers.{head_of, list_of, parts}
use Rattle.sp_sequent.specs.Subterms.{ends, ends_in, truths}
use Rattle.sp_readings.specs.Readings.{IsLevel, IsTruth, takes_levels, takes_truths}
use Rattle.sp_sequent.specs.Claims.{Claim, IsTypedClaim, terms_in}
use Rattle.sp_claims.specs.Models.{IsBoolean, IsMoment, Moment, worth}
use Rattle.sp_claims.proofs.Lists.{Each, each_all, each_append, each_flat, each_map, each_of}

-- it has some type
abbrev pub IsTypedIn : Signature → List Ty → Tree → Type 0
IsTypedIn sg xs e = (t : Ty) × HasType sg xs e t

mutual
  pub ends_typed : (sg : Signature) (xs : List Ty) (e : Tree) (t : Ty) → HasType sg xs e t → Each (IsTypedIn sg xs) (ends e)
  ends_typed sg xs (Const v) t h = ((t, h), tt)
  ends_typed sg xs (Var k) t h = ((t, h), tt)
  ends_typed sg xs (Not a) t h = each_append (IsTypedIn sg xs) (ends a) (Not a ∷ []) (ends_typed sg xs a ty.Boolean h.1) ((t, h), tt)
  ends_typed sg xs (Two o a b) t h =
      each_append (IsTypedIn sg xs) (ends a) (ends b ++ Two o a b ∷ []) (ends_typed sg xs a h.0 h.2)
      (each_append (IsTypedIn sg xs) (ends b) (Two o a b ∷ []) (ends_typed sg xs b h.0 h.3) ((t, h), tt))
  ends_typed sg xs (If c a b) t h =
      each_append (IsTypedIn sg xs) (ends c) (ends a ++ (ends b ++ If c a b ∷ [])) (ends_typed sg xs c ty.Boolean h.0)
      (each_append (IsTypedIn sg xs) (ends a) (ends b ++ If c a b ∷ []) (ends_typed sg xs a t h.1)
      (each_append (IsTypedIn sg xs) (ends b) (If c a b ∷ []) (ends_typed sg xs b t h.2) ((t, h), tt)))
  ends_typed sg xs (Param q ds) t h = each_append (IsTypedIn sg xs) (ends_in ds) (Param q ds ∷ []) (all_ends_typed sg xs ds (types_of h.0.formals) h.3) ((t, h), tt)
  ends_typed sg xs (Look g ds) t h = each_append (IsTypedIn sg xs) (ends_in ds) (Look g ds ∷ []) (all_ends_typed sg xs ds (types_of h.0.formals) h.3) ((t, h), tt)
  ends_typed sg xs (Every k u b) t h = ((t, h), tt)
  ends_typed sg xs (New g ds) t h = each_append (IsTypedIn sg xs) (ends_in ds) (New g ds ∷ []) (all_ends_typed sg xs ds (types_of h.0.formals) h.3) ((t, h), tt)

  all_ends_typed : (sg : Signature) (xs : List Ty) (ds : Trees) (ts : List Ty) → HaveTypes sg xs ds ts → Each (IsTypedIn sg xs) (ends_in ds)
  all_ends_typed sg xs none ts h = tt
  all_ends_typed sg xs (more d ds) [] h = absurd h
  all_ends_typed sg xs (more d ds) (t ∷ ts) h = each_append (IsTypedIn sg xs) (ends d) (ends_in ds) (ends_typed sg xs d t h.0) (all_ends_typed sg xs ds ts h.1)

-- each subterm of a typed formula has a type
pub terms_typed : (p : Parts) (c : Claim) → IsTypedClaim p c → Each (IsTypedIn (signature p) c.types) (terms_in c)
terms_typed p c h =
    each_all (IsTypedIn (signature p) c.types) truths _ ((ty.Boolean, refl), ((ty.Boolean, refl), tt))
    (each_flat (IsTypedIn (signature p) c.types) ends (c.hypotheses ++ c.goal ∷ [])
    (each_map (IsBoolean p c.types) (λ e. Each (IsTypedIn (signature p) c.types) (ends e)) (λ e w. ends_typed (signature p) c.types e ty.Boolean w) (c.hypotheses ++ c.goal ∷ [])
    (each_append (IsBoolean p c.types) c.hypotheses (c.goal ∷ []) (each_of (IsBoolean p c.types) c.hypotheses h.hypotheses) (h.goal, tt))))

-- what NOT, AND and OR take is of type BOOLEAN, and what the operators on levels take of type LEVEL
pub truth_parts : (sg : Signature) (xs : List Ty) (ts : List Tree) (e : Tree) (t : Ty) → HasType sg xs e t → takes_truths (head_of ts e) ≡ true → Each (λ d. HasType sg xs d ty.Boolean) (parts e)
truth_parts sg xs ts (Not a) t h q = (h.1, tt)
truth_parts sg xs ts (Two op.And a b) t h q = (subst (HasType sg xs a) h.1.0 h.2, (subst (HasType sg xs b) h.1.0 h.3, tt))
truth_parts sg xs ts (Two op.Or a b) t h q = (subst (HasType sg xs a) h.1.0 h.2, (subst (HasType sg xs b) h.1.0 h.3, tt))
truth_parts sg xs ts e t h q = absurd (cc)

pub level_parts : (sg : Signature) (xs : List Ty) (ts : List Tree) (e : Tree) (t : Ty) → HasType sg xs e t → takes_levels (head_of ts e) ≡ true → Each (λ d. HasType sg xs d ty.Level) (parts e)
level_parts sg xs ts (Two op.LevelLe a b) t h q = (subst (HasType sg xs a) h.1.0 h.2, (subst (HasType sg xs b) h.1.0 h.3, tt))
level_parts sg xs ts (Two op.Lub a b) t h q = (subst (HasType sg xs a) h.1.0 h.2, (subst (HasType sg xs b) h.1.0 h.3, tt))
level_parts sg xs ts (Two op.Glb a b) t h q = (subst (HasType sg xs a) h.1.0 h.2, (subst (HasType sg xs b) h.1.0 h.3, tt))
level_parts sg xs ts e t h q = absurd (cc)

-- nothing has over eight parts
count_typed : (sg : Signature) (xs : List Ty) (ds : Trees) (ts : List Ty) → HaveTypes sg xs ds ts → length (list_of ds) ≡ length ts
count_typed sg xs none [] h = refl
count_typed sg xs none (t ∷ ts) h = absurd h
count_typed sg xs (more d ds) [] h = absurd h
count_typed sg xs (more d ds) (t ∷ ts) h = ap suc (count_typed sg xs ds ts h.1)

module _ (p : Parts) (wf : IsWellFormed p) (xs : List Ty) where
  few_params : (n : ℕ) (q : Parameter) → slice_get p.params n ≡ Some q → length q.formals ≤ 8
  few_params n q e = (subst (IsParam (signature p)) (get_or_from_slice_get p.params n q q e) (All-get_or (IsParam (signature p)) p.params n q (slice_get_within p.params n q e) wf.params)).formals.few

  few_arguments : (ds : Trees) (fs : List Formal) → length fs ≤ 8 → HaveTypes (signature p) xs ds (types_of fs) → length (list_of ds) ≤ 8
  few_arguments ds fs few h = omega (arith, few, count_typed (signature p) xs ds (types_of fs) h, length-map fs (λ f. f.ty))

  pub few_typed : (e : Tree) (t : Ty) → HasType (signature p) xs e t → length (parts e) ≤ 8
  few_typed (Const v) t h = omega arith
  few_typed (Var k) t h = omega arith
  few_typed (Not a) t h = omega arith
  few_typed (Two o a b) t h = omega arith
  few_typed (If c a b) t h = omega arith
  few_typed (Param q ds) t h = few_arguments ds h.0.formals (few_params q h.0 h.1) h.3
  few_typed (Look g ds) t h = few_arguments ds h.0.formals (wf.functions g h.0 h.1).formals.few h.3
  few_typed (Every k u b) t h = omega arith
  few_typed (New g ds) t h = few_arguments ds h.0.formals (wf.functions g h.0 h.1).formals.few h.3

mutual
  looks_anything : (e : Tree) → LooksAt Anything Anything e
  looks_anything (Const v) = tt
  looks_anything (Var k) = tt
  looks_anything (Not a) = looks_anything a
  looks_anything (Two o a b) = (looks_anything a, looks_anything b)
  looks_anything (If c a b) = (looks_anything c, looks_anything a, looks_anything b)
  looks_anything (Param q ds) = look_anything ds
  looks_anything (Look g ds) = (tt, look_anything ds)
  looks_anything (Every k t b) = looks_anything b
  looks_anything (New g ds) = (tt, look_anything ds)

  look_anything : (ds : Trees) → LookAt Anything Anything ds
  look_anything none = tt
  look_anything (more d ds) = (looks_anything d, look_anything ds)

module _ (p : Parts) (wf : IsWellFormed p) (xs : List Ty) (m : Moment) (h : IsMoment p xs m) where
  -- a typed expression is worth a value of its type, over both states
  pub worth_typed : (e : Tree) (t : Ty) → HasType (signature p) xs e t → is_value (sizes_of p m.instance) t (worth p m e) ≡ true
  worth_typed e t w =
      value_typed p m.instance wf h.instance (look (world_of p m.instance) p.functions m.old) (look (world_of p m.instance) p.functions m.new) Anything Anything
      (look_typed p m.instance wf h.instance m.old h.old) (look_typed p m.instance wf h.instance m.new h.new) e xs m.values t h.values w (looks_anything e)

  pub worth_truth : (e : Tree) → HasType (signature p) xs e ty.Boolean → IsTruth (worth p m e)
  worth_truth e w = by (worth p m e) (worth_typed e ty.Boolean w)
    where
      by : (x : Value) → is_value (sizes_of p m.instance) ty.Boolean x ≡ true → IsTruth x
      by (value.Truth b) q = (b, refl)
      by (value.Int n) q = absurd (cc)
      by (value.Level l) q = absurd (cc)
      by (value.Member k n) q = absurd (cc)
      by value.Unknown q = absurd (cc)

  pub worth_level : (e : Tree) → HasType (signature p) xs e ty.Level → IsLevel p.lattice (worth p m e)
  worth_level e w = by (worth p m e) (worth_typed e ty.Level w)
    where
      or_false : (b : Bool) → (b || false) ≡ true → b ≡ true
      or_false true q = refl
      or_false false q = absurd (cc)

      by : (x : Value) → is_value (sizes_of p m.instance) ty.Level x ≡ true → IsLevel p.lattice x
      by (value.Truth b) q = absurd (cc)
      by (value.Int n) q = absurd (cc)
      by (value.Level l) q = (l, refl, (Decides-ltb l p.lattice.count).0 (or_false (ltb l p.lattice.count) q))
      by (value.Member k n) q = absurd (cc)
      by value.Unknown q = absurd (cc)
