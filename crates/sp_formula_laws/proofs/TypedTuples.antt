-- The instances of assertions at a formula's variables are typed.
use Rattle.std.proofs.Common.{◌≡◌, refl, sym, ◌∙◌, ap, subst, arith, ℕ, zero, suc, ◌+◌, ◌-◌, ◌<◌, ◌≤◌, Bool, true, false, List, [], ◌∷◌, ◌++◌, length, map, append_assoc}
use Rattle.std.specs.Prelude.{IsTrue, Some, if◌then◌else◌, nat_lt, slice_get, slice_index}
use Rattle.std.specs.Bool.{Decides}
use Rattle.std.specs.List.{All, flat_map}
use Rattle.std.proofs.lemmas.Bool.Decides.{Decides-ltb}
use Rattle.std.proofs.lemmas.List.{append-nil, length-append}
use Rattle.std.proofs.lemmas.List.Elements.{All-append, All-cons, All-head, All-map, All-nil, All-tail, All-weaker}
use Rattle.std.proofs.lemmas.Option.{none-some}
use Rattle.sp_text.specs.declared.limits.TheConstants.{MOST_QUANTIFIERS}
use Rattle.sp_values.specs.declared.value.Op.TheVariants as op
use Rattle.sp_values.specs.declared.value.Ty.{Ty}
use Rattle.sp_values.specs.declared.value.Ty.TheVariants as ty
use Rattle.sp_values.specs.declared.value.Value.TheVariants as value
use Rattle.sp_values.specs.Domains.{has_unknown}
use Rattle.sp_core.specs.declared.function.Assertion.{Assertion}
use Rattle.sp_core.specs.Machine.{types_of}
use Rattle.sp_core.specs.Measures.{quantifiers}
use Rattle.sp_core.specs.Tree.{Tree, Trees, Const, Var, Not, Two, If, Param, Look, Every, New, none, more, tree}
use Rattle.sp_core.specs.Typing.{HasType, HaveTypes, Signature, is_constant, is_type}
use Rattle.sp_core.specs.WellFormed.{IsAssertion}
use Rattle.sp_sequent.specs.Same.{same_type}
use Rattle.sp_sequent.proofs.Numbering.{same_type-Decides}
use Rattle.sp_formulas.specs.Assertions.{instance_of, instanced, instances, instances_of, is_unknown, placed, shielded, tuples, variables_of}
use Rattle.sp_formulas.specs.Moves.{all_renumbered}
use Rattle.sp_formula_laws.proofs.Counts.{renumbered_count}

pub All-flat : {A B : Type 0} (P : A → Type 0) (Q : B → Type 0) (f : A → List B) (xs : List A) → ((x : A) → P x → All Q (f x)) → All P xs → All Q (flat_map f xs)
All-flat P Q f [] h a = All-nil Q
All-flat P Q f (x ∷ xs) h a = All-append Q (f x) (flat_map f xs) (h x (All-head P x xs a)) (All-flat P Q f xs h (All-tail P x xs a))

-- Tuples

-- a number of a variable of this type, the first variable having number k
abbrev IsVariable : Ty → ℕ → List Ty → ℕ → Type 0
IsVariable t k us n = (j : ℕ) × (n ≡ k + j) × (slice_get us j ≡ Some t)

variables_are : (t : Ty) (k : ℕ) (us : List Ty) → All (IsVariable t k us) (variables_of t k us)
variables_are t k [] = All-nil (IsVariable t k [])
variables_are t k (u ∷ us) =
    by (same_type t u) refl (All-weaker (IsVariable t (k + 1) us) (IsVariable t k (u ∷ us)) (λ n h. let e = h.1 in (suc h.0, omega (arith, e), h.2)) (variables_of t (k + 1) us) (variables_are t (k + 1) us))
  where
    by : (b : Bool) → same_type t u ≡ b → All (IsVariable t k (u ∷ us)) (variables_of t (k + 1) us) → All (IsVariable t k (u ∷ us)) (if b then k ∷ variables_of t (k + 1) us else variables_of t (k + 1) us)
    by true e h = All-cons (IsVariable t k (u ∷ us)) k (variables_of t (k + 1) us) (0, omega arith, ap Some (sym ((same_type-Decides t u).0 e))) h
    by false e h = h

-- numbers of variables of these types
abbrev pub IsTuple : List Ty → List Ty → List ℕ → Type 0
IsTuple vars [] [] = Unit {0}
IsTuple vars [] (k ∷ ks) = ⊥
IsTuple vars (t ∷ ts) [] = ⊥
IsTuple vars (t ∷ ts) (k ∷ ks) = (slice_get vars k ≡ Some t) × IsTuple vars ts ks

pub tuples_are : (vars ts : List Ty) → All (IsTuple vars ts) (tuples vars ts)
tuples_are vars [] = All-cons (IsTuple vars []) [] [] tt (All-nil (IsTuple vars []))
tuples_are vars (t ∷ ts) =
    All-flat (IsVariable t 0 vars) (IsTuple vars (t ∷ ts)) (λ k. map (λ ks. k ∷ ks) (tuples vars ts)) (variables_of t 0 vars)
    (λ k h. let e : k ≡ h.0 = h.1 ∙ omega arith in
    All-map (IsTuple vars (t ∷ ts)) (λ ks. k ∷ ks) (tuples vars ts) (All-weaker (IsTuple vars ts) (λ ks. IsTuple vars (t ∷ ts) (k ∷ ks)) (λ ks g. (ap (slice_get vars) e ∙ h.2, g)) (tuples vars ts) (tuples_are vars ts)))
    (variables_are t 0 vars)

-- Types at numbers

front_at : (xs ys : List Ty) (k : ℕ) (t : Ty) → slice_get xs k ≡ Some t → slice_get (xs ++ ys) k ≡ Some t
front_at [] ys k t h = absurd (none-some t h)
front_at (x ∷ xs) ys zero t h = h
front_at (x ∷ xs) ys (suc k) t h = front_at xs ys k t h

behind_at : (xs ys : List Ty) (j : ℕ) → slice_get (xs ++ ys) (length xs + j) ≡ slice_get ys j
behind_at [] ys j = let e : 0 + j ≡ j = omega arith in ap (slice_get ys) e
behind_at (x ∷ xs) ys j = let e : suc (length xs) + j ≡ suc (length xs + j) = omega arith in ap (slice_get (x ∷ (xs ++ ys))) e ∙ behind_at xs ys j

module _ (vars : List Ty) where
  placed_at : (ts : List Ty) (ks : List ℕ) (ys : List Ty) (k : ℕ) (t : Ty) (b : Bool) → IsTuple vars ts ks → Decides b (k < length ks) → slice_get (ts ++ ys) k ≡ Some t
      → slice_get (vars ++ ys) (if b then slice_index ks k else length vars + (k - length ks)) ≡ Some t
  placed_at [] [] ys k t true tuple d h = absurd (let l = d.0 refl in omega (arith, l))
  placed_at [] [] ys k t false tuple d h = let e : k - 0 ≡ k = omega arith in behind_at vars ys (k - 0) ∙ ap (slice_get ys) e ∙ h
  placed_at [] (n ∷ ks) ys k t b tuple d h = absurd tuple
  placed_at (u ∷ ts) [] ys k t b tuple d h = absurd tuple
  placed_at (u ∷ ts) (n ∷ ks) ys zero t true tuple d h = front_at vars ys n t (tuple.0 ∙ h)
  placed_at (u ∷ ts) (n ∷ ks) ys zero t false tuple d h = absurd (let no : false ≡ true = d.1 (omega arith) in cc)
  placed_at (u ∷ ts) (n ∷ ks) ys (suc k) t true tuple d h = placed_at ts ks ys k t true tuple.1 (λ e. let l = d.0 e in omega (arith, l), λ l. refl) h
  placed_at (u ∷ ts) (n ∷ ks) ys (suc k) t false tuple d h =
      let e : length vars + (suc k - suc (length ks)) ≡ length vars + (k - length ks) = omega arith in
      ap (slice_get (vars ++ ys)) e ∙ placed_at ts ks ys k t false tuple.1 (λ e. cc, λ l. d.1 (omega (arith, l))) h

  tuple_length : (ts : List Ty) (ks : List ℕ) → IsTuple vars ts ks → length ks ≡ length ts
  tuple_length [] [] h = refl
  tuple_length [] (k ∷ ks) h = absurd h
  tuple_length (t ∷ ts) [] h = absurd h
  tuple_length (t ∷ ts) (k ∷ ks) h = ap suc (tuple_length ts ks h.1)

  module _ (sg : Signature) (ts : List Ty) (ks : List ℕ) (tuple : IsTuple vars ts ks) where
    mutual
      -- a body over a tuple's types and further variables, at the tuple
      instanced_typed : (e : Tree) (ys : List Ty) (t : Ty) → HasType sg (ts ++ ys) e t → HasType sg (vars ++ ys) (instanced ks (length vars) e) t
      instanced_typed (Const v) ys t h = h
      instanced_typed (Var k) ys t h = placed_at ts ks ys k t (nat_lt k (length ks)) tuple (Decides-ltb k (length ks)) h
      instanced_typed (Not a) ys t h = (h.0, instanced_typed a ys ty.Boolean h.1)
      instanced_typed (Two o a b) ys t h = (h.0, h.1, instanced_typed a ys h.0 h.2, instanced_typed b ys h.0 h.3)
      instanced_typed (If c a b) ys t h = (instanced_typed c ys ty.Boolean h.0, instanced_typed a ys t h.1, instanced_typed b ys t h.2)
      instanced_typed (Param q ds) ys t h = (h.0, h.1, h.2, instanced_types ds ys _ h.3)
      instanced_typed (Look g ds) ys t h = (h.0, h.1, h.2, instanced_types ds ys _ h.3)
      instanced_typed (Every k u b) ys t h =
          let own = h.1 in
          let number : length vars + (k - length ks) ≡ length (vars ++ ys) = omega (arith, own, length-append ts ys, length-append vars ys, tuple_length ts ks tuple) in
          let inner = instanced_typed b (ys ++ u ∷ []) ty.Boolean (subst (λ us. HasType sg us b ty.Boolean) (append_assoc ts ys (u ∷ [])) h.3) in
          (h.0, number, h.2, subst (λ us. HasType sg us (instanced ks (length vars) b) ty.Boolean) (sym (append_assoc vars ys (u ∷ []))) inner)
      instanced_typed (New g ds) ys t h = (h.0, h.1, h.2, instanced_types ds ys _ h.3)

      instanced_types : (ds : Trees) (ys : List Ty) (us : List Ty) → HaveTypes sg (ts ++ ys) ds us → HaveTypes sg (vars ++ ys) (all_renumbered (placed ks (length vars)) (λ k. length vars + (k - length ks)) ds) us
      instanced_types none ys [] h = tt
      instanced_types none ys (u ∷ us) h = absurd h
      instanced_types (more d ds) ys [] h = absurd h
      instanced_types (more d ds) ys (u ∷ us) h = (instanced_typed d ys u h.0, instanced_types ds ys us h.1)

-- Unknown values

-- `?` is a constant of a type that has it
unknown_is : (sg : Signature) (t : Ty) → has_unknown t ≡ true → IsTrue (is_type sg t) → IsTrue (is_constant sg t value.Unknown)
unknown_is sg ty.Boolean e h = cc
unknown_is sg ty.Integer e h = refl
unknown_is sg ty.Level e h = cc
unknown_is sg (ty.Member k) e h = h

-- x = ?
pub unknown_typed : (sg : Signature) (vars : List Ty) (k : ℕ) (t : Ty) → slice_get vars k ≡ Some t → has_unknown t ≡ true → IsTrue (is_type sg t) → HasType sg vars (is_unknown k) ty.Boolean
unknown_typed sg vars k t there e h = (t, refl, there, unknown_is sg t e h)

-- a claim of a formula: of type BOOLEAN over the variables, with few quantifiers in one another
pub record IsClaim (sg : Signature) (vars : List Ty) (e : Tree) : Type 0 where
  pub typed : HasType sg vars e ty.Boolean
  pub few : quantifiers e ≤ MOST_QUANTIFIERS

module _ (sg : Signature) (vars : List Ty) (types : All (λ t. IsTrue (is_type sg t)) vars) where
  type_at : (us : List Ty) → All (λ t. IsTrue (is_type sg t)) us → (k : ℕ) (t : Ty) → slice_get us k ≡ Some t → IsTrue (is_type sg t)
  type_at [] h k t e = absurd (none-some t e)
  type_at (u ∷ us) h zero t e = let q : u ≡ t = cc in subst (λ t. IsTrue (is_type sg t)) q (All-head (λ t. IsTrue (is_type sg t)) u us h)
  type_at (u ∷ us) h (suc k) t e = type_at us (All-tail (λ t. IsTrue (is_type sg t)) u us h) k t e

  shielded_claim : (ks : List ℕ) (ts : List Ty) (b : Tree) → IsTuple vars ts ks → IsClaim sg vars b → IsClaim sg vars (shielded ks ts b)
  shielded_claim [] [] b tuple h = h
  shielded_claim [] (t ∷ ts) b tuple h = absurd tuple
  shielded_claim (k ∷ ks) [] b tuple h = absurd tuple
  shielded_claim (k ∷ ks) (t ∷ ts) b tuple h = by (has_unknown t) refl (shielded_claim ks ts b tuple.1 h)
    where
      by : (c : Bool) → has_unknown t ≡ c → IsClaim sg vars (shielded ks ts b) → IsClaim sg vars (if c then Two op.Or (is_unknown k) (shielded ks ts b) else shielded ks ts b)
      by true e r = record { typed = (ty.Boolean, (refl, refl), unknown_typed sg vars k t tuple.0 e (type_at vars types k t tuple.0), r.typed); few = omega (arith, r.few) }
      by false e r = r

  instance_claim : (a : Assertion) → IsAssertion sg a → (ks : List ℕ) → IsTuple vars (types_of a.vars) ks → IsClaim sg vars (instance_of (length vars) a ks)
  instance_claim a fine ks tuple = shielded_claim ks (types_of a.vars) (instanced ks (length vars) (tree a.body)) tuple (record {
    typed = subst (λ us. HasType sg us (instanced ks (length vars) (tree a.body)) ty.Boolean) (append-nil vars)
        (instanced_typed vars sg (types_of a.vars) ks tuple (tree a.body) [] ty.Boolean (subst (λ us. HasType sg us (tree a.body) ty.Boolean) (sym (append-nil (types_of a.vars))) fine.body.typed));
    few = subst (λ n. n ≤ MOST_QUANTIFIERS) (sym (renumbered_count (placed ks (length vars)) (λ k. length vars + (k - length ks)) (tree a.body))) fine.body.few_quantifiers;
  })

  pub instances_claims : (as' : List Assertion) → All (IsAssertion sg) as' → All (IsClaim sg vars) (instances as' vars)
  instances_claims as' h = All-flat (IsAssertion sg) (IsClaim sg vars) (instances_of vars) as'
      (λ a fine. All-map (IsClaim sg vars) (instance_of (length vars) a) (tuples vars (types_of a.vars))
      (All-weaker (IsTuple vars (types_of a.vars)) (λ ks. IsClaim sg vars (instance_of (length vars) a ks)) (λ ks t. instance_claim a fine ks t) (tuples vars (types_of a.vars)) (tuples_are vars (types_of a.vars)))) h
