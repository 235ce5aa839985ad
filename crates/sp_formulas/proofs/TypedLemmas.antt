-- Moved expressions are well typed over the variables that they are moved to.
use Rattle.std.proofs.Common.{◌≡◌, refl, sym, ◌∙◌, ap, subst, arith, ℕ, zero, suc, ◌+◌, ◌-◌, ◌<◌, ◌≤◌, Bool, true, false, List, [], ◌∷◌, ◌++◌, length, take, drop, append_assoc}
use Rattle.std.specs.Prelude.{slice_get, Some, nat_lt, if◌then◌else◌}
use Rattle.std.proofs.lemmas.Bool.Decides.{Decides-ltb}
use Rattle.std.proofs.lemmas.List.{length-append, take-append-drop}
use Rattle.std.proofs.lemmas.Option.{none-some, same_Some, slice_get_within}
use Rattle.sp_core.specs.Measures.{quantifiers, quantifiers_in}
use Rattle.sp_pool.proofs.NodeLaws.{get_taken}
use Rattle.sp_values.specs.declared.value.Ty.{Ty}
use Rattle.sp_values.specs.declared.value.Ty.TheVariants as ty
use Rattle.sp_core.specs.Tree.{Tree, Trees, Const, Var, Not, Two, If, Param, Look, Every, New, none, more}
use Rattle.sp_core.specs.Typing.{HasType, HaveTypes, Signature}
use Rattle.sp_formulas.specs.Moves.{AreBelow, IsBelow, nth_tree, put, put_all, raise, raise_all, raised, settle, settle_all}

left_of : (ys zs : List Ty) (k : ℕ) → k < length ys → slice_get (ys ++ zs) k ≡ slice_get ys k
left_of [] zs k h = absurd (omega arith)
left_of (y ∷ ys) zs zero h = refl
left_of (y ∷ ys) zs (suc k) h = left_of ys zs k (omega arith)

right_from : (ys zs : List Ty) (k j : ℕ) → k ≡ length ys + j → slice_get (ys ++ zs) k ≡ slice_get zs j
right_from [] zs k j q = ap (slice_get zs) (omega (arith, q))
right_from (y ∷ ys) zs zero j q = absurd (omega (arith, q))
right_from (y ∷ ys) zs (suc k) j q = right_from ys zs k j (omega (arith, q))

-- a variable's type stays
raised_is : (ys ws zs : List Ty) (k : ℕ) → slice_get (ys ++ (ws ++ zs)) (raised (length ys) (length ws) k) ≡ slice_get (ys ++ zs) k
raised_is ys ws zs k = by (nat_lt k (length ys)) refl
  where
    by : (b : Bool) → nat_lt k (length ys) ≡ b → slice_get (ys ++ (ws ++ zs)) (if nat_lt k (length ys) then k else k + length ws) ≡ slice_get (ys ++ zs) k
    by true q =
        let l : k < length ys = (Decides-ltb k (length ys)).0 q in
        ap (λ b. slice_get (ys ++ (ws ++ zs)) (if b then k else k + length ws)) q ∙ left_of ys (ws ++ zs) k l ∙ sym (left_of ys zs k l)
    by false q =
        let l : length ys ≤ k = grind (arith, Decides-ltb k (length ys)) in
        ap (λ b. slice_get (ys ++ (ws ++ zs)) (if b then k else k + length ws)) q
        ∙ right_from ys (ws ++ zs) (k + length ws) (length ws + (k - length ys)) (omega (arith, l))
        ∙ right_from ws zs (length ws + (k - length ys)) (k - length ys) refl
        ∙ sym (right_from ys zs k (k - length ys) (omega (arith, l)))

mutual
  pub raise_typed : (sg : Signature) (ys ws zs : List Ty) (e : Tree) (t : Ty) → HasType sg (ys ++ zs) e t → HasType sg (ys ++ (ws ++ zs)) (raise (length ys) (length ws) e) t
  raise_typed sg ys ws zs (Const v) t h = h
  raise_typed sg ys ws zs (Var k) t h = raised_is ys ws zs k ∙ h
  raise_typed sg ys ws zs (Not a) t h = (h.0, raise_typed sg ys ws zs a ty.Boolean h.1)
  raise_typed sg ys ws zs (Two o a b) t h = (h.0, h.1, raise_typed sg ys ws zs a h.0 h.2, raise_typed sg ys ws zs b h.0 h.3)
  raise_typed sg ys ws zs (If c a b) t h = (raise_typed sg ys ws zs c ty.Boolean h.0, raise_typed sg ys ws zs a t h.1, raise_typed sg ys ws zs b t h.2)
  raise_typed sg ys ws zs (Param q ds) t h = (h.0, h.1, h.2, raise_types sg ys ws zs ds _ h.3)
  raise_typed sg ys ws zs (Look g ds) t h = (h.0, h.1, h.2, raise_types sg ys ws zs ds _ h.3)
  raise_typed sg ys ws zs (Every k u b) t h = (
    h.0,
    omega (arith, h.1, length-append ys zs, length-append ys (ws ++ zs), length-append ws zs),
    h.2,
    subst (λ xs. HasType sg xs (raise (length ys) (length ws) b) ty.Boolean) (ap (λ x. ys ++ x) (sym (append_assoc ws zs (u ∷ []))) ∙ sym (append_assoc ys (ws ++ zs) (u ∷ [])))
        (raise_typed sg ys ws (zs ++ u ∷ []) b ty.Boolean (subst (λ xs. HasType sg xs b ty.Boolean) (append_assoc ys zs (u ∷ [])) h.3)),
  )
  raise_typed sg ys ws zs (New g ds) t h = (h.0, h.1, h.2, raise_types sg ys ws zs ds _ h.3)

  raise_types : (sg : Signature) (ys ws zs : List Ty) (ds : Trees) (ts : List Ty) → HaveTypes sg (ys ++ zs) ds ts → HaveTypes sg (ys ++ (ws ++ zs)) (raise_all (length ys) (length ws) ds) ts
  raise_types sg ys ws zs none [] h = tt
  raise_types sg ys ws zs none (t ∷ ts) h = absurd h
  raise_types sg ys ws zs (more d ds) [] h = absurd h
  raise_types sg ys ws zs (more d ds) (t ∷ ts) h = (raise_typed sg ys ws zs d t h.0, raise_types sg ys ws zs ds ts h.1)

-- the law behind 'each formula is well typed over its variables': an expression over the first ones, settled
mutual
  pub settle_typed : (sg : Signature) (xs : List Ty) (k : ℕ) (e : Tree) (t : Ty) → HasType sg (take k xs) e t → HasType sg xs (settle (length xs) e) t
  settle_typed sg xs k (Const v) t h = h
  settle_typed sg xs k (Var j) t h = get_taken k xs j t h
  settle_typed sg xs k (Not a) t h = (h.0, settle_typed sg xs k a ty.Boolean h.1)
  settle_typed sg xs k (Two o a b) t h = (h.0, h.1, settle_typed sg xs k a h.0 h.2, settle_typed sg xs k b h.0 h.3)
  settle_typed sg xs k (If c a b) t h = (settle_typed sg xs k c ty.Boolean h.0, settle_typed sg xs k a t h.1, settle_typed sg xs k b t h.2)
  settle_typed sg xs k (Param q ds) t h = (h.0, h.1, h.2, settle_types sg xs k ds _ h.3)
  settle_typed sg xs k (Look g ds) t h = (h.0, h.1, h.2, settle_types sg xs k ds _ h.3)
  settle_typed sg xs k (Every j u b) t h =
      let all : length (take k xs) + length (drop k xs) ≡ length xs = sym (length-append (take k xs) (drop k xs)) ∙ ap length (take-append-drop k xs) in
      let rest : length (drop k xs) ≡ length xs - j = omega (arith, all, h.1) in
      let moved = raise_typed sg (take k xs) (drop k xs) (u ∷ []) b ty.Boolean h.3 in (
        h.0,
        omega (arith, all, h.1),
        h.2,
        subst (λ ys. HasType sg ys (raise j (length xs - j) b) ty.Boolean) (sym (append_assoc (take k xs) (drop k xs) (u ∷ [])) ∙ ap (λ x. x ++ u ∷ []) (take-append-drop k xs))
            (subst (λ m. HasType sg (take k xs ++ (drop k xs ++ u ∷ [])) (raise m (length xs - j) b) ty.Boolean) (sym h.1)
            (subst (λ d. HasType sg (take k xs ++ (drop k xs ++ u ∷ [])) (raise (length (take k xs)) d b) ty.Boolean) rest moved)),
      )
  settle_typed sg xs k (New g ds) t h = (h.0, h.1, h.2, settle_types sg xs k ds _ h.3)

  settle_types : (sg : Signature) (xs : List Ty) (k : ℕ) (ds : Trees) (ts : List Ty) → HaveTypes sg (take k xs) ds ts → HaveTypes sg xs (settle_all (length xs) ds) ts
  settle_types sg xs k none [] h = tt
  settle_types sg xs k none (t ∷ ts) h = absurd h
  settle_types sg xs k (more d ds) [] h = absurd h
  settle_types sg xs k (more d ds) (t ∷ ts) h = (settle_typed sg xs k d t h.0, settle_types sg xs k ds ts h.1)

-- a level term with arguments put in
nth_typed : (sg : Signature) (xs ts : List Ty) (ds : Trees) (k : ℕ) (t : Ty) → HaveTypes sg xs ds ts → slice_get ts k ≡ Some t → HasType sg xs (nth_tree ds k) t
nth_typed sg xs [] none k t h q = absurd (none-some t q)
nth_typed sg xs (u ∷ ts) none k t h q = absurd h
nth_typed sg xs [] (more d ds) k t h q = absurd h
nth_typed sg xs (u ∷ ts) (more d ds) zero t h q = subst (HasType sg xs d) (same_Some u t q) h.0
nth_typed sg xs (u ∷ ts) (more d ds) (suc k) t h q = nth_typed sg xs ts ds k t h.1 q

module _ (sg : Signature) (xs ts : List Ty) (as' : Trees) (args : HaveTypes sg xs as' ts) where
  mutual
    pub put_typed : (e : Tree) (t : Ty) → quantifiers e ≡ 0 → HasType sg ts e t → HasType sg xs (put as' e) t
    put_typed (Const v) t z h = h
    put_typed (Var k) t z h = nth_typed sg xs ts as' k t args h
    put_typed (Not a) t z h = (h.0, put_typed a ty.Boolean z h.1)
    put_typed (Two o a b) t z h = (h.0, h.1, put_typed a h.0 (omega (arith, z)) h.2, put_typed b h.0 (omega (arith, z)) h.3)
    put_typed (If c a b) t z h = (put_typed c ty.Boolean (omega (arith, z)) h.0, put_typed a t (omega (arith, z)) h.1, put_typed b t (omega (arith, z)) h.2)
    put_typed (Param q ds) t z h = (h.0, h.1, h.2, put_types ds _ z h.3)
    put_typed (Look g ds) t z h = (h.0, h.1, h.2, put_types ds _ z h.3)
    put_typed (Every j u b) t z h = absurd (omega (arith, z))
    put_typed (New g ds) t z h = (h.0, h.1, h.2, put_types ds _ z h.3)

    put_types : (ds : Trees) (us : List Ty) → quantifiers_in ds ≡ 0 → HaveTypes sg ts ds us → HaveTypes sg xs (put_all as' ds) us
    put_types none [] z h = tt
    put_types none (u ∷ us) z h = absurd h
    put_types (more d ds) [] z h = absurd h
    put_types (more d ds) (u ∷ us) z h = (put_typed d u (omega (arith, z)) h.0, put_types ds us (omega (arith, z)) h.1)

-- room for renumbering: numbers are below the count of the variables around and of the quantifiers inside
mutual
  pub typed_below : (sg : Signature) (b : ℕ) (xs : List Ty) (e : Tree) (t : Ty) → length xs + quantifiers e ≤ b → HasType sg xs e t → IsBelow b e
  typed_below sg b xs (Const v) t l h = tt
  typed_below sg b xs (Var k) t l h = omega (arith, l, slice_get_within xs k t h)
  typed_below sg b xs (Not a) t l h = typed_below sg b xs a ty.Boolean l h.1
  typed_below sg b xs (Two o a c) t l h = (typed_below sg b xs a h.0 (omega (arith, l)) h.2, typed_below sg b xs c h.0 (omega (arith, l)) h.3)
  typed_below sg b xs (If c a d) t l h = (typed_below sg b xs c ty.Boolean (omega (arith, l)) h.0, typed_below sg b xs a t (omega (arith, l)) h.1, typed_below sg b xs d t (omega (arith, l)) h.2)
  typed_below sg b xs (Param q ds) t l h = types_below sg b xs ds _ l h.3
  typed_below sg b xs (Look g ds) t l h = types_below sg b xs ds _ l h.3
  typed_below sg b xs (Every k u a) t l h = (omega (arith, l, h.1), typed_below sg b (xs ++ u ∷ []) a ty.Boolean (omega (arith, l, length-append xs (u ∷ []))) h.3)
  typed_below sg b xs (New g ds) t l h = types_below sg b xs ds _ l h.3

  types_below : (sg : Signature) (b : ℕ) (xs : List Ty) (ds : Trees) (ts : List Ty) → length xs + quantifiers_in ds ≤ b → HaveTypes sg xs ds ts → AreBelow b ds
  types_below sg b xs none ts l h = tt
  types_below sg b xs (more d ds) [] l h = absurd h
  types_below sg b xs (more d ds) (t ∷ ts) l h = (typed_below sg b xs d t (omega (arith, l)) h.0, types_below sg b xs ds ts (omega (arith, l)) h.1)
