-- From a list of references to the recursion over the expression.
use Rattle.std.proofs.Common.{◌≡◌, refl, sym, ◌∙◌, ap, subst, arith, ℕ, suc, ◌<◌, Bool, true, false, not, List, [], ◌∷◌, ◌++◌, take, length, map, append_assoc, length-append}
use Rattle.std.specs.Prelude.{if◌then◌else◌}
use Rattle.std.specs.List.{list_all, All, Contains}
use Rattle.std.proofs.Math.Seq.{take-length, take-append_seam}
use Rattle.std.proofs.lemmas.List.{append-nil}
use Rattle.std.proofs.Math.ListN.{get_or-append}
use Rattle.std.proofs.lemmas.List.Elements.{All-cons, All-nil, Contains-append_left, Contains-append_right, Contains-push}
use Rattle.sp_values.specs.declared.value.Value.{Value}
use Rattle.sp_values.specs.declared.value.Value.TheVariants as value
use Rattle.sp_values.specs.declared.value.Op.{Op}
use Rattle.sp_values.specs.declared.value.Op.TheVariants as op
use Rattle.sp_values.specs.declared.value.Ty.{Ty}
use Rattle.sp_core.specs.Tree.{Tree, Trees, Const, Var, Not, Two, If, Param, Look, Every, New, none, more}
use Rattle.sp_core.specs.Values.{World, Reads, is_true, two, nth, value_of, values_of}
use Rattle.sp_values.specs.Domains.{proper_values}
use Rattle.sp_formulas.specs.References.{Reference, under, within, right_of, references, references_in}
use Rattle.sp_core.proofs.Elements.{Contains-map}
use Rattle.sp_hold.specs.Holding.{IsTrueOver, EachReference}
use Rattle.sp_hold.proofs.Scopes.{IsScoped, AreScoped}
use Rattle.sp_core.specs.Reading.{DependOn, DependsOn, Matters}

nth-append : (x cs : List Value) (k : ℕ) → k < length x → nth (x ++ cs) k ≡ nth x k
nth-append x cs k h = get_or-append x cs value.Unknown k h

mutual
  -- more values after its variables change nothing
  pub weaken : (w : World) (r new : Reads) (e : Tree) (x cs : List Value) → IsScoped (length x) e → value_of w r new (x ++ cs) e ≡ value_of w r new x e
  weaken w r new (Const v) x cs h = refl
  weaken w r new (Var k) x cs h = nth-append x cs k h
  weaken w r new (Not a) x cs h = ap (λ v. value.Truth (not (is_true v))) (weaken w r new a x cs h)
  weaken w r new (Two o a b) x cs h = λ i. two w o (weaken w r new a x cs h.0 i) (weaken w r new b x cs h.1 i)
  weaken w r new (If c a b) x cs h = λ i. if is_true (weaken w r new c x cs h.0 i) then weaken w r new a x cs h.1 i else weaken w r new b x cs h.2 i
  weaken w r new (Param p ds) x cs h = ap (w.param p) (weakens w r new ds x cs h)
  weaken w r new (Look g ds) x cs h = ap (r g) (weakens w r new ds x cs h)
  weaken w r new (Every k t b) x cs h =
      let e : take k (x ++ cs) ≡ take k x = ap (λ n. take n (x ++ cs)) h.0 ∙ take-append_seam x cs ∙ sym (take-length x) ∙ ap (λ n. take n x) (sym h.0) in
      ap (λ y. value.Truth (list_all (λ c. is_true (value_of w r new (y ++ c ∷ []) b)) (proper_values w.sizes t))) e
  weaken w r new (New g ds) x cs h = ap (new g) (weakens w r new ds x cs h)

  weakens : (w : World) (r new : Reads) (ds : Trees) (x cs : List Value) → AreScoped (length x) ds → values_of w r new (x ++ cs) ds ≡ values_of w r new x ds
  weakens w r new none x cs h = refl
  weakens w r new (more d ds) x cs h = λ i. weaken w r new d x cs h.0 i ∷ weakens w r new ds x cs h.1 i

module _ (w : World) (r new : Reads) (Sees : ℕ → List Value → Type 0) where
  left : (x : List Value) (ps qs : List Reference) → EachReference w r new Sees x (ps ++ qs) → EachReference w r new Sees x ps
  left x ps qs h = λ q m. h q (Contains-append_left ps qs q m)

  right : (x : List Value) (ps qs : List Reference) → EachReference w r new Sees x (ps ++ qs) → EachReference w r new Sees x qs
  right x ps qs h = λ q m. h q (Contains-append_right ps qs q m)

  -- a condition that holds may be taken from each path
  taken : (x : List Value) (c : Tree) (qs : List Reference) → IsScoped (length x) c → IsTrueOver w r new x c → EachReference w r new Sees x (map (under c) qs) → EachReference w r new Sees x qs
  taken x c qs scoped holds h = λ q m cs ok path. h (under c q) (Contains-map (under c) qs q m) cs ok (All-cons (IsTrueOver w r new (x ++ cs)) c q.path (ap is_true (weaken w r new c x cs scoped) ∙ holds) path)

  at_right : (o : Op) (x : List Value) (a : Tree) (qs : List Reference) → IsScoped (length x) a → Matters o (is_true (value_of w r new x a)) → EachReference w r new Sees x (right_of o a qs) → EachReference w r new Sees x qs
  at_right op.And x a qs scoped m h = taken x a qs scoped m h
  at_right op.Or x a qs scoped m h = taken x (Not a) qs scoped (ap not m) h
  at_right op.Same x a qs scoped m h = h
  at_right op.LevelLe x a qs scoped m h = h
  at_right op.IntLe x a qs scoped m h = h
  at_right op.IntLt x a qs scoped m h = h
  at_right op.Add x a qs scoped m h = h
  at_right op.Sub x a qs scoped m h = h
  at_right op.Mul x a qs scoped m h = h
  at_right op.Lub x a qs scoped m h = h
  at_right op.Glb x a qs scoped m h = h

  -- with a value for the outermost variable
  opened : (x : List Value) (t : Ty) (c : Value) (qs : List Reference) → Contains (proper_values w.sizes t) c → EachReference w r new Sees x (map (within t) qs) → EachReference w r new Sees (x ++ c ∷ []) qs
  opened x t c qs m h = λ q n cs ok path.
      let e : x ++ c ∷ [] ++ cs ≡ x ++ (c ∷ cs) = append_assoc x (c ∷ []) cs in
      subst (λ y. Sees q.fun (values_of w r new y q.args)) (sym e)
      (h (within t q) (Contains-map (within t) qs q n) (c ∷ cs) (m, ok) (subst (λ y. All (IsTrueOver w r new y) q.path) e path))

  itself : (x : List Value) (ps : List Reference) (b : Bool) (g : ℕ) (ds : Trees) → EachReference w r new Sees x (ps ++ record { vars = []; path = []; is_new = b; fun = g; args = ds } ∷ []) → Sees g (values_of w r new x ds)
  itself x ps b g ds h = subst (λ y. Sees g (values_of w r new y ds)) (append-nil x) (h (record { vars = []; path = []; is_new = b; fun = g; args = ds }) (Contains-push ps _) [] tt (All-nil (IsTrueOver w r new (x ++ []))))

  mutual
    pub below : (e : Tree) (x : List Value) → IsScoped (length x) e → EachReference w r new Sees x (references e) → DependsOn w r new Sees x e
    below (Const v) x s h = tt
    below (Var k) x s h = tt
    below (Not a) x s h = below a x s h
    below (Two o a b) x s h = (below a x s.0 (left x (references a) (right_of o a (references b)) h), λ m. below b x s.1 (at_right o x a (references b) s.0 m (right x (references a) (right_of o a (references b)) h)))
    below (If c a b) x s h =
        let rs = map (under c) (references a) in
        let qs = map (under (Not c)) (references b) in
        let k = right x (references c) (rs ++ qs) h in (
          below c x s.0 (left x (references c) (rs ++ qs) h),
          λ e. below a x s.1 (taken x c (references a) s.0 e (left x rs qs k)),
          λ e. below b x s.2 (taken x (Not c) (references b) s.0 (ap not e) (right x rs qs k)),
        )
    below (Param p ds) x s h = belows ds x s h
    below (Look g ds) x s h = (belows ds x s (left x (references_in ds) _ h), itself x (references_in ds) false g ds h)
    below (Every k t b) x s h = λ c m.
        let e : take k x ≡ x = ap (λ n. take n x) s.0 ∙ take-length x in
        let l : length (x ++ c ∷ []) ≡ suc (length x) = omega (arith, length-append x (c ∷ [])) in
        subst (λ y. DependsOn w r new Sees (y ++ c ∷ []) b) (sym e) (below b (x ++ c ∷ []) (subst (λ n. IsScoped n b) (sym l) s.1) (opened x t c (references b) m h))
    below (New g ds) x s h = (belows ds x s (left x (references_in ds) _ h), itself x (references_in ds) true g ds h)

    pub belows : (ds : Trees) (x : List Value) → AreScoped (length x) ds → EachReference w r new Sees x (references_in ds) → DependOn w r new Sees x ds
    belows none x s h = tt
    belows (more d ds) x s h = (below d x s.0 (left x (references d) (references_in ds) h), belows ds x s.1 (right x (references d) (references_in ds) h))
