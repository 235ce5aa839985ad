-- One more definition: the scope stays that of the signature.
use Rattle.std.proofs.Common.{◌≡◌, refl, sym, ◌∙◌, ap, subst, rules, arith, ℕ, zero, suc, List, [], ◌∷◌, ◌++◌, Option, Some, None, length, inl, inr, ⊎_elim}
use Rattle.std.specs.Prelude.{slice_get, IsTrue, ◌⊎◌}
use Rattle.sp_values.specs.declared.value.Ty.{Ty}
use Rattle.sp_core.specs.declared.expr.Expr.{Expr}
use Rattle.sp_core.specs.Measures.{Anything, LooksAt, Nothing}
use Rattle.sp_core.specs.Tree.{tree}
use Rattle.sp_core.specs.Typing.{Signature, HasType, is_type}
use Rattle.sp_plain.specs.Text.{Text, span}
use Rattle.sp_scopes.specs.declared.heads.Head.{Head}
use Rattle.sp_judge.specs.declared.scope.Site.TheVariants as site
use Rattle.sp_scopes.specs.declared.heads.Sort.TheVariants as sort
use Rattle.sp_judge.specs.Visible.{Visible, definition_at}
use Rattle.sp_judge.specs.Names.{sort_type}
use Rattle.sp_judge.specs.Translation.{translation}
use Rattle.sp_judge.specs.Broken.{broken, limit_rules, whole_broken}
use Rattle.sp_typed.specs.Fits.{types, IsAsked, IsScopeOf, HoldNoNew, AreNumbers}
use Rattle.sp_typed.proofs.Fitting.{behind_inner}
use Rattle.sp_typed.proofs.Typed.{typed}
use Rattle.sp_typed.proofs.Quotes.{no_new}

last-get : {X : Type 0} (xs : List X) (x : X) (k : ℕ) (e : X) → slice_get (xs ++ x ∷ []) k ≡ Some e → (slice_get xs k ≡ Some e) ⊎ ((k ≡ length xs) × (x ≡ e))
last-get [] x zero e h = inr (refl, cc)
last-get [] x (suc k) e h = cc
last-get (y ∷ xs) x zero e h = inl h
last-get (y ∷ xs) x (suc k) e h = ⊎_elim (λ h. inl h) (λ h. inr (ap suc h.0, h.1)) (last-get xs x k e h)

some_same : {X : Type 0} (x y : X) (o : Option X) → o ≡ Some x → o ≡ Some y → x ≡ y
some_same x y o h k = cc

module _ (sg : Signature) (s : Visible) (w : IsScopeOf sg s) (fresh : HoldNoNew s) (h : Head) (t : Ty) (body : Text) (x : Expr) (there : definition_at s (length s.cores) ≡ Some h) (plain : h.sort ≡ sort.Plain t) (n : AreNumbers body)
    (fine : whole_broken s site.Outside h.formals (Some t) body ≡ []) (is : tree x ≡ translation s h.formals body) where
  inner : broken s site.Outside h.formals (Some t) body ≡ []
  inner = behind_inner (broken s site.Outside h.formals (Some t) body) (limit_rules (span body) (translation s h.formals body)) fine

  core-typed : HasType sg (types h.formals) (tree x) t
  core-typed =
      let head = w.definition_heads (length s.cores) h there in
      let asked : IsTrue (is_type sg t) = subst (λ u. IsAsked sg (sort_type u)) plain head.result in
      subst (λ e. HasType sg (types h.formals) e t) (sym is) (typed sg s w site.Outside tt h.formals head.formals (Some t) asked body n inner)

  pub defined_scope : IsScopeOf sg (record s { cores = s.cores ++ x ∷ [] })
  defined_scope = record {
    shared = w.shared;
    bottom = w.bottom;
    top = w.top;
    param_heads = w.param_heads;
    function_heads = w.function_heads;
    definition_heads = w.definition_heads;
    params = w.params;
    functions = w.functions;
    definitions = λ k d e u i j q. ⊎_elim (λ j. w.definitions k d e u i j q)
        (λ j.
        let same : h ≡ d = some_same h d (definition_at s k) (subst (λ m. definition_at s m ≡ Some h) (sym j.0) there) i in
        let type : t ≡ u = some_same t u (sort_type h.sort) (ap sort_type plain) (subst (λ d. sort_type d.sort ≡ Some u) (sym same) q) in
        subst (λ d. HasType sg (types d.formals) (tree e) u) same (subst (λ u. HasType sg (types h.formals) (tree e) u) type (subst (λ e. HasType sg (types h.formals) (tree e) t) j.1 core-typed)))
        (last-get s.cores x k e j);
  }

  pub defined_fresh : HoldNoNew (record s { cores = s.cores ++ x ∷ [] })
  defined_fresh k e j = ⊎_elim (λ j. fresh k e j)
      (λ j. subst (λ e. LooksAt Anything Nothing (tree e)) j.1 (subst (LooksAt Anything Nothing) (sym is) (no_new s site.Outside tt fresh h.formals (Some t) body inner)))
      (last-get s.cores x k e j)
