-- What a moved expression reads, the expression itself reads.
use Rattle.std.proofs.Common.{◌≡◌, sym, ◌∙◌, ap, subst, arith, ℕ, suc, ◌+◌, ◌-◌, ◌≤◌, List, [], ◌∷◌, ◌++◌, take, length, append_assoc, length-append, drop, take-append-drop, length-take-le, length-drop}
use Rattle.std.proofs.Math.Seq.{take-length}
use Rattle.std.proofs.lemmas.List.{append-nil}
use Rattle.sp_values.specs.declared.value.Value.{Value}
use Rattle.sp_values.specs.declared.value.Ty.{Ty}
use Rattle.sp_core.specs.Tree.{Tree, Trees, Const, Var, Not, Two, If, Param, Look, Every, New, none, more}
use Rattle.sp_core.specs.Values.{World, Reads, is_true}
use Rattle.sp_core.specs.Reading.{DependOn, DependsOn, Matters}
use Rattle.sp_formulas.specs.Moves.{raise, raise_all, settle, settle_all}
use Rattle.sp_hold.proofs.Scopes.{AreScoped, FitAll, Fits, IsScoped}
use Rattle.sp_hold.proofs.MoveLemmas.{value-raise, values-raise, value-settle, values-settle}

module _ (w : World) (r new : Reads) (Sees : ℕ → List Value → Type 0) where
  mutual
    pub below-raise : (m d : ℕ) (x cs : List Value) → length x ≡ m → length cs ≡ d → (e : Tree) (ys : List Value) → IsScoped (length (x ++ ys)) e → DependsOn w r new Sees (x ++ cs ++ ys) (raise m d e) → DependsOn w r new Sees (x ++ ys) e
    below-raise m d x cs p q (Const v) ys s h = tt
    below-raise m d x cs p q (Var k) ys s h = tt
    below-raise m d x cs p q (Not a) ys s h = below-raise m d x cs p q a ys s h
    below-raise m d x cs p q (Two o a b) ys s h =
        (below-raise m d x cs p q a ys s.0 h.0, λ l. below-raise m d x cs p q b ys s.1 (h.1 (subst (λ v. Matters o (is_true v)) (sym (value-raise w r new m d x cs p q a ys s.0)) l)))
    below-raise m d x cs p q (If c a b) ys s h =
        let e = value-raise w r new m d x cs p q c ys s.0 in
        (below-raise m d x cs p q c ys s.0 h.0, λ l. below-raise m d x cs p q a ys s.1 (h.1 (ap is_true e ∙ l)), λ l. below-raise m d x cs p q b ys s.2 (h.2 (ap is_true e ∙ l)))
    below-raise m d x cs p q (Param n ds) ys s h = belows-raise m d x cs p q ds ys s h
    below-raise m d x cs p q (Look g ds) ys s h = (belows-raise m d x cs p q ds ys s h.0, subst (Sees g) (values-raise w r new m d x cs p q ds ys s) h.1)
    below-raise m d x cs p q (Every k t b) ys s h = λ c i.
        let long : length (x ++ cs ++ ys) ≡ k + d = omega (arith, s.0, q, length-append (x ++ cs) ys, length-append x cs, length-append x ys) in
        let whole : take (k + d) (x ++ cs ++ ys) ≡ x ++ cs ++ ys = ap (λ n. take n (x ++ cs ++ ys)) (sym long) ∙ take-length (x ++ cs ++ ys) in
        let rest : take k (x ++ ys) ≡ x ++ ys = ap (λ n. take n (x ++ ys)) s.0 ∙ take-length (x ++ ys) in
        let l : length (x ++ (ys ++ c ∷ [])) ≡ suc (length (x ++ ys)) = omega (arith, length-append x (ys ++ c ∷ []), length-append ys (c ∷ []), length-append x ys) in
        let first : DependsOn w r new Sees (x ++ cs ++ ys ++ c ∷ []) (raise m d b) = subst (λ y. DependsOn w r new Sees (y ++ c ∷ []) (raise m d b)) whole (h c i) in
        let moved : DependsOn w r new Sees (x ++ cs ++ (ys ++ c ∷ [])) (raise m d b) = subst (λ y. DependsOn w r new Sees y (raise m d b)) (append_assoc (x ++ cs) ys (c ∷ [])) first in
        let back : DependsOn w r new Sees (x ++ (ys ++ c ∷ [])) b = below-raise m d x cs p q b (ys ++ c ∷ []) (subst (λ n. IsScoped n b) (sym l) s.1) moved in
        subst (λ y. DependsOn w r new Sees (y ++ c ∷ []) b) (sym rest) (subst (λ y. DependsOn w r new Sees y b) (sym (append_assoc x ys (c ∷ []))) back)
    below-raise m d x cs p q (New g ds) ys s h = (belows-raise m d x cs p q ds ys s h.0, subst (Sees g) (values-raise w r new m d x cs p q ds ys s) h.1)

    belows-raise : (m d : ℕ) (x cs : List Value) → length x ≡ m → length cs ≡ d → (ds : Trees) (ys : List Value) → AreScoped (length (x ++ ys)) ds → DependOn w r new Sees (x ++ cs ++ ys) (raise_all m d ds) → DependOn w r new Sees (x ++ ys) ds
    belows-raise m d x cs p q none ys s h = tt
    belows-raise m d x cs p q (more e es) ys s h = (below-raise m d x cs p q e ys s.0 h.0, belows-raise m d x cs p q es ys s.1 h.1)

  settle_every : (k : ℕ) (t : Ty) (b : Tree) (x : List Value) → k ≤ length x → IsScoped (suc k) b → DependsOn w r new Sees x (Every (k + (length x - k)) t (raise k (length x - k) b)) → DependsOn w r new Sees x (Every k t b)
  settle_every k t b x le s h =
      let y = take k x in
      let z = drop k x in
      let whole : y ++ z ≡ x = take-append-drop k x in
      let long : length y ≡ k = length-take-le k x le in
      let rest : length z ≡ length x - k = length-drop k x in
      let scoped : IsScoped (length y) (Every k t b) = (sym long, subst (λ n. IsScoped (suc n) b) (sym long) s) in
      let here : DependsOn w r new Sees (y ++ z ++ []) (raise k (length x - k) (Every k t b)) = subst (λ u. DependsOn w r new Sees u (raise k (length x - k) (Every k t b))) (sym whole ∙ sym (append-nil (y ++ z))) h in
      let moved = below-raise k (length x - k) y z long rest (Every k t b) [] (subst (λ u. IsScoped (length u) (Every k t b)) (sym (append-nil y)) scoped) here in
      let short : take k (y ++ []) ≡ take k x = ap (take k) (append-nil y) ∙ ap (λ n. take n y) (sym long) ∙ take-length y in
      λ c i. subst (λ u. DependsOn w r new Sees (u ++ c ∷ []) b) short (moved c i)

  mutual
    pub below-settle : (e : Tree) (x : List Value) → Fits (length x) e → DependsOn w r new Sees x (settle (length x) e) → DependsOn w r new Sees x e
    below-settle (Const v) x s h = tt
    below-settle (Var k) x s h = tt
    below-settle (Not a) x s h = below-settle a x s h
    below-settle (Two o a b) x s h = (below-settle a x s.0 h.0, λ l. below-settle b x s.1 (h.1 (subst (λ v. Matters o (is_true v)) (sym (value-settle w r new a x s.0)) l)))
    below-settle (If c a b) x s h =
        let e = value-settle w r new c x s.0 in
        (below-settle c x s.0 h.0, λ l. below-settle a x s.1 (h.1 (ap is_true e ∙ l)), λ l. below-settle b x s.2 (h.2 (ap is_true e ∙ l)))
    below-settle (Param n ds) x s h = belows-settle ds x s h
    below-settle (Look g ds) x s h = (belows-settle ds x s h.0, subst (Sees g) (values-settle w r new ds x s) h.1)
    below-settle (Every k t b) x s h = settle_every k t b x s.0 s.1 h
    below-settle (New g ds) x s h = (belows-settle ds x s h.0, subst (Sees g) (values-settle w r new ds x s) h.1)

    belows-settle : (ds : Trees) (x : List Value) → FitAll (length x) ds → DependOn w r new Sees x (settle_all (length x) ds) → DependOn w r new Sees x ds
    belows-settle none x s h = tt
    belows-settle (more e es) x s h = (below-settle e x s.0 h.0, belows-settle es x s.1 h.1)
