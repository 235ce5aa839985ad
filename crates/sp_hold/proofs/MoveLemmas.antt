-- What moved expressions are worth.
use Rattle.std.proofs.Common.{◌≡◌, refl, sym, ◌∙◌, ap, subst, arith, ℕ, zero, suc, ◌+◌, ◌-◌, ◌<◌, ◌≤◌, Bool, true, false, not, List, [], ◌∷◌, ◌++◌, take, length, append_assoc, length-append, get_or}
use Rattle.std.specs.Prelude.{if◌then◌else◌, nat_lt}
use Rattle.std.specs.List.{list_all}
use mathlib.Core.Path.{fun_ext}
use Rattle.std.specs.Bool.{Decides}
use Rattle.std.proofs.lemmas.Bool.Decides.{Decides-ltb}
use Rattle.std.proofs.Math.Seq.{take-length, get_or-append_right}
use Rattle.std.proofs.Math.ListN.{get_or-append}
use Rattle.sp_values.specs.declared.value.Value.{Value}
use Rattle.sp_values.specs.declared.value.Value.TheVariants as value
use Rattle.sp_core.specs.Tree.{Tree, Trees, Const, Var, Not, Two, If, Param, Look, Every, New, none, more}
use Rattle.sp_core.specs.Values.{World, Reads, is_true, two, nth, value_of, values_of}
use Rattle.sp_hold.proofs.Scopes.{IsScoped, AreScoped}
use Rattle.sp_formulas.specs.Moves.{nth_tree, put, put_all, raise, raise_all, settle, settle_all}
use Rattle.sp_hold.proofs.Scopes.{IsPlain, ArePlain, Fits, FitAll}
use Rattle.sp_values.specs.Domains.{proper_values}
use Rattle.sp_hold.proofs.Bridge.{weaken}
use Rattle.std.proofs.Common.{drop, take-append-drop, length-take-le, length-drop}
use Rattle.std.proofs.lemmas.List.{append-nil}
use Rattle.sp_values.specs.declared.value.Ty.{Ty}

pub nth-values : (w : World) (r new : Reads) (x : List Value) (as' : Trees) (k : ℕ) → value_of w r new x (nth_tree as' k) ≡ nth (values_of w r new x as') k
nth-values w r new x none k = refl
nth-values w r new x (more d ds) zero = refl
nth-values w r new x (more d ds) (suc k) = nth-values w r new x ds k

mutual
  pub value-put : (w : World) (r new : Reads) (x : List Value) (as' : Trees) (e : Tree) → IsPlain e → value_of w r new x (put as' e) ≡ value_of w r new (values_of w r new x as') e
  value-put w r new x as' (Const v) p = refl
  value-put w r new x as' (Var k) p = nth-values w r new x as' k
  value-put w r new x as' (Not a) p = ap (λ v. value.Truth (not (is_true v))) (value-put w r new x as' a p)
  value-put w r new x as' (Two o a b) p = λ i. two w o (value-put w r new x as' a p.0 i) (value-put w r new x as' b p.1 i)
  value-put w r new x as' (If c a b) p = λ i. if is_true (value-put w r new x as' c p.0 i) then value-put w r new x as' a p.1 i else value-put w r new x as' b p.2 i
  value-put w r new x as' (Param n ds) p = ap (w.param n) (values-put w r new x as' ds p)
  value-put w r new x as' (Look g ds) p = ap (r g) (values-put w r new x as' ds p)
  value-put w r new x as' (Every k t b) p = absurd p
  value-put w r new x as' (New g ds) p = ap (new g) (values-put w r new x as' ds p)

  pub values-put : (w : World) (r new : Reads) (x : List Value) (as' : Trees) (ds : Trees) → ArePlain ds → values_of w r new x (put_all as' ds) ≡ values_of w r new (values_of w r new x as') ds
  values-put w r new x as' none p = refl
  values-put w r new x as' (more d ds) p = λ i. value-put w r new x as' d p.0 i ∷ values-put w r new x as' ds p.1 i

at_raised : (b : Bool) (m d k : ℕ) (x cs ys : List Value) → Decides b (k < m) → length x ≡ m → length cs ≡ d → nth (x ++ cs ++ ys) (if b then k else k + d) ≡ nth (x ++ ys) k
at_raised true m d k x cs ys dec p q =
    let l = dec.0 refl in
    ap (λ l. get_or l k value.Unknown) (append_assoc x cs ys) ∙ get_or-append x (cs ++ ys) value.Unknown k (omega (arith, l, p)) ∙ sym (get_or-append x ys value.Unknown k (omega (arith, l, p)))
at_raised false m d k x cs ys dec p q =
    let le : m ≤ k = grind (arith, dec) in
    get_or-append_right (x ++ cs) ys (k + d) value.Unknown (omega (arith, le, p, q, length-append x cs))
    ∙ ap (λ n. get_or ys n value.Unknown) (omega (arith, le, p, q, length-append x cs))
    ∙ sym (get_or-append_right x ys k value.Unknown (omega (arith, le, p)))

mutual
  pub value-raise : (w : World) (r new : Reads) (m d : ℕ) (x cs : List Value) → length x ≡ m → length cs ≡ d → (e : Tree) (ys : List Value) → IsScoped (length (x ++ ys)) e → value_of w r new (x ++ cs ++ ys) (raise m d e) ≡ value_of w r new (x ++ ys) e
  value-raise w r new m d x cs p q (Const v) ys s = refl
  value-raise w r new m d x cs p q (Var k) ys s = at_raised (nat_lt k m) m d k x cs ys (Decides-ltb k m) p q
  value-raise w r new m d x cs p q (Not a) ys s = ap (λ v. value.Truth (not (is_true v))) (value-raise w r new m d x cs p q a ys s)
  value-raise w r new m d x cs p q (Two o a b) ys s = λ i. two w o (value-raise w r new m d x cs p q a ys s.0 i) (value-raise w r new m d x cs p q b ys s.1 i)
  value-raise w r new m d x cs p q (If c a b) ys s = λ i. if is_true (value-raise w r new m d x cs p q c ys s.0 i) then value-raise w r new m d x cs p q a ys s.1 i else value-raise w r new m d x cs p q b ys s.2 i
  value-raise w r new m d x cs p q (Param n ds) ys s = ap (w.param n) (values-raise w r new m d x cs p q ds ys s)
  value-raise w r new m d x cs p q (Look g ds) ys s = ap (r g) (values-raise w r new m d x cs p q ds ys s)
  value-raise w r new m d x cs p q (Every k t b) ys s =
      let long : length (x ++ cs ++ ys) ≡ k + d = omega (arith, s.0, q, length-append (x ++ cs) ys, length-append x cs, length-append x ys) in
      let whole : take (k + d) (x ++ cs ++ ys) ≡ x ++ cs ++ ys = ap (λ n. take n (x ++ cs ++ ys)) (sym long) ∙ take-length (x ++ cs ++ ys) in
      let rest : take k (x ++ ys) ≡ x ++ ys = ap (λ n. take n (x ++ ys)) s.0 ∙ take-length (x ++ ys) in
      ap (λ y. value.Truth (list_all (λ c. is_true (value_of w r new (y ++ c ∷ []) (raise m d b))) (proper_values w.sizes t))) whole
      ∙ ap (λ f. value.Truth (list_all f (proper_values w.sizes t))) (fun_ext (λ (c : Value).
      let l : length (x ++ (ys ++ c ∷ [])) ≡ suc (length (x ++ ys)) = omega (arith, length-append x (ys ++ c ∷ []), length-append ys (c ∷ []), length-append x ys) in
      ap (λ y. is_true (value_of w r new y (raise m d b))) (append_assoc (x ++ cs) ys (c ∷ []))
      ∙ ap is_true (value-raise w r new m d x cs p q b (ys ++ c ∷ []) (subst (λ n. IsScoped n b) (sym l) s.1))
      ∙ ap (λ y. is_true (value_of w r new y b)) (sym (append_assoc x ys (c ∷ [])))))
      ∙ ap (λ y. value.Truth (list_all (λ c. is_true (value_of w r new (y ++ c ∷ []) b)) (proper_values w.sizes t))) (sym rest)
  value-raise w r new m d x cs p q (New g ds) ys s = ap (new g) (values-raise w r new m d x cs p q ds ys s)

  pub values-raise : (w : World) (r new : Reads) (m d : ℕ) (x cs : List Value) → length x ≡ m → length cs ≡ d → (ds : Trees) (ys : List Value) → AreScoped (length (x ++ ys)) ds → values_of w r new (x ++ cs ++ ys) (raise_all m d ds) ≡ values_of w r new (x ++ ys) ds
  values-raise w r new m d x cs p q none ys s = refl
  values-raise w r new m d x cs p q (more e es) ys s = λ i. value-raise w r new m d x cs p q e ys s.0 i ∷ values-raise w r new m d x cs p q es ys s.1 i

module _ (w : World) (r new : Reads) where
  settle_every : (k : ℕ) (t : Ty) (b : Tree) (x : List Value) → k ≤ length x → IsScoped (suc k) b → value_of w r new x (Every (k + (length x - k)) t (raise k (length x - k) b)) ≡ value_of w r new x (Every k t b)
  settle_every k t b x le s =
      let y = take k x in
      let z = drop k x in
      let whole : y ++ z ≡ x = take-append-drop k x in
      let long : length y ≡ k = length-take-le k x le in
      let rest : length z ≡ length x - k = length-drop k x in
      let scoped : IsScoped (length y) (Every k t b) = (sym long, subst (λ n. IsScoped (suc n) b) (sym long) s) in
      let moved = value-raise w r new k (length x - k) y z long rest (Every k t b) [] (subst (λ u. IsScoped (length u) (Every k t b)) (sym (append-nil y)) scoped) in
      ap (λ u. value_of w r new u (raise k (length x - k) (Every k t b))) (sym whole ∙ sym (append-nil (y ++ z)))
      ∙ moved ∙ ap (λ u. value_of w r new u (Every k t b)) (append-nil y)
      ∙ sym (weaken w r new (Every k t b) y z scoped)
      ∙ ap (λ u. value_of w r new u (Every k t b)) whole

  mutual
    -- an expression that is settled has its value
    pub value-settle : (e : Tree) (x : List Value) → Fits (length x) e → value_of w r new x (settle (length x) e) ≡ value_of w r new x e
    value-settle (Const v) x h = refl
    value-settle (Var k) x h = refl
    value-settle (Not a) x h = ap (λ v. value.Truth (not (is_true v))) (value-settle a x h)
    value-settle (Two o a b) x h = λ i. two w o (value-settle a x h.0 i) (value-settle b x h.1 i)
    value-settle (If c a b) x h = λ i. if is_true (value-settle c x h.0 i) then value-settle a x h.1 i else value-settle b x h.2 i
    value-settle (Param n ds) x h = ap (w.param n) (values-settle ds x h)
    value-settle (Look g ds) x h = ap (r g) (values-settle ds x h)
    value-settle (Every k t b) x h = settle_every k t b x h.0 h.1
    value-settle (New g ds) x h = ap (new g) (values-settle ds x h)

    pub values-settle : (ds : Trees) (x : List Value) → FitAll (length x) ds → values_of w r new x (settle_all (length x) ds) ≡ values_of w r new x ds
    values-settle none x h = refl
    values-settle (more d ds) x h = λ i. value-settle d x h.0 i ∷ values-settle ds x h.1 i

mutual
  pub fits : (e : Tree) (m n : ℕ) → m ≤ n → IsScoped m e → Fits n e
  fits (Const v) m n le s = tt
  fits (Var k) m n le s = omega (arith, le, s)
  fits (Not a) m n le s = fits a m n le s
  fits (Two o a b) m n le s = (fits a m n le s.0, fits b m n le s.1)
  fits (If c a b) m n le s = (fits c m n le s.0, fits a m n le s.1, fits b m n le s.2)
  fits (Param p ds) m n le s = fit_all ds m n le s
  fits (Look g ds) m n le s = fit_all ds m n le s
  fits (Every k t b) m n le s = (omega (arith, le, s.0), subst (λ k. IsScoped (suc k) b) (sym s.0) s.1)
  fits (New g ds) m n le s = fit_all ds m n le s

  pub fit_all : (ds : Trees) (m n : ℕ) → m ≤ n → AreScoped m ds → FitAll n ds
  fit_all none m n le s = tt
  fit_all (more d ds) m n le s = (fits d m n le s.0, fit_all ds m n le s.1)

mutual
  -- more variables
  pub fits_more : (e : Tree) (m n : ℕ) → m ≤ n → Fits m e → Fits n e
  fits_more (Const v) m n le s = tt
  fits_more (Var k) m n le s = omega (arith, le, s)
  fits_more (Not a) m n le s = fits_more a m n le s
  fits_more (Two o a b) m n le s = (fits_more a m n le s.0, fits_more b m n le s.1)
  fits_more (If c a b) m n le s = (fits_more c m n le s.0, fits_more a m n le s.1, fits_more b m n le s.2)
  fits_more (Param p ds) m n le s = fit_all_more ds m n le s
  fits_more (Look g ds) m n le s = fit_all_more ds m n le s
  fits_more (Every k t b) m n le s = (omega (arith, le, s.0), s.1)
  fits_more (New g ds) m n le s = fit_all_more ds m n le s

  pub fit_all_more : (ds : Trees) (m n : ℕ) → m ≤ n → FitAll m ds → FitAll n ds
  fit_all_more none m n le s = tt
  fit_all_more (more d ds) m n le s = (fits_more d m n le s.0, fit_all_more ds m n le s.1)

fits_nth : (as' : Trees) (n k : ℕ) → FitAll n as' → Fits n (nth_tree as' k)
fits_nth none n k h = tt
fits_nth (more d ds) n zero h = h.0
fits_nth (more d ds) n (suc k) h = fits_nth ds n k h.1

mutual
  pub fits_put : (as' : Trees) (e : Tree) (n : ℕ) → FitAll n as' → IsPlain e → Fits n (put as' e)
  fits_put as' (Const v) n h p = tt
  fits_put as' (Var k) n h p = fits_nth as' n k h
  fits_put as' (Not a) n h p = fits_put as' a n h p
  fits_put as' (Two o a b) n h p = (fits_put as' a n h p.0, fits_put as' b n h p.1)
  fits_put as' (If c a b) n h p = (fits_put as' c n h p.0, fits_put as' a n h p.1, fits_put as' b n h p.2)
  fits_put as' (Param q ds) n h p = fits_put_all as' ds n h p
  fits_put as' (Look g ds) n h p = fits_put_all as' ds n h p
  fits_put as' (Every k t b) n h p = absurd p
  fits_put as' (New g ds) n h p = fits_put_all as' ds n h p

  fits_put_all : (as' : Trees) (ds : Trees) (n : ℕ) → FitAll n as' → ArePlain ds → FitAll n (put_all as' ds)
  fits_put_all as' none n h p = tt
  fits_put_all as' (more d ds) n h p = (fits_put as' d n h p.0, fits_put_all as' ds n h p.1)
