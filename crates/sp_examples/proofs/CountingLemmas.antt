-- The specification that counts is well-formed up to sixteen derivations in a chain, and not beyond.
use Rattle.std.proofs.Common.{◌≡◌, refl, true, sym, ◌∙◌, ap, subst, arith, ℕ, zero, suc, ◌+◌, ◌<◌, ◌≤◌, List, [], ◌∷◌, ◌++◌, Some}
use Rattle.std.specs.Prelude.{pos, slice_get, codes}
use Rattle.std.proofs.lemmas.List.FromFn.{get_or-map-range_with_len, length-map-range_with_len, map-range_with_len_more}
use Rattle.std.proofs.lemmas.Option.{slice_get-get_or, slice_get_within}
use Rattle.sp_lattice.specs.Order.{IsLatticeOrder, Order}
use Rattle.sp_values.specs.declared.value.Op.TheVariants as op
use Rattle.sp_values.specs.declared.value.Ty.TheVariants as ty
use Rattle.sp_values.specs.declared.value.Value.TheVariants as value
use Rattle.sp_core.specs.declared.expr.Expr.TheVariants as expr
use Rattle.sp_core.specs.declared.function.Assertion.{Assertion}
use Rattle.sp_core.specs.declared.function.Function.{Function}
use Rattle.sp_core.specs.declared.function.Param.{Param}
use Rattle.sp_core.specs.declared.function.TypeInfo.{TypeInfo}
use Rattle.sp_core.specs.Measures.{Anything, DerivesFrom, IsNotDerived, IsWithinDepth, LooksAt, kind_nodes}
use Rattle.sp_core.specs.Parts.{signature}
use Rattle.sp_core.specs.Tree.{tree}
use Rattle.sp_core.specs.Typing.{Signature, read_type}
use Rattle.sp_core.specs.WellFormed.{IsEarlierAs, IsFunction, IsKind, IsWellFormed}
use Rattle.sp_core.proofs.TreeLemmas.{tree_lemmas}
use Rattle.sp_examples.specs.Common.{IsLowHigh, look_at, low}
use Rattle.sp_examples.specs.Counting.{count_function, count_functions, count_kind, counting, counting_to}
use Rattle.sp_examples.proofs.NameLemmas.{some_same}
use Rattle.sp_examples.proofs.Parts.{function_fine, low_fine, no_formals, over_fine}

-- the function at each number
pub count_at : (n g : ℕ) → g < n → slice_get (count_functions n) g ≡ Some (count_function g)
count_at n g l = slice_get-get_or (count_functions n) g (count_function 0) (omega (arith, length-map-range_with_len count_function 0 n)) ∙ ap Some (get_or-map-range_with_len count_function 0 n g g (count_function 0) l (omega arith))

-- one function more
pub count_more : (k : ℕ) (fs gs : List Function) (f : Function) → fs ≡ count_functions k → f ≡ count_function k → gs ≡ fs ++ f ∷ [] → gs ≡ count_functions (k + 1)
count_more k fs gs f a b h = h ∙ (λ i. a i ++ b i ∷ []) ∙ sym (map-range_with_len_more count_function 0 k k (omega arith))

-- it is as deep as its number
count_depth : (n m g : ℕ) → g < n → g ≤ m → IsWithinDepth (count_functions n) m g
count_depth n zero zero l h = subst IsNotDerived (sym (count_at n 0 l)) tt
count_depth n zero (suc k) l h = absurd (omega arith)
count_depth n (suc m) zero l h = subst (DerivesFrom (IsWithinDepth (count_functions n) m)) (sym (count_at n 0 l)) tt
count_depth n (suc m) (suc k) l h = subst (DerivesFrom (IsWithinDepth (count_functions n) m)) (sym (count_at n (suc k) l)) (simp tree_lemmas ((count_depth n m k (omega arith) (omega arith), tt), tt))

-- and no less
too_deep : (n m g : ℕ) → m < g → g < n → IsWithinDepth (count_functions n) m g → ⊥
too_deep n zero zero l b h = absurd (omega (arith, l))
too_deep n zero (suc k) l b h = subst IsNotDerived (count_at n (suc k) b) h
too_deep n (suc m) zero l b h = absurd (omega (arith, l))
too_deep n (suc m) (suc k) l b h =
    let reads : LooksAt (IsWithinDepth (count_functions n) m) Anything (tree (expr.Two op.Add (look_at k) (expr.Const (value.Int (pos 1))))) = subst (DerivesFrom (IsWithinDepth (count_functions n) m)) (count_at n (suc k) b) h in
    let parts : (IsWithinDepth (count_functions n) m k × Unit {0}) × Unit {0} = simp tree_lemmas at reads in
    too_deep n m k (omega (arith, l)) (omega (arith, b)) parts.0.0

-- a chain of seventeen derivations
pub counting_refused : (o : Order) → IsWellFormed (counting_to 18 o) → ⊥
counting_refused o h = too_deep 18 16 17 (omega arith) (omega arith) (h.functions 17 (count_function 17) (count_at 18 17 (omega arith))).kind.within_depth

module _ (o : Order) where
  abbrev sg : Signature
  sg = signature (counting o)

  -- what the function before it gives is a number
  count_type : (k : ℕ) → read_type (count_kind k) ≡ Some ty.Integer
  count_type zero = refl
  count_type (suc k) = refl

  earlier : (g h : ℕ) → h < g → IsEarlierAs g h (count_kind h)
  earlier g zero l = tt
  earlier g (suc h) l = l

  kind_fine : (g : ℕ) → g < 17 → IsKind sg [] g (count_kind g)
  kind_fine zero l = record {
    type = refl;
    expression = simp tree_lemmas (record { typed = refl; few_nodes = omega arith; few_quantifiers = omega arith; no_new = tt });
    reads_nothing = simp tree_lemmas tt;
  }
  kind_fine (suc k) l = record {
    type = refl;
    expression = simp tree_lemmas (record {
      typed = (ty.Integer, (refl, refl), (count_function k, count_at 17 k (omega arith), count_type k, tt), refl);
      few_nodes = omega arith;
      few_quantifiers = omega arith;
      no_new = ((tt, tt), tt);
    });
    reads_earlier = simp tree_lemmas ((λ f e. subst (λ (x : Function). IsEarlierAs (suc k) k x.kind) (some_same (sym (count_at 17 k (omega arith)) ∙ e)) (earlier (suc k) k (omega arith)), tt), tt);
    within_depth = count_depth 17 16 (suc k) l (omega arith);
  }

  kind_nodes_few : (g : ℕ) → kind_nodes (count_kind g) ≤ 1024
  kind_nodes_few zero = simp tree_lemmas (omega arith)
  kind_nodes_few (suc k) = simp tree_lemmas (omega arith)

  functions_fine : o.count ≡ 2 → (g : ℕ) (f : Function) → slice_get (count_functions 17) g ≡ Some f → IsFunction sg g f
  functions_fine two g f e =
      let l : g < 17 = slice_get_within (count_functions 17) g f e in
      subst (IsFunction sg g) (some_same (sym (count_at 17 g l) ∙ e)) (function_fine sg g true ((97 + g) ∷ []) [] (count_kind g) low (no_formals sg) (kind_fine g l) (kind_nodes_few g) (low_fine sg two []))

  pub counting_well_formed : IsLatticeOrder o → o.count ≡ 2 → IsWellFormed (counting o)
  counting_well_formed lattice two = over_fine (codes "counting") [] (count_functions 17) o lattice two refl (omega arith) (omega arith) (functions_fine two)

-- parts that are those of the specification are well-formed
pub counting_assemble : (o : Order) (name : List ℕ) (levels : List (List ℕ)) (types : List TypeInfo) (params : List Param) (assertions : List Assertion) (fs : List Function) → IsLatticeOrder o → IsLowHigh o
    → name ≡ codes "counting" → levels ≡ codes "LOW" ∷ codes "HIGH" ∷ [] → types ≡ [] → params ≡ [] → assertions ≡ [] → fs ≡ count_functions 17
    → IsWellFormed (record { name = name; lattice = o; level_names = levels; types = types; params = params; assertions = assertions; functions = fs })
counting_assemble o name levels types params assertions fs lattice order a b c d e f =
    subst IsWellFormed (sym (λ i. record { name = a i; lattice = o; level_names = b i; types = c i; params = d i; assertions = e i; functions = f i })) (counting_well_formed o lattice order.count_same)
