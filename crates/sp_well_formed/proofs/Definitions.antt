-- Definitions that break nothing may all be called: with their expressions, what is visible stays that of the signature.
use Rattle.std.proofs.Common.{◌≡◌, refl, sym, ◌∙◌, ap, subst, arith, ℕ, suc, ◌+◌, List, [], ◌∷◌, ◌++◌, Some, append_assoc, length, length-append, map, take}
use Rattle.std.specs.Prelude.{slice_get}
use Rattle.std.proofs.lemmas.List.{append-nil}
use Rattle.sp_text.specs.Violations.{in_file}
use Rattle.sp_values.specs.declared.value.Ty.{Ty}
use Rattle.sp_core.specs.declared.expr.Expr.{Expr}
use Rattle.sp_core.specs.Tree.{Tree, Trees, Const, Var, Not, Two, If, Param, Look, Every, New, none, more, tree, trees_of}
use Rattle.sp_core.specs.Typing.{Signature}
use Rattle.sp_core.proofs.TreeLemmas.{tree-Const, tree-Var, tree-Not, tree-Two, tree-If, tree-Param, tree-Look, tree-Every, tree-New}
use Rattle.sp_plain.specs.Text.{span, text}
use Rattle.sp_naming.specs.Numbers.{counted}
use Rattle.sp_scopes.specs.declared.heads.Sort.TheVariants as sort
use Rattle.sp_scopes.specs.declared.lent.Definition.{Definition}
use Rattle.sp_scopes.specs.declared.scopes.Scopes.{Scopes}
use Rattle.sp_judge.specs.declared.scope.Site.TheVariants as site
use Rattle.sp_judge.specs.Broken.{broken, limit_rules, whole_broken}
use Rattle.sp_judge.specs.Names.{sort_type}
use Rattle.sp_judge.specs.Translation.{translation}
use Rattle.sp_judge.specs.Visible.{Visible, definition_at, definition_head}
use Rattle.sp_definitions.specs.Definitions.{definition_core}
use Rattle.sp_typed.specs.Fits.{AreNumbers, HoldNoNew, IsScopeOf}
use Rattle.sp_typed.proofs.Defined.{defined_fresh, defined_scope}
use Rattle.sp_typed.proofs.Fitting.{behind_own}
use Rattle.sp_elaborate.specs.Expressions.{expression_of, expressions_of}
use Rattle.sp_elaborate.specs.Views.{core_of, cores_from, view}
use Rattle.sp_functions.specs.DefinitionTexts.{definition_broken, definitions_broken}
use Rattle.sp_functions.proofs.Known.{kept_fine}
use Rattle.sp_well_formed.proofs.Items.{left_nothing, map_nothing, right_nothing}

-- the expression of a tree has that tree
mutual
  tree_of : (t : Tree) → tree (expression_of t) ≡ t
  tree_of (Const v) = tree-Const v
  tree_of (Var k) = tree-Var k
  tree_of (Not a) = tree-Not (expression_of a) ∙ ap Not (tree_of a)
  tree_of (Two o a b) = tree-Two o (expression_of a) (expression_of b) ∙ (λ i. Two o (tree_of a i) (tree_of b i))
  tree_of (If c a b) = tree-If (expression_of c) (expression_of a) (expression_of b) ∙ (λ i. If (tree_of c i) (tree_of a i) (tree_of b i))
  tree_of (Param p ds) = tree-Param p (expressions_of ds) ∙ ap (Param p) (all_of_trees ds)
  tree_of (Look g ds) = tree-Look g (expressions_of ds) ∙ ap (Look g) (all_of_trees ds)
  tree_of (Every k t b) = tree-Every k t (expression_of b) ∙ ap (Every k t) (tree_of b)
  tree_of (New g ds) = tree-New g (expressions_of ds) ∙ ap (New g) (all_of_trees ds)

  all_of_trees : (ds : Trees) → trees_of (map tree (expressions_of ds)) ≡ ds
  all_of_trees none = refl
  all_of_trees (more d ds) = (λ i. more (tree_of d i) (all_of_trees ds i))

front : {X : Type 0} (xs ys : List X) → take (length xs) (xs ++ ys) ≡ xs
front [] ys = refl
front (x ∷ xs) ys = ap (λ z. x ∷ z) (front xs ys)

module _ (sg : Signature) (s : Scopes) (bottom top : ℕ) where
  -- what module n sees, of the definitions those that have these expressions
  abbrev pub sees : ℕ → List Expr → Visible
  sees n cores = record { names = s; number = n; cores = cores; bottom = bottom; top = top }

  -- what all modules see is that of the signature, and no definition reads a new value
  abbrev pub AreScopes : List Expr → Type 0
  AreScopes cores = (n : ℕ) → IsScopeOf sg (sees n cores) × HoldNoNew (sees n cores)

  -- only what names stand for differs between modules
  renumbered : (n k : ℕ) (before cores : List Expr) → IsScopeOf sg (sees n before) → IsScopeOf sg (sees k cores) → IsScopeOf sg (sees n cores)
  renumbered n k before cores own w = record {
    shared = own.shared;
    bottom = w.bottom;
    top = w.top;
    param_heads = w.param_heads;
    function_heads = w.function_heads;
    definition_heads = w.definition_heads;
    params = w.params;
    functions = w.functions;
    definitions = w.definitions;
  }

  -- one more definition
  defined : (before : List Expr) (d : Definition) (t : Ty) → AreScopes before → slice_get s.definitions (length before) ≡ Some d → d.head.sort ≡ sort.Plain t → AreNumbers (text d.text) →
      whole_broken (sees d.module_number before) site.Outside d.head.formals (sort_type d.head.sort) (text d.text) ≡ [] → AreScopes (before ++ core_of s bottom top before d ∷ [])
  defined before d t w at plain n fine k =
      let own = sees d.module_number before in
      let core = core_of s bottom top before d in
      let whole = translation own d.head.formals (text d.text) in
      let limits = limit_rules (span (text d.text)) whole in
      let fits : limits ≡ [] = behind_own (broken own site.Outside d.head.formals (sort_type d.head.sort) (text d.text)) limits fine in
      let is : tree core ≡ whole = tree_of (definition_core s bottom top before d) ∙ kept_fine (span (text d.text)) whole fits in
      let asked = subst (λ u. whole_broken own site.Outside d.head.formals (sort_type u) (text d.text) ≡ []) plain fine in
      let there : definition_at own (length before) ≡ Some d.head = ap definition_head at in
      let here = w d.module_number in (
        renumbered k d.module_number before (before ++ core ∷ []) (w k).0 (defined_scope sg own here.0 here.1 d.head t (text d.text) core there plain n asked is),
        defined_fresh sg own here.0 here.1 d.head t (text d.text) core there plain n asked is,
      )

  abbrev all : List Expr
  all = cores_from s bottom top [] s.definitions

  module _ (plain : (k : ℕ) (d : Definition) → slice_get s.definitions k ≡ Some d → (t : Ty) × (d.head.sort ≡ sort.Plain t))
      (numbers : (k : ℕ) (d : Definition) → slice_get s.definitions k ≡ Some d → AreNumbers (text d.text)) where
    -- those after the first ones
    rest_defined : (before : List Expr) (ds : List Definition) → all ≡ before ++ cores_from s bottom top before ds → ((j : ℕ) → slice_get s.definitions (length before + j) ≡ slice_get ds j) →
        definitions_broken (view s 0 bottom top) (length before) ds ≡ [] → AreScopes before → AreScopes all
    rest_defined before [] split places fine w = subst AreScopes (sym (split ∙ append-nil before)) w
    rest_defined before (d ∷ ds) split places fine w =
        let here : length before + 0 ≡ length before = omega arith in
        let at = ap (slice_get s.definitions) (sym here) ∙ places 0 in
        let core = core_of s bottom top before d in
        let next = before ++ core ∷ [] in
        let own = in_file (counted 1 d.module_number) (definition_broken (view s 0 bottom top) (length before) d) in
        let others = definitions_broken (view s 0 bottom top) (length before + 1) ds in
        let whole = map_nothing (λ v. record { file = counted 1 d.module_number; violation = v }) (definition_broken (view s 0 bottom top) (length before) d) (left_nothing own others fine) in
        let seen : take (length before) all ≡ before = ap (take (length before)) split ∙ front before (cores_from s bottom top before (d ∷ ds)) in
        let fits = subst (λ es. whole_broken (sees d.module_number es) site.Outside d.head.formals (sort_type d.head.sort) (text d.text) ≡ []) seen whole in
        let p = plain (length before) d at in
        let long : length before + 1 ≡ length next = omega (arith, length-append before (core ∷ [])) in
        rest_defined next ds (split ∙ sym (append_assoc before (core ∷ []) (cores_from s bottom top next ds)))
        (λ j. let z : length next + j ≡ length before + suc j = omega (arith, length-append before (core ∷ [])) in ap (slice_get s.definitions) z ∙ places (suc j))
        (subst (λ n. definitions_broken (view s 0 bottom top) n ds ≡ []) long (right_nothing own others fine))
        (defined before d p.0 w at p.1 (numbers (length before) d at) fits)

    -- all of them
    pub all_defined : definitions_broken (view s 0 bottom top) 0 s.definitions ≡ [] → AreScopes [] → (n : ℕ) → IsScopeOf sg (view s n bottom top) × HoldNoNew (view s n bottom top)
    all_defined fine w n = rest_defined [] s.definitions refl (λ j. let z : 0 + j ≡ j = omega arith in ap (slice_get s.definitions) z) fine w n
