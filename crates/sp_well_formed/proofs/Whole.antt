-- A specification that is meant by texts that break nothing is well-formed.
use Rattle.std.proofs.Common.{◌≡◌, refl, sym, ◌∙◌, ap, subst, arith, ℕ, suc, ◌+◌, ◌≤◌, List, [], ◌∷◌, Option, Some, None, length, map}
use Rattle.std.specs.Prelude.{slice_get}
use Rattle.std.specs.List.{All, flat_map}
use Rattle.std.proofs.lemmas.List.Elements.{All-cons, All-nil}
use Rattle.std.proofs.lemmas.Option.{slice_get_within}
use Rattle.sp_text.specs.declared.violation.FileViolation.{FileViolation}
use Rattle.sp_text.specs.Firsts.{behind}
use Rattle.sp_text.specs.Violations.{in_file}
use Rattle.sp_tree.specs.declared.expr.ExprTree.{ExprTree}
use Rattle.sp_tree.specs.declared.interface.InterfaceTree.{InterfaceTree}
use Rattle.sp_tree.specs.declared.interface.LatticeTree.{LatticeTree}
use Rattle.sp_tree.specs.declared.interface.LatticeTree.TheVariants as lattice
use Rattle.sp_tree.specs.declared.module.FunDecl.{FunDecl}
use Rattle.sp_tree.specs.declared.module.Module.{Module}
use Rattle.sp_lattice.specs.Order.{IsLatticeOrder}
use Rattle.sp_core.specs.declared.function.Assertion.{Assertion}
use Rattle.sp_core.specs.declared.function.Function.{Function}
use Rattle.sp_core.specs.declared.function.Param.{Param}
use Rattle.sp_core.specs.declared.function.TypeInfo.{TypeInfo}
use Rattle.sp_core.specs.Parts.{Parts, signature}
use Rattle.sp_core.specs.Typing.{Signature}
use Rattle.sp_core.specs.WellFormed.{IsAssertion, IsFunction, IsParam, IsWellFormed, members_of}
use Rattle.sp_plain.specs.Text.{text}
use Rattle.sp_naming.specs.declared.declaration.Entity.TheVariants as entity
use Rattle.sp_naming.specs.Declarations.{declarations}
use Rattle.sp_naming.specs.Levels.{level_declarations}
use Rattle.sp_naming.specs.Numbers.{after, counted, numbered}
use Rattle.sp_scopes.specs.declared.heads.Head.{Head}
use Rattle.sp_scopes.specs.declared.lent.DeclaredType.{DeclaredType}
use Rattle.sp_scopes.specs.declared.scopes.Scopes.{Scopes}
use Rattle.sp_scopes.specs.Heads.{function_head, function_heads, sight}
use Rattle.sp_scopes.specs.Interfaces.{scopes_broken}
use Rattle.sp_scopes.specs.Laws.{FoundAreLent, LentAreFound}
use Rattle.sp_scopes.specs.Lent.{declared_level, level_names, level_order}
use Rattle.sp_scopes.specs.Scopes.{entity_at, scopes_of}
use Rattle.sp_order.specs.Orders.{AreEnds, HasLevels, count_of, level_count}
use Rattle.sp_judge.specs.Visible.{Visible, function_at}
use Rattle.sp_typed.specs.Fits.{AreTypes, IsAsked, IsFunctionHead, any_type}
use Rattle.sp_elaborate.specs.Views.{view}
use Rattle.sp_functions.specs.DefinitionTexts.{definitions_broken}
use Rattle.sp_functions.specs.Equations.{equations_broken}
use Rattle.sp_functions.specs.Laws.{IsSeenBy}
use Rattle.sp_functions.proofs.Asserted.{assertion}
use Rattle.sp_specification.specs.Bodies.{bodies_broken}
use Rattle.sp_specification.specs.Bodies as second
use Rattle.sp_specification.specs.Broken.{rest_broken}
use Rattle.sp_specification.specs.Ends.{ends_broken, equation_of, whole_view}
use Rattle.sp_specification.specs.Ends as third
use Rattle.sp_specification.specs.Meaning.{AreAssertions, IsMeant, assertion_texts, function_texts, numbered_assertions, numbered_functions, param_of, type_info}
use Rattle.sp_specification.specs.Numbers.{AreAllNumbered, IsDefinitionNumbered, IsFunctionNumbered, IsModuleNumbered, IsNumbered}
use Rattle.sp_well_formed.proofs.Definitions.{all_defined}
use Rattle.sp_well_formed.proofs.Headers.{functions_fine}
use Rattle.sp_well_formed.proofs.Items.{OfParts, Placed, all_of, item_at, left_nothing, made_placed, map_length, map_nothing, no_item, of_all, of_placed, placed, right_nothing, same_item, under_map}
use Rattle.sp_well_formed.proofs.LevelNames.{lattice_levels, product_levels_count}
use Rattle.sp_well_formed.proofs.Limits.{few_functions, few_members, few_params, few_types}
use Rattle.sp_well_formed.proofs.Lists.{AssertionsFine, all_assertions, all_functions, all_levels, few_assertions}
use Rattle.sp_well_formed.proofs.Names.{AreFound, names_differ}
use Rattle.sp_well_formed.proofs.Scopes.{HasAll, definitions_plain, first_scopes, head_of_in, params_formed}
use Rattle.sp_well_formed.proofs.Walks.{IsPlacedFunction, all_fine, function_headed, function_placed, functions_length}

inner_nothing : (xs own : List FileViolation) → behind xs own ≡ [] → xs ≡ []
inner_nothing [] own h = refl
inner_nothing (f ∷ fs) own h = h

own_nothing : (xs own : List FileViolation) → behind xs own ≡ [] → own ≡ []
own_nothing [] own h = h
own_nothing (f ∷ fs) own h = absurd cc

-- Levels

-- as many levels are named as there are
levels_named : (i : InterfaceTree) (ms : List Module) → HasLevels (scopes_of i ms) → length (scopes_of i ms).levels ≡ level_count (scopes_of i ms)
levels_named i ms has = by i.lattice refl has.some has.few
  where
    by : (l : LatticeTree) → i.lattice ≡ l → 1 ≤ count_of (length (level_names (declarations i ms))) (level_order (declarations i ms) l) →
        count_of (length (level_names (declarations i ms))) (level_order (declarations i ms) l) ≤ 256 → length (level_names (declarations i ms)) ≡ count_of (length (level_names (declarations i ms))) (level_order (declarations i ms) l)
    by (lattice.Order p names chains) e some few = refl
    by (lattice.Product p chain categories) e some few =
        ap length (lattice_levels i ms ∙ ap (λ z. flat_map declared_level (level_declarations z)) e) ∙ product_levels_count chain categories some few

-- Members

members_at : (P : ℕ → List ℕ → Type 0) (d : DeclaredType) (k : ℕ) (x : List ℕ) → ((xs : List (List ℕ)) → d.members ≡ Some xs → slice_get xs k ≡ Some x → P k x) → slice_get (members_of (type_info d)) k ≡ Some x → P k x
members_at P d k x f = by d.members refl
  where
    by : (o : Option (List (List ℕ))) → d.members ≡ o → slice_get (members_of (record { name = d.name; members = o })) k ≡ Some x → P k x
    by None is e = no_item k x e
    by (Some xs) is e = f xs is e

members_few : (d : DeclaredType) → ((xs : List (List ℕ)) → d.members ≡ Some xs → length xs ≤ 64) → length (members_of (type_info d)) ≤ 64
members_few d f = by d.members refl
  where
    by : (o : Option (List (List ℕ))) → d.members ≡ o → length (members_of (record { name = d.name; members = o })) ≤ 64
    by None is = omega arith
    by (Some xs) is = f xs is

-- Assertions

assertions_length : (sees : ℕ → Visible) (es : List (ℕ × ExprTree)) (as' : List Assertion) → AreAssertions sees es as' → length as' ≡ length es
assertions_length sees [] [] h = refl
assertions_length sees [] (a ∷ as') h = absurd h
assertions_length sees (e ∷ es) [] h = absurd h
assertions_length sees (e ∷ es) (a ∷ as') h = ap suc (assertions_length sees es as' h.1)

assertions_formed : (sg : Signature) (sees : ℕ → Visible) → ((k : ℕ) → IsSeenBy sg (sees k)) → (n : ℕ) (es : List (ℕ × ExprTree)) (as' : List Assertion) → AreAssertions sees es as' → AssertionsFine sees n es →
    ((k : ℕ) (e : ℕ × ExprTree) → slice_get es k ≡ Some e → IsNumbered e.1) → All (IsAssertion sg) as'
assertions_formed sg sees seen n [] [] h fine m = All-nil (IsAssertion sg)
assertions_formed sg sees seen n [] (a ∷ as') h fine m = absurd h
assertions_formed sg sees seen n (e ∷ es) [] h fine m = absurd h
assertions_formed sg sees seen n (e ∷ es) (a ∷ as') h fine m =
    All-cons (IsAssertion sg) a as' (assertion sg (sees e.0) (seen e.0) (text e.1) (m 0 e refl) fine.0 a h.0)
    (assertions_formed sg sees seen (after n) es as' h.1 fine.2 (λ k d i. m (suc k) d i))

-- Numbers in range

parts_of : {M : Type 0} (P : M → Type 0) (n : ℕ) (ms : List M) → ((k : ℕ) (m : M) → slice_get ms k ≡ Some m → P m) → OfParts (λ j m. P m) n ms
parts_of P n [] h = tt
parts_of P n (m ∷ ms) h = (h 0 m refl, parts_of P (after n) ms (λ k d e. h (suc k) d e))

numbers_of : {A : Type 0} (its : Module → List A) (Q : A → Type 0) (ms : List Module) → All IsModuleNumbered ms → ((m : Module) → IsModuleNumbered m → All Q (its m)) →
    (make : ℕ → Module → List (ℕ × A)) → ((n : ℕ) (m : Module) → make n m ≡ map (λ a. (n, a)) (its m)) → (k : ℕ) (x : ℕ × A) → slice_get (numbered make 0 ms) k ≡ Some x → Q x.1
numbers_of {A} its Q ms all each make is k x at =
    let r = under_map (λ (t : Placed Module A). (t.number, t.item)) (placed its 0 ms) k x (ap (λ z. slice_get z k) (sym (made_placed its (λ n m a. (n, a)) make is 0 ms)) ∙ at) in
    let parts = parts_of IsModuleNumbered 0 ms (λ j m e. of_all IsModuleNumbered ms all j m e) in
    let q = of_placed its (λ j m. IsModuleNumbered m) (λ (t : Placed Module A). Q t.item) (λ n m h j a e. of_all Q (its m) (each m h) j a e) 0 ms parts k r.0 r.1 in
    subst (λ (y : ℕ × A). Q y.1) r.2 q

-- What the interface and its modules see

module _ (lent : FoundAreLent) (i : InterfaceTree) (ms : List Module) (bottom top : ℕ) (p : Parts) (none : scopes_broken i ms ≡ [])
    (levels : HasLevels (scopes_of i ms)) (ends : AreEnds (scopes_of i ms) bottom top) (defined : All IsDefinitionNumbered (scopes_of i ms).definitions)
    (rest : rest_broken i ms bottom top ≡ []) (meant : IsMeant (scopes_of i ms) bottom top i ms p) where
  abbrev s : Scopes
  s = scopes_of i ms

  abbrev sg : Signature
  sg = signature p

  abbrev sees : ℕ → Visible
  sees k = view s k bottom top

  abbrev whole : Visible
  whole = whole_view s bottom top

  -- what is broken of the parts
  bodies_none : bodies_broken s bottom top ms ≡ []
  bodies_none = inner_nothing (bodies_broken s bottom top ms) (ends_broken s bottom top i ms) rest

  definitions_none : definitions_broken (view s 0 bottom top) 0 s.definitions ≡ []
  definitions_none = left_nothing (definitions_broken (view s 0 bottom top) 0 s.definitions) (second.modules_broken s bottom top 0 0 [] ms) bodies_none

  -- as many functions as heads
  texts_count : length (function_texts ms) ≡ length s.functions
  texts_count =
      let all = placed (λ (m : Module). m.functions) 0 ms in
      let texts = made_placed (λ (m : Module). m.functions) (λ n m x. (n, x)) numbered_functions (λ n m. refl) 0 ms in
      let heads = made_placed (λ (m : Module). m.functions) (λ n m x. function_head (sight (declarations i ms) i.modules n m) x) (function_heads (declarations i ms) i.modules) (λ n m. refl) 0 ms in
      ap length texts ∙ map_length (λ (t : Placed Module FunDecl). (t.number, t.item)) all
      ∙ sym (ap length heads ∙ map_length (λ (t : Placed Module FunDecl). function_head (sight (declarations i ms) i.modules t.number t.part) t.item) all)

  functions_count : length p.functions ≡ length s.functions
  functions_count = functions_length sees whole i.levels 0 (function_texts ms) p.functions meant.functions ∙ texts_count

  -- function k, with its text, its head and its level equation
  function_of : (k : ℕ) → suc k ≤ length s.functions → (x : ℕ × FunDecl) × (f : Function) × (slice_get p.functions k ≡ Some f) × IsPlacedFunction (sees x.0) whole (function_at whole k) (equation_of whole i.levels k) x.1 f
  function_of k lt =
      let x = item_at (function_texts ms) k (omega (arith, lt, texts_count)) in
      let r = function_placed sees whole i.levels 0 (function_texts ms) p.functions meant.functions k x.0 x.1 in
      let z : 0 + k ≡ k = omega arith in
      (x.0, r.0, r.1, subst (λ n. IsPlacedFunction (sees x.0.0) whole (function_at whole n) (equation_of whole i.levels n) x.0.1 r.0) z r.2)

  headed : (k : ℕ) (h : Head) → slice_get s.functions k ≡ Some h → (f : Function) × (slice_get sg.functions k ≡ Some f) × IsFunctionHead h f
  headed k h at =
      let r = function_of k (slice_get_within s.functions k h at) in
      let same = same_item r.3.head h (sym r.3.has_head ∙ at) in
      (r.1, r.2, subst (λ y. IsFunctionHead y r.1) same (function_headed (sees r.0.0) whole (function_at whole k) (equation_of whole i.levels k) r.0.1 r.1 r.3))

  has : HasAll i ms sg
  has = record {
    types = meant.types;
    levels = levels_named i ms levels ∙ sym meant.lattice.count_same;
    count = sym meant.lattice.count_same;
    params = meant.params;
    functions = headed;
  }

  -- what each module and the interface see is that of the signature
  pub seen : (k : ℕ) → IsSeenBy sg (sees k)
  seen k =
      let w = all_defined sg s bottom top (definitions_plain lent i ms none sg has) (λ j d at. of_all IsDefinitionNumbered s.definitions defined j d at) definitions_none
      (first_scopes lent i ms none sg has bottom top ends) k in
      record { scope = w.0; fresh = w.1; functions = functions_count }

  -- The whole

  module _ (found : LentAreFound) (ordered : IsLatticeOrder p.lattice) (numbers : AreAllNumbered (scopes_of i ms).definitions i.levels ms) where
    ends_none : ends_broken s bottom top i ms ≡ []
    ends_none = own_nothing (bodies_broken s bottom top ms) (ends_broken s bottom top i ms) rest

    modules_none : second.modules_broken s bottom top 0 0 [] ms ≡ []
    modules_none = right_nothing (definitions_broken (view s 0 bottom top) 0 s.definitions) (second.modules_broken s bottom top 0 0 [] ms) bodies_none

    equations_none : equations_broken whole i.levels ≡ []
    equations_none =
        map_nothing (λ v. record { file = 0; violation = v }) (equations_broken whole i.levels)
        (left_nothing (in_file 0 (equations_broken whole i.levels)) (third.modules_broken s bottom top whole i.levels 0 0 ms) ends_none)

    levels_none : third.modules_broken s bottom top whole i.levels 0 0 ms ≡ []
    levels_none = right_nothing (in_file 0 (equations_broken whole i.levels)) (third.modules_broken s bottom top whole i.levels 0 0 ms) ends_none

    -- names
    names_found : AreFound (entity_at s (length ms)) p
    names_found = record {
      types = λ t info at.
          let r = under_map type_info s.types t info (ap (λ z. slice_get z t) (sym meant.types) ∙ at) in
          subst (λ (z : TypeInfo). entity_at s (length ms) z.name ≡ Some (entity.Declared t)) r.2 (found i ms none r.0.name (entity.Declared t) (r.0, (r.1, refl)));
      members = λ t k info x at in_it.
          let r = under_map type_info s.types t info (ap (λ z. slice_get z t) (sym meant.types) ∙ at) in
          members_at (λ j y. entity_at s (length ms) y ≡ Some (entity.Member t j)) r.0 k x (λ xs is e. found i ms none x (entity.Member t k) (r.0, (xs, (r.1, (is, e)))))
          (ap (λ (z : TypeInfo). slice_get (members_of z) k) r.2 ∙ in_it);
      params = λ k q at.
          let r = under_map param_of s.parameters k q (ap (λ z. slice_get z k) (sym meant.params) ∙ at) in
          subst (λ (z : Param). entity_at s (length ms) z.name ≡ Some (entity.Param k)) r.2 (found i ms none r.0.name (entity.Param k) (r.0, (r.1, refl)));
      functions = λ k f at.
          let lt = slice_get_within p.functions k f at in
          let r = function_of k (omega (arith, lt, functions_count)) in
          let same = same_item r.1 f (sym r.2 ∙ at) in
          subst (λ (z : Function). entity_at s (length ms) z.name ≡ Some (entity.Function k)) same
          (subst (λ y. entity_at s (length ms) y ≡ Some (entity.Function k)) (sym r.3.is.name) (found i ms none r.3.head.name (entity.Function k) (r.3.head, (r.3.has_head, refl))));
      levels = λ k x at. found i ms none x (entity.Level k) (ap (λ z. slice_get z k) (sym meant.level_names) ∙ at);
    }

    types_there : (g : ℕ) (h : Head) → function_at whole g ≡ Some h → AreTypes sg h.formals × IsAsked sg (any_type h.sort) × (length h.formals ≤ 8)
    types_there g h at =
        let fine = functions_fine lent i ms none g h at in
        let head = head_of_in lent i ms none sg has h fine in
        (head.formals, head.any, fine.few)

    functions_formed : (k : ℕ) (f : Function) → slice_get p.functions k ≡ Some f → IsFunction sg k f
    functions_formed =
        let low : 0 ≤ 65535 = omega arith in
        let few : length (function_texts ms) ≤ 512 = omega (arith, texts_count, few_functions found i ms none) in
        all_fine sg sees whole seen (seen (counted 0 (length s.takes))) (λ k g. refl) types_there i.levels equations_none numbers.equations (function_texts ms) meant.functions
        (all_functions s bottom top 0 0 [] ms modules_none) (all_levels s bottom top whole i.levels 0 0 ms low levels_none)
        (numbers_of (λ (m : Module). m.functions) IsFunctionNumbered ms numbers.modules (λ m n. n.functions) numbered_functions (λ n m. refl)) few

    assertions_few : length p.assertions ≤ 64
    assertions_few =
        let low : 0 ≤ 65535 = omega arith in
        let start : 0 ≤ 64 = omega arith in
        let few = few_assertions sees 0 (assertion_texts ms) start (all_assertions s bottom top 0 0 [] ms low modules_none) in
        omega (arith, few, assertions_length sees (assertion_texts ms) p.assertions meant.assertions)

    pub formed : IsWellFormed p
    formed =
        let low : 0 ≤ 65535 = omega arith in
        record {
          lattice = ordered;
          level_names = ap length meant.level_names ∙ has.levels;
          names = names_differ (entity_at s (length ms)) p names_found;
          few_types = omega (arith, few_types found i ms none, ap length meant.types ∙ map_length type_info s.types);
          few_members = all_of (λ info. length (members_of info) ≤ 64) p.types (λ t info at.
              let r = under_map type_info s.types t info (ap (λ z. slice_get z t) (sym meant.types) ∙ at) in
              subst (λ (z : TypeInfo). length (members_of z) ≤ 64) r.2 (members_few r.0 (λ xs is. few_members found i ms none t r.0 xs r.1 is)));
          few_params = omega (arith, few_params found i ms none, ap length meant.params ∙ map_length param_of s.parameters);
          few_assertions = assertions_few;
          few_functions = omega (arith, few_functions found i ms none, functions_count);
          params = all_of (IsParam sg) p.params (params_formed lent i ms none sg has);
          assertions = assertions_formed sg sees seen 0 (assertion_texts ms) p.assertions meant.assertions (all_assertions s bottom top 0 0 [] ms low modules_none)
              (numbers_of (λ (m : Module). m.assertions) IsNumbered ms numbers.modules (λ m n. n.assertions) numbered_assertions (λ n m. refl));
          functions = functions_formed;
        }
