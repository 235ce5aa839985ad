-- Heads of headers that break nothing: their types are declared, and their formals are few.
use Rattle.std.proofs.Common.{◌≡◌, refl, sym, ◌∙◌, ap, subst, arith, ℕ, zero, suc, ◌≤◌, List, [], ◌∷◌, ◌++◌, length, Option, Some, None, map}
use Rattle.std.specs.Prelude.{IsTrue, nat_lt, slice_get}
use Rattle.std.specs.List.{flat_map}
use Rattle.std.specs.Option.{option_map}
use Rattle.std.proofs.lemmas.Option.{slice_get_past, slice_get_within}
use Rattle.sp_text.specs.declared.fault.Quantity.{Quantity}
use Rattle.sp_text.specs.declared.fault.Quantity.TheVariants as quantity
use Rattle.sp_text.specs.declared.fault.Span.{Span}
use Rattle.sp_text.specs.declared.limits.TheConstants.{MOST_ARGUMENTS}
use Rattle.sp_values.specs.declared.value.Ty.{Ty}
use Rattle.sp_values.specs.declared.value.Ty.TheVariants as ty
use Rattle.sp_tree.specs.declared.expr.ExprTree.{ExprTree}
use Rattle.sp_tree.specs.declared.interface.InterfaceTree.{InterfaceTree}
use Rattle.sp_tree.specs.declared.module.Body.{Body}
use Rattle.sp_tree.specs.declared.module.Body.TheVariants as body
use Rattle.sp_tree.specs.declared.module.FunDecl.{FunDecl}
use Rattle.sp_tree.specs.declared.module.Header.{Header}
use Rattle.sp_tree.specs.declared.module.Module.{Module}
use Rattle.sp_tree.specs.declared.names.FormalTree.{FormalTree}
use Rattle.sp_tree.specs.declared.names.Ident.{Ident}
use Rattle.sp_tree.specs.declared.names.TypeTree.{TypeTree}
use Rattle.sp_tree.specs.declared.names.TypeTree.TheVariants as written
use Rattle.sp_naming.specs.declared.declaration.Declaration.{Declaration}
use Rattle.sp_naming.specs.declared.declaration.Entity.{Entity}
use Rattle.sp_naming.specs.declared.declaration.Entity.TheVariants as entity
use Rattle.sp_naming.specs.Declarations.{declarations}
use Rattle.sp_naming.specs.Names.{named, repeated_names}
use Rattle.sp_naming.specs.Visibility.{find_by, taken}
use Rattle.sp_naming.specs.Numbers.{counted}
use Rattle.sp_scopes.specs.declared.heads.Head.{Head}
use Rattle.sp_scopes.specs.declared.heads.Local.{Local}
use Rattle.sp_scopes.specs.declared.heads.Sort.{Sort}
use Rattle.sp_scopes.specs.declared.heads.Sort.TheVariants as sort
use Rattle.sp_scopes.specs.declared.lent.Definition.{Definition}
use Rattle.sp_scopes.specs.Headers.{asked, formal_type, formals_broken, header_broken, is_type, names_of, past, result_broken, type_rule}
use Rattle.sp_scopes.specs.Heads.{entity_type, function_head, function_heads, function_sort, local_of, named_type, parameter_heads, plain_head, sight, type_of, value_type}
use Rattle.sp_scopes.specs.Interfaces.{scopes_broken}
use Rattle.sp_scopes.specs.Laws.{FoundAreLent, IsLent}
use Rattle.sp_scopes.specs.Lent.{definition_of, module_definitions}
use Rattle.sp_scopes.specs.Modules.{definition_broken, file_broken, function_broken, headers_broken, module_broken, own_name, row_broken}
use Rattle.sp_scopes.specs.Scopes.{module_takes, scopes_of}
use Rattle.sp_scopes.proofs.Laws.{modules_fine}
use Rattle.sp_well_formed.proofs.Items.{OfParts, Placed, below, left_nothing, made_placed, makes_nothing, map_length, map_nothing, nothing_of_parts, of_placed, placed, right_nothing, under_map}
use Rattle.sp_well_formed.proofs.Limits.{seen_is}

-- a type of which n are declared
abbrev pub TypeIn : ℕ → Ty → Type 0
TypeIn n (ty.Member k) = IsTrue (nat_lt k n)
TypeIn n t = Unit {0}

abbrev pub TypesIn : ℕ → List Local → Type 0
TypesIn n [] = Unit {0}
TypesIn n (l ∷ ls) = TypeIn n l.ty × TypesIn n ls

abbrev pub SortIn : ℕ → Sort → Type 0
SortIn n (sort.Plain t) = TypeIn n t
SortIn n (sort.Primitive t) = TypeIn n t
SortIn n (sort.Derived t) = TypeIn n t
SortIn n sort.Operation = Unit {0}
SortIn n (sort.Both t) = TypeIn n t

-- a head whose types are declared, with at most eight formals
pub record IsFineHead (n : ℕ) (h : Head) : Type 0 where
  pub formals : TypesIn n h.formals
  pub few : length h.formals ≤ MOST_ARGUMENTS
  pub sort : SortIn n h.sort

-- the head of a parameter or of a definition
abbrev pub IsPlainHead : ℕ → Head → Type 0
IsPlainHead n h = IsFineHead n h × (t : Ty) × (h.sort ≡ sort.Plain t)

past_few : (n : ℕ) (q : Quantity) (xs : List Ident) → past n q xs ≡ [] → length xs ≤ n
past_few n q xs h = by xs n h
  where
    by : (ys : List Ident) (m : ℕ) → past m q ys ≡ [] → length ys ≤ m
    by [] m h = omega arith
    by (y ∷ ys) zero h = cc
    by (y ∷ ys) (suc m) h = omega (arith, by ys m h)

module _ (lent : FoundAreLent) (i : InterfaceTree) (ms : List Module) (h : scopes_broken i ms ≡ []) where
  abbrev all : List Declaration
  all = declarations i ms

  abbrev count : ℕ
  count = length (scopes_of i ms).types

  -- what has a name is lent
  lent_at : (x : List ℕ) (d : Declaration) → named all x ≡ Some d → IsLent (scopes_of i ms) x d.entity
  lent_at x d n =
      let takes = map (module_takes all i.modules) ms in
      let long : length takes ≤ length ms = omega (arith, map_length (module_takes all i.modules) ms) in
      lent i ms h (length ms) x d.entity
      (ap (λ o. option_map (λ (d : Declaration). d.entity) (find_by all (length ms) x o)) (slice_get_past takes (length ms) long)
      ∙ ap (option_map (λ (d : Declaration). d.entity)) n)

  module _ (see : List ℕ → Option Declaration) (sees : (x : List ℕ) (d : Declaration) → see x ≡ Some d → named all x ≡ Some d) where
    entity_in : (x : List ℕ) (p : Span) (e : Entity) → IsLent (scopes_of i ms) x e → asked is_type p (Some (record { file = 0; name = x; span = p; entity = e; owner = None })) ≡ [] → TypeIn count (entity_type e)
    entity_in x p (entity.Declared k) l a = below k count (slice_get_within (scopes_of i ms).types k l.0 l.1.0)
    entity_in x p (entity.Member t k) l a = absurd cc
    entity_in x p (entity.Param k) l a = absurd cc
    entity_in x p (entity.Definition k) l a = absurd cc
    entity_in x p (entity.Function k) l a = absurd cc
    entity_in x p (entity.Level k) l a = absurd cc

    named_in : (x : List ℕ) (p : Span) (o : Option Declaration) → see x ≡ o → asked is_type p o ≡ [] → TypeIn count (named_type o)
    named_in x p None e a = absurd cc
    named_in x p (Some d) e a = entity_in x p d.entity (lent_at x d (sees x d e)) a

    type_in : (t : TypeTree) → type_rule see t ≡ [] → TypeIn count (type_of see t)
    type_in (written.Boolean p) a = tt
    type_in (written.Integer p) a = tt
    type_in (written.Level p) a = tt
    type_in (written.Named x) a = named_in x.name x.span (see x.name) refl a

    value_in : (t : Option TypeTree) → result_broken see t ≡ [] → TypeIn count (value_type see t)
    value_in None a = tt
    value_in (Some t) a = type_in t a

    formals_in : (fs : List FormalTree) → flat_map (formal_type see) fs ≡ [] → TypesIn count (map (local_of see) fs)
    formals_in [] a = tt
    formals_in (f ∷ fs) a = (type_in f.ty (left_nothing (formal_type see f) (flat_map (formal_type see) fs) a), formals_in fs (right_nothing (formal_type see f) (flat_map (formal_type see) fs) a))

    sort_in : (t : Option TypeTree) (b : Body) → result_broken see t ≡ [] → SortIn count (function_sort see t b)
    sort_in t (body.Initially e) a = value_in t a
    sort_in t (body.Derivation e) a = value_in t a
    sort_in None (body.Effects ws) a = tt
    sort_in (Some t) (body.Effects ws) a = type_in t a

    fine_head : (g : Header) (s : Sort) → header_broken see g ≡ [] → SortIn count s → IsFineHead count (record { name = g.name.name; formals = map (local_of see) g.formals; sort = s })
    fine_head g s a is =
        let own = left_nothing (formals_broken see g.formals) (result_broken see g.ty) a in
        let types = flat_map (formal_type see) g.formals in
        let twice = repeated_names [] (names_of g.formals) in
        let many = past MOST_ARGUMENTS quantity.Arguments (names_of g.formals) in
        let few = past_few MOST_ARGUMENTS quantity.Arguments (names_of g.formals) (right_nothing twice many (right_nothing types (twice ++ many) own)) in
        record {
          formals = formals_in g.formals (left_nothing types (twice ++ many) own);
          few = omega (arith, few, map_length (λ (f : FormalTree). f.name) g.formals, map_length (local_of see) g.formals);
          sort = is;
        }

    result_in : (g : Header) → header_broken see g ≡ [] → result_broken see g.ty ≡ []
    result_in g a = right_nothing (formals_broken see g.formals) (result_broken see g.ty) a

  sight_sees : (n : ℕ) (m : Module) (x : List ℕ) (d : Declaration) → sight all i.modules n m x ≡ Some d → named all x ≡ Some d
  sight_sees n m x d e = seen_is n (taken all i.modules m.externals) (named all x) d e

  headers_fine : (n : ℕ) (m : Module) → file_broken all i.modules n m ≡ [] → headers_broken (sight all i.modules n m) m ≡ []
  headers_fine n m a =
      let see = sight all i.modules n m in
      let own = own_name (slice_get i.modules n) m.name in
      let rows = flat_map (row_broken all i.modules) m.externals in
      let whole = map_nothing (λ v. record { file = counted 1 n; violation = v }) (module_broken all i.modules n m) a in
      right_nothing rows (headers_broken see m) (right_nothing own (rows ++ headers_broken see m) whole)

  parts : OfParts (λ n m. file_broken all i.modules n m ≡ []) 0 ms
  parts = nothing_of_parts (file_broken all i.modules) 0 ms (modules_fine i ms h)

  pub params_fine : (k : ℕ) (g : Head) → slice_get (scopes_of i ms).parameters k ≡ Some g → IsPlainHead count g
  params_fine k g at =
      let r = under_map (λ (t : Placed Module Header). plain_head (sight all i.modules t.number t.part) t.item) (placed (λ (m : Module). m.parameters) 0 ms) k g
      (sym (ap (λ z. slice_get z k) (made_placed (λ (m : Module). m.parameters) (λ n m. plain_head (sight all i.modules n m)) (parameter_heads all i.modules) (λ n m. refl) 0 ms)) ∙ at) in
      let t = r.0 in
      let see = sight all i.modules t.number t.part in
      let fine = of_placed (λ (m : Module). m.parameters) (λ n m. file_broken all i.modules n m ≡ []) (λ (t : Placed Module Header). header_broken (sight all i.modules t.number t.part) t.item ≡ []) each 0 ms parts k t r.1 in
      let sees = sight_sees t.number t.part in
      subst (λ z. IsFineHead count z × (t : Ty) × (z.sort ≡ sort.Plain t)) r.2
      (fine_head see sees t.item (sort.Plain (value_type see t.item.ty)) fine (value_in see sees t.item.ty (result_in see sees t.item fine)), value_type see t.item.ty, refl)
    where
      each : (n : ℕ) (m : Module) → file_broken all i.modules n m ≡ [] → (j : ℕ) (a : Header) → slice_get m.parameters j ≡ Some a → header_broken (sight all i.modules n m) a ≡ []
      each n m e j a k =
          let see = sight all i.modules n m in
          let rest = flat_map (definition_broken see) m.definitions ++ flat_map (function_broken see) m.functions in
          makes_nothing (header_broken see) m.parameters (left_nothing (flat_map (header_broken see) m.parameters) rest (headers_fine n m e)) j a k

  pub definitions_fine : (k : ℕ) (g : Definition) → slice_get (scopes_of i ms).definitions k ≡ Some g → IsPlainHead count g.head
  definitions_fine k g at =
      let r = under_map (λ (t : Placed Module (Header × ExprTree)). definition_of t.number (sight all i.modules t.number t.part) t.item) (placed (λ (m : Module). m.definitions) 0 ms) k g
      (sym (ap (λ z. slice_get z k) (made_placed (λ (m : Module). m.definitions) (λ n m. definition_of n (sight all i.modules n m)) (module_definitions all i.modules) (λ n m. refl) 0 ms)) ∙ at) in
      let t = r.0 in
      let see = sight all i.modules t.number t.part in
      let fine = of_placed (λ (m : Module). m.definitions) (λ n m. file_broken all i.modules n m ≡ []) (λ (t : Placed Module (Header × ExprTree)). header_broken (sight all i.modules t.number t.part) t.item.0 ≡ []) each 0 ms parts k t r.1 in
      let sees = sight_sees t.number t.part in
      subst (λ (z : Definition). IsFineHead count z.head × (t : Ty) × (z.head.sort ≡ sort.Plain t)) r.2
      (fine_head see sees t.item.0 (sort.Plain (value_type see t.item.0.ty)) fine (value_in see sees t.item.0.ty (result_in see sees t.item.0 fine)), value_type see t.item.0.ty, refl)
    where
      each : (n : ℕ) (m : Module) → file_broken all i.modules n m ≡ [] → (j : ℕ) (a : Header × ExprTree) → slice_get m.definitions j ≡ Some a → header_broken (sight all i.modules n m) a.0 ≡ []
      each n m e j a k =
          let see = sight all i.modules n m in
          let own = flat_map (definition_broken see) m.definitions in
          let last = flat_map (function_broken see) m.functions in
          makes_nothing (definition_broken see) m.definitions (left_nothing own last (right_nothing (flat_map (header_broken see) m.parameters) (own ++ last) (headers_fine n m e))) j a k

  pub functions_fine : (k : ℕ) (g : Head) → slice_get (scopes_of i ms).functions k ≡ Some g → IsFineHead count g
  functions_fine k g at =
      let r = under_map (λ (t : Placed Module FunDecl). function_head (sight all i.modules t.number t.part) t.item) (placed (λ (m : Module). m.functions) 0 ms) k g
      (sym (ap (λ z. slice_get z k) (made_placed (λ (m : Module). m.functions) (λ n m. function_head (sight all i.modules n m)) (function_heads all i.modules) (λ n m. refl) 0 ms)) ∙ at) in
      let t = r.0 in
      let see = sight all i.modules t.number t.part in
      let fine = of_placed (λ (m : Module). m.functions) (λ n m. file_broken all i.modules n m ≡ []) (λ (t : Placed Module FunDecl). header_broken (sight all i.modules t.number t.part) t.item.head ≡ []) each 0 ms parts k t r.1 in
      let sees = sight_sees t.number t.part in
      subst (IsFineHead count) r.2
      (fine_head see sees t.item.head (function_sort see t.item.head.ty t.item.body) fine (sort_in see sees t.item.head.ty t.item.body (result_in see sees t.item.head fine)))
    where
      each : (n : ℕ) (m : Module) → file_broken all i.modules n m ≡ [] → (j : ℕ) (a : FunDecl) → slice_get m.functions j ≡ Some a → header_broken (sight all i.modules n m) a.head ≡ []
      each n m e j a k =
          let see = sight all i.modules n m in
          let own = flat_map (definition_broken see) m.definitions in
          let last = flat_map (function_broken see) m.functions in
          makes_nothing (function_broken see) m.functions (right_nothing own last (right_nothing (flat_map (header_broken see) m.parameters) (own ++ last) (headers_fine n m e))) j a k
