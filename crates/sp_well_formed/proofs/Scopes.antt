-- What names and headers declare that break nothing is in the signature.
use Rattle.std.proofs.Common.{◌≡◌, refl, sym, ◌∙◌, ap, subst, arith, ℕ, List, [], ◌∷◌, Option, Some, None, length, map}
use Rattle.std.specs.Prelude.{IsTrue, nat_lt, slice_get}
use Rattle.std.proofs.lemmas.Option.{slice_get_within}
use Rattle.sp_values.specs.declared.value.Ty.{Ty}
use Rattle.sp_values.specs.declared.value.Ty.TheVariants as ty
use Rattle.sp_tree.specs.declared.interface.InterfaceTree.{InterfaceTree}
use Rattle.sp_tree.specs.declared.module.Module.{Module}
use Rattle.sp_core.specs.declared.function.Function.{Function}
use Rattle.sp_core.specs.declared.function.Param.{Param as Parameter}
use Rattle.sp_core.specs.Typing.{Signature, declared_members, is_type}
use Rattle.sp_core.specs.WellFormed.{IsParam}
use Rattle.sp_naming.specs.declared.declaration.Entity.{Entity}
use Rattle.sp_naming.specs.declared.declaration.Entity.TheVariants as entity
use Rattle.sp_scopes.specs.declared.heads.Head.{Head}
use Rattle.sp_scopes.specs.declared.heads.Local.{Local}
use Rattle.sp_scopes.specs.declared.heads.Sort.{Sort}
use Rattle.sp_scopes.specs.declared.heads.Sort.TheVariants as sort
use Rattle.sp_scopes.specs.declared.lent.Definition.{Definition}
use Rattle.sp_scopes.specs.Interfaces.{scopes_broken}
use Rattle.sp_scopes.specs.Laws.{FoundAreLent, IsLent}
use Rattle.sp_scopes.specs.Scopes.{entity_at, scopes_of}
use Rattle.sp_judge.specs.declared.scope.Meaning.TheVariants as meaning_
use Rattle.sp_judge.specs.Names.{shared_of, sort_type}
use Rattle.sp_judge.specs.Visible.{definition_head}
use Rattle.sp_order.specs.Orders.{AreEnds, level_count}
use Rattle.sp_typed.specs.Fits.{any_type, AreTypes, IsAsked, IsFunctionHead, IsHead, IsMeant}
use Rattle.sp_specification.specs.Functions.{head_type}
use Rattle.sp_specification.specs.Meaning.{param_of, type_info}
use Rattle.sp_well_formed.proofs.Functions.{are_formals, formal_types}
use Rattle.sp_well_formed.proofs.Headers.{IsFineHead, IsPlainHead, SortIn, TypeIn, TypesIn, definitions_fine, functions_fine, params_fine}
use Rattle.sp_well_formed.proofs.Items.{below, map_length, map_under, no_item, under_map}
use Rattle.sp_well_formed.proofs.Definitions.{AreScopes}

-- a signature that has all that is declared
pub record HasAll (i : InterfaceTree) (ms : List Module) (sg : Signature) : Type 0 where
  pub types : sg.types ≡ map type_info (scopes_of i ms).types
  pub levels : length (scopes_of i ms).levels ≡ sg.levels
  pub count : level_count (scopes_of i ms) ≡ sg.levels
  pub params : sg.params ≡ map param_of (scopes_of i ms).parameters
  pub functions : (k : ℕ) (h : Head) → slice_get (scopes_of i ms).functions k ≡ Some h → (f : Function) × (slice_get sg.functions k ≡ Some f) × IsFunctionHead h f

module _ (lent : FoundAreLent) (i : InterfaceTree) (ms : List Module) (none : scopes_broken i ms ≡ []) (sg : Signature) (has : HasAll i ms sg) where
  abbrev count : ℕ
  count = length (scopes_of i ms).types

  types_count : length sg.types ≡ count
  types_count = ap length has.types ∙ map_length type_info (scopes_of i ms).types

  type_of_in : (t : Ty) → TypeIn count t → IsTrue (is_type sg t)
  type_of_in ty.Boolean h = refl
  type_of_in ty.Integer h = refl
  type_of_in ty.Level h = refl
  type_of_in (ty.Member k) h = subst (λ n. IsTrue (nat_lt k n)) (sym types_count) h

  pub types_of_in : (ls : List Local) → TypesIn count ls → AreTypes sg ls
  types_of_in [] h = tt
  types_of_in (l ∷ ls) h = (type_of_in l.ty h.0, types_of_in ls h.1)

  any_of_in : (s : Sort) → SortIn count s → IsAsked sg (any_type s)
  any_of_in (sort.Plain t) h = type_of_in t h
  any_of_in (sort.Primitive t) h = type_of_in t h
  any_of_in (sort.Derived t) h = type_of_in t h
  any_of_in sort.Operation h = tt
  any_of_in (sort.Both t) h = type_of_in t h

  asked_of_in : (s : Sort) → SortIn count s → IsAsked sg (sort_type s)
  asked_of_in (sort.Plain t) h = type_of_in t h
  asked_of_in (sort.Primitive t) h = type_of_in t h
  asked_of_in (sort.Derived t) h = type_of_in t h
  asked_of_in sort.Operation h = tt
  asked_of_in (sort.Both t) h = tt

  pub head_of_in : (h : Head) → IsFineHead count h → IsHead sg h
  head_of_in h f = record { formals = types_of_in h.formals f.formals; result = asked_of_in h.sort f.sort; any = any_of_in h.sort f.sort }

  -- what a name stands for is there
  lent_meant : (x : List ℕ) (e : Entity) → IsLent (scopes_of i ms) x e → IsMeant sg [] (meaning_.Shared e)
  lent_meant x (entity.Declared t) l = below t (length sg.types) (omega (arith, slice_get_within (scopes_of i ms).types t l.0 l.1.0, types_count))
  lent_meant x (entity.Member t k) l =
      let d = l.0 in
      let names = l.1.0 in
      let at = l.1.1.0 in
      let is = l.1.1.1.0 in
      let there = ap (λ z. slice_get z t) has.types ∙ map_under type_info (scopes_of i ms).types t d at in
      let members : declared_members (slice_get sg.types t) ≡ length names = ap declared_members there ∙ ap (λ m. declared_members (Some (record { name = d.name; members = m }))) is in (
        below t (length sg.types) (omega (arith, slice_get_within (scopes_of i ms).types t d at, types_count)),
        below k (declared_members (slice_get sg.types t)) (omega (arith, slice_get_within names k x l.1.1.1.1, members)),
      )
  lent_meant x (entity.Param k) l = tt
  lent_meant x (entity.Definition k) l = tt
  lent_meant x (entity.Function k) l = tt
  lent_meant x (entity.Level k) l = below k sg.levels (omega (arith, slice_get_within (scopes_of i ms).levels k x l, has.levels))

  meant : (n : ℕ) (x : List ℕ) (o : Option Entity) → entity_at (scopes_of i ms) n x ≡ o → IsMeant sg [] (shared_of o)
  meant n x None e = tt
  meant n x (Some y) e = lent_meant x y (lent i ms none n x y e)

  -- a parameter's type is that of its head
  plain_type : (h : Head) (t : Ty) → h.sort ≡ sort.Plain t → sort_type h.sort ≡ Some (head_type h.sort)
  plain_type h t e = subst (λ u. sort_type u ≡ Some (head_type u)) (sym e) refl

  plain_fine : (h : Head) → IsPlainHead count h → IsFineHead count h
  plain_fine h p = p.0

  plain_sort : (h : Head) → IsPlainHead count h → (t : Ty) × (h.sort ≡ sort.Plain t)
  plain_sort h p = (p.1, p.2)

  pub definitions_plain : (k : ℕ) (d : Definition) → slice_get (scopes_of i ms).definitions k ≡ Some d → (t : Ty) × (d.head.sort ≡ sort.Plain t)
  definitions_plain k d at = plain_sort d.head (definitions_fine lent i ms none k d at)

  headed : (k : ℕ) (o : Option Definition) (h : Head) → slice_get (scopes_of i ms).definitions k ≡ o → definition_head o ≡ Some h → IsHead sg h
  headed k None h at e = absurd cc
  headed k (Some d) h at e = subst (IsHead sg) (same e) (head_of_in d.head (plain_fine d.head (definitions_fine lent i ms none k d at)))
    where
      same : Some d.head ≡ Some h → d.head ≡ h
      same e = cc

  -- what modules see before any definition
  pub first_scopes : (bottom top : ℕ) → AreEnds (scopes_of i ms) bottom top → AreScopes sg (scopes_of i ms) bottom top []
  first_scopes bottom top ends n = (
    record {
      shared = λ x. meant n x (entity_at (scopes_of i ms) n x) refl;
      bottom = below bottom sg.levels (omega (arith, ends.bottom_is_level, has.count));
      top = below top sg.levels (omega (arith, ends.top_is_level, has.count));
      param_heads = λ k h at. head_of_in h (plain_fine h (params_fine lent i ms none k h at));
      function_heads = λ k h at. head_of_in h (functions_fine lent i ms none k h at);
      definition_heads = λ k h at. headed k (slice_get (scopes_of i ms).definitions k) h refl at;
      params = λ k h at.
          let p = plain_sort h (params_fine lent i ms none k h at) in
          (param_of h, ap (λ z. slice_get z k) has.params ∙ map_under param_of (scopes_of i ms).parameters k h at, record { formals = formal_types h.formals; result = plain_type h p.0 p.1 });
      functions = has.functions;
      definitions = λ k h e t at core. no_item k e core;
    },
    λ k e core. no_item k e core,
  )

  -- each parameter is well-formed
  pub params_formed : (k : ℕ) (q : Parameter) → slice_get sg.params k ≡ Some q → IsParam sg q
  params_formed k q at =
      let r = under_map param_of (scopes_of i ms).parameters k q (ap (λ z. slice_get z k) (sym has.params) ∙ at) in
      let h = r.0 in
      let fine = params_fine lent i ms none k h r.1 in
      let p = plain_sort h fine in
      let head = head_of_in h (plain_fine h fine) in
      let typed : IsTrue (is_type sg (head_type h.sort)) = subst (λ o. IsAsked sg o) (plain_type h p.0 p.1) head.result in
      subst (IsParam sg) r.2 (record { formals = are_formals sg h.formals head.formals (plain_fine h fine).few; type = typed })
