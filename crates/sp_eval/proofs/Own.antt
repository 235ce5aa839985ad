-- A V-function's own expression, its initial value or its derivation, is ready, and gives what the state gives.
use Rattle.std.proofs.Common.{◌≡◌, refl, sym, ◌∙◌, ap, subst, arith, ℕ, ◌+◌, ◌*◌, ◌<◌, ◌≤◌, List, get_or, length, Some, None}
use Rattle.std.specs.Prelude.{IsTrue, slice_get, unwrap_or}
use Rattle.std.proofs.lemmas.List.{length-map}
use Rattle.std.proofs.lemmas.Option.{slice_get_read, slice_get_within}
use Rattle.sp_values.specs.declared.place.Invocation.{Invocation}
use Rattle.sp_values.specs.declared.value.Ty.{Ty}
use Rattle.sp_values.specs.declared.value.Ty.TheVariants as ty
use Rattle.sp_values.specs.declared.value.Value.{Value}
use Rattle.sp_values.specs.declared.value.Value.TheVariants as value
use Rattle.sp_values.specs.Domains.{are_proper, are_values, is_value}
use Rattle.sp_core.specs.declared.expr.Expr.{Expr}
use Rattle.sp_core.specs.declared.function.Effect.{Effect}
use Rattle.sp_core.specs.declared.function.Function.{Function}
use Rattle.sp_core.specs.declared.function.Kind.{Kind}
use Rattle.sp_core.specs.declared.function.Kind.TheVariants as kind
use Rattle.sp_core.specs.Machine.{IsInvocation, IsPlace, level_by, level_of, types_of}
use Rattle.sp_core.specs.Instances.{filling_of, machine_of}
use Rattle.sp_core.specs.Measures.{LookAt, LooksAt, Nothing, nodes, rank, rank_by, rank_of}
use Rattle.sp_core.specs.Parts.{signature}
use Rattle.sp_core.specs.States.{entry_of}
use Rattle.sp_core.specs.Tree.{Tree, Trees, Const, Var, Not, Two, If, Param, Look, Every, New, none, more, tree}
use Rattle.sp_core.specs.Typing.{read_type}
use Rattle.sp_core.specs.Values.{Store, level_number, look, nothing, reads_by, value_of}
use Rattle.sp_core.specs.WellFormed.{AreFormals, IsDerivation, IsEarlier, IsExpression, IsInitial, IsKind, IsLevel}
use Rattle.sp_core.proofs.Agree.{value_agrees}
use Rattle.sp_core.proofs.Looks.{look_is, rank_below, rank_small}
use Rattle.sp_core.proofs.Bindings.{arguments_typed, length_values}
use Rattle.sp_core.proofs.Types.{level_below, look_typed, ordered_functions}
use Rattle.sp_eval.specs.Conditions.{HasItsType, HasTypeOfRead, IsRead, IsTypedIn}
use Rattle.sp_eval.specs.Settings.{IsRankedBelow, IsReady, IsSetting, Setting, new_reads, old_reads, sizes, tree_value, world}
use Rattle.sp_eval.proofs.Ready.{typed_value}

module _ (P Q N M : ℕ → Type 0) (looks : (g : ℕ) → P g → Q g) (news : (g : ℕ) → N g → M g) where
  mutual
    LooksAt-weaker : (e : Tree) → LooksAt P N e → LooksAt Q M e
    LooksAt-weaker (Const v) h = tt
    LooksAt-weaker (Var k) h = tt
    LooksAt-weaker (Not a) h = LooksAt-weaker a h
    LooksAt-weaker (Two o a b) h = (LooksAt-weaker a h.0, LooksAt-weaker b h.1)
    LooksAt-weaker (If c a b) h = (LooksAt-weaker c h.0, LooksAt-weaker a h.1, LooksAt-weaker b h.2)
    LooksAt-weaker (Param p ds) h = LookAt-weaker ds h
    LooksAt-weaker (Look g ds) h = (looks g h.0, LookAt-weaker ds h.1)
    LooksAt-weaker (Every k t b) h = LooksAt-weaker b h
    LooksAt-weaker (New g ds) h = (news g h.0, LookAt-weaker ds h.1)

    LookAt-weaker : (ds : Trees) → LookAt P N ds → LookAt Q M ds
    LookAt-weaker none h = tt
    LookAt-weaker (more d ds) h = (LooksAt-weaker d h.0, LookAt-weaker ds h.1)

-- the functions that an expression reads have ranks below a bound
pub reads_below : (s : Setting) (bound : ℕ) (P N : ℕ → Type 0) → ((g : ℕ) → P g → IsRankedBelow s bound g) → ((g : ℕ) → N g → IsRankedBelow s bound g) → (e : Tree) → LooksAt P N e → LooksAt (IsRankedBelow s bound) (IsRankedBelow s bound) e
reads_below s bound P N looks news e h = LooksAt-weaker P (IsRankedBelow s bound) N (IsRankedBelow s bound) looks news e h

-- an expression over the types xs is ready at values of these types
pub ready_expression : (s : Setting) (bound : ℕ) (xs : List Ty) (e : Tree) (t : Ty) (y : List Value) → length xs ≤ 8 → IsTrue (are_values (sizes s) xs y) → IsExpression (signature s.parts) xs e t → LooksAt (IsRankedBelow s bound) (IsRankedBelow s bound) e → IsReady s bound y e
ready_expression s bound xs e t y few values h reads =
    let long = length_values (sizes s) xs y values in
    record { typed = (xs, t, record { values = values; typed = h.typed; room = omega (arith, long, few, h.few_quantifiers) }); reads = reads }

pub few_types : (s : Setting) (f : Function) → AreFormals (signature s.parts) f.formals → length (types_of f.formals) ≤ 8
few_types s f h = let many = length-map f.formals (λ p. p.ty) in omega (arith, many, h.few)

mutual
  looks_all : (P : ℕ → Type 0) → ((g : ℕ) → P g) → (e : Tree) → LooksAt P P e
  looks_all P h (Const v) = tt
  looks_all P h (Var k) = tt
  looks_all P h (Not a) = looks_all P h a
  looks_all P h (Two o a b) = (looks_all P h a, looks_all P h b)
  looks_all P h (If c a b) = (looks_all P h c, looks_all P h a, looks_all P h b)
  looks_all P h (Param p ds) = looks_all_in P h ds
  looks_all P h (Look g ds) = (h g, looks_all_in P h ds)
  looks_all P h (Every k t b) = looks_all P h b
  looks_all P h (New g ds) = (h g, looks_all_in P h ds)

  looks_all_in : (P : ℕ → Type 0) → ((g : ℕ) → P g) → (ds : Trees) → LookAt P P ds
  looks_all_in P h none = tt
  looks_all_in P h (more d ds) = (looks_all P h d, looks_all_in P h ds)

-- each rank is below the number of functions and one
pub ranked : (s : Setting) → IsSetting s → (g : ℕ) → IsRankedBelow s (length s.parts.functions + 1) g
ranked s fine g = rank_small (world s) s.parts.functions (ordered_functions s.parts fine.well_formed) (entry_of s.old) g (slice_get s.parts.functions g) refl

-- so each typed expression is ready
pub ready_typed : (s : Setting) → IsSetting s → (x : List Value) (e : Tree) → IsTypedIn s.parts s.instance x e → IsReady s (length s.parts.functions + 1) x e
ready_typed s fine x e h = record { typed = h; reads = looks_all (IsRankedBelow s (length s.parts.functions + 1)) (ranked s fine) e }

pub ready_at : (s r : Setting) → s ≡ r → IsSetting s → (fs : List Function) → fs ≡ r.parts.functions → (x : List Value) (e : Tree) → IsTypedIn r.parts r.instance x e → IsReady s (length fs + 1) x e
ready_at s r same fine fs q x e h =
    subst (λ (r : Setting). (fs : List Function) → fs ≡ r.parts.functions → IsTypedIn r.parts r.instance x e → IsReady s (length fs + 1) x e) same
    (λ fs q h. subst (λ fs. IsReady s (length fs + 1) x e) (sym q) (ready_typed s fine x e h)) fs q h

-- and has a value of its type
pub value_has_type : (s : Setting) → IsSetting s → (x : List Value) (e : Tree) (v : Value) → v ≡ tree_value s x e → HasItsType s.parts s.instance x e v
value_has_type s fine x e v q xs t h =
    subst (λ v. IsTrue (is_value (sizes s) t v)) (sym q) (typed_value s (length s.parts.functions + 1) x fine xs e t h.values h.typed (looks_all (IsRankedBelow s (length s.parts.functions + 1)) (ranked s fine) e))

pub look_has_type : (s : Setting) → IsSetting s → (g : ℕ) (v : List Value) (x : Value) → x ≡ old_reads s g v → HasTypeOfRead s.parts s.instance g v x
look_has_type s fine g v x q f t h =
    subst (λ x. IsTrue (is_value (sizes s) t x)) (sym q) (look_typed s.parts (filling_of s.instance) fine.well_formed fine.instance.instance (entry_of s.old) fine.old g f t v tt h.function h.type h.arguments)

-- the level of an invocation
module _ (s : Setting) (fine : IsSetting s) (i : Invocation) (h : IsInvocation (machine_of s.parts (filling_of s.instance)) i) (fs : List Function) (same : fs ≡ s.parts.functions) (f : Function) (at : f ≡ get_or fs i.fun f) where
  pub invoked_within : i.fun < length fs
  invoked_within = subst (λ fs. i.fun < length fs) (sym same) (slice_get_within s.parts.functions i.fun h.0 h.1.function)

  invoked : slice_get s.parts.functions i.fun ≡ Some f
  invoked = ap (λ fs. slice_get fs i.fun) (sym same) ∙ slice_get_read fs (length fs) i.fun f refl invoked_within at

  one : h.0 ≡ f
  one = let some : Some h.0 ≡ Some f = sym h.1.function ∙ invoked in cc

  level_fine : IsLevel (signature s.parts) (types_of f.formals) (tree f.level)
  level_fine = (fine.well_formed.functions i.fun f invoked).level

  values : IsTrue (are_values (sizes s) (types_of f.formals) i.args)
  values = arguments_typed (sizes s) (types_of f.formals) i.args (subst (λ (f : Function). IsTrue (are_proper (sizes s) (types_of f.formals) i.args)) one h.1.arguments)

  pub ready_level : (y : List Value) → y ≡ i.args → IsReady s 0 y (tree f.level)
  ready_level y q =
      ready_expression s 0 (types_of f.formals) (tree f.level) ty.Level y (few_types s f (fine.well_formed.functions i.fun f invoked).formals) (subst (λ y. IsTrue (are_values (sizes s) (types_of f.formals) y)) (sym q) values) level_fine.expression
      (reads_below s 0 Nothing Nothing (λ g n. absurd n) (λ g n. absurd n) (tree f.level) level_fine.reads_nothing)

  pub level_is : (y : List Value) → y ≡ i.args → (v : Value) → v ≡ tree_value s y (tree f.level) → level_number v ≡ level_of (machine_of s.parts (filling_of s.instance)) i.fun i.args
  level_is y q v e =
      ap level_number (e ∙ ap (λ y. tree_value s y (tree f.level)) q ∙ sym (value_agrees (world s) nothing nothing (old_reads s) (new_reads s) Nothing (λ g v n. absurd n) (tree f.level) i.args level_fine.reads_nothing))
      ∙ sym (ap (λ o. level_by (world s) o i.args) invoked)

  pub level_within : (y : List Value) → y ≡ i.args → (v : Value) → v ≡ tree_value s y (tree f.level) → level_number v < s.parts.lattice.count
  level_within y q v e =
      let typed = typed_value s 0 i.args fine (types_of f.formals) (tree f.level) ty.Level values level_fine.expression.typed (reads_below s 0 Nothing Nothing (λ g n. absurd n) (λ g n. absurd n) (tree f.level) level_fine.reads_nothing) in
      level_below (sizes s) v (subst (λ v. IsTrue (is_value (sizes s) ty.Level v)) (sym (e ∙ ap (λ y. tree_value s y (tree f.level)) q)) typed)

-- a primitive function is a V-function
pub place_is_read : (s : Setting) (g : ℕ) (v : List Value) → IsPlace (machine_of s.parts (filling_of s.instance)) g v → IsRead s.parts s.instance g v
place_is_read s g v h = (h.0, h.1, record { function = h.3.function; type = ap read_type h.3.primitive; arguments = h.3.arguments })

-- a V-function stands among the functions
pub found : (s : Setting) (g : ℕ) (v : List Value) (f : Function) (fs : List Function) → IsRead s.parts s.instance g v → fs ≡ s.parts.functions → f ≡ get_or fs g f → slice_get s.parts.functions g ≡ Some f
found s g v f fs h same e =
    let l : g < length fs = subst (λ fs. g < length fs) (sym same) (slice_get_within s.parts.functions g h.0 h.2.function) in
    ap (λ fs. slice_get fs g) (sym same) ∙ slice_get_read fs (length fs) g f refl l e

-- the function of this number, of this kind
module _ (s : Setting) (fine : IsSetting s) (g : ℕ) (f : Function) (there : slice_get s.parts.functions g ≡ Some f) where
  kind_is : (k : Kind) → f.kind ≡ k → IsKind (signature s.parts) (types_of f.formals) g k
  kind_is k e = subst (IsKind (signature s.parts) (types_of f.formals) g) e (fine.well_formed.functions g f there).kind

  few : length (types_of f.formals) ≤ 8
  few = few_types s f (fine.well_formed.functions g f there).formals

  arguments : (v : List Value) → IsRead s.parts s.instance g v → IsTrue (are_values (sizes s) (types_of f.formals) v)
  arguments v h =
      let some : Some h.0 ≡ Some f = sym h.2.function ∙ there in
      let one : h.0 ≡ f = cc in
      subst (λ (f : Function). IsTrue (are_values (sizes s) (types_of f.formals) v)) one h.2.arguments

  gives : (u : Store) (v : List Value) (k : Kind) → f.kind ≡ k → reads_by (world s) u (look (world s) s.parts.functions u) (Some (record f { kind = k })) g v ≡ look (world s) s.parts.functions u g v
  gives u v k e =
      let reads = look (world s) s.parts.functions u in
      ap (λ k. reads_by (world s) u reads (Some (record f { kind = k })) g v) (sym e)
      ∙ sym (look_is (world s) s.parts.functions (ordered_functions s.parts fine.well_formed) u g v ∙ ap (λ o. reads_by (world s) u reads o g v) there)

  rank_is : (k : Kind) → f.kind ≡ k → rank s.parts.functions g ≡ rank_by g k
  rank_is k e = ap (rank_of g) there ∙ ap (rank_by g) e

  module _ (t : Ty) (init : Expr) (e : f.kind ≡ kind.Primitive t init) where
    pub ready_initial : (v y : List Value) → IsRead s.parts s.instance g v → y ≡ v → IsReady s 0 y (tree init)
    ready_initial v y h q =
        let own : IsInitial (signature s.parts) (types_of f.formals) t init = kind_is (kind.Primitive t init) e in
        ready_expression s 0 (types_of f.formals) (tree init) t y few (subst (λ y. IsTrue (are_values (sizes s) (types_of f.formals) y)) (sym q) (arguments v h)) own.expression
        (reads_below s 0 Nothing Nothing (λ g n. absurd n) (λ g n. absurd n) (tree init) own.reads_nothing)

    pub initial_nodes : nodes (tree init) ≤ 1024
    initial_nodes = let own : IsInitial (signature s.parts) (types_of f.formals) t init = kind_is (kind.Primitive t init) e in own.expression.few_nodes

    pub gives_entry : (u : Store) (v : List Value) (x : Value) → u g v ≡ Some x → x ≡ look (world s) s.parts.functions u g v
    gives_entry u v x q = ap (λ o. unwrap_or o (value_of (world s) nothing nothing v (tree init))) (sym q) ∙ gives u v (kind.Primitive t init) e

    pub gives_initial : (u : Store) (v y : List Value) → u g v ≡ None → y ≡ v → (r : Value) → r ≡ tree_value s y (tree init) → r ≡ look (world s) s.parts.functions u g v
    gives_initial u v y n q r i =
        let own : IsInitial (signature s.parts) (types_of f.formals) t init = kind_is (kind.Primitive t init) e in
        i ∙ ap (λ y. tree_value s y (tree init)) q
        ∙ sym (value_agrees (world s) nothing nothing (old_reads s) (new_reads s) Nothing (λ g v n. absurd n) (tree init) v own.reads_nothing)
        ∙ ap (λ o. unwrap_or o (value_of (world s) nothing nothing v (tree init))) (sym n)
        ∙ gives u v (kind.Primitive t init) e

  module _ (t : Ty) (d : Expr) (e : f.kind ≡ kind.Derived t d) where
    pub ready_derivation : (v y : List Value) → IsRead s.parts s.instance g v → y ≡ v → IsReady s (g + 1) y (tree d)
    ready_derivation v y h q =
        let own : IsDerivation (signature s.parts) (types_of f.formals) g t d = kind_is (kind.Derived t d) e in
        ready_expression s (g + 1) (types_of f.formals) (tree d) t y few (subst (λ y. IsTrue (are_values (sizes s) (types_of f.formals) y)) (sym q) (arguments v h)) own.expression
        (reads_below s (g + 1) (IsEarlier s.parts.functions g) Nothing (λ h l. rank_below s.parts.functions g h l) (λ g n. absurd n) (tree d) own.reads_earlier)

    pub derivation_falls : (bound : ℕ) → IsRankedBelow s bound g → 2050 * (g + 1) + 2 * nodes (tree d) < 2050 * bound
    derivation_falls bound l =
        let own : IsDerivation (signature s.parts) (types_of f.formals) g t d = kind_is (kind.Derived t d) e in
        let r : rank s.parts.functions g ≡ g + 1 = rank_is (kind.Derived t d) e in
        omega (arith, r, l, own.expression.few_nodes)

    pub gives_derivation : (v y : List Value) → y ≡ v → (r : Value) → r ≡ tree_value s y (tree d) → r ≡ old_reads s g v
    gives_derivation v y q r i =
        let own : IsDerivation (signature s.parts) (types_of f.formals) g t d = kind_is (kind.Derived t d) e in
        i ∙ ap (λ y. tree_value s y (tree d)) q
        ∙ value_agrees (world s) (old_reads s) (new_reads s) (old_reads s) (old_reads s) (IsEarlier s.parts.functions g) (λ g v n. refl) (tree d) v own.reads_earlier
        ∙ gives (entry_of s.old) v (kind.Derived t d) e

  pub gives_operation : (u : Store) (es : List Effect) → f.kind ≡ kind.Operation es → (v : List Value) → value.Unknown ≡ look (world s) s.parts.functions u g v
  gives_operation u es e v = gives u v (kind.Operation es) e

  pub gives_both : (u : Store) (t : Ty) (es : List Effect) → f.kind ≡ kind.Both t es → (v : List Value) → value.Unknown ≡ look (world s) s.parts.functions u g v
  gives_both u t es e v = gives u v (kind.Both t es) e
