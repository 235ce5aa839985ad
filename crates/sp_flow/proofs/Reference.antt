-- The first fact, the reference lemma: an expression that reads at or below a level has one value over states that are alike
-- there. By induction on expressions, inside one over the order of derivations.
use Rattle.std.proofs.Common.{◌≡◌, refl, sym, ◌∙◌, ap, subst, arith, ℕ, zero, suc, ◌<◌, true, List, Some, None}
use Rattle.std.specs.Prelude.{IsTrue}
use Rattle.sp_values.specs.declared.value.Value.{Value}
use Rattle.sp_values.specs.declared.value.Ty.{Ty}
use Rattle.sp_values.specs.Domains.{are_values}
use Rattle.sp_lattice.specs.Order.{is_below}
use Rattle.sp_core.specs.declared.function.Kind.{Kind}
use Rattle.sp_core.specs.declared.function.Kind.TheVariants as kind
use Rattle.sp_core.specs.Instances.{Filling, IsInstance, machine_of, sizes_of, world_of}
use Rattle.sp_core.specs.Machine.{IsState, level_of, types_of}
use Rattle.sp_core.specs.Measures.{Anything, Nothing, rank, rank_by, rank_of}
use Rattle.sp_core.specs.Parts.{Parts, signature}
use Rattle.sp_core.specs.Security.{Alike}
use Rattle.sp_core.specs.Tree.{Tree, Trees, tree}
use Rattle.sp_core.specs.Typing.{HasType, HaveTypes, read_type}
use Rattle.sp_core.specs.Values.{Store, look, value_over, values_of}
use Rattle.sp_core.specs.WellFormed.{IsDerivation, IsEarlier, IsKind, IsWellFormed}
use Rattle.sp_core.proofs.Agree.{look_anywhere, looks_anywhere, value_same, values_same}
use Rattle.sp_core.proofs.Levels.{gives, level_is}
use Rattle.sp_core.proofs.Looks.{rank_below}
use Rattle.sp_core.proofs.Types.{look_typed}
use Rattle.sp_flow.specs.Flows.{DerivationsFlow, IsUnder, ReadUnder, ReadsUnder}
use Rattle.sp_flow.proofs.TypedReads.{IsSeen, below_typed, belows_typed, still_seen}

module _ (p : Parts) (i : Filling) (wf : IsWellFormed p) (inst : IsInstance p i) (flows : DerivationsFlow (machine_of p i)) (l : ℕ) (is_level : l < p.lattice.count) where
  module _ (s t : Store) (state : IsState (machine_of p i) s) (alike : Alike (machine_of p i) l s t) where
    -- a function of rank below n that is seen at l gives one value in both states
    looks_under : (n g : ℕ) (v : List Value) → rank p.functions g < n → IsSeen (machine_of p i) l g v → look (world_of p i) p.functions s g v ≡ look (world_of p i) p.functions t g v
    looks_under zero g v q see = absurd (omega (arith, q))
    looks_under (suc n) g v q see = by_kind (λ h u. looks_under n h u) see.read.0.kind refl
      where
        by_kind : ((h : ℕ) (u : List Value) → rank p.functions h < n → IsSeen (machine_of p i) l h u → look (world_of p i) p.functions s h u ≡ look (world_of p i) p.functions t h u) → (k : Kind) → see.read.0.kind ≡ k → look (world_of p i) p.functions s g v ≡ look (world_of p i) p.functions t g v
        by_kind before (kind.Primitive ty init) e = alike.same g v (record { place = (see.read.0, ty, init, record { function = see.read.2.function; primitive = e; arguments = see.read.2.arguments }); below = see.under })
        by_kind before (kind.Derived ty d) e =
            let own : IsDerivation (signature p) (types_of see.read.0.formals) g ty d = subst (IsKind (signature p) (types_of see.read.0.formals) g) e (wf.functions g see.read.0 see.read.2.function).kind in
            let r = look (world_of p i) p.functions s in
            let rs : rank p.functions g ≡ rank_by g (kind.Derived ty d) = ap (rank_of g) see.read.2.function ∙ ap (rank_by g) e in
            let typed = look_typed p i wf inst s state in
            let top = level_is p i wf inst g see.read.0 v see.read.2.function see.read.2.arguments in
            let low = below_typed p i wf inst r r typed typed (IsUnder (machine_of p i) (level_of (machine_of p i) g v)) (IsSeen (machine_of p i) l) (still_seen p i wf inst l is_level (level_of (machine_of p i) g v) top see.under) (tree d) (types_of see.read.0.formals) v ty see.read.2.arguments own.expression.typed
            (flows s state g see.read.0 ty d v see.read.2.function e see.read.2.arguments) in
            gives p i wf s g see.read.0 v see.read.2.function (kind.Derived ty d) e
            ∙ value_same (world_of p i) r r (look (world_of p i) p.functions t) (look (world_of p i) p.functions t) (IsEarlier p.functions g) Nothing (IsSeen (machine_of p i) l)
            (λ h u ok sees. before h u (let less = rank_below p.functions g h ok in omega (arith, less, rs, q)) sees) (λ h u ok sees. absurd ok) (tree d) v own.reads_earlier low
            ∙ sym (gives p i wf t g see.read.0 v see.read.2.function (kind.Derived ty d) e)
        by_kind before (kind.Operation es) e = let none : None ≡ Some see.read.1 = sym (ap read_type e) ∙ see.read.2.type in cc
        by_kind before (kind.Both ty es) e = let none : None ≡ Some see.read.1 = sym (ap read_type e) ∙ see.read.2.type in cc

    -- a V-function that is seen at l gives one value in both states
    pub look_alike : (g : ℕ) (v : List Value) → IsSeen (machine_of p i) l g v → look (world_of p i) p.functions s g v ≡ look (world_of p i) p.functions t g v
    look_alike g v see = looks_under (suc (rank p.functions g)) g v (omega arith) see

  -- Over an old and a new state: what reads at or below `top`, itself at or below l, has one value over both pairs.
  module _ (s u t v : Store) (state : IsState (machine_of p i) s) (new_state : IsState (machine_of p i) u) (alike : Alike (machine_of p i) l s t) (new_alike : Alike (machine_of p i) l u v) (top : ℕ) (is_top : top < p.lattice.count) (low : IsTrue (is_below p.lattice top l)) where
    pub reference : (e : Tree) (xs : List Ty) (x : List Value) (ty : Ty) → are_values (sizes_of p i) xs x ≡ true → HasType (signature p) xs e ty → ReadsUnder (machine_of p i) s u x top e → value_over (world_of p i) p.functions s u x e ≡ value_over (world_of p i) p.functions t v x e
    reference e xs x ty args typed reads =
        let w = world_of p i in
        let fs = p.functions in
        value_same w (look w fs s) (look w fs u) (look w fs t) (look w fs v) Anything Anything (IsSeen (machine_of p i) l) (λ g y ok see. look_alike s t state alike g y see) (λ g y ok see. look_alike u v new_state new_alike g y see) e x (looks_anywhere e)
        (below_typed p i wf inst (look w fs s) (look w fs u) (look_typed p i wf inst s state) (look_typed p i wf inst u new_state) (IsUnder (machine_of p i) top) (IsSeen (machine_of p i) l) (still_seen p i wf inst l is_level top is_top low) e xs x ty args typed reads)

    pub references : (ds : Trees) (xs : List Ty) (x : List Value) (ts : List Ty) → are_values (sizes_of p i) xs x ≡ true → HaveTypes (signature p) xs ds ts → ReadUnder (machine_of p i) s u x top ds → values_of (world_of p i) (look (world_of p i) p.functions s) (look (world_of p i) p.functions u) x ds ≡ values_of (world_of p i) (look (world_of p i) p.functions t) (look (world_of p i) p.functions v) x ds
    references ds xs x ts args typed reads =
        let w = world_of p i in
        let fs = p.functions in
        values_same w (look w fs s) (look w fs u) (look w fs t) (look w fs v) Anything Anything (IsSeen (machine_of p i) l) (λ g y ok see. look_alike s t state alike g y see) (λ g y ok see. look_alike u v new_state new_alike g y see) ds x (look_anywhere ds)
        (belows_typed p i wf inst (look w fs s) (look w fs u) (look_typed p i wf inst s state) (look_typed p i wf inst u new_state) (IsUnder (machine_of p i) top) (IsSeen (machine_of p i) l) (still_seen p i wf inst l is_level top is_top low) ds xs x ts args typed reads)
