-- Where names and headers break nothing, each sort that is declared is within its limit.
use Rattle.std.proofs.Common.{◌≡◌, refl, sym, ◌∙◌, ap, ℕ, ◌≤◌, List, [], length, Option, Some, None, map}
use Rattle.std.specs.Prelude.{Bool, true, false, if◌then◌else◌, slice_get}
use Rattle.sp_text.specs.declared.fault.Span.{Span}
use Rattle.sp_tree.specs.declared.interface.InterfaceTree.{InterfaceTree}
use Rattle.sp_tree.specs.declared.module.Module.{Module}
use Rattle.sp_naming.specs.declared.declaration.Declaration.{Declaration}
use Rattle.sp_naming.specs.declared.declaration.Entity.{Entity}
use Rattle.sp_naming.specs.declared.declaration.Entity.TheVariants as entity
use Rattle.sp_naming.specs.Declarations.{declarations}
use Rattle.sp_naming.specs.Names.{named}
use Rattle.sp_naming.specs.Visibility.{find_by, find_in, seen, sees}
use Rattle.sp_naming.proofs.Meanings.{declared}
use Rattle.sp_scopes.specs.declared.lent.DeclaredType.{DeclaredType}
use Rattle.sp_scopes.specs.Interfaces.{scopes_broken}
use Rattle.sp_scopes.specs.Laws.{IsLent, LentAreFound}
use Rattle.sp_scopes.specs.Modules.{limit_broken, over}
use Rattle.sp_scopes.specs.Scopes.{module_takes, scopes_of}
use Rattle.sp_scopes.proofs.Laws.{within_limits}
use Rattle.sp_well_formed.proofs.Items.{few, makes_nothing, map_nothing, under_option}

pub seen_is : (k : ℕ) (names : List (List ℕ)) (o : Option Declaration) (d : Declaration) → seen k names o ≡ Some d → o ≡ Some d
seen_is k names None d e = absurd cc
seen_is k names (Some c) d e = by (sees k names c) e
  where
    by : (b : Bool) → (if b then Some c else None) ≡ Some d → Some c ≡ Some d
    by true e = e
    by false e = absurd cc

-- what is visible in a module is what the name stands for
found_is : (ds : List Declaration) (k : ℕ) (x : List ℕ) (o : Option (List (List ℕ))) (d : Declaration) → find_by ds k x o ≡ Some d → named ds x ≡ Some d
found_is ds k x None d e = e
found_is ds k x (Some names) d e = seen_is k names (named ds x) d e

module _ (found : LentAreFound) (i : InterfaceTree) (ms : List Module) (h : scopes_broken i ms ≡ []) where
  -- what is lent is no declaration over a limit
  limit_at : (x : List ℕ) (e : Entity) → IsLent (scopes_of i ms) x e → (p : Span) × (over p e ≡ [])
  limit_at x e l =
      let ds = declarations i ms in
      let takes = map (module_takes ds i.modules) ms in
      let r = under_option (λ (d : Declaration). d.entity) (find_in ds takes (length ms) x) e (found i ms h x e l) in
      let d = r.0 in
      let at = declared ds x d (found_is ds (length ms) x (slice_get takes (length ms)) d r.1) in
      let fine = map_nothing (λ v. record { file = d.file; violation = v }) (over d.span d.entity) (makes_nothing limit_broken ds (within_limits i ms h) at.0 d at.1) in
      (d.span, ap (over d.span) (sym r.2) ∙ fine)

  pub few_types : length (scopes_of i ms).types ≤ 64
  few_types = few 64 (scopes_of i ms).types (λ t e. over_types (limit_at t.name (entity.Declared 64) (t, (e, refl))))
    where
      over_types : (p : Span) × (over p (entity.Declared 64) ≡ []) → ⊥
      over_types h = let z = h.1 in cc

  pub few_members : (t : ℕ) (d : DeclaredType) (xs : List (List ℕ)) → slice_get (scopes_of i ms).types t ≡ Some d → d.members ≡ Some xs → length xs ≤ 64
  few_members t d xs at is = few 64 xs (λ x e. over_members (limit_at x (entity.Member t 64) (d, (xs, (at, (is, e))))))
    where
      over_members : (p : Span) × (over p (entity.Member t 64) ≡ []) → ⊥
      over_members h = let z = h.1 in cc

  pub few_params : length (scopes_of i ms).parameters ≤ 512
  few_params = few 512 (scopes_of i ms).parameters (λ t e. over_params (limit_at t.name (entity.Param 512) (t, (e, refl))))
    where
      over_params : (p : Span) × (over p (entity.Param 512) ≡ []) → ⊥
      over_params h = let z = h.1 in cc

  pub few_functions : length (scopes_of i ms).functions ≤ 512
  few_functions = few 512 (scopes_of i ms).functions (λ t e. over_functions (limit_at t.name (entity.Function 512) (t, (e, refl))))
    where
      over_functions : (p : Span) × (over p (entity.Function 512) ≡ []) → ⊥
      over_functions h = let z = h.1 in cc
