-- The migrated file of one that is accepted: of the second format, with a certificate for each formula.
use Rattle.std.proofs.Common.{◌≡◌, eqb, Bool, if◌then◌else◌, List, ap, inl, inr, refl, subst, sym}
use Rattle.std.proofs.lemmas.Bool.{eq-eqb}
use Rattle.sp_core.specs.Parts.{Parts}
use Rattle.sp_cert.specs.Tree.{File, Tree}
use Rattle.sp_cert.specs.Within.{AreTrees, IsFile, IsFormat}
use Rattle.sp_checker.specs.Lifts.{FirstFormatIsPlain, LiftedIsSpelled}
use Rattle.sp_checker.specs.Migration.{LiftedChecks}
use Rattle.sp_formulas.specs.Formulas.{Formula}
use Rattle.sp_verify_command.specs.Laws.{AreCertified}
use Rattle.sp_verify_command.specs.Migrate.{lifted_trees, migrated}
use Rattle.sp_verify_command.proofs.Certified.{lifted_certified, lifted_spelled}

-- a file of the second format that a text can spell, with a certificate for each formula
pub record IsGood (p : Parts) (os : List Formula) (g : File) : Type 0 where
  pub good : IsFile 64 g
  pub format : g.format ≡ 2
  pub certified : AreCertified p os g.trees

module _ (p : Parts) (os : List Formula) (f : File) (spellable : IsFile 64 f) where
  abbrev kept_or : Bool → File
  kept_or b = if b then f else record { format = 2; trees = lifted_trees p os f.trees }

  stays : f.format ≡ 2 → migrated p os f ≡ f
  stays e = ap kept_or (eq-eqb f.format 2 e)

  lifts : f.format ≡ 1 → migrated p os f ≡ record { format = 2; trees = lifted_trees p os f.trees }
  lifts e = ap (λ v. kept_or (eqb v 2)) e

  -- a file that isn't of the second format is of the first
  pub first_format : (f.format ≡ 2 → ⊥) → f.format ≡ 1
  first_format other = by spellable.format
    where
      by : IsFormat f.format → f.format ≡ 1
      by (inl one) = one
      by (inr two) = absurd (other two)

  module _ (spelled : LiftedIsSpelled) (h : AreCertified p os f.trees) where
    -- what is lifted can be spelled
    pub lifted_good : (ts : List Tree) → ts ≡ lifted_trees p os f.trees → f.format ≡ 1 → IsFile 64 (record { format = 2; trees = ts })
    lifted_good ts are e = record {
      format = inr refl;
      trees = subst (AreTrees 2 64 1) (sym are) (lifted_spelled p spelled 1 os f.trees (subst (λ v. AreTrees v 64 1 f.trees) e spellable.trees) h);
    }

    pub migrated_good : FirstFormatIsPlain → LiftedChecks → IsGood p os (migrated p os f)
    migrated_good plain checks = by spellable.format
      where
        by : IsFormat f.format → IsGood p os (migrated p os f)
        by (inl one) = subst (IsGood p os) (sym (lifts one)) record {
          good = lifted_good (lifted_trees p os f.trees) refl one;
          format = refl;
          certified = lifted_certified p checks os f.trees (plain 64 f spellable one) h;
        }
        by (inr two) = subst (IsGood p os) (sym (stays two)) record { good = spellable; format = two; certified = h }
