-- The lines of decisions are no headings and don't begin with the letter A; nor does the line that refuses.
use Rattle.std.proofs.Common.{◌≡◌, ℕ, zero, suc, ◌+◌, Bool, true, false, List, [], ◌∷◌, ◌++◌, Option, None, Some, codes, refl, slice_get, sym}
use Rattle.std.specs.Fmt.{decimal}
use Rattle.std.specs.List.{All}
use Rattle.std.proofs.lemmas.List.Elements.{All-head, All-tail}
use Rattle.sp_core.specs.declared.function.Formal.{Formal}
use Rattle.sp_core.specs.Parts.{Parts}
use Rattle.sp_core.specs.Tree.{Tree}
use Rattle.sp_sequent.specs.declared.formula.FormulaKind.{FormulaKind}
use Rattle.sp_sequent.specs.declared.formula.FormulaKind.TheVariants as kind
use Rattle.sp_sequent.specs.Claims.{question_of, terms_in}
use Rattle.sp_formulas.specs.Formulas.{Formula}
use Rattle.sp_hold.specs.Holding.{claim}
use Rattle.sp_report.specs.Constants.{truth_text}
use Rattle.sp_report.specs.Headings.{heading, kind_text}
use Rattle.sp_deciding.specs.Verdicts.{all_lines, atom_line, atom_lines, decision_lines, last_line, term_text}
use Rattle.sp_deciding.specs.declared.deciding.Decision.{Decision}
use Rattle.sp_deciding.specs.declared.deciding.Decision.TheVariants as decision
use Rattle.sp_plain_names.specs.Names.{HasPlainNames}
use Rattle.sp_headline.proofs.Digits.{decimal_free}
use Rattle.sp_headline.proofs.Expressions.{HasFreeName, expr_free}
use Rattle.sp_headline.proofs.Named.{IsNamed}
use Rattle.sp_headline.proofs.Texts.{EndsLine, Free, append_assoc, ends_behind, ends_with, free_append}
use Rattle.sp_hierarchy_headline.proofs.Inner.{InInnerLines, begins_inner, decimal_inner, inner_append, inner_front, inner_line, inner_nothing, starts_heading}

feed : EndsLine (codes "\n")
feed = ends_with [] refl

kind_free : (k : FormulaKind) → Free (kind_text k)
kind_free kind.ExceptionReference = refl
kind_free kind.DerivationReference = refl
kind_free kind.Change = refl
kind_free kind.GuardReference = refl
kind_free kind.ValueReference = refl
kind_free kind.TargetReference = refl
kind_free kind.ResultGuardReference = refl
kind_free kind.ResultReference = refl
kind_free kind.Agreement = refl
kind_free kind.MappingReference = refl

heading_free : (n : ℕ) (name : List ℕ) (k : FormulaKind) → Free name → Free (heading n name k)
heading_free n name k free =
    free_append (decimal n ++ codes " " ++ name ++ codes " ") (kind_text k)
    (free_append (decimal n ++ codes " " ++ name) (codes " ")
    (free_append (decimal n ++ codes " ") name
    (free_append (decimal n) (codes " ") (decimal_free n) refl) free) refl) (kind_free k)

heading_inner : (n : ℕ) (name : List ℕ) (k : FormulaKind) → begins_inner (heading n name k) ≡ true
heading_inner n name k =
    inner_front (decimal n ++ codes " " ++ name ++ codes " ") (kind_text k)
    (inner_front (decimal n ++ codes " " ++ name) (codes " ")
    (inner_front (decimal n ++ codes " ") name
    (inner_front (decimal n) (codes " ") (decimal_inner n))))

-- what follows the words on a formula up to the end of their line
behind_inner : (n : ℕ) (name : List ℕ) (k : FormulaKind) (t : List ℕ) → Free name → EndsLine t → InInnerLines (heading n name k ++ t)
behind_inner n name k t free ends =
    inner_line (heading n name k ++ t) (ends_behind (heading n name k) t (heading_free n name k free) ends) (inner_front (heading n name k) t (heading_inner n name k))

truth_free : (b : Bool) → Free (truth_text b)
truth_free true = refl
truth_free false = refl

module _ (p : Parts) (names : HasPlainNames p) where
  module _ (xs : List Formal) (vars : All HasFreeName xs) where
    term_free : (e : Option Tree) → Free (term_text p xs e)
    term_free None = refl
    term_free (Some e) = expr_free p names xs vars e

    atom_inner : (es : List Tree) (t : ℕ) (v : Bool) → InInnerLines (atom_line p xs es t v)
    atom_inner es t v =
        let term = term_text p xs (slice_get es t) in
        inner_line (atom_line p xs es t v)
        (ends_behind (codes "  " ++ term ++ codes " " ++ truth_text v) (codes "\n")
        (free_append (codes "  " ++ term ++ codes " ") (truth_text v)
        (free_append (codes "  " ++ term) (codes " ") (free_append (codes "  ") term refl (term_free (slice_get es t))) refl) (truth_free v)) feed) refl

    atoms_inner : (es : List Tree) (ts : List ℕ) (vs : List Bool) → InInnerLines (atom_lines p xs es ts vs)
    atoms_inner es [] vs = inner_nothing
    atoms_inner es (t ∷ ts) [] = inner_nothing
    atoms_inner es (t ∷ ts) (v ∷ vs) = inner_append (atom_line p xs es t v) (atom_lines p xs es ts vs) (atom_inner es t v) (atoms_inner es ts vs)

  decision_inner : (n : ℕ) (o : Formula) (d : Decision) → IsNamed o → InInnerLines (decision_lines p n o d)
  decision_inner n o decision.Proved h = behind_inner n o.name o.kind (codes " PROVED\n") h.name (ends_with (codes " PROVED") refl)
  decision_inner n o (decision.Open vs) h =
      inner_append (heading n o.name o.kind ++ codes " OPEN\n") (atom_lines p o.vars (terms_in (claim o)) (question_of p (claim o)).atoms vs)
      (behind_inner n o.name o.kind (codes " OPEN\n") h.name (ends_with (codes " OPEN") refl))
      (atoms_inner o.vars h.vars (terms_in (claim o)) (question_of p (claim o)).atoms vs)

  pub all_inner : (n : ℕ) (os : List Formula) (ds : List Decision) → All IsNamed os → InInnerLines (all_lines p n os ds)
  all_inner n [] ds h = inner_nothing
  all_inner n (o ∷ os) [] h = inner_nothing
  all_inner n (o ∷ os) (d ∷ ds) h =
      inner_append (decision_lines p n o d) (all_lines p (n + 1) os ds) (decision_inner n o d (All-head IsNamed o os h)) (all_inner (n + 1) os ds (All-tail IsNamed o os h))

-- ---- the last line

pub refused_inner : (m k : ℕ) → InInnerLines (last_line m (suc k))
refused_inner m k =
    inner_line (last_line m (suc k))
    (ends_behind (codes "REFUSED " ++ decimal (suc k) ++ codes " of " ++ decimal m) (codes " formulas\n")
    (free_append (codes "REFUSED " ++ decimal (suc k) ++ codes " of ") (decimal m)
    (free_append (codes "REFUSED " ++ decimal (suc k)) (codes " of ")
    (free_append (codes "REFUSED ") (decimal (suc k)) refl (decimal_free (suc k))) refl) (decimal_free m))
    (ends_with (codes " formulas") refl)) refl

pub record IsAcceptedLine (text : List ℕ) : Type 0 where
  pub line : List ℕ
  pub free : Free line
  pub heading : starts_heading line ≡ false
  pub is : text ≡ line ++ 10 ∷ []

pub accepted_line : (m : ℕ) → IsAcceptedLine (last_line m zero)
accepted_line m = record {
  line = codes "ACCEPTED " ++ decimal m ++ codes " formulas";
  free = free_append (codes "ACCEPTED " ++ decimal m) (codes " formulas") (free_append (codes "ACCEPTED ") (decimal m) refl (decimal_free m)) refl;
  heading = refl;
  is = sym (append_assoc (codes "ACCEPTED " ++ decimal m) (codes " formulas") (10 ∷ []));
}
