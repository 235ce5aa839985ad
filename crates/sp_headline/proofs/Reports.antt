-- The lines of decisions, and the line of a refusal, begin with another letter than A.
use Rattle.std.proofs.Common.{◌≡◌, ℕ, zero, suc, ◌+◌, Bool, true, false, List, [], ◌∷◌, ◌++◌, Option, None, Some, codes, refl, slice_get, sym, subst}
use Rattle.std.specs.Fmt.{decimal}
use Rattle.std.specs.List.{All}
use Rattle.std.proofs.lemmas.List.Elements.{All-head, All-tail}
use Rattle.sp_core.specs.declared.function.Formal.{Formal}
use Rattle.sp_core.specs.Parts.{Parts}
use Rattle.sp_core.specs.Tree.{Tree}
use Rattle.sp_sequent.specs.declared.formula.FormulaKind.{FormulaKind}
use Rattle.sp_sequent.specs.declared.formula.FormulaKind.TheVariants as kind
use Rattle.sp_sequent.specs.Claims.{question_of, terms_in}
use Rattle.sp_formulas.specs.Formulas.{Formula}
use Rattle.sp_hold.specs.Holding.{claim}
use Rattle.sp_report.specs.Constants.{truth_text}
use Rattle.sp_report.specs.Headings.{heading, interface_line, kind_text}
use Rattle.sp_deciding.specs.Verdicts.{all_lines, atom_line, atom_lines, decision_lines, last_line, term_text}
use Rattle.sp_deciding.specs.declared.deciding.Decision.{Decision}
use Rattle.sp_deciding.specs.declared.deciding.Decision.TheVariants as decision
use Rattle.sp_plain_names.specs.Names.{HasPlainNames}
use Rattle.sp_headline.proofs.Digits.{decimal_free, decimal_starts}
use Rattle.sp_headline.proofs.Expressions.{HasFreeName, expr_free, plain_free}
use Rattle.sp_headline.proofs.Named.{IsNamed}
use Rattle.sp_headline.proofs.Texts.{EndsLine, Free, InQuietLines, begins_otherwise, otherwise_append, ends_behind, ends_with, free_append, quiet_append, quiet_line, quiet_nothing}

feed : EndsLine (codes "\n")
feed = ends_with [] refl

kind_free : (k : FormulaKind) → Free (kind_text k)
kind_free kind.ExceptionReference = refl
kind_free kind.DerivationReference = refl
kind_free kind.Change = refl
kind_free kind.GuardReference = refl
kind_free kind.ValueReference = refl
kind_free kind.TargetReference = refl
kind_free kind.ResultGuardReference = refl
kind_free kind.ResultReference = refl
kind_free kind.Agreement = refl
kind_free kind.MappingReference = refl

pub interface_quiet : (p : Parts) → HasPlainNames p → InQuietLines (interface_line p)
interface_quiet p names =
    quiet_line (interface_line p)
    (ends_behind (codes "INTERFACE " ++ p.name) (codes "\n") (free_append (codes "INTERFACE ") p.name refl (plain_free p.name names.name)) feed) refl

free_heading : (n : ℕ) (name : List ℕ) (k : FormulaKind) → Free name → Free (heading n name k)
free_heading n name k free =
    free_append (decimal n ++ codes " " ++ name ++ codes " ") (kind_text k)
    (free_append (decimal n ++ codes " " ++ name) (codes " ")
    (free_append (decimal n ++ codes " ") name
    (free_append (decimal n) (codes " ") (decimal_free n) refl) free) refl) (kind_free k)

heading_starts : (n : ℕ) (name : List ℕ) (k : FormulaKind) → begins_otherwise (heading n name k) ≡ true
heading_starts n name k =
    otherwise_append (decimal n ++ codes " " ++ name ++ codes " ") (kind_text k)
    (otherwise_append (decimal n ++ codes " " ++ name) (codes " ")
    (otherwise_append (decimal n ++ codes " ") name
    (otherwise_append (decimal n) (codes " ") (decimal_starts n))))

-- what follows a heading up to the end of its line
pub heading_quiet : (n : ℕ) (name : List ℕ) (k : FormulaKind) (t : List ℕ) → Free name → EndsLine t → InQuietLines (heading n name k ++ t)
heading_quiet n name k t free ends =
    quiet_line (heading n name k ++ t) (ends_behind (heading n name k) t (free_heading n name k free) ends) (otherwise_append (heading n name k) t (heading_starts n name k))

-- ---- decisions

truth_free : (b : Bool) → Free (truth_text b)
truth_free true = refl
truth_free false = refl

module _ (p : Parts) (names : HasPlainNames p) where
  module _ (xs : List Formal) (vars : All HasFreeName xs) where
    term_free : (e : Option Tree) → Free (term_text p xs e)
    term_free None = refl
    term_free (Some e) = expr_free p names xs vars e

    atom_quiet : (es : List Tree) (t : ℕ) (v : Bool) → InQuietLines (atom_line p xs es t v)
    atom_quiet es t v =
        let term = term_text p xs (slice_get es t) in
        quiet_line (atom_line p xs es t v)
        (ends_behind (codes "  " ++ term ++ codes " " ++ truth_text v) (codes "\n")
        (free_append (codes "  " ++ term ++ codes " ") (truth_text v)
        (free_append (codes "  " ++ term) (codes " ") (free_append (codes "  ") term refl (term_free (slice_get es t))) refl) (truth_free v)) feed) refl

    atoms_quiet : (es : List Tree) (ts : List ℕ) (vs : List Bool) → InQuietLines (atom_lines p xs es ts vs)
    atoms_quiet es [] vs = quiet_nothing
    atoms_quiet es (t ∷ ts) [] = quiet_nothing
    atoms_quiet es (t ∷ ts) (v ∷ vs) = quiet_append (atom_line p xs es t v) (atom_lines p xs es ts vs) (atom_quiet es t v) (atoms_quiet es ts vs)

  decision_quiet : (n : ℕ) (o : Formula) (d : Decision) → IsNamed o → InQuietLines (decision_lines p n o d)
  decision_quiet n o decision.Proved h = heading_quiet n o.name o.kind (codes " PROVED\n") h.name (ends_with (codes " PROVED") refl)
  decision_quiet n o (decision.Open vs) h =
      quiet_append (heading n o.name o.kind ++ codes " OPEN\n") (atom_lines p o.vars (terms_in (claim o)) (question_of p (claim o)).atoms vs)
      (heading_quiet n o.name o.kind (codes " OPEN\n") h.name (ends_with (codes " OPEN") refl))
      (atoms_quiet o.vars h.vars (terms_in (claim o)) (question_of p (claim o)).atoms vs)

  pub all_quiet : (n : ℕ) (os : List Formula) (ds : List Decision) → All IsNamed os → InQuietLines (all_lines p n os ds)
  all_quiet n [] ds h = quiet_nothing
  all_quiet n (o ∷ os) [] h = quiet_nothing
  all_quiet n (o ∷ os) (d ∷ ds) h =
      quiet_append (decision_lines p n o d) (all_lines p (n + 1) os ds) (decision_quiet n o d (All-head IsNamed o os h)) (all_quiet (n + 1) os ds (All-tail IsNamed o os h))

pub refused_quiet : (m k : ℕ) → InQuietLines (last_line m (suc k))
refused_quiet m k =
    quiet_line (last_line m (suc k))
    (ends_behind (codes "REFUSED " ++ decimal (suc k) ++ codes " of " ++ decimal m) (codes " formulas\n")
    (free_append (codes "REFUSED " ++ decimal (suc k) ++ codes " of ") (decimal m)
    (free_append (codes "REFUSED " ++ decimal (suc k)) (codes " of ")
    (free_append (codes "REFUSED ") (decimal (suc k)) refl (decimal_free (suc k))) refl) (decimal_free m))
    (ends_with (codes " formulas") refl)) refl
