-- What the expressions of functions break, of which more is asked than of an expression by itself: what they may read, and of levels that
-- they hold no quantifier.
use Rattle.std.specs.Prelude.{ℕ, suc, Bool, true, false, not, ◌&&◌, List, [], ◌∷◌, ◌++◌, length, replicate, Some, if◌then◌else◌, nat_lt}
use Rattle.sp_text.specs.declared.fault.Rule.TheVariants as rule
use Rattle.sp_text.specs.declared.fault.Span.{Span}
use Rattle.sp_text.specs.declared.violation.Violation.{Violation}
use Rattle.sp_text.specs.Firsts.{behind}
use Rattle.sp_text.specs.Violations.{breaks}
use Rattle.sp_values.specs.declared.value.Ty.{Ty}
use Rattle.sp_values.specs.declared.value.Ty.TheVariants as ty
use Rattle.sp_core.specs.Tree.{Tree}
use Rattle.sp_core.specs.Measures.{quantifiers}
use Rattle.sp_plain.specs.Text.{Text, span}
use Rattle.sp_scopes.specs.declared.heads.Head.{Head}
use Rattle.sp_scopes.specs.declared.heads.Local.{Local}
use Rattle.sp_scopes.specs.declared.heads.Sort.{Sort}
use Rattle.sp_scopes.specs.declared.heads.Sort.TheVariants as sort
use Rattle.sp_judge.specs.declared.scope.Site.TheVariants as site
use Rattle.sp_judge.specs.Visible.{Visible}
use Rattle.sp_judge.specs.Translation.{translation}
use Rattle.sp_judge.specs.Broken.{broken, limit_rules}
use Rattle.sp_definitions.specs.Definitions.{kept}
use Rattle.sp_reads.specs.ReadTexts.{reads}

-- what is made of a text: its translation, or `?` where that exceeds a limit, and so is refused
abbrev pub made : Visible → List Local → Text → Tree
made s l e = kept (translation s l e)

-- An expression of this type of which, besides the limits, rules ask that break `others`: all of them after expansion, and so where the
-- text breaks nothing.
abbrev pub judged : Visible → List Local → Ty → Text → List Violation → List Violation
judged s l t e others = behind (broken s site.Outside l (Some t) e) (limit_rules (span e) (translation s l e) ++ others)

-- all V-functions
abbrev pub all_flags : List Head → List Bool
all_flags hs = replicate (length hs) true

abbrev pub is_derived : Sort → Bool
is_derived (sort.Derived t) = true
is_derived f = false

-- the derived functions from number g on; the first head has number k
abbrev pub later_flags : ℕ → ℕ → List Head → List Bool
later_flags g k [] = []
later_flags g k (h ∷ hs) = (is_derived h.sort && not (nat_lt k g)) ∷ later_flags g (suc k) hs

-- an INITIALLY reads no V-function
abbrev pub initial_broken : Visible → List Local → Ty → Text → List Violation
initial_broken s l t e = judged s l t e (reads s (all_flags s.names.functions) rule.ReadsState l e)

-- the derivation of function g reads no derived function from g on
abbrev pub derivation_broken : Visible → ℕ → List Local → Ty → Text → List Violation
derivation_broken s g l t e = judged s l t e (reads s (later_flags g 0 s.names.functions) rule.Cyclic l e)

-- an expression that holds a quantifier; the place is `p`
abbrev pub quantified : Span → Tree → List Violation
quantified p t = if nat_lt 0 (quantifiers t) then breaks p rule.LevelQuantifies else []

abbrev pub quantifies : Visible → List Local → Text → List Violation
quantifies s l e = quantified (span e) (translation s l e)

-- a level reads no V-function, and holds no quantifier
abbrev pub level_broken : Visible → List Local → Text → List Violation
level_broken s l e = judged s l ty.Level e (reads s (all_flags s.names.functions) rule.LevelReadsState l e ++ quantifies s l e)
