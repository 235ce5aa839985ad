-- What an assertion breaks, and what is made of it.
use Rattle.std.specs.Prelude.{◌≡◌, ℕ, ◌+◌, Bool, true, false, List, [], ◌++◌, length, map, Some, if◌then◌else◌, nat_lt}
use Rattle.sp_text.specs.declared.fault.Quantity.TheVariants as quantity
use Rattle.sp_text.specs.declared.fault.Rule.TheVariants as rule
use Rattle.sp_text.specs.declared.fault.Span.{Span}
use Rattle.sp_text.specs.declared.limits.TheConstants.{MOST_EXPRESSION_NODES, MOST_HEIGHT, MOST_QUANTIFIERS}
use Rattle.sp_text.specs.declared.violation.Violation.{Violation}
use Rattle.sp_text.specs.Firsts.{behind}
use Rattle.sp_text.specs.Violations.{exceeds}
use Rattle.sp_values.specs.declared.value.Ty.TheVariants as ty
use Rattle.sp_core.specs.declared.function.Assertion.{Assertion}
use Rattle.sp_core.specs.declared.function.Formal.{Formal}
use Rattle.sp_core.specs.Measures.{nodes, quantifiers}
use Rattle.sp_core.specs.Tree.{Tree, tree}
use Rattle.sp_expand.specs.Sizes.{height}
use Rattle.sp_plain.specs.Text.{Text, Paren, Quant, span}
use Rattle.sp_scopes.specs.declared.heads.Local.{Local}
use Rattle.sp_judge.specs.declared.scope.Site.TheVariants as site
use Rattle.sp_judge.specs.Visible.{Visible}
use Rattle.sp_judge.specs.Names.{with_formal}
use Rattle.sp_judge.specs.Translation.{translation}
use Rattle.sp_judge.specs.Broken.{broken}
use Rattle.sp_reads.specs.ReadTexts.{reads}
use Rattle.sp_functions.specs.Judged.{all_flags, made}

-- below FORALL what stands there, below EXISTS the variables around
abbrev pub quant_leading : Bool → List Local → List Local → List Local
quant_leading true l inner = inner
quant_leading false l inner = l

-- the variables of the FORALLs that an assertion begins with, below others, through parentheses
abbrev pub leading : Visible → List Local → Text → List Local
leading s l (Quant p u f b) = quant_leading u l (leading s (with_formal s l f) b)
leading s l (Paren p a) = leading s l a
leading s l e = l

abbrev pub quant_below : Bool → Text → Text → Text
quant_below true e inner = inner
quant_below false e inner = e

-- what stands below them
abbrev pub below : Text → Text
below (Quant p u f b) = quant_below u (Quant p u f b) (below b)
below (Paren p a) = below a
below e = e

-- the limits of an assertion at `p` with n variables, which count as quantifiers around its body
abbrev pub assertion_limits : Span → ℕ → Tree → List Violation
assertion_limits p n e =
    (if nat_lt MOST_HEIGHT (height e) then exceeds p quantity.Height else [])
    ++ ((if nat_lt MOST_QUANTIFIERS (n + quantifiers e) then exceeds p quantity.Quantifiers else [])
    ++ (if nat_lt MOST_EXPRESSION_NODES (nodes e) then exceeds p quantity.ExpressionNodes else []))

-- what an assertion breaks below its variables, of whose text `p` is the place
abbrev pub body_broken : Visible → Span → List Local → Text → List Violation
body_broken s p l b = assertion_limits p (length l) (translation s l b) ++ reads s (all_flags s.names.functions) rule.ReadsState l b

-- an assertion: it is BOOLEAN, and reads no V-function
abbrev pub assertion_broken : Visible → Text → List Violation
assertion_broken s e = behind (broken s site.Outside [] (Some ty.Boolean) e) (body_broken s (span e) (leading s [] e) (below e))

abbrev pub formal_of : Local → Formal
formal_of l = record { name = l.name; ty = l.ty }

-- the core assertion that it stands for
pub record IsAssertionOf (s : Visible) (e : Text) (a : Assertion) : Type 0 where
  pub vars : a.vars ≡ map formal_of (leading s [] e)
  pub body : tree a.body ≡ made s (leading s [] e) (below e)
