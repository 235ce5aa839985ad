-- The lines and words by which reports name an interface and a formula.
use Rattle.std.specs.Prelude.{ℕ, List, ◌++◌, codes, decimal}
use Rattle.sp_core.specs.Parts.{Parts}
use Rattle.sp_sequent.specs.declared.formula.FormulaKind.{FormulaKind}
use Rattle.sp_sequent.specs.declared.formula.FormulaKind.TheVariants as kind

-- `INTERFACE name`
abbrev pub interface_line : Parts → List ℕ
interface_line p = codes "INTERFACE " ++ p.name ++ codes "\n"

abbrev pub kind_text : FormulaKind → List ℕ
kind_text kind.ExceptionReference = codes "exception-reference"
kind_text kind.DerivationReference = codes "derivation-reference"
kind_text kind.Change = codes "change"
kind_text kind.GuardReference = codes "guard-reference"
kind_text kind.ValueReference = codes "value-reference"
kind_text kind.TargetReference = codes "target-reference"
kind_text kind.ResultGuardReference = codes "result-guard-reference"
kind_text kind.ResultReference = codes "result-reference"
kind_text kind.Agreement = codes "agreement"
kind_text kind.MappingReference = codes "mapping-reference"

-- `n fun kind`, from the number, the function's name and the kind of a formula
abbrev pub heading : ℕ → List ℕ → FormulaKind → List ℕ
heading n name kind = decimal n ++ codes " " ++ name ++ codes " " ++ kind_text kind
