-- The greatest value and the printed name of each quantity. The numbers are the constants of the code.
use Rattle.std.specs.Prelude.{ℕ, List, codes}
use Rattle.sp_text.specs.declared.fault.Quantity.{Quantity}
use Rattle.sp_text.specs.declared.fault.Quantity.TheVariants as quantity
use Rattle.sp_text.specs.declared.limits.TheConstants.{MOST_FILE_BYTES, MOST_TOKENS, MOST_MODULES, MOST_INTERFACES, MOST_TYPES, MOST_MEMBERS, MOST_POPULATION, MOST_PARAMETERS, MOST_DEFINITIONS, MOST_FUNCTIONS, MOST_ASSERTIONS, MOST_ARGUMENTS, MOST_EXCEPTIONS, MOST_CHANGES, MOST_HEIGHT, MOST_EFFECT_NESTING, MOST_BOUND_VARIABLES, MOST_QUANTIFIERS, MOST_DERIVATION_DEPTH, MOST_EXPRESSION_NODES, MOST_FUNCTION_NODES, MOST_LEVELS, MOST_FORMULAS, MOST_ASSERTION_INSTANCES, MOST_FORMULA_NODES, MOST_TERMS, MOST_ATOMS, MOST_INVOCATIONS, MOST_CHANGED_PLACES, MOST_CERTIFICATE_DEPTH}

-- the greatest value of a quantity; of bytes, that of a text file
abbrev pub greatest_of : Quantity → ℕ
greatest_of quantity.FileBytes = MOST_FILE_BYTES
greatest_of quantity.Tokens = MOST_TOKENS
greatest_of quantity.Modules = MOST_MODULES
greatest_of quantity.Interfaces = MOST_INTERFACES
greatest_of quantity.Types = MOST_TYPES
greatest_of quantity.Members = MOST_MEMBERS
greatest_of quantity.Population = MOST_POPULATION
greatest_of quantity.Parameters = MOST_PARAMETERS
greatest_of quantity.Definitions = MOST_DEFINITIONS
greatest_of quantity.Functions = MOST_FUNCTIONS
greatest_of quantity.Assertions = MOST_ASSERTIONS
greatest_of quantity.Arguments = MOST_ARGUMENTS
greatest_of quantity.Exceptions = MOST_EXCEPTIONS
greatest_of quantity.Changes = MOST_CHANGES
greatest_of quantity.Height = MOST_HEIGHT
greatest_of quantity.EffectNesting = MOST_EFFECT_NESTING
greatest_of quantity.BoundVariables = MOST_BOUND_VARIABLES
greatest_of quantity.Quantifiers = MOST_QUANTIFIERS
greatest_of quantity.DerivationDepth = MOST_DERIVATION_DEPTH
greatest_of quantity.ExpressionNodes = MOST_EXPRESSION_NODES
greatest_of quantity.FunctionNodes = MOST_FUNCTION_NODES
greatest_of quantity.Levels = MOST_LEVELS
greatest_of quantity.Formulas = MOST_FORMULAS
greatest_of quantity.AssertionInstances = MOST_ASSERTION_INSTANCES
greatest_of quantity.FormulaNodes = MOST_FORMULA_NODES
greatest_of quantity.Terms = MOST_TERMS
greatest_of quantity.Atoms = MOST_ATOMS
greatest_of quantity.Invocations = MOST_INVOCATIONS
greatest_of quantity.ChangedPlaces = MOST_CHANGED_PLACES
greatest_of quantity.CertificateDepth = MOST_CERTIFICATE_DEPTH

-- the name of a quantity
abbrev pub quantity_name : Quantity → List ℕ
quantity_name quantity.FileBytes = codes "file bytes"
quantity_name quantity.Tokens = codes "tokens"
quantity_name quantity.Modules = codes "modules"
quantity_name quantity.Interfaces = codes "interfaces"
quantity_name quantity.Types = codes "types"
quantity_name quantity.Members = codes "members"
quantity_name quantity.Population = codes "population"
quantity_name quantity.Parameters = codes "parameters"
quantity_name quantity.Definitions = codes "definitions"
quantity_name quantity.Functions = codes "functions"
quantity_name quantity.Assertions = codes "assertions"
quantity_name quantity.Arguments = codes "arguments"
quantity_name quantity.Exceptions = codes "exceptions"
quantity_name quantity.Changes = codes "changes"
quantity_name quantity.Height = codes "height"
quantity_name quantity.EffectNesting = codes "effect nesting"
quantity_name quantity.BoundVariables = codes "bound variables"
quantity_name quantity.Quantifiers = codes "quantifiers"
quantity_name quantity.DerivationDepth = codes "derivation depth"
quantity_name quantity.ExpressionNodes = codes "expression nodes"
quantity_name quantity.FunctionNodes = codes "function nodes"
quantity_name quantity.Levels = codes "levels"
quantity_name quantity.Formulas = codes "formulas"
quantity_name quantity.AssertionInstances = codes "assertion instances"
quantity_name quantity.FormulaNodes = codes "formula nodes"
quantity_name quantity.Terms = codes "terms"
quantity_name quantity.Atoms = codes "atoms"
quantity_name quantity.Invocations = codes "invocations"
quantity_name quantity.ChangedPlaces = codes "changed places"
quantity_name quantity.CertificateDepth = codes "certificate depth"

-- the order in which limits exceeded at one place count
abbrev pub quantity_number : Quantity → ℕ
quantity_number quantity.FileBytes = 0
quantity_number quantity.Tokens = 1
quantity_number quantity.Modules = 2
quantity_number quantity.Interfaces = 3
quantity_number quantity.Types = 4
quantity_number quantity.Members = 5
quantity_number quantity.Population = 6
quantity_number quantity.Parameters = 7
quantity_number quantity.Definitions = 8
quantity_number quantity.Functions = 9
quantity_number quantity.Assertions = 10
quantity_number quantity.Arguments = 11
quantity_number quantity.Exceptions = 12
quantity_number quantity.Changes = 13
quantity_number quantity.Height = 14
quantity_number quantity.EffectNesting = 15
quantity_number quantity.BoundVariables = 16
quantity_number quantity.Quantifiers = 17
quantity_number quantity.DerivationDepth = 18
quantity_number quantity.ExpressionNodes = 19
quantity_number quantity.FunctionNodes = 20
quantity_number quantity.Levels = 21
quantity_number quantity.Formulas = 22
quantity_number quantity.AssertionInstances = 23
quantity_number quantity.FormulaNodes = 24
quantity_number quantity.Terms = 25
quantity_number quantity.Atoms = 26
quantity_number quantity.Invocations = 27
quantity_number quantity.ChangedPlaces = 28
quantity_number quantity.CertificateDepth = 29
