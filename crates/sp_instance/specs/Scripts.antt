-- What the tree of a script's text breaks, as one list, and the invocations that it stands for.
use Rattle.std.specs.Prelude.{ℕ, true, List, [], ◌++◌, map, Option, Some, None, slice_get, if◌then◌else◌}
use Rattle.std.specs.List.{flat_map}
use Rattle.sp_text.specs.declared.fault.Quantity.TheVariants as quantity
use Rattle.sp_text.specs.declared.fault.Rule.TheVariants as rule
use Rattle.sp_text.specs.declared.limits.TheConstants.{MOST_INVOCATIONS}
use Rattle.sp_text.specs.declared.violation.Violation.{Violation}
use Rattle.sp_text.specs.Violations.{breaks}
use Rattle.sp_values.specs.declared.place.Invocation.{Invocation}
use Rattle.sp_values.specs.declared.value.Value.{Value}
use Rattle.sp_tree.specs.declared.instance.ScriptTree.{ScriptTree}
use Rattle.sp_tree.specs.declared.instance.ValueTree.{ValueTree}
use Rattle.sp_tree.specs.declared.names.Ident.{Ident}
use Rattle.sp_core.specs.declared.function.Function.{Function}
use Rattle.sp_core.specs.Machine.{types_of}
use Rattle.sp_core.specs.Parts.{Parts}
use Rattle.sp_core.specs.WellFormed.{names_of}
use Rattle.sp_instance.specs.Words.{Words, place_of, words_of}
use Rattle.sp_instance.specs.Meanings.{arguments_broken, arguments_in}
use Rattle.sp_instance.specs.Heads.{over, unfit}

-- a call: the name of a function, and values
abbrev pub CallText : Type 0
CallText = Ident × List ValueTree

abbrev pub call_head : CallText → Ident
call_head c = c.0

abbrev pub function_name : Function → List ℕ
function_name f = f.name

-- the number of the function that is called
abbrev pub called : List Function → CallText → Option ℕ
called fs c = place_of (map function_name fs) c.0.name

-- a call from outside is of a visible function, with a proper value for each formal
abbrev pub hidden_broken : CallText → Function → List Violation
hidden_broken c f = if f.visible then [] else breaks c.0.span rule.NotVisible

abbrev pub function_broken : Words → CallText → Function → List Violation
function_broken w c f = hidden_broken c f ++ arguments_broken w true c.0.span (types_of f.formals) c.1

abbrev pub there_broken : Words → CallText → Option Function → List Violation
there_broken w c None = []
there_broken w c (Some f) = function_broken w c f

abbrev pub called_broken : List Function → List (List ℕ) → Words → CallText → Option ℕ → List Violation
called_broken fs all w c None = unfit all c.0
called_broken fs all w c (Some k) = there_broken w c (slice_get fs k)

-- what a call breaks, of these functions of a specification with these names
abbrev pub call_broken : List Function → List (List ℕ) → Words → CallText → List Violation
call_broken fs all w c = called_broken fs all w c (called fs c)

-- the values that a call of the function gives its formals
abbrev pub given : Words → CallText → Option Function → List Value
given w c None = []
given w c (Some f) = arguments_in w true (types_of f.formals) c.1

abbrev pub called_as : List Function → Words → CallText → Option ℕ → Invocation
called_as fs w c None = record { fun = 0; args = [] }
called_as fs w c (Some k) = record { fun = k; args = given w c (slice_get fs k) }

-- the invocation that a call stands for
abbrev pub invocation_of : List Function → Words → CallText → Invocation
invocation_of fs w c = called_as fs w c (called fs c)

-- the name of a call, where there is one
abbrev pub head_if : Option CallText → Option Ident
head_if None = None
head_if (Some c) = Some c.0

-- there are at most 10,000 calls
abbrev pub count_broken : List CallText → List Violation
count_broken cs = over quantity.Invocations (head_if (slice_get cs MOST_INVOCATIONS))

abbrev pub calls_broken : List Function → List (List ℕ) → Words → List CallText → List Violation
calls_broken fs all w cs = flat_map (call_broken fs all w) cs ++ count_broken cs

-- all that the text breaks, where the types have these members
abbrev pub script_broken : Parts → List (List (List ℕ)) → ScriptTree → List Violation
script_broken p members t = calls_broken p.functions (names_of p) (words_of p members) t.calls

-- the invocations, in order
abbrev pub invocations_of : Parts → List (List (List ℕ)) → ScriptTree → List Invocation
invocations_of p members t = map (invocation_of p.functions (words_of p members)) t.calls
