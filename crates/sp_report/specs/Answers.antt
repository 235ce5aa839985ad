-- The texts of values and answers of an instance.
use Rattle.std.specs.Prelude.{ℕ, IsTrue, List, [], ◌++◌, Option, Some, None, codes, map, slice_get, slice_index_or}
use Rattle.std.specs.Fmt.{signed_decimal}
use Rattle.sp_values.specs.declared.value.Ty.{Ty}
use Rattle.sp_values.specs.declared.value.Value.{Value}
use Rattle.sp_values.specs.declared.value.Value.TheVariants as value
use Rattle.sp_values.specs.Domains.{is_value}
use Rattle.sp_core.specs.declared.expr.Expr.{Expr}
use Rattle.sp_core.specs.declared.function.Answer.{Answer}
use Rattle.sp_core.specs.declared.function.Answer.TheVariants as answer
use Rattle.sp_core.specs.declared.function.Function.{Function}
use Rattle.sp_core.specs.Instances.{InstanceParts, filling_of, sizes_of}
use Rattle.sp_core.specs.Parts.{Parts}
use Rattle.sp_report.specs.Constants.{nth_name, truth_text}

-- a value of the instance: levels and members by name, integers in decimal
abbrev pub value_text : Parts → InstanceParts → Value → List ℕ
value_text p i (value.Truth b) = truth_text b
value_text p i (value.Int n) = signed_decimal n
value_text p i (value.Level l) = nth_name p.level_names l
value_text p i (value.Member k m) = nth_name (slice_index_or i.members k []) m
value_text p i value.Unknown = codes "?"

-- a value of some type in the instance
abbrev pub IsValueIn : Parts → InstanceParts → Value → Type 0
IsValueIn p i v = (t : Ty) × IsTrue (is_value (sizes_of p (filling_of i)) t v)

-- the same of the value that is answered
abbrev pub IsAnswerIn : Parts → InstanceParts → Answer → Type 0
IsAnswerIn p i (answer.Value v) = IsValueIn p i v
IsAnswerIn p i a = Unit {0}

-- the name of a function's exception
abbrev pub exception_name : Option Function → ℕ → List ℕ
exception_name None n = []
exception_name (Some f) n = nth_name (map (λ (x : List ℕ × Expr). x.0) f.exceptions) n

-- `DONE`, `EXCEPTION name` or `VALUE v`
abbrev pub answer_text : Parts → InstanceParts → ℕ → Answer → List ℕ
answer_text p i g answer.Done = codes "DONE"
answer_text p i g (answer.Exception n) = codes "EXCEPTION " ++ exception_name (slice_get p.functions g) n
answer_text p i g (answer.Value v) = codes "VALUE " ++ value_text p i v
