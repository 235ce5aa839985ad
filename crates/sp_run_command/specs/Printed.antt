-- The texts of places, invocations, answers and conflicts, for the lines of `run` and `compare`.
use Rattle.std.specs.Prelude.{ℕ, suc, List, [], ◌∷◌, ◌++◌, Option, Some, None, codes, slice_get}
use Rattle.std.specs.Fmt.{decimal}
use Rattle.sp_values.specs.declared.place.Invocation.{Invocation}
use Rattle.sp_values.specs.declared.place.Place.{Place}
use Rattle.sp_values.specs.declared.value.Value.{Value}
use Rattle.sp_core.specs.declared.function.Answer.{Answer}
use Rattle.sp_core.specs.Instances.{InstanceParts}
use Rattle.sp_core.specs.Parts.{Parts}
use Rattle.sp_report.specs.Answers.{answer_text, value_text}
use Rattle.sp_report.specs.Constants.{name_of_function}

module _ (p : Parts) (i : InstanceParts) where
  -- values with a comma alone before each
  abbrev pub more_text : List Value → List ℕ
  more_text [] = []
  more_text (v ∷ vs) = codes "," ++ value_text p i v ++ more_text vs

  -- values with a comma alone between two
  abbrev pub values_text : List Value → List ℕ
  values_text [] = []
  values_text (v ∷ vs) = value_text p i v ++ more_text vs

  -- a function with its values: `g(v,w)`
  abbrev pub call_text : ℕ → List Value → List ℕ
  call_text g vs = name_of_function (slice_get p.functions g) ++ codes "(" ++ values_text vs ++ codes ")"

  -- an invocation by its number, and its answer
  abbrev pub answer_line : ℕ → Invocation → Answer → List ℕ
  answer_line n j a = decimal n ++ codes " " ++ call_text j.fun j.args ++ codes " " ++ answer_text p i j.fun a ++ codes "\n"

  -- answers of invocations, of which the first has number n
  abbrev pub answer_lines : ℕ → List Invocation → List Answer → List ℕ
  answer_lines n [] as' = []
  answer_lines n (j ∷ js) [] = []
  answer_lines n (j ∷ js) (a ∷ as') = answer_line n j a ++ answer_lines (suc n) js as'

  -- the invocation of this number gives the place two values
  abbrev pub conflict_text : ℕ → Place → Value → Value → List ℕ
  conflict_text n place x y =
      decimal n ++ codes " " ++ call_text place.fun place.args ++ codes " " ++ value_text p i x ++ codes " " ++ value_text p i y ++ codes "\n"
