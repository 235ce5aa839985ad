use Rattle.std.proofs.Common.{refl}
use Rattle.sp_values.specs.declared.value.Ty.TheVariants as ty
use Rattle.sp_report_tests.proofs.answers.answers_are_printed.Goals as goal

pub is_answer_printed-requires : goal.is_answer_printed-requires
is_answer_printed-requires c = λ x p i. tt

pub is_answer_printed-requires-2 : goal.is_answer_printed-requires-2
is_answer_printed-requires-2 c = λ x p i. (ty.Integer, refl)
