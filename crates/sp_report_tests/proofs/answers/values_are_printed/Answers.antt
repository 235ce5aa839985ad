use Rattle.std.proofs.Common.{refl}
use Rattle.sp_values.specs.declared.value.Ty.TheVariants as ty
use Rattle.sp_report_tests.proofs.answers.values_are_printed.Goals as goal

pub is_value_printed-requires : goal.is_value_printed-requires
is_value_printed-requires c = λ x p i. (ty.Boolean, refl)

pub is_value_printed-requires-2 : goal.is_value_printed-requires-2
is_value_printed-requires-2 c = λ x p i. (ty.Integer, refl)
