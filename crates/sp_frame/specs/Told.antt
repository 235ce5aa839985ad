-- What a crate below answers, with faults of its own, as the outcome of a step. `Judged name` is `Told (IsNamed name)`.
use Rattle.std.specs.Prelude.{Result}
use Rattle.sp_frame.specs.Steps.{Step}

-- the crate's answer, seen as an outcome
abbrev pub Told : {T U F : Type 0} → (Result T F → Step U) → (Result T F → Type 0) → Step U
Told {T} {U} {F} seen answers out = (answer : Result T F) × answers answer × seen answer out
