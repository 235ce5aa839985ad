-- A step by what a crate below answers is lawful, where the answer is one at most and is seen lawfully.
use Rattle.std.proofs.Common.{Result, subst}
use Rattle.sp_outside.specs.Files.{Files}
use Rattle.sp_frame.specs.Laws.{IsLawful, IsOnce}
use Rattle.sp_frame.specs.Steps.{Step}
use Rattle.sp_frame.specs.Told.{Told}

pub told_lawful : (files : Files) {T U F : Type 0} (seen : Result T F → Step U) (answers : Result T F → Type 0) → IsOnce answers → ((answer : Result T F) → IsLawful files (seen answer)) → IsLawful files (Told seen answers)
told_lawful files seen answers once lawful = record {
  once = λ a b p q. (lawful q.0).once a b (subst (λ answer. seen answer a) (once p.0 q.0 p.1 q.1) p.2) q.2;
  due = λ r p. (lawful p.0).due r p.2;
}
