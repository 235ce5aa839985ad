-- What is kept of decisions: the certificates of the formulas that are proved. For what `prove` prints.
use Rattle.std.specs.Prelude.{◌≡◌, List, [], ◌∷◌, Result, Ok, Err}
use Rattle.sp_cert.specs.Tree.{Tree, tree}
use Rattle.sp_core.specs.Parts.{Parts}
use Rattle.sp_rules.specs.Questions.{Question}
use Rattle.sp_sequent.specs.Claims.{question_of}
use Rattle.sp_formulas.specs.Formulas.{Formula}
use Rattle.sp_frame.specs.declared.refusal.Stop.{Stop}
use Rattle.sp_hold.specs.Holding.{claim}
use Rattle.sp_prover.specs.Deciding.{IsProof}
use Rattle.sp_deciding.specs.Decided.{IsFirstBranch}
use Rattle.sp_deciding.specs.declared.deciding.Decision.{Decision}
use Rattle.sp_deciding.specs.declared.deciding.Decision.TheVariants as decision
use Rattle.sp_prove_command.specs.declared.proving.Found.{Found}
use Rattle.sp_prove_command.specs.declared.proving.Found.TheVariants as found
use Rattle.sp_prove_command.specs.declared.proving.Proofs.{Proofs}

-- of each formula that is proved, in order, a proof is kept
abbrev pub AreKept : Parts → List Formula → List Decision → List Tree → Type 0
AreKept p [] [] [] = Unit {0}
AreKept p (o ∷ os) (decision.Proved ∷ ds) (t ∷ ts) = IsProof (question_of p (claim o)) t × AreKept p os ds ts
AreKept p (o ∷ os) (decision.Open vs ∷ ds) ts = AreKept p os ds ts
AreKept p os ds ts = ⊥

-- ---- what was found of a formula

abbrev pub decision_found : Found → Decision
decision_found (found.Proved c) = decision.Proved
decision_found (found.Open vs) = decision.Open vs

abbrev pub trees_found : Found → List Tree
trees_found (found.Proved c) = tree c ∷ []
trees_found (found.Open vs) = []

-- the certificate is a proof, and the values are those of the first open branch
abbrev pub IsFound : Question → Found → Type 0
IsFound q (found.Proved c) = IsProof q (tree c)
IsFound q (found.Open vs) = IsFirstBranch q vs

-- what was decided of one formula, and of all
abbrev pub as_decision : Result Found Stop → Result Decision Stop
as_decision (Ok f) = Ok (decision_found f)
as_decision (Err s) = Err s

abbrev pub as_decisions : Result Proofs Stop → Result (List Decision) Stop
as_decisions (Ok ps) = Ok ps.decisions.items
as_decisions (Err s) = Err s
