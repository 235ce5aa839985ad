-- `migrate`: the certificates of a file that `verify` accepts, in the second format.
use Rattle.std.specs.Prelude.{ℕ, ◌==◌, if◌then◌else◌, List, [], ◌∷◌, None}
use Rattle.sp_outside.specs.Files.{Files}
use Rattle.sp_core.specs.Parts.{Parts}
use Rattle.sp_sequent.specs.Claims.{question_of}
use Rattle.sp_formulas.specs.Formulas.{Formula}
use Rattle.sp_hold.specs.Holding.{claim}
use Rattle.sp_cert.specs.Spelling.{spelling}
use Rattle.sp_cert.specs.Tree.{File, Tree}
use Rattle.sp_checker.specs.Lifts.{lifted_for}
use Rattle.sp_frame.specs.declared.refusal.Verdict.{Verdict}
use Rattle.sp_frame.specs.declared.refusal.Verdict.TheVariants as verdict
use Rattle.sp_frame.specs.Endings.{printed}
use Rattle.sp_frame.specs.Steps.{Gives, Step, Then}
use Rattle.sp_frame.specs.Uncertified.{Lines}
use Rattle.sp_formula_list.specs.Listed.{FormulasListed}
use Rattle.sp_system.specs.System.{SystemJudged}
use Rattle.sp_verify_command.specs.declared.reading.Texts.{Texts}
use Rattle.sp_verify_command.specs.Judged.{file_verdict}
use Rattle.sp_verify_command.specs.Verify.{TextsRead, verify_answer}

-- the certificate of each formula, migrated
abbrev pub lifted_trees : Parts → List Formula → List Tree → List Tree
lifted_trees p [] ts = []
lifted_trees p (o ∷ os) [] = []
lifted_trees p (o ∷ os) (t ∷ ts) = lifted_for (question_of p (claim o)) t ∷ lifted_trees p os ts

-- a file of the second format stays as it stands
abbrev pub migrated : Parts → List Formula → File → File
migrated p os f = if f.format == 2 then f else record { format = 2; trees = lifted_trees p os f.trees }

-- where this is the verdict on the file, the text of the migrated file, else what `verify` answers
abbrev pub migrate_by : Parts → List Formula → File → Verdict → Lines
migrate_by p os f verdict.Ok = printed (spelling (migrated p os f)) verdict.Ok
migrate_by p os f v = verify_answer p os f.trees

abbrev pub migrate_answer : Parts → List Formula → File → Lines
migrate_answer p os f = migrate_by p os f (file_verdict p os f.trees)

-- the formulas of the specification are listed, and their certificates are judged, and then they are migrated
abbrev pub MigrateAnswered : Parts → File → Step Lines
MigrateAnswered p f = Then (FormulasListed None p) (λ os. Gives (migrate_answer p os f))

-- the texts are judged, and then the certificates
abbrev pub MigrateWork : List ℕ → Texts → Step Lines
MigrateWork interface x = Then (SystemJudged interface x.system) (λ e. MigrateAnswered e.spec x.certificates)

-- the texts are read, as those of `verify`, and then the work is done
unfoldable pub MigrateDone : List ℕ → List ℕ → Files → Step Lines
MigrateDone interface certs files = Then (TextsRead interface certs files) (MigrateWork interface)
