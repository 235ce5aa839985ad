-- What `prove` certifies, and which bytes are certificates of it.
use Rattle.std.specs.Prelude.{◌≡◌, ℕ, List, [], ◌∷◌}
use Rattle.sp_cert.specs.Spelling.{spelling}
use Rattle.sp_cert.specs.Tree.{File, Tree}
use Rattle.sp_cert.specs.Within.{IsFile}
use Rattle.sp_core.specs.Parts.{Parts}
use Rattle.sp_formulas.specs.Formulas.{Formula, formulas}
use Rattle.sp_frame.specs.Endings.{Answer}
use Rattle.sp_hold.specs.Holding.{claim}
use Rattle.sp_verdicts.specs.Laws.{Certifies}

-- lines, or certificates of a specification
abbrev pub Certificates : Type 0
Certificates = Answer Parts

-- each of the formulas, in order, has its certificate, which checks; there is none besides
abbrev pub AreCertified : Parts → List Formula → List Tree → Type 0
AreCertified p [] [] = Unit {0}
AreCertified p [] (t ∷ ts) = ⊥
AreCertified p (o ∷ os) [] = ⊥
AreCertified p (o ∷ os) (t ∷ ts) = Certifies p (claim o) t × AreCertified p os ts

-- a file of the second format
abbrev pub second_format : List Tree → File
second_format ts = record { format = 2; trees = ts }

-- The bytes spell a certificate file of the second format, with a certificate for each flow formula of the specification, each
-- of which checks.
pub record AreCertificates (p : Parts) (bytes : List ℕ) : Type 0 where
  pub trees : List Tree
  pub certified : AreCertified p (formulas p) trees
  pub within : IsFile 64 (second_format trees)
  pub spelt : bytes ≡ spelling (second_format trees)
