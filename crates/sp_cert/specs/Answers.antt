-- What reading a text of certificates answers: the file that it spells, or the first line that doesn't fit, or the first
-- SPLIT or STEPS line that stands too deep. All of it is said of the spelling alone.
use Rattle.std.specs.Prelude.{◌≡◌, ◌≢◌, ℕ, ◌+◌, ◌⊎◌, ◌&&◌, ◌==◌, not, Bool, true, List, [], ◌∷◌, ◌++◌, length, Result, Ok, Err}
use Rattle.sp_text.specs.declared.fault.Span.{Span}
use Rattle.sp_text.specs.declared.fault.TextFault.{TextFault}
use Rattle.sp_text.specs.declared.fault.TextFault.TheVariants as fault
use Rattle.sp_text.specs.declared.fault.Rule.TheVariants.{BadLine}
use Rattle.sp_text.specs.declared.fault.Quantity.TheVariants.{CertificateDepth}
use Rattle.sp_cert.specs.declared.cert.CertFile.{CertFile}
use Rattle.sp_cert.specs.Tree.{File, file_of}
use Rattle.sp_cert.specs.Spelling.{lines, text, spelling}
use Rattle.sp_cert.specs.Within.{IsFile}

-- these lines begin a text of certificates
pub record Begins (depth : ℕ) (front : List (List ℕ)) : Type 0 where
  pub file : File
  pub good : IsFile depth file
  pub more : List (List ℕ)
  pub is : lines file ≡ front ++ more

-- no line feed
abbrev pub feed_free : List ℕ → Bool
feed_free [] = true
feed_free (b ∷ l) = not (b == 10) && feed_free l

-- whole lines, then a line's bytes at this span, then the rest
pub record Stands (bytes : List ℕ) (s : Span) (before : List (List ℕ)) (line rest : List ℕ) : Type 0 where
  pub is : bytes ≡ text before ++ (line ++ rest)
  pub free : feed_free line ≡ true
  pub start : s.start ≡ length (text before)
  pub end : s.end ≡ s.start + length line

-- The lines before begin a text within the limit of depth. With this line they begin none, of whatever depth.
pub record Misfits (bytes : List ℕ) (s : Span) : Type 0 where
  pub before : List (List ℕ)
  pub line : List ℕ
  pub more : List ℕ
  pub stands : Stands bytes s before line (10 ∷ more)
  pub begun : Begins 64 before
  pub refused : (depth : ℕ) → Begins depth (before ++ line ∷ []) → ⊥

-- The lines before begin a text within the limit of depth, and what stands behind them is no whole line. The text is none of
-- certificates.
pub record EndsEarly (bytes : List ℕ) (s : Span) : Type 0 where
  pub before : List (List ℕ)
  pub line : List ℕ
  pub stands : Stands bytes s before line []
  pub begun : Begins 64 before
  pub refused : (depth : ℕ) (f : File) → IsFile depth f → spelling f ≢ bytes

-- The lines before begin a text within the limit of depth. With this line they begin one of depth 65, and none within the
-- limit.
pub record TooDeep (bytes : List ℕ) (s : Span) : Type 0 where
  pub before : List (List ℕ)
  pub line : List ℕ
  pub more : List ℕ
  pub stands : Stands bytes s before line (10 ∷ more)
  pub begun : Begins 64 before
  pub deeper : Begins 65 (before ++ line ∷ [])
  pub refused : Begins 64 (before ++ line ∷ []) → ⊥

abbrev pub Answers : List ℕ → Result CertFile TextFault → Type 0
Answers bytes (Ok r) = IsFile 64 (file_of r) × (spelling (file_of r) ≡ bytes)
Answers bytes (Err (fault.Malformed m)) = (m.rule ≡ BadLine) × (Misfits bytes m.span ⊎ EndsEarly bytes m.span)
Answers bytes (Err (fault.Limit l)) = (l.quantity ≡ CertificateDepth) × TooDeep bytes l.span
Answers bytes (Err fault.Memory) = Unit {0}

-- the law: no spelling stands for two files
abbrev pub OneSpelling : Type 0
OneSpelling = (depth : ℕ) (f g : File) → IsFile depth f → IsFile depth g → spelling f ≡ spelling g → f ≡ g
