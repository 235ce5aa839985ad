-- The step that loads the text of a file, and the one that reads it as a text of a sort. For the work of each command.
use Rattle.std.specs.Prelude.{◌≡◌, ℕ, List, Option, Some, None, Ok, Err, Result, length, nat_le, if◌then◌else◌}
use Rattle.sp_text.specs.declared.fault.TextFault.{TextFault}
use Rattle.sp_outside.specs.Files.{Files, first_file}
use Rattle.sp_frame.specs.declared.refusal.Refusal.{Refusal}
use Rattle.sp_frame.specs.declared.refusal.Refusal.TheVariants as refusal
use Rattle.sp_frame.specs.Steps.{Judged, Step, Then}

-- a sort of texts: the greatest number of bytes, and what the bytes are read as, a value or a fault
pub record Sort (T : Type 0) : Type 1 where
  pub most : ℕ
  pub reads : List ℕ → Result T TextFault → Type 0

-- the text of this name, where it has at most so many bytes
abbrev pub text_within : List ℕ → ℕ → List ℕ → Result (List ℕ) Refusal
text_within name most text = if nat_le (length text) most then Ok text else Err (refusal.TooLong name most)

-- the text of the file, where there is one
abbrev pub text_found : List ℕ → ℕ → Option (List ℕ) → Result (List ℕ) Refusal
text_found name most None = Err (refusal.Missing name)
text_found name most (Some text) = text_within name most text

-- a file is missing, or too long, or its bytes are loaded
abbrev pub Loaded : List ℕ → ℕ → Files → Step (List ℕ)
Loaded name most files out = out ≡ text_found name most (first_file name files)

-- a file is loaded, and its text read as one of this sort
abbrev pub FileRead : {T : Type 0} → Sort T → List ℕ → Files → Step T
FileRead sort name files = Then (Loaded name sort.most files) (λ text. Judged name (sort.reads text))

-- the value is that of some text, whatever the library tells
abbrev pub IsReading : {T : Type 0} → Sort T → T → Type 0
IsReading sort x = (text : List ℕ) × sort.reads text (Ok x)
