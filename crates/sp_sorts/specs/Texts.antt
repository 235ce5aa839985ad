-- What the bytes of a text are read as: they are divided into tokens, and a grammar reads all the tokens. For the sorts of texts
-- that commands read.
use Rattle.std.specs.Prelude.{ℕ, List, Result, Ok, Err, length}
use Rattle.sp_text.specs.declared.fault.TextFault.{TextFault}
use Rattle.sp_text.specs.declared.fault.TextFault.TheVariants as fault
use Rattle.sp_text.specs.declared.limits.TheConstants.{MOST_FILE_BYTES}
use Rattle.sp_text.specs.declared.token.Token.{Token}
use Rattle.sp_outside.specs.Files.{Files}
use Rattle.sp_lexer.specs.Faults.{IsFirstFault}
use Rattle.sp_lexer.specs.Tokens.{IsTokens}
use Rattle.sp_frame.specs.Files.{FileRead, IsReading, Sort}
use Rattle.sp_frame.specs.Steps.{Gives, Step, Then}
use Rattle.sp_sorts.specs.declared.reading.Reading.{Reading}

-- a text is divided into tokens, or has a fault
abbrev pub Lexed : List ℕ → Result (List Token) TextFault → Type 0
Lexed text (Ok tokens) = IsTokens text tokens
Lexed text (Err f) = IsFirstFault text f

-- what a call answers about a text, where that isn't want of memory
abbrev pub Answered : {T : Type 0} → (Result T TextFault → Type 0) → Result T TextFault → Type 0
Answered answers (Ok x) = answers (Ok x)
Answered answers (Err fault.Memory) = ⊥
Answered answers (Err f) = answers (Err f)

-- what the tokens of a text of this length are read as: a tree, or a fault
abbrev pub Grammar : Type 0 → Type 1
Grammar T = List Token → ℕ → Result T TextFault → Type 0

module _ {T : Type 0} (grammar : Grammar T) where
  -- what a text is read as
  abbrev pub Read : List ℕ → Result (Reading T) TextFault → Type 0
  Read text = Then (Lexed text) (λ tokens. Then (Answered (grammar tokens (length text))) (λ tree. Gives (record { tree = tree })))

  abbrev pub text_sort : Sort (Reading T)
  text_sort = record { most = MOST_FILE_BYTES; reads = Read }

  -- a file is loaded, and its text read as a tree
  abbrev pub TreeRead : List ℕ → Files → Step T
  TreeRead name files = Then (FileRead text_sort name files) (λ x. Gives x.tree)

  -- the tree is that of some text, whatever the library tells
  abbrev pub IsTree : T → Type 0
  IsTree tree = IsReading text_sort (record { tree = tree })
