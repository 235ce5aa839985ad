-- A cursor over the tokens of a text, and what a reader finds from there on. For the contracts of readers.
use Rattle.std.specs.Prelude.{◌≡◌, ◌≢◌, ℕ, suc, ◌-◌, List, length, Result, Ok, Err}
use Rattle.sp_text.specs.declared.token.Token.{Token}
use Rattle.sp_text.specs.declared.fault.TextFault.{TextFault}
use Rattle.sp_text.specs.declared.fault.TextFault.TheVariants as fault
use Rattle.sp_text.specs.declared.fault.Rule.TheVariants.{Unexpected}
use Rattle.sp_text.specs.declared.fault.Quantity.TheVariants.{Height, EffectNesting}
use Rattle.sp_grammar.specs.Codes.{code_at, place_of}

-- the tokens of a text, its length in bytes, and the place of the next token
pub record Cursor : Type 0 where
  pub tokens : List Token
  pub end : ℕ
  pub place : ℕ

-- the code of the next token, or 0 past the last
unfoldable pub lookahead : Cursor → ℕ
lookahead i = code_at i.tokens i.place

-- the cursor at another place
abbrev pub go : Cursor → ℕ → Cursor
go i j = record i { place = j }

-- behind the next token
unfoldable pub next : Cursor → Cursor
next i = go i (suc i.place)

-- how many tokens there are from the next one on
unfoldable pub left : Cursor → ℕ
left i = length i.tokens - i.place

-- the next token is the first that doesn't go on
unfoldable pub unexpected : Cursor → TextFault
unexpected i = fault.Malformed (record { span = place_of i.tokens i.end i.place; rule = Unexpected })

-- the next token is the first that exceeds the height
unfoldable pub too_high : Cursor → TextFault
too_high i = fault.Limit (record { span = place_of i.tokens i.end i.place; quantity = Height })

-- the next token is the first that exceeds the nesting
unfoldable pub too_deep : Cursor → TextFault
too_deep i = fault.Limit (record { span = place_of i.tokens i.end i.place; quantity = EffectNesting })

-- what is read, and the cursor behind it; else the fault
abbrev pub Outcome : Type 0 → Type 0
Outcome A = Result (A × Cursor) TextFault

abbrev pub Reader : Type 0 → Type 0
Reader A = Cursor → Outcome A

abbrev pub and_then : {A B : Type 0} → Outcome A → (A → Reader B) → Outcome B
and_then (Ok p) f = f p.0 p.1
and_then (Err e) f = Err e

-- What a function that reads answers, unless memory runs out: the reader's outcome. `new` is the cursor that it leaves.
abbrev pub Reads : {A : Type 0} → Outcome A → Result A TextFault → Cursor → Type 0
Reads outcome (Ok a) new = outcome ≡ Ok (a, new)
Reads outcome (Err e) new = e ≢ fault.Memory → outcome ≡ Err e
