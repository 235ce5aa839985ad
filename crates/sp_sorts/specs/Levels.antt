-- The word for a level, which is judged as a text of the name LEVEL. For the commands that take a level.
use Rattle.std.specs.Prelude.{◌≡◌, ℕ, ◌≤◌, List, [], ◌∷◌, Option, Some, None, Result, Ok, Err, codes, length, position}
use Rattle.std.specs.Str.{bytes_eq}
use Rattle.sp_text.specs.declared.fault.Rule.{Rule}
use Rattle.sp_text.specs.declared.fault.Rule.TheVariants as rule
use Rattle.sp_text.specs.declared.fault.Span.{Span}
use Rattle.sp_text.specs.declared.fault.TextFault.{TextFault}
use Rattle.sp_text.specs.declared.fault.TextFault.TheVariants as fault
use Rattle.sp_text.specs.declared.limits.TheConstants.{MOST_FILE_BYTES}
use Rattle.sp_text.specs.declared.token.Keyword.TheVariants as word
use Rattle.sp_text.specs.declared.token.Token.{Token}
use Rattle.sp_text.specs.declared.token.TokenKind.{TokenKind}
use Rattle.sp_text.specs.declared.token.TokenKind.TheVariants as kind
use Rattle.sp_frame.specs.declared.refusal.Refusal.TheVariants as refusal
use Rattle.sp_frame.specs.Steps.{Demand, Judged, Step, Then}
use Rattle.sp_sorts.specs.Texts.{Lexed}

-- a rule that is broken at a place
abbrev pub broken_at : Span → Rule → TextFault
broken_at span r = fault.Malformed (record { span = span; rule = r })

-- the levels by their names in order, of which these are the least and the greatest
module _ (names : List (List ℕ)) (least greatest : ℕ) where
  -- the level that was found, if any
  abbrev pub level_found : Span → Option ℕ → Result ℕ TextFault
  level_found span None = Err (broken_at span rule.UnknownName)
  level_found span (Some l) = Ok l

  -- the level that a token is
  abbrev pub level_at : Span → TokenKind → Result ℕ TextFault
  level_at span (kind.Name name) = level_found span (position (λ other. bytes_eq other name) names)
  level_at span (kind.Word word.Bottom) = Ok least
  level_at span (kind.Word word.Top) = Ok greatest
  level_at span k = Err (broken_at span rule.UnknownName)

  -- the level that is the only token of a text of this length
  abbrev pub level_of : ℕ → List Token → Result ℕ TextFault
  level_of end [] = Err (broken_at (record { start = end; end = end }) rule.Unexpected)
  level_of end (t ∷ []) = level_at t.span t.kind
  level_of end (t ∷ u ∷ ts) = Err (broken_at u.span rule.Unexpected)

  -- the word is read as a level
  abbrev pub LevelRead : List ℕ → Result ℕ TextFault → Type 0
  LevelRead text = Then (Lexed text) (λ tokens out. out ≡ level_of (length text) tokens)

  -- the word is judged as a text of the name LEVEL
  abbrev pub LevelJudged : List ℕ → Step ℕ
  LevelJudged text = Then (Demand (length text ≤ MOST_FILE_BYTES) refusal.LongWord) (λ _. Judged (codes "LEVEL") (LevelRead text))
