-- A number for each kind of token, so that the forms of a grammar can tell tokens apart by computing, with a name for each;
-- and the tokens of a text by their places. For every definition and every reader of a list of tokens.
use Rattle.std.specs.Prelude.{ℕ, ◌-◌, List, Option, Some, None, slice_get}
use Rattle.sp_text.specs.declared.fault.Span.{Span}
use Rattle.sp_text.specs.declared.token.Token.{Token}
use Rattle.sp_text.specs.declared.token.TokenKind.{TokenKind}
use Rattle.sp_text.specs.declared.token.TokenKind.TheVariants as kind
use Rattle.sp_text.specs.declared.token.Keyword.{Keyword}
use Rattle.sp_text.specs.declared.token.Keyword.TheVariants as word
use Rattle.sp_text.specs.declared.token.Symbol.{Symbol}
use Rattle.sp_text.specs.declared.token.Symbol.TheVariants as mark

abbrev pub word_code : Keyword → ℕ
word_code word.Module = 1
word_code word.EndModule = 2
word_code word.Types = 3
word_code word.Parameters = 4
word_code word.Definitions = 5
word_code word.ExternalRefs = 6
word_code word.Assertions = 7
word_code word.Functions = 8
word_code word.Designator = 9
word_code word.Boolean = 10
word_code word.Integer = 11
word_code word.Level = 12
word_code word.From = 13
word_code word.Is = 14
word_code word.Vfun = 15
word_code word.Ofun = 16
word_code word.Ovfun = 17
word_code word.Hidden = 18
word_code word.Exceptions = 19
word_code word.Initially = 20
word_code word.Derivation = 21
word_code word.Effects = 22
word_code word.If = 23
word_code word.Then = 24
word_code word.Else = 25
word_code word.EndIf = 26
word_code word.Forall = 27
word_code word.EndForall = 28
word_code word.Exists = 29
word_code word.EndExists = 30
word_code word.Not = 31
word_code word.And = 32
word_code word.Or = 33
word_code word.Implies = 34
word_code word.Iff = 35
word_code word.Lub = 36
word_code word.Glb = 37
word_code word.True = 38
word_code word.False = 39
word_code word.Bottom = 40
word_code word.Top = 41
word_code word.Interface = 42
word_code word.EndInterface = 43
word_code word.Modules = 44
word_code word.Lattice = 45
word_code word.Order = 46
word_code word.Chain = 47
word_code word.Categories = 48
word_code word.Sample = 49
word_code word.Instance = 50
word_code word.EndInstance = 51
word_code word.Population = 52
word_code word.Parameter = 53
word_code word.Otherwise = 54
word_code word.Hierarchy = 55
word_code word.EndHierarchy = 56
word_code word.Over = 57
word_code word.By = 58
word_code word.Mapping = 59
word_code word.EndMapping = 60
word_code word.To = 61

abbrev pub symbol_code : Symbol → ℕ
symbol_code mark.LeftParenthesis = 62
symbol_code mark.RightParenthesis = 63
symbol_code mark.LeftBrace = 64
symbol_code mark.RightBrace = 65
symbol_code mark.Comma = 66
symbol_code mark.Semicolon = 67
symbol_code mark.Colon = 68
symbol_code mark.Equal = 69
symbol_code mark.NotEqual = 70
symbol_code mark.Less = 71
symbol_code mark.LessOrEqual = 72
symbol_code mark.Greater = 73
symbol_code mark.GreaterOrEqual = 74
symbol_code mark.Plus = 75
symbol_code mark.Minus = 76
symbol_code mark.Star = 77
symbol_code mark.Arrow = 78
symbol_code mark.Quote = 79
symbol_code mark.Question = 80

-- any name has this code
abbrev pub name_code : ℕ
name_code = 81

-- any number has this code
abbrev pub number_code : ℕ
number_code = 82

abbrev pub kind_code : TokenKind → ℕ
kind_code (kind.Word w) = word_code w
kind_code (kind.Symbol s) = symbol_code s
kind_code (kind.Name n) = name_code
kind_code (kind.Number n) = number_code

abbrev pub code_or_end : Option Token → ℕ
code_or_end None = 0
code_or_end (Some t) = kind_code t.kind

-- the code of the token at a place, or 0 past the last
unfoldable pub code_at : List Token → ℕ → ℕ
code_at ts i = code_or_end (slice_get ts i)

abbrev pub start_or : ℕ → Option Token → ℕ
start_or end None = end
start_or end (Some t) = t.span.start

abbrev pub end_or : ℕ → Option Token → ℕ
end_or end None = end
end_or end (Some t) = t.span.end

-- from the first byte of the token at i to the last byte of the token before j
unfoldable pub span_of : List Token → ℕ → ℕ → Span
span_of ts i j = record { start = start_or 0 (slice_get ts i); end = end_or 0 (slice_get ts (j - 1)) }

-- where the token at n stands, or, past the last, the end of the text
unfoldable pub place_of : List Token → ℕ → ℕ → Span
place_of ts end n = record { start = start_or end (slice_get ts n); end = end_or end (slice_get ts n) }

-- The code of each keyword and symbol, by name.

abbrev pub word_module : ℕ
word_module = word_code word.Module

abbrev pub word_end_module : ℕ
word_end_module = word_code word.EndModule

abbrev pub word_types : ℕ
word_types = word_code word.Types

abbrev pub word_parameters : ℕ
word_parameters = word_code word.Parameters

abbrev pub word_definitions : ℕ
word_definitions = word_code word.Definitions

abbrev pub word_external_refs : ℕ
word_external_refs = word_code word.ExternalRefs

abbrev pub word_assertions : ℕ
word_assertions = word_code word.Assertions

abbrev pub word_functions : ℕ
word_functions = word_code word.Functions

abbrev pub word_designator : ℕ
word_designator = word_code word.Designator

abbrev pub word_boolean : ℕ
word_boolean = word_code word.Boolean

abbrev pub word_integer : ℕ
word_integer = word_code word.Integer

abbrev pub word_level : ℕ
word_level = word_code word.Level

abbrev pub word_from : ℕ
word_from = word_code word.From

abbrev pub word_is : ℕ
word_is = word_code word.Is

abbrev pub word_vfun : ℕ
word_vfun = word_code word.Vfun

abbrev pub word_ofun : ℕ
word_ofun = word_code word.Ofun

abbrev pub word_ovfun : ℕ
word_ovfun = word_code word.Ovfun

abbrev pub word_hidden : ℕ
word_hidden = word_code word.Hidden

abbrev pub word_exceptions : ℕ
word_exceptions = word_code word.Exceptions

abbrev pub word_initially : ℕ
word_initially = word_code word.Initially

abbrev pub word_derivation : ℕ
word_derivation = word_code word.Derivation

abbrev pub word_effects : ℕ
word_effects = word_code word.Effects

abbrev pub word_if : ℕ
word_if = word_code word.If

abbrev pub word_then : ℕ
word_then = word_code word.Then

abbrev pub word_else : ℕ
word_else = word_code word.Else

abbrev pub word_end_if : ℕ
word_end_if = word_code word.EndIf

abbrev pub word_forall : ℕ
word_forall = word_code word.Forall

abbrev pub word_end_forall : ℕ
word_end_forall = word_code word.EndForall

abbrev pub word_exists : ℕ
word_exists = word_code word.Exists

abbrev pub word_end_exists : ℕ
word_end_exists = word_code word.EndExists

abbrev pub word_not : ℕ
word_not = word_code word.Not

abbrev pub word_and : ℕ
word_and = word_code word.And

abbrev pub word_or : ℕ
word_or = word_code word.Or

abbrev pub word_implies : ℕ
word_implies = word_code word.Implies

abbrev pub word_iff : ℕ
word_iff = word_code word.Iff

abbrev pub word_lub : ℕ
word_lub = word_code word.Lub

abbrev pub word_glb : ℕ
word_glb = word_code word.Glb

abbrev pub word_true : ℕ
word_true = word_code word.True

abbrev pub word_false : ℕ
word_false = word_code word.False

abbrev pub word_bottom : ℕ
word_bottom = word_code word.Bottom

abbrev pub word_top : ℕ
word_top = word_code word.Top

abbrev pub word_interface : ℕ
word_interface = word_code word.Interface

abbrev pub word_end_interface : ℕ
word_end_interface = word_code word.EndInterface

abbrev pub word_modules : ℕ
word_modules = word_code word.Modules

abbrev pub word_lattice : ℕ
word_lattice = word_code word.Lattice

abbrev pub word_order : ℕ
word_order = word_code word.Order

abbrev pub word_chain : ℕ
word_chain = word_code word.Chain

abbrev pub word_categories : ℕ
word_categories = word_code word.Categories

abbrev pub word_sample : ℕ
word_sample = word_code word.Sample

abbrev pub word_instance : ℕ
word_instance = word_code word.Instance

abbrev pub word_end_instance : ℕ
word_end_instance = word_code word.EndInstance

abbrev pub word_population : ℕ
word_population = word_code word.Population

abbrev pub word_parameter : ℕ
word_parameter = word_code word.Parameter

abbrev pub word_otherwise : ℕ
word_otherwise = word_code word.Otherwise

abbrev pub word_hierarchy : ℕ
word_hierarchy = word_code word.Hierarchy

abbrev pub word_end_hierarchy : ℕ
word_end_hierarchy = word_code word.EndHierarchy

abbrev pub word_over : ℕ
word_over = word_code word.Over

abbrev pub word_by : ℕ
word_by = word_code word.By

abbrev pub word_mapping : ℕ
word_mapping = word_code word.Mapping

abbrev pub word_end_mapping : ℕ
word_end_mapping = word_code word.EndMapping

abbrev pub word_to : ℕ
word_to = word_code word.To

abbrev pub left_parenthesis : ℕ
left_parenthesis = symbol_code mark.LeftParenthesis

abbrev pub right_parenthesis : ℕ
right_parenthesis = symbol_code mark.RightParenthesis

abbrev pub left_brace : ℕ
left_brace = symbol_code mark.LeftBrace

abbrev pub right_brace : ℕ
right_brace = symbol_code mark.RightBrace

abbrev pub comma : ℕ
comma = symbol_code mark.Comma

abbrev pub semicolon : ℕ
semicolon = symbol_code mark.Semicolon

abbrev pub colon : ℕ
colon = symbol_code mark.Colon

abbrev pub equal : ℕ
equal = symbol_code mark.Equal

abbrev pub not_equal : ℕ
not_equal = symbol_code mark.NotEqual

abbrev pub less : ℕ
less = symbol_code mark.Less

abbrev pub less_or_equal : ℕ
less_or_equal = symbol_code mark.LessOrEqual

abbrev pub greater : ℕ
greater = symbol_code mark.Greater

abbrev pub greater_or_equal : ℕ
greater_or_equal = symbol_code mark.GreaterOrEqual

abbrev pub plus : ℕ
plus = symbol_code mark.Plus

abbrev pub minus : ℕ
minus = symbol_code mark.Minus

abbrev pub asterisk : ℕ
asterisk = symbol_code mark.Star

abbrev pub arrow : ℕ
arrow = symbol_code mark.Arrow

abbrev pub quote : ℕ
quote = symbol_code mark.Quote

abbrev pub question : ℕ
question = symbol_code mark.Question
