-- What the reader of a whole text answers, token by token: its tree, or a fault at the first token that no text within the
-- limits goes on with. For the contract of each such reader, which names the form of its texts.
use Rattle.std.specs.Prelude.{◌≡◌, ◌≢◌, ◌⊎◌, ℕ, suc, ◌<◌, List, length, Option, None, Some, Result, MatchResult, slice_get}
use Rattle.sp_text.specs.declared.limits.TheConstants.{MOST_EFFECT_NESTING, MOST_HEIGHT}
use Rattle.sp_text.specs.declared.fault.Limit.{Limit}
use Rattle.sp_text.specs.declared.fault.Span.{Span}
use Rattle.sp_text.specs.declared.token.Token.{Token}
use Rattle.sp_text.specs.declared.fault.TextFault.{TextFault}
use Rattle.sp_text.specs.declared.fault.TextFault.TheVariants as fault
use Rattle.sp_text.specs.declared.fault.Rule.TheVariants.{Unexpected}
use Rattle.sp_text.specs.declared.fault.Quantity.{Quantity}
use Rattle.sp_text.specs.declared.fault.Quantity.TheVariants as quantity
use Rattle.sp_grammar.specs.Lang.{Lang, Prefix}
use Rattle.sp_grammar.specs.Codes.{place_of}
use Rattle.sp_grammar.specs.Within.{Limits, Budget, of_height, of_nesting, Keeps, Raises}

-- the limits of a text: the height of its expressions, and how deep its effects are nested
abbrev pub most : Limits
most = record { height = MOST_HEIGHT; nesting = MOST_EFFECT_NESTING }

-- the limit that a budget is
abbrev pub quantity_of : Budget → Quantity
quantity_of of_height = quantity.Height
quantity_of of_nesting = quantity.EffectNesting

-- the whole list of tokens reads as F within the limits, and stands for v
abbrev pub IsRead : {V : Type 0} → (Limits → Lang V) → List Token → V → Type 0
IsRead F ts v = (F most).whole v 0 (length ts)

-- the whole list of tokens doesn't read as F within the limits
abbrev pub IsUnread : {V : Type 0} → (Limits → Lang V) → List Token → Type 0
IsUnread {V} F ts = (v : V) → IsRead F ts v → ⊥

-- n is the place of the first token such that the tokens up to and with it are a prefix of no F within the limits
pub record IsFirstOff {V : Type 0} (F : Limits → Lang V) (n : ℕ) : Type 0 where
  pub before : (m : ℕ) → m < n → Prefix (F most) 0 (suc m)
  pub off : Prefix (F most) 0 (suc n) → ⊥

-- the tokens up to and with the one at n are a prefix of no F at all
abbrev pub IsOffEach : {V : Type 0} → (Limits → Lang V) → ℕ → Type 0
IsOffEach F n = (l : Limits) → Prefix (F l) 0 (suc n) → ⊥

-- the token at n exceeds this limit: the tokens up to and with it are a prefix of some F with a larger budget of this kind,
-- and of none with the same one
pub record IsOver {V : Type 0} (F : Limits → Lang V) (q : Budget) (n : ℕ) : Type 0 where
  pub over : (l : Limits) × Raises q most l × Prefix (F l) 0 (suc n)
  pub same : (l : Limits) → Keeps q most l → Prefix (F l) 0 (suc n) → ⊥

-- The fault is at the first token off, or at the end of the text where there is none: a limit where it exceeds one, else
-- Unexpected.
abbrev pub RefusesText : {V : Type 0} → (Limits → Lang V) → List Token → ℕ → TextFault → Type 0
RefusesText F ts end (fault.Malformed m) = (n : ℕ) × IsFirstOff F n × IsOffEach F n × IsUnread F ts × (m ≡ record { span = place_of ts end n; rule = Unexpected })
RefusesText F ts end (fault.Limit l) = (q : Budget) × (n : ℕ) × IsFirstOff F n × IsOver F q n × IsUnread F ts × (l ≡ record { span = place_of ts end n; quantity = quantity_of q })
RefusesText F ts end fault.Memory = Unit {0}

-- Where the tokens read, the tree that they stand for; else the fault.
abbrev pub AnswersText : {V : Type 0} → (Limits → Lang V) → List Token → ℕ → Result V TextFault → Type 0
AnswersText F ts end r = MatchResult r (IsRead F ts) (RefusesText F ts end)

-- Where the tokens read, no other answer comes, unless memory runs out.
abbrev pub AnswersTextOnly : {V : Type 0} → (Limits → Lang V) → List Token → Result V TextFault → Type 0
AnswersTextOnly {V} F ts r = (v : V) → IsRead F ts v → MatchResult r (λ u. u ≡ v) (λ e. e ≡ fault.Memory)

-- Texts that read and whose trees may then exceed a number: `over` gives the limit that a tree exceeds, if any.

-- the limit that the parts at these places exceed, at the first over the number
abbrev pub limit_at : Quantity → Option Span → Option Limit
limit_at q None = None
limit_at q (Some s) = Some (record { span = s; quantity = q })

abbrev pub over_number : ℕ → Quantity → List Span → Option Limit
over_number n q spans = limit_at q (slice_get spans n)

-- The fault is that of a text that doesn't read, or the limit that the tree of one that reads exceeds.
abbrev pub RefusesCounted : {V : Type 0} → (Limits → Lang V) → (V → Option Limit) → List Token → ℕ → TextFault → Type 0
RefusesCounted F over ts end (fault.Malformed m) = RefusesText F ts end (fault.Malformed m)
RefusesCounted {V} F over ts end (fault.Limit l) = RefusesText F ts end (fault.Limit l) ⊎ ((v : V) × IsRead F ts v × (over v ≡ Some l))
RefusesCounted F over ts end fault.Memory = Unit {0}

-- Where the tokens read and their tree exceeds no number, the tree; else the fault.
abbrev pub AnswersCounted : {V : Type 0} → (Limits → Lang V) → (V → Option Limit) → List Token → ℕ → Result V TextFault → Type 0
AnswersCounted F over ts end r = MatchResult r (λ v. IsRead F ts v × (over v ≡ None)) (RefusesCounted F over ts end)

-- what is answered where v is read and exceeds this limit, or none, unless memory runs out
abbrev pub ReadOrOver : {V : Type 0} → V → Option Limit → Result V TextFault → Type 0
ReadOrOver v None r = MatchResult r (λ u. u ≡ v) (λ e. e ≡ fault.Memory)
ReadOrOver v (Some l) r = MatchResult r (λ u. ⊥) (λ e. (e ≢ fault.Memory) → e ≡ fault.Limit l)

-- Where the tokens read, no other answer comes, unless memory runs out.
abbrev pub AnswersCountedOnly : {V : Type 0} → (Limits → Lang V) → (V → Option Limit) → List Token → Result V TextFault → Type 0
AnswersCountedOnly {V} F over ts r = (v : V) → IsRead F ts v → ReadOrOver v (over v) r
