-- What the reader of expressions answers, token by token: the longest list of tokens that an expression can begin with, and
-- the first token that exceeds it or its height. For whoever reads a text's expressions.
use Rattle.std.specs.Prelude.{◌≡◌, ℕ, suc, ◌<◌, ◌≤◌, List, Result, MatchResult}
use Rattle.sp_text.specs.declared.token.Token.{Token}
use Rattle.sp_text.specs.declared.fault.TextFault.{TextFault}
use Rattle.sp_text.specs.declared.fault.TextFault.TheVariants as fault
use Rattle.sp_text.specs.declared.fault.Rule.TheVariants.{Unexpected}
use Rattle.sp_text.specs.declared.fault.Quantity.TheVariants.{Height}
use Rattle.sp_tree.specs.declared.expr.ExprTree.{ExprTree}
use Rattle.sp_grammar.specs.Lang.{Lang, Prefix}
use Rattle.sp_grammar.specs.Codes.{place_of}

-- The tokens from i up to n are the front: the longest list from i on that is a prefix of F, of any height.
pub record IsFront (F : ℕ → Lang ExprTree) (i n : ℕ) : Type 0 where
  pub some : (c : ℕ) × Prefix (F c) i n
  pub longest : (c m : ℕ) → Prefix (F c) i m → m ≤ n

-- n is the place of the first token such that the tokens from i up to and with it are no prefix of F within the height b.
pub record IsFirstOff (F : ℕ → Lang ExprTree) (b i n : ℕ) : Type 0 where
  pub before : (m : ℕ) → i ≤ m → m < n → Prefix (F b) i (suc m)
  pub off : Prefix (F b) i (suc n) → ⊥

-- the front is not F within the height b
abbrev pub IsNoneOf : (ℕ → Lang ExprTree) → ℕ → ℕ → Type 0
IsNoneOf F b i = (n : ℕ) (v : ExprTree) → IsFront F i n → (F b).whole v i n → ⊥

-- the token at n belongs to the front, and the tokens up to and with it are a prefix of F within a larger height
pub record IsOver (F : ℕ → Lang ExprTree) (b i n : ℕ) : Type 0 where
  pub front : (m : ℕ) × IsFront F i m × (n < m)
  pub larger : (c : ℕ) × (b < c) × Prefix (F c) i (suc n)

-- The fault is at the first token off: Limit height where the token belongs to the front, else Unexpected.
abbrev pub Refused : (ℕ → Lang ExprTree) → ℕ → List Token → ℕ → ℕ → TextFault → Type 0
Refused F b ts end i (fault.Malformed m) = (n : ℕ) × IsFirstOff F b i n × IsFront F i n × IsNoneOf F b i × (m ≡ record { span = place_of ts end n; rule = Unexpected })
Refused F b ts end i (fault.Limit l) = (n : ℕ) × IsFirstOff F b i n × IsOver F b i n × IsNoneOf F b i × (l ≡ record { span = place_of ts end n; quantity = Height })
Refused F b ts end i fault.Memory = Unit {0}

-- Where the front is F within the height b, its tree and the place behind it; else the fault.
abbrev pub Answers : (ℕ → Lang ExprTree) → ℕ → List Token → ℕ → ℕ → Result (ExprTree × ℕ) TextFault → Type 0
Answers F b ts end i r = MatchResult r (λ x. IsFront F i x.1 × (F b).whole x.0 i x.1) (Refused F b ts end i)

-- Where the front is F within the height b, no other answer comes, unless memory runs out.
abbrev pub AnswersOnly : (ℕ → Lang ExprTree) → ℕ → ℕ → Result (ExprTree × ℕ) TextFault → Type 0
AnswersOnly F b i r = (n : ℕ) (v : ExprTree) → IsFront F i n → (F b).whole v i n → MatchResult r (λ x. (x.0 ≡ v) × (x.1 ≡ n)) (λ e. e ≡ fault.Memory)
