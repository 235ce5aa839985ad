-- What a reader of one form of expressions answers, and which tokens a form begins with. For the contracts inside this crate.
use Rattle.std.specs.Prelude.{◌≡◌, ℕ, Bool, true, false, List, [], ◌∷◌, Result, MatchResult}
use Rattle.sp_text.specs.declared.token.Token.{Token}
use Rattle.sp_text.specs.declared.fault.TextFault.{TextFault}
use Rattle.sp_text.specs.declared.fault.TextFault.TheVariants as fault
use Rattle.sp_text.specs.declared.fault.Rule.TheVariants.{Unexpected}
use Rattle.sp_text.specs.declared.fault.Quantity.TheVariants.{Height}
use Rattle.sp_tree.specs.declared.expr.ExprTree.{ExprTree}
use Rattle.sp_grammar.specs.Lang.{Lang, Measures, Stops, Exceeds}
use Rattle.sp_grammar.specs.Codes.{place_of, name_code, number_code, word_boolean, word_integer, word_level, word_if, word_forall, word_end_forall, word_exists, word_end_exists, word_not, word_lub, word_glb, word_true, word_false, word_bottom, word_top, left_parenthesis, minus, quote, question}
use Rattle.sp_expression.specs.Grammar.{args, expression}
use Rattle.sp_expression.specs.declared.expr.Found.{Found}
use Rattle.sp_expression.specs.declared.expr.ArgsFound.{ArgsFound}

-- the tokens that are constants
abbrev pub constant_first : List ℕ
constant_first = word_true ∷ word_false ∷ question ∷ word_bottom ∷ word_top ∷ []

-- the tokens that a type begins with
abbrev pub type_first : List ℕ
type_first = word_boolean ∷ word_integer ∷ word_level ∷ name_code ∷ []

-- the tokens that a primary begins with
abbrev pub primary_first : List ℕ
primary_first =
    minus ∷ number_code ∷ word_true ∷ word_false ∷ question ∷ word_bottom ∷ word_top ∷ name_code ∷ quote ∷ left_parenthesis ∷ word_if ∷ word_lub ∷ word_glb
    ∷ word_forall ∷ word_exists ∷ []

-- the tokens that an expression begins with
abbrev pub expression_first : List ℕ
expression_first = word_not ∷ primary_first

-- The fault is that of the form F, read from the token at i on within the budget b.
abbrev pub Fails : {V : Type 0} → (ℕ → Lang V) → ℕ → List Token → ℕ → ℕ → TextFault → Type 0
Fails F b ts end i (fault.Malformed m) = (n : ℕ) × Stops F b i n × (m ≡ record { span = place_of ts end n; rule = Unexpected })
Fails F b ts end i (fault.Limit l) = (n : ℕ) × Exceeds F b i n × (l ≡ record { span = place_of ts end n; quantity = Height })
Fails F b ts end i fault.Memory = Unit {0}

-- A quantifier's and a join's tokens, by what is FORALL and what is LUB.
abbrev pub join_code : Bool → ℕ
join_code true = word_lub
join_code false = word_glb

abbrev pub quant_code : Bool → ℕ
quant_code true = word_forall
quant_code false = word_exists

abbrev pub close_code : Bool → ℕ
close_code true = word_end_forall
close_code false = word_end_exists

-- The answer is the tree, the height and the place behind it of the form F, read from the token at i on within the budget b.
abbrev pub Parses : (ℕ → Lang ExprTree) → ℕ → List Token → ℕ → ℕ → Result Found TextFault → Type 0
Parses F b ts end i r = MatchResult r (λ x. Measures F b x.tree x.height i x.next) (Fails F b ts end i)

-- The same of a list of arguments.
abbrev pub ParsesArgs : ℕ → List Token → ℕ → ℕ → Result ArgsFound TextFault → Type 0
ParsesArgs b ts end i r = MatchResult r (λ x. Measures (λ c. args ts (expression ts c)) b x.items.items x.height i x.next) (Fails (λ c. args ts (expression ts c)) b ts end i)
