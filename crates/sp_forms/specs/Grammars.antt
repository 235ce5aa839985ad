-- A grammar as a value: its forms, what each means, and whether one token ahead decides. For the grammars of all texts, one
-- definition for each of their lines, and for the contracts of their readers. What counts is `meaning`.
use Rattle.std.specs.Prelude.{◌≡◌, ℕ, ℤ, zero, suc, Bool, true, false, cond, not, ◌&&◌, eqb, List, [], ◌∷◌, ◌++◌, Option, Some, None}
use Rattle.sp_text.specs.declared.fault.Span.{Span}
use Rattle.sp_text.specs.declared.token.Token.{Token}
use Rattle.sp_tree.specs.declared.names.Ident.{Ident}
use Rattle.sp_tree.specs.declared.expr.ExprTree.{ExprTree}
use Rattle.sp_grammar.specs.Lang as lang
use Rattle.sp_grammar.specs.Lang.{Lang, has, apart, subset, without}
use Rattle.sp_grammar.specs.Within.{Limits}
use Rattle.sp_grammar.specs.Codes.{name_code, number_code, span_of}
use Rattle.sp_expression.specs.Contract.{expression_first}
use Rattle.sp_expression.specs.Grammar as expressions
use Rattle.sp_expression.specs.Grammar.{at}
use Rattle.sp_expression.proofs.Laws.{expression_more}

-- The forms of values of V, in which a recursive form of values of R may stand.
pub data Gram : Type 0 → Type 0 → Type 1 where
  -- a token of this code
  token : {R : Type 0} → ℕ → Gram R (Unit {0})
  name : {R : Type 0} → Gram R Ident
  -- a number without its sign
  digits : {R : Type 0} → Gram R ℤ
  expr : {R : Type 0} → Gram R ExprTree
  seq : {R A B : Type 0} → Gram R A → Gram R B → Gram R (A × B)
  either : {R V : Type 0} → Gram R V → Gram R V → Gram R V
  optional : {R V : Type 0} → Gram R V → Gram R (Option V)
  -- any number of a form
  star : {R V : Type 0} → Gram R V → Gram R (List V)
  -- a form, with what is made of the text's tokens, of its value, and of the places where it begins and ends
  made : {R A B : Type 0} → (List Token → A → ℕ → ℕ → B) → Gram R A → Gram R B
  -- a form that begins with no token of these
  not_from : {R V : Type 0} → List ℕ → Gram R V → Gram R V
  -- the recursive form
  again : {R : Type 0} → Gram R R
  -- a form in which the recursive form doesn't stand
  line : {R V : Type 0} → Gram ⊥ V → Gram R V

-- A form in which no recursive form stands.
abbrev pub Line : Type 0 → Type 1
Line V = Gram ⊥ V

-- How a recursive form is made: `nested f b` is f, in which the recursive form stands one level deeper, or else b. Within no
-- level it is b alone. So `base g` is read within each number of levels.
pub data Body : Type 0 → Type 1 where
  base : {R : Type 0} → Gram ⊥ R → Body R
  nested : {R : Type 0} → Gram R R → Body R → Body R

-- A recursive form, the tokens that it begins with, and those that can follow a whole of it within a longer one.
pub record Rec (R : Type 0) : Type 1 where
  pub begin : List ℕ
  pub behind : List ℕ
  pub body : Body R

-- What a form means.

-- what is never whole, and of which the empty list alone is a viable prefix
abbrev pub no_form : {V : Type 0} → Lang V
no_form = record { whole = λ v i j. ⊥; part = λ i m. i ≡ m }

-- What a form means in the text of these tokens, within this budget of height, where ρ is what `again` means.
abbrev pub meaning : {R V : Type 0} → Gram R V → Lang R → List Token → ℕ → Lang V
meaning (token c) ρ ts h = lang.token (at ts) c
meaning name ρ ts h = expressions.ident ts
meaning digits ρ ts h = expressions.digits ts
meaning expr ρ ts h = expressions.expression ts h
meaning (seq f g) ρ ts h = lang.seq (meaning f ρ ts h) (meaning g ρ ts h)
meaning (either f g) ρ ts h = lang.either (meaning f ρ ts h) (meaning g ρ ts h)
meaning (optional f) ρ ts h = lang.optional (meaning f ρ ts h)
meaning (star f) ρ ts h = lang.star (meaning f ρ ts h)
meaning (made k f) ρ ts h = lang.made (k ts) (meaning f ρ ts h)
meaning (not_from xs f) ρ ts h = lang.not_from (at ts) xs (meaning f ρ ts h)
meaning again ρ ts h = ρ
meaning (line f) ρ ts h = meaning f no_form ts h

-- what a body means within no level
abbrev pub flat : {R : Type 0} → Body R → List Token → ℕ → Lang R
flat (base g) ts h = meaning g no_form ts h
flat (nested f b) ts h = flat b ts h

-- what a body means within some level, where ρ is what the recursive form means one level deeper
abbrev pub deep : {R : Type 0} → Body R → Lang R → List Token → ℕ → Lang R
deep (base g) ρ ts h = meaning g no_form ts h
deep (nested f b) ρ ts h = lang.either (meaning f ρ ts h) (deep b ρ ts h)

-- what a recursive form means within n levels
abbrev pub levels : {R : Type 0} → Rec R → List Token → ℕ → ℕ → Lang R
levels x ts h zero = flat x.body ts h
levels x ts h (suc n) = deep x.body (levels x ts h n) ts h

-- what a form means within budgets of height and of levels, where the recursive form is x
abbrev pub means_in : {R V : Type 0} → Rec R → Gram R V → List Token → Limits → Lang V
means_in x f ts l = meaning f (levels x ts l.height l.nesting) ts l.height

-- what a form means in which no recursive form stands
abbrev pub means : {V : Type 0} → Line V → List Token → Limits → Lang V
means f ts l = meaning f no_form ts l.height

-- Whether one token ahead decides: a is what `again` begins with, z what can follow it.

-- it may be empty
abbrev pub nullable : {R V : Type 0} → Gram R V → Bool
nullable (token c) = false
nullable name = false
nullable digits = false
nullable expr = false
nullable (seq f g) = nullable f && nullable g
nullable (either f g) = false
nullable (optional f) = true
nullable (star f) = true
nullable (made k f) = nullable f
nullable (not_from xs f) = false
nullable again = false
nullable (line f) = nullable f

-- the tokens that it begins with
abbrev pub first : {R V : Type 0} → List ℕ → Gram R V → List ℕ
first a (token c) = c ∷ []
first a name = name_code ∷ []
first a digits = number_code ∷ []
first a expr = expression_first
first a (seq f g) = first a f ++ cond (nullable f) (first a g) []
first a (either f g) = first a f ++ first a g
first a (optional f) = first a f
first a (star f) = first a f
first a (made k f) = first a f
first a (not_from xs f) = without xs (first a f)
first a again = a
first a (line f) = first [] f

-- the tokens that can follow a whole of it within a longer one
abbrev pub follow : {R V : Type 0} → List ℕ → List ℕ → Gram R V → List ℕ
follow a z (token c) = []
follow a z name = []
follow a z digits = []
follow a z expr = expression_more
follow a z (seq f g) = follow a z g ++ cond (nullable g) (follow a z f) []
follow a z (either f g) = follow a z f ++ follow a z g
follow a z (optional f) = follow a z f ++ first a f
follow a z (star f) = follow a z f ++ first a f
follow a z (made k f) = follow a z f
follow a z (not_from xs f) = follow a z f
follow a z again = z
follow a z (line f) = follow [] [] f

-- one token ahead decides
abbrev pub is_ll1 : {R V : Type 0} → List ℕ → List ℕ → Gram R V → Bool
is_ll1 a z (token c) = not (eqb c 0)
is_ll1 a z name = true
is_ll1 a z digits = true
is_ll1 a z expr = true
is_ll1 a z (seq f g) = is_ll1 a z f && (is_ll1 a z g && apart (follow a z f) (first a g))
is_ll1 a z (either f g) = is_ll1 a z f && (is_ll1 a z g && (not (nullable f) && (not (nullable g) && apart (first a f) (first a g))))
is_ll1 a z (optional f) = is_ll1 a z f && not (nullable f)
is_ll1 a z (star f) = is_ll1 a z f && (not (nullable f) && apart (follow a z f) (first a f))
is_ll1 a z (made k f) = is_ll1 a z f
is_ll1 a z (not_from xs f) = is_ll1 a z f && not (nullable f)
is_ll1 a z again = true
is_ll1 a z (line f) = is_ll1 [] [] f

-- it begins with a token of its own, whatever the height
abbrev pub begins_at_once : {R V : Type 0} → Gram R V → Bool
begins_at_once (token c) = true
begins_at_once name = true
begins_at_once digits = true
begins_at_once (seq f g) = begins_at_once f
begins_at_once (made k f) = begins_at_once f
begins_at_once (line f) = begins_at_once f
begins_at_once _ = false

-- the same of a body
abbrev pub body_first : {R : Type 0} → List ℕ → Body R → List ℕ
body_first a (base g) = first [] g
body_first a (nested f b) = first a f ++ body_first a b

abbrev pub body_follow : {R : Type 0} → List ℕ → List ℕ → Body R → List ℕ
body_follow a z (base g) = follow [] [] g
body_follow a z (nested f b) = follow a z f ++ body_follow a z b

abbrev pub body_is_ll1 : {R : Type 0} → List ℕ → List ℕ → Body R → Bool
body_is_ll1 a z (base g) = is_ll1 [] [] g && not (nullable g)
body_is_ll1 a z (nested f b) = is_ll1 a z f && (begins_at_once f && (not (nullable f) && (body_is_ll1 a z b && apart (first a f) (body_first a b))))

-- in a recursive form one token ahead decides, and its sets are those of its body
abbrev pub rec_is_ll1 : {R : Type 0} → Rec R → Bool
rec_is_ll1 x = body_is_ll1 x.begin x.behind x.body
    && (not (has x.begin 0) && (subset (body_first x.begin x.body) x.begin && (subset x.begin (body_first x.begin x.body) && subset (body_follow x.begin x.behind x.body) x.behind)))

-- one token ahead decides in a text, and no token can follow it
abbrev pub is_text : {V : Type 0} → Line V → Bool
is_text f = is_ll1 [] [] f && not (has (follow [] [] f) 0)

abbrev pub is_text_in : {R V : Type 0} → Rec R → Gram R V → Bool
is_text_in x f = rec_is_ll1 x && (is_ll1 x.begin x.behind f && not (has (follow x.begin x.behind f) 0))

-- Shorter names for frequent forms.

-- f, with what k makes of its value
abbrev pub map : {R A B : Type 0} → (A → B) → Gram R A → Gram R B
map k f = made (λ ts a i j. k a) f

-- f, with what k makes of its span and its value
abbrev pub spanned : {R A B : Type 0} → (Span → A → B) → Gram R A → Gram R B
spanned k f = made (λ ts a i j. k (span_of ts i j) a) f

-- a token of this code, with its span
abbrev pub keyword : {R : Type 0} → ℕ → Gram R Span
keyword c = spanned (λ s u. s) (token c)

-- a token, then f
abbrev pub behind : {R V : Type 0} → ℕ → Gram R V → Gram R V
behind c f = map (λ p. p.1) (seq (token c) f)

-- f, then a token
abbrev pub ended : {R V : Type 0} → Gram R V → ℕ → Gram R V
ended f c = map (λ p. p.0) (seq f (token c))

-- one or more, with a token between two of them
abbrev pub separated : {R V : Type 0} → ℕ → Gram R V → Gram R (List V)
separated c f = map (λ p. p.0 ∷ p.1) (seq f (star (behind c f)))

abbrev pub list_or : {V : Type 0} → Option (List V) → List V
list_or None = []
list_or (Some vs) = vs

-- none or more, with a token between two of them
abbrev pub separated_or_none : {R V : Type 0} → ℕ → Gram R V → Gram R (List V)
separated_or_none c f = map list_or (optional (separated c f))

-- a keyword and any number of f, or nothing
abbrev pub section : {R V : Type 0} → ℕ → Gram R V → Gram R (List V)
section c f = map list_or (optional (behind c (star f)))
