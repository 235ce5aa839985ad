-- All rules and limits that the effects of a function break, each with its place.
use Rattle.std.specs.Prelude.{ℕ, zero, suc, ◌+◌, Bool, true, false, ◌||◌, List, [], ◌∷◌, ◌++◌, length, Option, None, Some, if◌then◌else◌, nat_eq, nat_lt}
use Rattle.sp_text.specs.declared.fault.Quantity.TheVariants as quantity
use Rattle.sp_text.specs.declared.fault.Rule.TheVariants as rule
use Rattle.sp_text.specs.declared.fault.Span.{Span}
use Rattle.sp_text.specs.declared.limits.TheConstants.{MOST_BOUND_VARIABLES, MOST_CHANGES}
use Rattle.sp_text.specs.declared.violation.Violation.{Violation}
use Rattle.sp_text.specs.Firsts.{behind}
use Rattle.sp_text.specs.Violations.{breaks, exceeds}
use Rattle.sp_values.specs.declared.value.Ty.{Ty}
use Rattle.sp_values.specs.declared.value.Ty.TheVariants as ty
use Rattle.sp_tree.specs.declared.names.FormalTree.{FormalTree}
use Rattle.sp_tree.specs.declared.names.Ident.{Ident}
use Rattle.sp_core.specs.Tree.{Trees}
use Rattle.sp_core.specs.WellFormed.{alone}
use Rattle.sp_plain.specs.Text.{Text, Texts, span, count, Name, Number, Truth, Unknown, Bottom, Top, Call, New, Paren, Not, Binary, Join, Quant}
use Rattle.sp_plain.specs.Text as plain
use Rattle.sp_naming.specs.declared.declaration.Entity.TheVariants as entity
use Rattle.sp_scopes.specs.declared.heads.Local.{Local}
use Rattle.sp_judge.specs.Broken.{asked_of, count_rule, formal_rules, next_type, rest, broken, whole_broken}
use Rattle.sp_judge.specs.Names.{meaning, with_formal}
use Rattle.sp_judge.specs.Translation.{translations}
use Rattle.sp_judge.specs.Visible.{Visible, function_at}
use Rattle.sp_judge.specs.declared.scope.Meaning.{Meaning}
use Rattle.sp_judge.specs.declared.scope.Meaning.TheVariants as meaning_
use Rattle.sp_judge.specs.declared.scope.Site.{Site}
use Rattle.sp_judge.specs.declared.scope.Site.TheVariants as site
use Rattle.sp_effects.specs.EffectText.{EffectText, EffectTexts, Plain, If, Forall, none, more}
use Rattle.sp_effects.specs.Forms.{Form, Change, Answer, Neither, form, may, must_in}
use Rattle.sp_cycles.specs.Order.{cycle_rules}
use Rattle.sp_effects.specs.declared.form.Target.{Target}
use Rattle.sp_cycles.specs.declared.order.Quoted.{Quoted}

-- One effect

-- each argument of a target stands by itself
abbrev pub all_whole : Visible → Site → List Local → List Local → Texts → List Violation
all_whole s i l fs plain.none = []
all_whole s i l fs (plain.more d ds) = whole_broken s i l (next_type fs) d ++ all_whole s i l (rest fs) ds

-- The variables from number n on, j of them, are those that FORALL effects bind around a target with these arguments.
-- Each stands alone as exactly one of them; `q` is the target's quoted reference.
abbrev pub injective_rules : Span → Trees → ℕ → ℕ → List Violation
injective_rules q ds n zero = []
injective_rules q ds n (suc j) = (if nat_eq (alone n ds) 1 then [] else breaks q rule.TargetNotInjective) ++ injective_rules q ds (suc n) j

-- A change of t: its target is the quoted reference at `q`, with the name f; the function has n formals, FORALL effects
-- bind b variables around it, and all variables are l.
abbrev pub change_broken : Visible → ℕ → ℕ → List Local → Span → Ident → Target → Texts → Text → List Violation
change_broken s n b l q f t ds v =
    behind (behind (all_whole s site.Right l (asked_of (function_at s t.fun) (count ds)) ds)
    (count_rule f.span (function_at s t.fun) (count ds)))
    (injective_rules q (translations s l ds) n b)
    ++ whole_broken s site.Right l (Some t.ty) v

-- A result of type t at `p`. `taken` says whether it would be a second one on some path, or stand below a FORALL.
abbrev pub result_broken : Visible → List Local → Bool → Span → Ty → Text → List Violation
result_broken s l taken p t v = behind (whole_broken s site.Right l (Some t) v) (if taken then breaks p rule.ResultTwice else [])

-- an effect that is neither: what is wrong with it as an expression, else that it determines no value
abbrev pub loose_broken : Visible → List Local → Text → List Violation
loose_broken s l e = behind (broken s site.Loose l None e) (breaks (span e) rule.NotDetermining)

abbrev pub form_broken : Visible → ℕ → ℕ → List Local → Bool → Text → Form → List Violation
form_broken s n b l taken e (Change q f t ds v) = change_broken s n b l q f t ds v
form_broken s n b l taken e (Answer t v) = result_broken s l taken (span e) t v
form_broken s n b l taken e Neither = loose_broken s l e

-- a variable that a FORALL effect binds after b others
abbrev pub bound_rules : Visible → ℕ → List Local → FormalTree → List Violation
bound_rules s b l f = formal_rules s l f ++ (if nat_lt b MOST_BOUND_VARIABLES then [] else exceeds f.name.span quantity.BoundVariables)

abbrev pub all_bound : Visible → ℕ → List Local → List FormalTree → List Violation
all_bound s b l [] = []
all_bound s b l (f ∷ fs) = bound_rules s b l f ++ all_bound s (b + 1) (with_formal s l f) fs

-- the variables below a FORALL effect
abbrev pub with_formals : Visible → List Local → List FormalTree → List Local
with_formals s l [] = l
with_formals s l (f ∷ fs) = with_formals s (with_formal s l f) fs

-- What effects break by themselves, of a function with n formals and the result r, where FORALL effects bind b
-- variables around them and all variables are l. A condition doesn't hide what its branches break; a bound variable
-- hides what stands below it.
abbrev mutual
  pub effect_broken : Visible → ℕ → Option Local → ℕ → List Local → Bool → EffectText → List Violation
  effect_broken s n r b l taken (Plain e) = form_broken s n b l taken e (form s l r e)
  effect_broken s n r b l taken (If p c as' bs) =
      whole_broken s site.Guard l (Some ty.Boolean) c
      ++ (effects_broken s n r b l taken as' ++ effects_broken s n r b l taken bs)
  effect_broken s n r b l taken (Forall p fs ws) =
      behind (all_bound s b l fs)
      (effects_broken s n r (b + length fs) (with_formals s l fs) true ws)

  pub effects_broken : Visible → ℕ → Option Local → ℕ → List Local → Bool → EffectTexts → List Violation
  effects_broken s n r b l taken none = []
  effects_broken s n r b l taken (more w ws) = effect_broken s n r b l taken w ++ effects_broken s n r b l (taken || may r w) ws

-- The changes together

-- where the changes stand, in text order
abbrev pub form_change : Text → Form → List Span
form_change e (Change q f t ds v) = span e ∷ []
form_change e form = []

abbrev mutual
  pub change_places : Visible → Option Local → List Local → EffectText → List Span
  change_places s r l (Plain e) = form_change e (form s l r e)
  change_places s r l (If p c as' bs) = change_places_in s r l as' ++ change_places_in s r l bs
  change_places s r l (Forall p fs ws) = change_places_in s r (with_formals s l fs) ws

  pub change_places_in : Visible → Option Local → List Local → EffectTexts → List Span
  change_places_in s r l none = []
  change_places_in s r l (more w ws) = change_places s r l w ++ change_places_in s r l ws

-- the first of these places beyond n of them
abbrev pub beyond : ℕ → List Span → List Violation
beyond n [] = []
beyond zero (p ∷ ps) = exceeds p quantity.Changes
beyond (suc n) (p ∷ ps) = beyond n ps

-- a quoted reference at `p` in a change of function g
abbrev pub quote_of : ℕ → Span → Meaning → List Quoted
quote_of g p (meaning_.Shared (entity.Function h)) = record { place = p; read = h; changed = g } ∷ []
quote_of g p m = []

-- the quoted references of an expression in a change of function g, those in an argument before the reference itself
abbrev mutual
  pub quotes : Visible → ℕ → List Local → Text → List Quoted
  quotes s g l (Name p x) = []
  quotes s g l (Number p n) = []
  quotes s g l (Truth p b) = []
  quotes s g l (Unknown p) = []
  quotes s g l (Bottom p) = []
  quotes s g l (Top p) = []
  quotes s g l (Call p f ds) = quotes_in s g l ds
  quotes s g l (New p f ds) = quotes_in s g l ds ++ quote_of g p (meaning s l f.name)
  quotes s g l (Paren p a) = quotes s g l a
  quotes s g l (Not p a) = quotes s g l a
  quotes s g l (Binary p o a b) = quotes s g l a ++ quotes s g l b
  quotes s g l (Join p u a b) = quotes s g l a ++ quotes s g l b
  quotes s g l (plain.If p c a b) = quotes s g l c ++ (quotes s g l a ++ quotes s g l b)
  quotes s g l (Quant p u f b) = quotes s g (with_formal s l f) b

  pub quotes_in : Visible → ℕ → List Local → Texts → List Quoted
  quotes_in s g l plain.none = []
  quotes_in s g l (plain.more d ds) = quotes s g l d ++ quotes_in s g l ds

abbrev pub breaks_nothing : List Violation → Bool
breaks_nothing [] = true
breaks_nothing (v ∷ vs) = false

-- the quoted references of a change that breaks nothing by itself, in its target's arguments and its value
abbrev pub form_quotes : Visible → ℕ → ℕ → List Local → Form → List Quoted
form_quotes s n b l (Change q f t ds v) = if breaks_nothing (change_broken s n b l q f t ds v) then quotes_in s t.fun l ds ++ quotes s t.fun l v else []
form_quotes s n b l form = []

-- those of all changes that break nothing, in text order
abbrev mutual
  pub effect_quotes : Visible → ℕ → Option Local → ℕ → List Local → EffectText → List Quoted
  effect_quotes s n r b l (Plain e) = form_quotes s n b l (form s l r e)
  effect_quotes s n r b l (If p c as' bs) = effects_quotes s n r b l as' ++ effects_quotes s n r b l bs
  effect_quotes s n r b l (Forall p fs ws) = if breaks_nothing (all_bound s b l fs) then effects_quotes s n r (b + length fs) (with_formals s l fs) ws else []

  pub effects_quotes : Visible → ℕ → Option Local → ℕ → List Local → EffectTexts → List Quoted
  effects_quotes s n r b l none = []
  effects_quotes s n r b l (more w ws) = effect_quotes s n r b l w ++ effects_quotes s n r b l ws

-- the quoted references that close a cycle
abbrev pub cycles_broken : Visible → List Local → Option Local → EffectTexts → List Violation
cycles_broken s l r ws = cycle_rules (effects_quotes s (length l) r 0 l ws) (effects_quotes s (length l) r 0 l ws)

-- each path of an OV-function has a result; `p` is the function's name
abbrev pub missing_rule : Span → Option Local → EffectTexts → List Violation
missing_rule p None ws = []
missing_rule p (Some r) ws = if must_in (Some r) ws then [] else breaks p rule.ResultMissing

-- All that the effects of a function break, whose name stands at `p`, with these formals and this result. That a result
-- is missing is judged where no effect breaks a rule, and the number of changes whatever they break.
abbrev pub body_broken : Visible → Span → List Local → Option Local → EffectTexts → List Violation
body_broken s p l r ws =
    behind (effects_broken s (length l) r 0 l false ws ++ cycles_broken s l r ws) (missing_rule p r ws)
    ++ beyond MOST_CHANGES (change_places_in s r l ws)
