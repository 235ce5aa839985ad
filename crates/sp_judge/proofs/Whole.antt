-- Judging an expression with its limits.
use Rattle.std.proofs.Common.{◌≡◌, ◌≤◌, refl, sym, ◌∙◌, ap, subst, rules, arith, ℕ, suc, true, false, List, [], ◌∷◌, ◌++◌, Option, Some, None, Result}
use Rattle.std.specs.Prelude.{nat_lt, if◌then◌else◌}
use Rattle.sp_text.specs.declared.fault.Quantity.TheVariants as quantity
use Rattle.sp_text.specs.declared.fault.Span.{Span}
use Rattle.sp_text.specs.declared.fault.TextFault.{TextFault}
use Rattle.sp_text.specs.declared.limits.TheConstants.{MOST_EXPRESSION_NODES, MOST_HEIGHT, MOST_QUANTIFIERS}
use Rattle.sp_text.specs.declared.violation.Requirement.TheVariants as requirement
use Rattle.sp_text.specs.declared.violation.Violation.{Violation}
use Rattle.sp_text.specs.Firsts.{behind}
use Rattle.sp_text.specs.Violations.{exceeds, first, sooner, Judges}
use Rattle.sp_text.proofs.Firsts.{first_by_none}
use Rattle.sp_core.specs.declared.expr.Expr.{Expr}
use Rattle.sp_core.specs.Tree.{Tree, tree}
use Rattle.sp_core.specs.Measures.{nodes, quantifiers}
use Rattle.sp_expand.specs.Sizes.{height, size, within}
use Rattle.sp_expand.specs.declared.size.Size.{Size}
use Rattle.sp_expand.proofs.Limits.{sized, size-is}
use Rattle.sp_judge.specs.Broken.{limit_rules, limit_quantity}
use Rattle.sp_expand.specs.Parts.{IsMade}

-- the first limit exceeded
limit_by : (h q n : ℕ) → within (sized h n q) ≡ false → (p : Span)
    → first ((if nat_lt MOST_HEIGHT h then exceeds p quantity.Height else []) ++ ((if nat_lt MOST_QUANTIFIERS q then exceeds p quantity.Quantifiers else []) ++ (if nat_lt MOST_EXPRESSION_NODES n then exceeds p quantity.ExpressionNodes else [])))
    ≡ Some (record { span = p; broken = requirement.Limit (limit_quantity (sized h n q)) })
limit_by h q n w p = grind (arith, rules)

limit_none : (h q n : ℕ) → within (sized h n q) ≡ true → (p : Span)
    → (if nat_lt MOST_HEIGHT h then exceeds p quantity.Height else []) ++ ((if nat_lt MOST_QUANTIFIERS q then exceeds p quantity.Quantifiers else []) ++ (if nat_lt MOST_EXPRESSION_NODES n then exceeds p quantity.ExpressionNodes else [])) ≡ []
limit_none h q n w p = grind (arith, rules)

pub within_none : (t : Tree) (p : Span) → within (size t) ≡ true → limit_rules p t ≡ []
within_none t p w = limit_none (height t) (quantifiers t) (nodes t) (ap within (sym (size-is t)) ∙ w) p

pub limit_first : (t : Tree) (p : Span) (x : Size) → x ≡ size t → within (size t) ≡ false → first (limit_rules p t) ≡ Some (record { span = p; broken = requirement.Limit (limit_quantity x) })
limit_first t p x e w =
    limit_by (height t) (quantifiers t) (nodes t) (ap within (sym (size-is t)) ∙ w) p
    ∙ ap (λ (x : Size). Some (record { span = p; broken = requirement.Limit (limit_quantity x) })) (sym (e ∙ size-is t))

pub behind_some : (xs own : List Violation) (f : Violation) → first xs ≡ Some f → first (behind xs own) ≡ Some f
behind_some [] own f h = cc
behind_some (g ∷ xs) own f h = h

pub behind_none : {A : Type 0} (xs own : List Violation) (P : A → Type 0) (r : Result A TextFault) → first xs ≡ None → Judges own P r → Judges (behind xs own) P r
behind_none xs own P r h k = subst (λ z. Judges (behind z own) P r) (sym (first_by_none sooner xs h)) k

pub made_some : (t : Tree) (p : Span) (o : Option Expr) (e : Expr) → IsMade t o → o ≡ Some e → (limit_rules p t ≡ []) × (tree e ≡ t)
made_some t p o e h i = let m = subst (IsMade t) i h in (within_none t p m.1, m.0)

pub made_none : (t : Tree) (p : Span) (x : Size) (o : Option Expr) → x ≡ size t → IsMade t o → o ≡ None → first (limit_rules p t) ≡ Some (record { span = p; broken = requirement.Limit (limit_quantity x) })
made_none t p x o e h i = limit_first t p x e (subst (IsMade t) i h)
