use Rattle.std.proofs.Common.{◌≡◌, ◌+◌, suc, IsTrue, IfNone, IfSome, Some, slice_get, Option, refl, subst, arith}
use Rattle.sp_text.specs.declared.token.TokenKind.TheVariants as kind
use Rattle.sp_tree.specs.declared.names.Ident.{Ident}
use Rattle.sp_tree.specs.declared.names.TypeTree.{TypeTree}
use Rattle.sp_grammar.specs.Lang.{has}
use Rattle.sp_grammar.specs.Codes.{name_code}
use Rattle.sp_expression.specs.Contract.{type_first}
use Rattle.sp_expression.specs.Grammar.{at, type_line}
use Rattle.sp_expression.proofs.Leaves.{no_type, no_formal_name, formal_whole}
use Rattle.sp_expression.proofs.leaf.formal.Goals as goal

pub returns-in_default-clause-reads : goal.returns-in_default-clause-reads
returns-in_default-clause-reads c =
    let ts = c.args.tokens.now in
    let i = c.args.start in
    let off = subst (λ (o : Option TypeTree). IfNone o (IsTrue (has type_first (at ts i)) → ⊥)) c.in_default.is c.in_ok-ty.ensures.none in
    rw c.unexpected.ensures (i, no_type ts i off, refl)

pub returns-in_default-2-clause-reads : goal.returns-in_default-2-clause-reads
returns-in_default-2-clause-reads c =
    let ts = c.args.tokens.now in
    let i = c.args.start in
    let w = subst (λ (o : Option TypeTree). IfSome o (λ t. (type_line ts).whole t i (suc i))) c.in-Some.is c.in_ok-ty.ensures.some in
    let off = subst (λ (o : Option Ident). IfNone o (at ts (i + 1) ≡ name_code → ⊥)) c.in_default-2.is c.in_ok-name.ensures.none in
    rw c.unexpected-in_default-2.ensures (i + 1, no_formal_name ts i (i + 1) c.in-Some.ty (omega arith) w off, refl)

pub returns-clause-reads : goal.returns-clause-reads
returns-clause-reads c =
    let ts = c.args.tokens.now in
    let i = c.args.start in
    let w = subst (λ (o : Option TypeTree). IfSome o (λ t. (type_line ts).whole t i (suc i))) c.in-Some.is c.in_ok-ty.ensures.some in
    let d = subst (λ (o : Option Ident). IfSome o (λ v. slice_get ts (i + 1) ≡ Some (record { kind = kind.Name v.name; span = v.span }))) c.in-Some-2.is c.in_ok-name.ensures.some in
    formal_whole ts i (i + 1) (i + 2) c.in-Some.ty c.in-Some-2.name (omega arith) (omega arith) w d
