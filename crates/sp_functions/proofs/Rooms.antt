-- Loops over exceptions.
use Rattle.std.proofs.Common.{◌≡◌, sym, ◌∙◌, ap, subst, ℕ, ◌+◌, ◌<◌, List, [], ◌∷◌, ◌++◌, length, take, get_or}
use Rattle.std.proofs.lemmas.List.{take_more}
use Rattle.sp_tree.specs.declared.expr.ExprTree.{ExprTree}
use Rattle.sp_tree.specs.declared.names.Ident.{Ident}
use Rattle.sp_core.specs.declared.expr.Expr.{Expr}
use Rattle.sp_scopes.specs.declared.heads.Local.{Local}
use Rattle.sp_judge.specs.Visible.{Visible}
use Rattle.sp_functions.specs.Exceptions.{AreExceptionsOf, HasRoom, HaveRoom, IsExceptionOf}

-- of all exceptions, one of them
pub room_at : (n : ℕ) (xs : List (Ident × ExprTree)) (k : ℕ) (x : Ident × ExprTree) → HaveRoom n xs → k < length xs → x ≡ get_or xs k x → HasRoom n x
room_at n xs k x h l i = subst (HasRoom n) (sym i) (h k x l)

module _ (s : Visible) (l : List Local) where
  exceptions_push : (xs : List (Ident × ExprTree)) (es : List (List ℕ × Expr)) (x : Ident × ExprTree) (e : List ℕ × Expr) → AreExceptionsOf s l xs es → IsExceptionOf s l x e →
      AreExceptionsOf s l (xs ++ x ∷ []) (es ++ e ∷ [])
  exceptions_push [] [] x e h i = (i, tt)
  exceptions_push [] (d ∷ es) x e h i = absurd h
  exceptions_push (y ∷ xs) [] x e h i = absurd h
  exceptions_push (y ∷ xs) (d ∷ es) x e h i = (h.0, exceptions_push xs es x e h.1 i)

  pub exceptions_next : (xs : List (Ident × ExprTree)) (k : ℕ) (x : Ident × ExprTree) (es : List (List ℕ × Expr)) (e : List ℕ × Expr) → k < length xs → x ≡ get_or xs k x →
      AreExceptionsOf s l (take k xs) es → IsExceptionOf s l x e → AreExceptionsOf s l (take (k + 1) xs) (es ++ e ∷ [])
  exceptions_next xs k x es e l' i h j =
      subst (λ z. AreExceptionsOf s l z (es ++ e ∷ [])) (sym (take_more xs k x l' ∙ ap (λ z. take k xs ++ z ∷ []) (sym i))) (exceptions_push (take k xs) es x e h j)
