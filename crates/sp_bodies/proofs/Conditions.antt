-- The loop over the exceptions of a function.
use Rattle.std.proofs.Common.{◌≡◌, subst, ℕ, ◌+◌, ◌<◌, List, length, take, get_or}
use Rattle.std.specs.List.{All}
use Rattle.std.proofs.lemmas.List.Elements.{All-more}
use Rattle.sp_tree.specs.declared.expr.ExprTree.{ExprTree}
use Rattle.sp_tree.specs.declared.names.Ident.{Ident}
use Rattle.sp_functions.specs.Exceptions.{HasRoom}

pub rooms_next : (n : ℕ) (xs : List (Ident × ExprTree)) (k : ℕ) (x : Ident × ExprTree) → k < length xs → x ≡ get_or xs k x → All (HasRoom n) (take k xs) → HasRoom n x →
    All (HasRoom n) (take (k + 1) xs)
rooms_next n xs k x l i h r = All-more (HasRoom n) xs k x l h (subst (HasRoom n) i r)
