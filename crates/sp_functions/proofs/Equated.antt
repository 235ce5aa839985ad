-- Loops over level equations.
use Rattle.std.proofs.Common.{◌≡◌, sym, subst, arith, ℕ, ◌≤◌, ◌<◌, List, [], ◌∷◌, length, get_or}
use Rattle.std.specs.List.{All}
use Rattle.sp_tree.specs.declared.interface.Equation.{Equation}
use Rattle.sp_tree.specs.declared.names.Ident.{Ident}
use Rattle.sp_scopes.specs.declared.heads.Local.{Local}
use Rattle.sp_functions.specs.Equations.{HasRoom, with_types}

-- of all equations, one of them
pub room_at : (qs : List Equation) (k : ℕ) (q : Equation) → All HasRoom qs → k < length qs → q ≡ get_or qs k q → HasRoom q
room_at qs k q h l i = subst HasRoom (sym i) (h k q l)

-- there are no more variables than names
pub with_room : (xs : List Ident) (fs : List Local) → length (with_types xs fs) ≤ length xs
with_room [] fs = omega arith
with_room (x ∷ xs) [] = omega arith
with_room (x ∷ xs) (f ∷ fs) = omega (arith, with_room xs fs)
