-- Items whose numbers have room for being raised.
use Rattle.std.specs.Prelude.{ℕ, ◌+◌, ◌≤◌, ◌^◌, All, length}
use Rattle.sp_core.specs.declared.function.Function.{Function}
use Rattle.sp_formulas.specs.Formulas.{guards_of}
use Rattle.sp_formulas.specs.Items.{Item, Deed, Change, Answer}
use Rattle.sp_formulas.specs.Moves.{AreBelow, IsBelow}

-- the numbers in what is given are below b
abbrev pub IsDeedBelow : ℕ → Deed → Type 0
IsDeedBelow b (Change g ds e) = AreBelow b ds × IsBelow b e
IsDeedBelow b (Answer e) = IsBelow b e

-- An item of a function. Its guards have room as they stand in the specification, and in the numbering of all its
-- variables.
pub record HasRoom (f : Function) (i : Item) : Type 0 where
  pub few : length f.formals + length i.vars ≤ 2 ^ 16
  pub guards : All (IsBelow (2 ^ 31)) i.guards
  pub settled : All (IsBelow (2 ^ 31)) (guards_of f i)
  pub deed : IsDeedBelow (2 ^ 31) i.deed
