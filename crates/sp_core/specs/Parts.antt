-- The parts of a specification, as contracts see it.
use Rattle.std.specs.Prelude.{ℕ, List}
use Rattle.sp_lattice.specs.Order.{Order}
use Rattle.sp_core.specs.declared.function.Assertion.{Assertion}
use Rattle.sp_core.specs.declared.function.Function.{Function}
use Rattle.sp_core.specs.declared.function.Param.{Param}
use Rattle.sp_core.specs.declared.function.TypeInfo.{TypeInfo}
use Rattle.sp_core.specs.Typing.{Signature}

-- a specification: its name, the lattice with the names of its levels, and what it declares, each in order
pub record Parts : Type 0 where
  pub name : List ℕ
  pub lattice : Order
  pub level_names : List (List ℕ)
  pub types : List TypeInfo
  pub params : List Param
  pub assertions : List Assertion
  pub functions : List Function

-- what the expressions of a specification may name
abbrev pub signature : Parts → Signature
signature p = record { levels = p.lattice.count; types = p.types; params = p.params; functions = p.functions }
