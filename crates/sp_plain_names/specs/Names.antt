-- The names of a specification that was read from texts are words: letters, digits and `_` alone. For whoever has to know that
-- what is printed of them stands in one line.
use Rattle.std.specs.Prelude.{ℕ, IsTrue, List, Ok}
use Rattle.std.specs.List.{All}
use Rattle.sp_outside.specs.Files.{Files}
use Rattle.sp_lexer.specs.Pieces.{word_byte}
use Rattle.sp_tree.specs.declared.interface.InterfaceTree.{InterfaceTree}
use Rattle.sp_tree.specs.declared.module.Module.{Module}
use Rattle.sp_core.specs.declared.function.Formal.{Formal}
use Rattle.sp_core.specs.declared.function.Function.{Function}
use Rattle.sp_core.specs.Parts.{Parts}
use Rattle.sp_core.specs.WellFormed.{members_of}
use Rattle.sp_specification.specs.Meaning.{IsSpecOf}
use Rattle.sp_sorts.specs.Sorts.{interfaces, modules}
use Rattle.sp_sorts.specs.Texts.{IsTree}
use Rattle.sp_system.specs.System.{SystemJudged, SystemRead}
use Rattle.sp_system.specs.declared.interface.Elaborated.{Elaborated}
use Rattle.sp_system.specs.declared.system.System.{System}

-- letters, digits and `_`
abbrev pub IsPlain : List ℕ → Type 0
IsPlain name = All (λ b. IsTrue (word_byte b)) name

abbrev pub HasPlainName : Formal → Type 0
HasPlainName x = IsPlain x.name

-- so are the names that a specification declares, and its own
pub record HasPlainNames (p : Parts) : Type 0 where
  pub name : IsPlain p.name
  pub levels : All IsPlain p.level_names
  pub types : All (λ t. IsPlain t.name) p.types
  pub members : All (λ t. All IsPlain (members_of t)) p.types
  pub params : All (λ q. IsPlain q.name) p.params
  pub functions : All (λ f. IsPlain f.name) p.functions
  pub formals : All (λ f. All HasPlainName f.formals) p.functions

-- the law: of each specification that an interface and modules stand for, all of which were read
abbrev pub PlainNamesLaw : Type 0
PlainNamesLaw =
    (i : InterfaceTree) (ms : List Module) (p : Parts) → IsTree interfaces i → All (IsTree modules) ms → IsSpecOf i ms p → HasPlainNames p

-- the law: and of the specification of each system that was read and judged
abbrev pub SystemNamesLaw : Type 0
SystemNamesLaw =
    (files : Files) (interface : List ℕ) (x : System) (e : Elaborated) → SystemRead interface files (Ok x) → SystemJudged interface x (Ok e) → HasPlainNames e.spec
