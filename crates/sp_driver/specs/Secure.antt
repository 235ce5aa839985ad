-- What is secure where the top call accepts, by the command that the words are.
use Rattle.std.specs.Prelude.{ℕ, List, Option, Some}
use Rattle.sp_outside.specs.Files.{Files}
use Rattle.sp_tree.specs.declared.names.Ident.{Ident}
use Rattle.sp_words.specs.Words.{Command, check, hierarchy, prove, sample, verify}
use Rattle.sp_sorts.specs.Sorts.{interface_file}
use Rattle.sp_check_command.specs.Secure.{IsSecureInterface}
use Rattle.sp_headline.specs.Lines.{HoldsAccepted}
use Rattle.sp_hierarchy_command.specs.Secure.{IsSecureHierarchy}
use Rattle.sp_hierarchy_headline.specs.Blocks.{AcceptedUnder, interface_heading, mapping_heading}
use Rattle.sp_hierarchy_headline.specs.Hidden.{HasOneRow, IsHidingMapping, IsRowOf}
use Rattle.sp_sample_command.specs.Secure.{IsSecureSample}

-- What the words ask about is secure. With `check`, `prove` and `verify` it is an interface: the files read as it and stand for one specification, of
-- which its sample is an admissible instance, and that specification is secure. With `hierarchy` it is each interface of a hierarchy, and what is seen
-- through each of its mappings. With `sample` it is an interface whose texts are made from the size alone. Other words ask nothing.
abbrev pub AskedIsSecure : Option Command → Files → Type 0
AskedIsSecure (Some (check interface)) files = IsSecureInterface interface files
AskedIsSecure (Some (prove interface)) files = IsSecureInterface interface files
AskedIsSecure (Some (verify interface certificates)) files = IsSecureInterface interface files
AskedIsSecure (Some (hierarchy whole)) files = IsSecureHierarchy whole files
AskedIsSecure (Some (sample size)) files = IsSecureSample size
AskedIsSecure words files = Unit {0}

-- What lines that begin with ACCEPTED mean in the bytes of a report of `hierarchy`, or of a part of one: under the heading of an interface, that it is
-- secure; under that of a row's mapping, where one stands under that of the row's lower interface too, that the mapping hides all that is above. Each
-- mapping under whose heading one stands is that of a row.
pub record HierarchyIsShown (file bytes : List ℕ) (files : Files) : Type 0 where
  pub interfaces : (name : List ℕ) → AcceptedUnder (interface_heading name) bytes → IsSecureInterface (interface_file name) files
  pub mappings : (row : Ident × Ident × Ident) → IsRowOf file files row → AcceptedUnder (mapping_heading row.2.name) bytes → AcceptedUnder (interface_heading row.1.name) bytes
      → IsHidingMapping row.2.name row.0.name row.1.name files
  pub rows : (name : List ℕ) → AcceptedUnder (mapping_heading name) bytes → HasOneRow file name files

-- What a line of these bytes that begins with ACCEPTED means: that what the words ask about is secure; with `hierarchy`, what stands above the line.
abbrev pub ShownIsSecure : Option Command → List ℕ → Files → Type 0
ShownIsSecure (Some (hierarchy whole)) bytes files = HierarchyIsShown whole bytes files
ShownIsSecure words bytes files = HoldsAccepted bytes → AskedIsSecure words files
