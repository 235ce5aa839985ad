-- The sorts of texts that commands read, by their grammars, and the names of files that texts name.
use Rattle.std.specs.Prelude.{ℕ, List, ◌++◌, codes}
use Rattle.sp_tree.specs.declared.interface.HierarchyTree.{HierarchyTree}
use Rattle.sp_tree.specs.declared.interface.InterfaceTree.{InterfaceTree}
use Rattle.sp_tree.specs.declared.interface.MappingTree.{MappingTree}
use Rattle.sp_tree.specs.declared.instance.InstanceTree.{InstanceTree}
use Rattle.sp_tree.specs.declared.instance.ScriptTree.{ScriptTree}
use Rattle.sp_tree.specs.declared.module.Module.{Module}
use Rattle.sp_grammar.specs.Texts.{AnswersCounted, AnswersText}
use Rattle.sp_parser.specs.Modules.{module_line}
use Rattle.sp_interface.specs.Counts.{over_interfaces, over_modules}
use Rattle.sp_interface.specs.Hierarchies.{hierarchy_line}
use Rattle.sp_interface.specs.Interfaces.{interface_line}
use Rattle.sp_interface.specs.Mappings.{mapping_line}
use Rattle.sp_instance_text.specs.Instances.{instance_line}
use Rattle.sp_instance_text.specs.Scripts.{script_line}
use Rattle.sp_sorts.specs.Texts.{Grammar}

-- interfaces, of at most 32 modules
abbrev pub interfaces : Grammar InterfaceTree
interfaces tokens = AnswersCounted (interface_line tokens) over_modules tokens

abbrev pub modules : Grammar Module
modules tokens = AnswersText (module_line tokens) tokens

abbrev pub instances : Grammar InstanceTree
instances tokens = AnswersText (instance_line tokens) tokens

abbrev pub scripts : Grammar ScriptTree
scripts tokens = AnswersText (script_line tokens) tokens

-- hierarchies, of at most 16 interfaces
abbrev pub hierarchies : Grammar HierarchyTree
hierarchies tokens = AnswersCounted (hierarchy_line tokens) over_interfaces tokens

abbrev pub mappings : Grammar MappingTree
mappings tokens = AnswersText (mapping_line tokens) tokens

-- the files of a module, of an instance, of an interface and of a mapping of this name
abbrev pub module_file : List ℕ → List ℕ
module_file name = name ++ codes ".special"

abbrev pub instance_file : List ℕ → List ℕ
instance_file name = name ++ codes ".inst"

abbrev pub interface_file : List ℕ → List ℕ
interface_file name = name ++ codes ".iface"

abbrev pub mapping_file : List ℕ → List ℕ
mapping_file name = name ++ codes ".map"
