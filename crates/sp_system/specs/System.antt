-- A system is read: its interface, then the modules that it names in their order, then the sample that it names. And it is judged:
-- the interface with its modules, then the sample. One definition for all commands.
use Rattle.std.specs.Prelude.{◌≡◌, ℕ, List}
use Rattle.sp_text.specs.declared.fault.Rule.TheVariants as rule
use Rattle.sp_outside.specs.Files.{Files}
use Rattle.sp_tree.specs.declared.module.Module.{Module}
use Rattle.sp_tree.specs.declared.names.Ident.{Ident}
use Rattle.sp_core.specs.Parts.{Parts}
use Rattle.sp_core.specs.Instances.{InstanceParts}
use Rattle.sp_frame.specs.declared.refusal.Refusal.TheVariants as refusal
use Rattle.sp_frame.specs.Steps.{Demand, Each, Gives, Step, Then}
use Rattle.sp_sorts.specs.Sorts.{instance_file, instances, interfaces, module_file, modules}
use Rattle.sp_sorts.specs.Texts.{TreeRead}
use Rattle.sp_system.specs.Interfaces.{InterfaceJudged}
use Rattle.sp_system.specs.Instances.{InstanceJudged}
use Rattle.sp_system.specs.declared.interface.Elaborated.{Elaborated}
use Rattle.sp_system.specs.declared.system.System.{System}

-- the module of this name is read
abbrev pub ModuleRead : List ℕ → Files → Step Module
ModuleRead name files = TreeRead modules (module_file name) files

-- and the modules of these names in their order
unfoldable pub ModulesRead : List Ident → Files → Step (List Module)
ModulesRead names files = Each (λ m. ModuleRead m.name files) names

-- the texts of the system are read
abbrev pub SystemRead : List ℕ → Files → Step System
SystemRead name files =
    Then (TreeRead interfaces name files) (λ i.
    Then (ModulesRead i.modules files) (λ ms.
    Then (TreeRead instances (instance_file i.sample.name) files) (λ s.
    Gives (record { interface = i; modules = ms; sample = s }))))

-- the file of the sample
abbrev pub sample_file : System → List ℕ
sample_file x = instance_file x.interface.sample.name

-- the sample has the name that the interface calls it by
abbrev pub SampleNamed : System → Step (Unit {0})
SampleNamed x =
    Demand (x.sample.name.name ≡ x.interface.sample.name) (refusal.Broken (sample_file x) (record { span = x.sample.name.span; rule = rule.WrongName }))

-- and it is an admissible instance
abbrev pub SampleJudged : Parts → System → Step InstanceParts
SampleJudged p x =
    Then (SampleNamed x) (λ _.
    InstanceJudged p (sample_file x) x.sample)

-- The system of the interface in this file breaks no rule, and its sample is admissible. The value is the specification, with all that
-- is declared.
abbrev pub SystemJudged : List ℕ → System → Step Elaborated
SystemJudged file x =
    Then (InterfaceJudged file x.interface x.modules) (λ e.
    Then (SampleJudged e.spec x) (λ _.
    Gives e))
