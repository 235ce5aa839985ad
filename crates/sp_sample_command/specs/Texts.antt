-- The texts of a sample are read, in the order in which `check` reads those of files. No file is loaded.
use Rattle.std.specs.Prelude.{ℕ, List, [], ◌∷◌, codes}
use Rattle.sp_frame.specs.Steps.{Gives, Judged, Step, Then}
use Rattle.sp_sample.specs.Instance.{sample_instance}
use Rattle.sp_sample.specs.Interface.{sample_interface}
use Rattle.sp_sample.specs.Module.{sample_module}
use Rattle.sp_sorts.specs.Sorts.{instances, interfaces, modules}
use Rattle.sp_sorts.specs.Texts.{Grammar, Read}
use Rattle.sp_system.specs.declared.system.System.{System}

-- the names by which the texts are called where they have a fault
abbrev pub interface_file : List ℕ
interface_file = codes "sample.iface"

abbrev pub module_file : List ℕ
module_file = codes "sample.special"

abbrev pub instance_file : List ℕ
instance_file = codes "sample.inst"

-- the text of this name is read as a tree
abbrev pub TextRead : {T : Type 0} → Grammar T → List ℕ → List ℕ → Step T
TextRead grammar name text = Then (Judged name (Read grammar text)) (λ x. Gives x.tree)

-- the interface, the module and the instance of the sample of this size are read
unfoldable pub SampleRead : ℕ → Step System
SampleRead n =
    Then (TextRead interfaces interface_file (sample_interface n)) (λ i.
    Then (TextRead modules module_file (sample_module n)) (λ m.
    Then (TextRead instances instance_file sample_instance) (λ s.
    Gives (record { interface = i; modules = m ∷ []; sample = s }))))
