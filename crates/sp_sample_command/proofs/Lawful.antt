-- The work of `sample` comes to one outcome at most, and its refusals say nothing of files.
use Rattle.std.proofs.Common.{◌≡◌, ◌∙◌, ◌∷◌, [], ℕ, List, None, Some, Err, Result, ap, cond, refl, sym, true}
use Rattle.std.specs.Str.{bytes_eq}
use Rattle.std.proofs.lemmas.Slice.Eq.{bytes_eq-Decides}
use Rattle.sp_outside.specs.Files.{Files, first_file}
use Rattle.sp_core.specs.Parts.{Parts}
use Rattle.sp_frame.specs.declared.refusal.Refusal.TheVariants as refusal
use Rattle.sp_frame.specs.Laws.{IsLawful, IsOnce}
use Rattle.sp_frame.proofs.Lawful.{gives_lawful, judged_lawful, then_lawful}
use Rattle.sp_sample.specs.Instance.{sample_instance}
use Rattle.sp_sample.specs.Interface.{sample_interface}
use Rattle.sp_sample.specs.Module.{sample_module}
use Rattle.sp_sorts.specs.Sorts.{instances, interfaces, modules}
use Rattle.sp_sorts.specs.Texts.{Grammar, Read}
use Rattle.sp_sorts.proofs.Exact.{instance_once, interface_once, module_once}
use Rattle.sp_system.specs.declared.system.System.{System}
use Rattle.sp_system.proofs.Lawful.{judged_system_lawful}
use Rattle.sp_formula_list.proofs.Lawful.{listed_lawful}
use Rattle.sp_deciding.proofs.Lawful.{all_lawful}
use Rattle.sp_sample_command.specs.Sample.{SampleAnswered, SampleDone}
use Rattle.sp_sample_command.specs.Secure.{LoadsNothing}
use Rattle.sp_sample_command.specs.Texts.{SampleRead, TextRead, instance_file, interface_file, module_file}

module _ (files : Files) where
  text_lawful : {T : Type 0} (grammar : Grammar T) (name text : List ℕ) → IsOnce (Read grammar text) → IsLawful files (TextRead grammar name text)
  text_lawful grammar name text once = then_lawful files _ _ (judged_lawful files name _ once) (λ x. gives_lawful files _)

  read_lawful : (n : ℕ) → IsLawful files (SampleRead n)
  unfolding SampleRead
  read_lawful n =
      then_lawful files _ _ (text_lawful interfaces interface_file (sample_interface n) (interface_once (sample_interface n))) (λ i.
      then_lawful files _ _ (text_lawful modules module_file (sample_module n) (module_once (sample_module n))) (λ m.
      then_lawful files _ _ (text_lawful instances instance_file sample_instance (instance_once sample_instance)) (λ s.
      gives_lawful files (record { interface = i; modules = m ∷ []; sample = s }))))

  answered_lawful : (n : ℕ) (p : Parts) → IsLawful files (SampleAnswered n p)
  answered_lawful n p =
      then_lawful files _ _ (listed_lawful files None p) (λ os.
      then_lawful files _ _ (all_lawful files None p 1 os) (λ ds. gives_lawful files _))

  pub sample_lawful : (n : ℕ) → IsLawful files (SampleDone n)
  unfolding SampleDone
  sample_lawful n =
      then_lawful files _ _ (read_lawful n) (λ x.
      then_lawful files _ _ (judged_system_lawful files interface_file x) (λ e. answered_lawful n e.spec))

-- A refusal would hold of any files, and of some it doesn't: of none it can't be that one is too long, nor of one that it is
-- missing.
module _ (n : ℕ) where
  there : (name : List ℕ) → first_file name ((name, []) ∷ []) ≡ None → ⊥
  there name e =
      let same : bytes_eq name name ≡ true = (bytes_eq-Decides name name).1 refl in
      let some : Some [] ≡ None = sym (ap (λ b. cond b (Some []) None) same) ∙ e in
      absurd cc

  none_held : (name : List ℕ) {bytes : List ℕ} → first_file name [] ≡ Some bytes → ⊥
  none_held name e = cc

  pub loads_nothing : LoadsNothing n
  loads_nothing = record {
    none_missing = λ name h. there name ((sample_lawful ((name, []) ∷ []) n).due (refusal.Missing name) h);
    none_long = λ name most h. absurd (none_held name ((sample_lawful [] n).due (refusal.TooLong name most) h).1);
  }
