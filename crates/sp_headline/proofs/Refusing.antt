-- Each refusal of `check` and `verify` tells names without line feeds, where their words hold none; and each of `sample`.
use Rattle.std.proofs.Common.{◌≡◌, ℕ, List, Option, None, Result, Ok, Err, refl, subst, sym}
use Rattle.sp_outside.specs.Files.{Files}
use Rattle.sp_cert.specs.Tree.{File}
use Rattle.sp_core.specs.Parts.{Parts}
use Rattle.sp_frame.specs.declared.refusal.Refusal.{Refusal}
use Rattle.sp_frame.specs.Files.{FileRead}
use Rattle.sp_frame.specs.Steps.{Gives, Judged, Onward, Then}
use Rattle.sp_sample.specs.Instance.{sample_instance}
use Rattle.sp_sample.specs.Interface.{sample_interface}
use Rattle.sp_sample.specs.Module.{sample_module}
use Rattle.sp_sorts.specs.Certificates.{certificates}
use Rattle.sp_sorts.specs.Sorts.{instances, interfaces, modules}
use Rattle.sp_sorts.specs.Texts.{Grammar, Read}
use Rattle.sp_system.specs.System.{SystemRead}
use Rattle.sp_system.specs.declared.system.System.{System}
use Rattle.sp_check_command.specs.Check.{CheckAnswered, CheckDone, CheckWork}
use Rattle.sp_verify_command.specs.Verify.{TextsRead, VerifyDone, VerifyWork}
use Rattle.sp_verify_command.specs.declared.reading.Texts.{Texts}
use Rattle.sp_sample_command.specs.Sample.{SampleDone, SampleWork}
use Rattle.sp_sample_command.specs.Texts.{SampleRead, TextRead, instance_file, interface_file, module_file}
use Rattle.sp_plain_names.proofs.Trees.{interface_plain}
use Rattle.sp_headline.specs.Refused.{CheckRefusesLaw, IsInLine, IsOwnerInLine, RefusesInLine, SampleRefusesLaw, VerifyRefusesLaw}
use Rattle.sp_headline.proofs.Refusals.{decided_in_line, file_in_line, gives_in_line, judged_in_line, judging_in_line, listed_in_line, read_in_line, system_in_line, then_in_line}
use Rattle.sp_headline.proofs.Sampled.{are_trees}

-- ---- `check`

pub answered_in_line : (owner : Option (List ℕ)) (p : Parts) → IsOwnerInLine owner → RefusesInLine (CheckAnswered owner p)
answered_in_line owner p free =
    then_in_line _ _ (listed_in_line owner free p) (λ os _.
    then_in_line _ _ (decided_in_line owner free p 1 os) (λ ds _.
    gives_in_line _))

check_in_line : (files : Files) (interface : List ℕ) (x : System) → IsInLine interface → SystemRead interface files (Ok x) → RefusesInLine (CheckWork interface x)
check_in_line files interface x free read =
    then_in_line _ _ (read_in_line files interface x free read) (λ e _.
    answered_in_line None e.spec tt)

pub check_refuses : CheckRefusesLaw
unfolding CheckDone
check_refuses files interface free =
    then_in_line (SystemRead interface files) (CheckWork interface) (system_in_line files interface free) (λ x read.
    check_in_line files interface x free read)

-- ---- `verify`

module _ (files : Files) (interface certs : List ℕ) where
  certificates_behind : (x : System) (t : Texts) → SystemRead interface files (Ok x) → (second : Result File Refusal)
      → Onward (λ f out. out ≡ Ok (record { system = x; certificates = f })) second (Ok t) → SystemRead interface files (Ok t.system)
  certificates_behind x t read (Err r) e = absurd cc
  certificates_behind x t read (Ok f) e =
      let same : t ≡ record { system = x; certificates = f } = cc in
      subst (λ (y : Texts). SystemRead interface files (Ok y.system)) (sym same) read

  -- the system of the texts was read
  system_of : (t : Texts) (first : Result System Refusal) → SystemRead interface files first
      → Onward (λ x. Then (FileRead certificates certs files) (λ f out. out ≡ Ok (record { system = x; certificates = f }))) first (Ok t) → SystemRead interface files (Ok t.system)
  system_of t (Err r) read h = absurd cc
  system_of t (Ok x) read h = certificates_behind x t read h.0 h.2

  texts_in_line : IsInLine interface → IsInLine certs → RefusesInLine (TextsRead interface certs files)
  texts_in_line free own =
      then_in_line _ _ (system_in_line files interface free) (λ x _.
      then_in_line _ _ (file_in_line certs own files certificates) (λ f _.
      gives_in_line _))

  verifying_in_line : (t : Texts) → IsInLine interface → SystemRead interface files (Ok t.system) → RefusesInLine (VerifyWork interface t)
  verifying_in_line t free read =
      then_in_line _ _ (read_in_line files interface t.system free read) (λ e _.
      then_in_line _ _ (listed_in_line None tt e.spec) (λ os _.
      gives_in_line _))

pub verify_refuses : VerifyRefusesLaw
unfolding VerifyDone
verify_refuses files interface certs free own =
    then_in_line (TextsRead interface certs files) (VerifyWork interface) (texts_in_line files interface certs free own) (λ t read.
    verifying_in_line files interface certs t free (system_of files interface certs t read.0 read.1 read.2))

-- ---- `sample`

text_in_line : {T : Type 0} (grammar : Grammar T) (name text : List ℕ) → IsInLine name → RefusesInLine (TextRead grammar name text)
text_in_line grammar name text free = then_in_line (Judged name (Read grammar text)) (λ x. Gives x.tree) (judged_in_line name free (Read grammar text)) (λ x _. gives_in_line x.tree)

reading_in_line : (n : ℕ) → RefusesInLine (SampleRead n)
unfolding SampleRead
reading_in_line n =
    then_in_line _ _ (text_in_line interfaces interface_file (sample_interface n) refl) (λ i _.
    then_in_line _ _ (text_in_line modules module_file (sample_module n) refl) (λ m _.
    then_in_line _ _ (text_in_line instances instance_file sample_instance refl) (λ s _.
    gives_in_line _)))

pub sample_refuses : SampleRefusesLaw
unfolding SampleDone
sample_refuses n =
    then_in_line (SampleRead n) (SampleWork n) (reading_in_line n) (λ x read.
    then_in_line _ _ (judging_in_line interface_file x refl (interface_plain x.interface (are_trees n x read).0)) (λ e _.
    then_in_line _ _ (listed_in_line None tt e.spec) (λ os _.
    then_in_line _ _ (decided_in_line None tt e.spec 1 os) (λ ds _.
    gives_in_line _))))
