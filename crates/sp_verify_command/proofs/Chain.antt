-- From what the work comes to, what was read, judged and listed; and back.
use Rattle.std.proofs.Common.{◌≡◌, ◌∙◌, ℕ, ◌≤◌, true, nat_le, if◌then◌else◌, List, None, Some, Result, Ok, Err, ap, arith, length, refl, subst, sym}
use Rattle.std.proofs.lemmas.Bool.Decides.{nat_tests}
use Rattle.sp_text.specs.declared.fault.TextFault.{TextFault}
use Rattle.sp_text.specs.declared.fault.TextFault.TheVariants as fault
use Rattle.sp_text.specs.declared.limits.TheConstants.{MOST_CERTIFICATE_BYTES}
use Rattle.sp_outside.specs.Files.{Files, first_file}
use Rattle.sp_core.specs.Parts.{Parts}
use Rattle.sp_cert.specs.Spelling.{spelling}
use Rattle.sp_cert.specs.Tree.{File}
use Rattle.sp_cert.specs.Within.{IsFile}
use Rattle.sp_formulas.specs.Formulas.{Formula}
use Rattle.sp_frame.specs.declared.refusal.Refusal.{Refusal}
use Rattle.sp_frame.specs.declared.refusal.Refusal.TheVariants as refusal
use Rattle.sp_frame.specs.Files.{FileRead, text_found, text_within}
use Rattle.sp_frame.specs.Steps.{Gives, IsNamed, Onward, Step, Then}
use Rattle.sp_frame.specs.Uncertified.{Lines}
use Rattle.sp_formula_list.specs.Listed.{FormulasListed}
use Rattle.sp_sorts.specs.Certificates.{CertificatesRead, certificates}
use Rattle.sp_system.specs.System.{SystemJudged, SystemRead}
use Rattle.sp_system.specs.declared.interface.Elaborated.{Elaborated}
use Rattle.sp_system.specs.declared.system.System.{System}
use Rattle.sp_verify_command.specs.declared.reading.Texts.{Texts}
use Rattle.sp_verify_command.specs.Verify.{TextsRead}

-- ---- the certificates that were read

module _ (name : List ℕ) where
  good_by : (text : List ℕ) (f : File) (answer : Result File TextFault) → CertificatesRead text answer → IsNamed name answer (Ok f) → IsFile 64 f
  good_by text f (Ok g) h e = let same : f ≡ g = cc in subst (IsFile 64) (sym same) h.0
  good_by text f (Err (fault.Malformed m)) h e = absurd cc
  good_by text f (Err (fault.Limit l)) h e = absurd cc
  good_by text f (Err fault.Memory) h e = absurd e

  good_file : (files : Files) (f : File) → FileRead certificates name files (Ok f) → IsFile 64 f
  good_file files f (Err r, loaded, e) = absurd cc
  good_file files f (Ok text, loaded, (answer, reads, named)) = good_by text f answer reads named

  -- a file of these bytes is read as what they spell
  within : (bytes : List ℕ) → length bytes ≤ MOST_CERTIFICATE_BYTES → Ok bytes ≡ text_within name MOST_CERTIFICATE_BYTES bytes
  within bytes short =
      let test : true ≡ nat_le (length bytes) MOST_CERTIFICATE_BYTES = grind (arith, nat_tests) in
      ap (λ b. if b then Ok bytes else Err (refusal.TooLong name MOST_CERTIFICATE_BYTES)) test

  pub reads_spelled : (files : Files) (bytes : List ℕ) (f : File) → first_file name files ≡ Some bytes → length bytes ≤ MOST_CERTIFICATE_BYTES → IsFile 64 f → spelling f ≡ bytes
      → FileRead certificates name files (Ok f)
  reads_spelled files bytes f found short good is = (Ok bytes, within bytes short ∙ sym (ap (text_found name MOST_CERTIFICATE_BYTES) found), (Ok f, (good, is), refl))

-- ---- work that answers of the formulas and of the file

module _ (answers : Parts → List Formula → File → Lines) (interface certs : List ℕ) where
  abbrev pub Work : Texts → Step Lines
  Work x = Then (SystemJudged interface x.system) (λ e. Then (FormulasListed None e.spec) (λ os. Gives (answers e.spec os x.certificates)))

  abbrev pub Done : Files → Step Lines
  Done files = Then (TextsRead interface certs files) Work

  module _ (files : Files) where
    pub record Comes (a : Lines) : Type 0 where
      pub system : System
      pub file : File
      pub elaborated : Elaborated
      pub listed : List Formula
      pub read : SystemRead interface files (Ok system)
      pub good : IsFile 64 file
      pub judged : SystemJudged interface system (Ok elaborated)
      pub formulas : FormulasListed None elaborated.spec (Ok listed)
      pub is : a ≡ answers elaborated.spec listed file

    module _ (a : Lines) where
      by_listed : (x : System) (f : File) (e : Elaborated) → SystemRead interface files (Ok x) → IsFile 64 f → SystemJudged interface x (Ok e) → (listed : Result (List Formula) Refusal) → FormulasListed None e.spec listed
          → Onward (λ os out. out ≡ Ok (answers e.spec os f)) listed (Ok a) → Comes a
      by_listed x f e read good judged (Err r) formulas h = absurd cc
      by_listed x f e read good judged (Ok os) formulas h = record {
        system = x;
        file = f;
        elaborated = e;
        listed = os;
        read = read;
        good = good;
        judged = judged;
        formulas = formulas;
        is = cc;
      }

      by_judged : (x : System) (f : File) → SystemRead interface files (Ok x) → IsFile 64 f → (judged : Result Elaborated Refusal) → SystemJudged interface x judged
          → Onward (λ e. Then (FormulasListed None e.spec) (λ os. Gives (answers e.spec os f))) judged (Ok a) → Comes a
      by_judged x f read good (Err r) judged h = absurd cc
      by_judged x f read good (Ok e) judged h = by_listed x f e read good judged h.0 h.1 h.2

      by_texts : (texts : Result Texts Refusal) → TextsRead interface certs files texts → Onward Work texts (Ok a) → Comes a
      by_texts (Err r) read h = absurd cc
      by_texts (Ok t) (Err r, read, e) h = absurd cc
      by_texts (Ok t) (Ok x, read, (Err r, file, e)) h = absurd cc
      by_texts (Ok t) (Ok x, read, (Ok f, file, e)) h =
          let same : t ≡ record { system = x; certificates = f } = cc in
          let work : Onward Work (Ok (record { system = x; certificates = f })) (Ok a) = subst (λ (u : Texts). Onward Work (Ok u) (Ok a)) same h in
          by_judged x f read (good_file certs files f file) work.0 work.1 work.2

      pub comes : Done files (Ok a) → Comes a
      comes h = by_texts h.0 h.1 h.2

    pub does : (x : System) (f : File) (e : Elaborated) (os : List Formula) → SystemRead interface files (Ok x) → FileRead certificates certs files (Ok f) → SystemJudged interface x (Ok e)
        → FormulasListed None e.spec (Ok os) → Done files (Ok (answers e.spec os f))
    does x f e os read file judged formulas = (Ok (record { system = x; certificates = f }), (Ok x, read, (Ok f, file, refl)), (Ok e, judged, (Ok os, formulas, refl)))
