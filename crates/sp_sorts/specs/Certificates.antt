-- What the bytes of a certificate file are read as. They are divided into lines, not into tokens, and may be longer than those of
-- other texts. For the commands that read certificates.
use Rattle.std.specs.Prelude.{◌≡◌, ◌⊎◌, ℕ, List, [], ◌∷◌, Result, Ok, Err, map, refl}
use Rattle.std.proofs.Common.{◌∙◌, ap}
use Rattle.std.specs.Coded.{Coded, code_by, coded×, coded_list, coded_ℕ}
use Rattle.sp_text.specs.declared.fault.Quantity.TheVariants.{CertificateDepth}
use Rattle.sp_text.specs.declared.fault.Rule.TheVariants.{BadLine}
use Rattle.sp_text.specs.declared.fault.TextFault.{TextFault}
use Rattle.sp_text.specs.declared.fault.TextFault.TheVariants as fault
use Rattle.sp_text.specs.declared.limits.TheConstants.{MOST_CERTIFICATE_BYTES, MOST_CERTIFICATE_DEPTH}
use Rattle.sp_cert.specs.contracts.cert.Cert.{the_row}
use Rattle.sp_cert.specs.declared.cert.Cert.{Cert}
use Rattle.sp_cert.specs.declared.cert.Cert.TheVariants as cert
use Rattle.sp_cert.specs.Answers.{EndsEarly, Misfits, TooDeep}
use Rattle.sp_cert.specs.Spelling.{spelling}
use Rattle.sp_cert.specs.Tree.{File, Leaf, Split, Steps, Tree, tree}
use Rattle.sp_cert.specs.Within.{IsFile}
use Rattle.sp_cert.proofs.Trees.{tree_leaf, tree_split, tree_steps}
use Rattle.sp_frame.specs.Files.{Sort}

-- The file that the bytes spell; or the first line that doesn't fit, or that is nested too deep.
abbrev pub CertificatesRead : List ℕ → Result File TextFault → Type 0
CertificatesRead bytes (Ok f) = IsFile MOST_CERTIFICATE_DEPTH f × (spelling f ≡ bytes)
CertificatesRead bytes (Err (fault.Malformed m)) = (m.rule ≡ BadLine) × (Misfits bytes m.span ⊎ EndsEarly bytes m.span)
CertificatesRead bytes (Err (fault.Limit l)) = (l.quantity ≡ CertificateDepth) × TooDeep bytes l.span
CertificatesRead bytes (Err fault.Memory) = ⊥

abbrev pub certificates : Sort File
certificates = record { most = MOST_CERTIFICATE_BYTES; reads = CertificatesRead }

-- ---- how a plain file is told from another: by its certificates

-- a certificate of this tree
abbrev cert_of : Tree → Cert
cert_of (Split a t f) = cert.Split a (cert_of t) (cert_of f)
cert_of (Leaf ss) = cert.Leaf ss
cert_of (Steps ss t) = cert.Steps ss (cert_of t)

pub tree_again : (t : Tree) → tree (cert_of t) ≡ t
tree_again (Split a t f) = tree_split a (cert_of t) (cert_of f) ∙ (ap (λ u. Split a u (tree (cert_of f))) (tree_again t) ∙ ap (Split a t) (tree_again f))
tree_again (Leaf ss) = tree_leaf ss
tree_again (Steps ss t) = tree_steps ss (cert_of t) ∙ ap (Steps ss) (tree_again t)

pub trees_again : (ts : List Tree) → map tree (map cert_of ts) ≡ ts
trees_again [] = refl
trees_again (t ∷ ts) = ap (λ u. u ∷ map tree (map cert_of ts)) (tree_again t) ∙ ap (λ us. t ∷ us) (trees_again ts)

abbrev pub file_code : Coded File
file_code =
    code_by (ℕ × List Cert) (coded× coded_ℕ (coded_list the_row.coded)) (λ f. (f.format, map cert_of f.trees)) (λ p. record { format = p.0; trees = map tree p.1 })
    (λ f. ap (λ ts. record { format = f.format; trees = ts }) (trees_again f.trees))
