-- The first certificate of a file of the first format.
use Rattle.std.proofs.Common.{◌≡◌, ℕ, List, [], ◌∷◌, map, Option, Some, None, IfSome, refl, sym, subst, inr, arith}
use Rattle.std.specs.Prelude.{slice_get}
use Rattle.std.specs.Option.{option_copied}
use Rattle.std.proofs.lemmas.Option.{same_Some}
use denote.Ref.{Bor}
use Rattle.sp_cert.specs.declared.cert.Cert.{Cert}
use Rattle.sp_cert.specs.Tree.{File, tree}
use Rattle.sp_cert.specs.Within.{AreTrees, IsFile, IsTree}
use Rattle.sp_checker.specs.Lifts.{FirstFormatIsPlain}
use Rattle.sp_checker.specs.Migration.{IsPlain}

abbrev file_with : ℕ → List Cert → File
file_with v certs = record { format = v; trees = map tree certs }

pub first_plain : FirstFormatIsPlain → (v : ℕ) → v ≡ 1 → (certs : List Cert) → IsFile 64 (file_with v certs) → (o : Option (Bor Cert)) → option_copied o ≡ slice_get certs 0
    → IfSome o (λ x. IsPlain (tree x.now) × IsTree 1 64 (tree x.now))
first_plain law v e certs g None q = tt
first_plain law v e [] g (Some r) q = absurd (cc)
first_plain law v e (x ∷ xs) g (Some r) q =
    let plain = law 64 (file_with v (x ∷ xs)) g e 0 (tree x) (omega arith) in
    let trees : AreTrees 1 64 1 (tree x ∷ map tree xs) = subst (λ n. AreTrees n 64 1 (tree x ∷ map tree xs)) e g.trees in
    subst (λ (k : Cert). IsPlain (tree k) × IsTree 1 64 (tree k)) (sym (same_Some r.now x q)) (plain, trees.1)

-- a file of one certificate of the second format
pub one_file : (certs : List Cert) (cert : Cert) → certs ≡ cert ∷ [] → IsTree 2 64 (tree cert) → IsFile 64 (file_with 2 certs)
one_file certs cert e g = subst (λ l. IsFile 64 (file_with 2 l)) (sym e) (record { format = inr refl; trees = (omega arith, g, tt) })
