-- What commands certify, and which bytes spell certificates of it, for what a report is. It is `prove` alone that certifies anything: the
-- specification of an interface, by certificates of its flow formulas.
use Rattle.std.specs.Prelude.{ℕ, List}
use Rattle.sp_core.specs.Parts.{Parts}
use Rattle.sp_prove_command.specs.Certificates.{AreCertificates}

abbrev pub Certified : Type 0
Certified = Parts

abbrev pub spells : Certified → List ℕ → Type 0
spells = AreCertificates
