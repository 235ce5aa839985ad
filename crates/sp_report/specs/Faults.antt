-- The text of what a certificate breaks.
use Rattle.std.specs.Prelude.{ℕ, List, ◌++◌, codes, decimal}
use Rattle.sp_rules.specs.declared.fact.Lack.{Lack}
use Rattle.sp_rules.specs.declared.fact.Lack.TheVariants as lack
use Rattle.sp_cert.specs.Spelling.{fact_words}
use Rattle.sp_cert.specs.declared.cert.CertFault.{CertFault}
use Rattle.sp_cert.specs.declared.cert.CertFault.TheVariants as fault

-- `number`, `form`, or the missing premise as a certificate spells it
abbrev pub lack_text : Lack → List ℕ
lack_text lack.Number = codes "number"
lack_text lack.Form = codes "form"
lack_text (lack.Fact f) = fact_words f

-- `step s lacks ..`, or `node k ..` with what is wrong there
abbrev pub fault_text : CertFault → List ℕ
fault_text (fault.BadStep s l) = codes "step " ++ (decimal s ++ (codes " lacks " ++ lack_text l))
fault_text (fault.NotAnAtom k) = codes "node " ++ (decimal k ++ codes " NotAnAtom")
fault_text (fault.TooDeep k) = codes "node " ++ (decimal k ++ codes " TooDeep")
fault_text (fault.NoClash k) = codes "node " ++ (decimal k ++ codes " NoClash")
