-- What a form's reader finds, in terms of what the form means.
use Rattle.std.specs.Prelude.{◌≡◌, ℕ, List, Ok, Err}
use Rattle.sp_text.specs.declared.token.Token.{Token}
use Rattle.sp_text.specs.declared.fault.TextFault.{TextFault}
use Rattle.sp_text.specs.declared.fault.TextFault.TheVariants as fault
use Rattle.sp_text.specs.declared.fault.Rule.TheVariants.{Unexpected}
use Rattle.sp_grammar.specs.Lang.{Lang}
use Rattle.sp_grammar.specs.Within.{Limits, Budget, ReadsWithin, StopsWithin, ExceedsWithin}
use Rattle.sp_grammar.specs.Codes.{place_of}
use Rattle.sp_grammar.specs.Texts.{quantity_of}
use Rattle.sp_forms.specs.Cursors.{Cursor, go, Outcome}

-- The fault is that of F, read from the token at i on within b. A reader as a function doesn't run out of memory.
abbrev pub FailsWithin : {V : Type 0} → Limits → (Limits → Lang V) → List Token → ℕ → ℕ → TextFault → Type 0
FailsWithin b F ts end i (fault.Malformed m) = (n : ℕ) × StopsWithin b F i n × (m ≡ record { span = place_of ts end n; rule = Unexpected })
FailsWithin b F ts end i (fault.Limit l) = (q : Budget) × (n : ℕ) × ExceedsWithin b F q i n × (l ≡ record { span = place_of ts end n; quantity = quantity_of q })
FailsWithin b F ts end i fault.Memory = ⊥

-- The outcome is what F is from there on, within b: the whole list that nothing goes on, and its value; else the fault.
abbrev pub Meets : {V : Type 0} → Limits → (Limits → Lang V) → Cursor → Outcome V → Type 0
Meets b F i (Ok p) = (p.1 ≡ go i p.1.place) × ReadsWithin b F p.0 i.place p.1.place
Meets b F i (Err e) = FailsWithin b F i.tokens i.end i.place e
