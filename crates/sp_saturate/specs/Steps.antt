-- The steps by which facts were found, in order. For the closure and for the leaves of certificates.
use Rattle.std.specs.Prelude.{◌≡◌, ◌==◌, ℕ, ◌/◌, ◌%◌, ◌<◌, ◌⊎◌, ◌&&◌, Bool, false, cond, List, length, take, slice_index, slice_index_or, None}
use Rattle.std.specs.List.{list_any}
use Rattle.sp_rules.specs.Terms.{Terms}
use Rattle.sp_rules.specs.Table.{lack_of}
use Rattle.sp_rules.specs.declared.fact.Fact.{Fact}
use Rattle.sp_rules.specs.declared.fact.Fact.TheVariants.{Eq, Le}
use Rattle.sp_rules.specs.declared.fact.Step.{Step}
use Rattle.sp_rules.specs.Facts.{is_fact}

-- the fact is one of those that the steps give
unfoldable pub on : List Step → Fact → Bool
on steps f = list_any (λ s. is_fact s.fact f) steps

-- the fact is given: its step has no rule
unfoldable pub given_on : List Step → Fact → Bool
given_on steps f = list_any (λ s. (s.rule == 0) && is_fact s.fact f) steps

abbrev pub given : Fact → Step
given f = record { fact = f; rule = 0; p = 0; q = 0 }

abbrev pub step_at : List Step → ℕ → Step
step_at steps k = slice_index_or steps k (given (Eq 0 0))

-- the step is given, or lacks nothing over those before it; its fact is none of theirs
pub record IsFound (ts : Terms) (before : List Step) (s : Step) : Type 0 where
  pub reason : (s.rule ≡ 0) ⊎ (lack_of ts (on before) s ≡ None)
  pub new : on before s.fact ≡ false

-- each step is found over those before it
abbrev pub AreFound : Terms → List Step → Type 0
AreFound ts steps = (k : ℕ) → k < length steps → IsFound ts (take k steps) (step_at steps k)

-- the step that four words spell
abbrev pub step_of : List ℕ → Step
step_of words = record {
  fact = cond (slice_index words 0 % 2 == 0) (Eq (slice_index words 1) (slice_index words 2)) (Le (slice_index words 1) (slice_index words 2));
  rule = slice_index words 0 / 2 % 256;
  p = slice_index words 3 / 512;
  q = slice_index words 3 % 512;
}
