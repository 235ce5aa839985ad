-- Sets of facts as tests. For closure, search, certificates and the meaning of terms, which all speak of them.
use Rattle.std.specs.Prelude.{◌||◌, ℕ, Bool, false, List, if◌then◌else◌}
use Rattle.std.specs.List.{list_any}
use Rattle.sp_bits.specs.Table.{Bits, has, is_pair}
use Rattle.sp_rules.specs.declared.fact.Fact.{Fact}
use Rattle.sp_rules.specs.declared.fact.Fact.TheVariants.{Eq, Le}

-- they are one fact
abbrev pub is_fact : Fact → Fact → Bool
is_fact (Eq i j) (Eq a b) = is_pair i j a b
is_fact (Le i j) (Le a b) = is_pair i j a b
is_fact _ _ = false

-- the fact is one of the list
unfoldable pub is_one_of : List Fact → Fact → Bool
is_one_of facts f = list_any (λ g. is_fact g f) facts

-- the set with one fact more
abbrev pub with_fact : Fact → (Fact → Bool) → Fact → Bool
with_fact f given g = is_fact f g || given g

-- that a term has this truth value: it equals the constant TRUE, which is term 0, or FALSE, term 1
abbrev pub has_truth : ℕ → Bool → Fact
has_truth t b = Eq t (if b then 0 else 1)

-- the fact is in the tables of equalities and of the order
abbrev pub holds_in : Bits → Bits → Fact → Bool
holds_in eq le (Eq i j) = has eq i j
holds_in eq le (Le i j) = has le i j
