-- Closed sets of facts, and the laws of the rules.
use Rattle.std.specs.Prelude.{◌≡◌, Bool, true, None}
use Rattle.sp_rules.specs.Terms.{Terms}
use Rattle.sp_rules.specs.Table.{lack_of}
use Rattle.sp_rules.specs.Follows.{Follows}
use Rattle.sp_rules.specs.declared.fact.Fact.{Fact}
use Rattle.sp_rules.specs.declared.fact.Step.{Step}

-- the step lacks something, or its fact is there
abbrev pub IsSettled : Terms → (Fact → Bool) → Step → Type 0
IsSettled ts h s = lack_of ts h s ≡ None → h s.fact ≡ true

-- what lacks nothing is there already
abbrev pub IsClosed : Terms → (Fact → Bool) → Type 0
IsClosed ts h = (s : Step) → IsSettled ts h s

-- each fact of the first set is in the second
abbrev pub AreIn : (Fact → Bool) → (Fact → Bool) → Type 0
AreIn g h = (f : Fact) → g f ≡ true → h f ≡ true

-- each fact of the set follows
abbrev pub EachFollows : Terms → (Fact → Bool) → (Fact → Bool) → Type 0
EachFollows ts given h = (f : Fact) → h f ≡ true → Follows ts given f

-- the law: where each fact follows, the fact of a step that lacks nothing does
abbrev pub StepsAreSound : Type 0
StepsAreSound = (ts : Terms) (given h : Fact → Bool) → EachFollows ts given h → (s : Step) → lack_of ts h s ≡ None → Follows ts given s.fact

-- the law: a closed set that has the given facts has what follows
abbrev pub ClosedHasAll : Type 0
ClosedHasAll = (ts : Terms) (given h : Fact → Bool) → IsClosed ts h → AreIn given h → (f : Fact) → Follows ts given f → h f ≡ true

-- the law: a step lacks nothing more where more facts are there
abbrev pub MoreLackNoMore : Type 0
MoreLackNoMore = (ts : Terms) (g h : Fact → Bool) → AreIn g h → (s : Step) → lack_of ts g s ≡ None → lack_of ts h s ≡ None

-- the law: what follows from some facts follows from more
abbrev pub MoreFollowsFromMore : Type 0
MoreFollowsFromMore = (ts : Terms) (g h : Fact → Bool) → AreIn g h → (f : Fact) → Follows ts g f → Follows ts h f

-- the law: what follows from facts that follow, follows
abbrev pub Cut : Type 0
Cut = (ts : Terms) (given h : Fact → Bool) → EachFollows ts given h → (f : Fact) → Follows ts h f → Follows ts given f
