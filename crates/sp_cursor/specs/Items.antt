-- Functions that are passed to read the items of a list.
use Rattle.std.specs.Prelude.{◌≡◌, ℕ, Bool, List, [], ◌∷◌, Option, Some, None, Ok, Result, if◌then◌else◌}
use Rattle.std.specs.declared.alloc.Global.{Global}
use denote.Ref.{Bor, MutBor}
use Rattle.sp_text.specs.declared.fault.TextFault.{TextFault}
use Rattle.sp_grammar.specs.Lang.{has}
use Rattle.sp_forms.specs.Cursors.{Cursor, lookahead, left, Reader, and_then, Reads}
use Rattle.sp_forms.specs.Grammars.{list_or}
use Rattle.sp_forms.specs.Readers.{items, read_token}

-- it reads as p does
pub record ReadsAs {T : Type 0} (p : Reader T) (post : Global → MutBor Cursor → Result T TextFault → MutBor Cursor → Type 0) : Type 0 where
  pub reads : (alloc : Global) (old new : MutBor Cursor) (r : Result T TextFault) → post alloc old r new → Reads (p old.now) r new.now

-- it tells whether a token of these is next
pub record Tells (begin : List ℕ) (post : Bor Cursor → Bool → Type 0) : Type 0 where
  pub tells : (i : Bor Cursor) (t : Bool) → post i t → t ≡ has begin (lookahead i.now)

-- p behind a token
abbrev pub behind_of : {T : Type 0} → ℕ → Reader T → Reader T
behind_of {T} c p i = and_then {A = Unit {0} × T} (and_then (read_token c i) (λ a j. and_then (p j) (λ b k. Ok ((a, b), k)))) (λ a j. Ok (a.1, j))

-- one or more, with a token between two of them
abbrev pub separated_of : {T : Type 0} → ℕ → Reader T → Reader (List T)
separated_of {T} c p i = and_then {A = T × List T} (and_then (p i) (λ a j. and_then (items (c ∷ []) (behind_of c p) (left j) [] j) (λ b k. Ok ((a, b), k)))) (λ a j. Ok (a.0 ∷ a.1, j))

-- as many as begin
abbrev pub many_of : {T : Type 0} → List ℕ → Reader T → Reader (List T)
many_of begin p i = items begin p (left i) [] i

-- none or more, with a token between two of them
abbrev pub separated_or_none_of : {T : Type 0} → List ℕ → ℕ → Reader T → Reader (List T)
separated_or_none_of {T} begin c p i = and_then {A = Option (List T)} (if has begin (lookahead i) then and_then (separated_of c p i) (λ v j. Ok (Some v, j)) else Ok (None, i)) (λ a j. Ok (list_or a, j))

-- as many as begin, behind a keyword; or nothing
abbrev pub section_of : {T : Type 0} → ℕ → List ℕ → Reader T → Reader (List T)
section_of {T} c begin p i = and_then {A = Option (List T)} (if has (c ∷ []) (lookahead i) then and_then (behind_of c (many_of begin p) i) (λ v j. Ok (Some v, j)) else Ok (None, i)) (λ a j. Ok (list_or a, j))
