-- A word is looked up in the list of all keywords, so what isn't found there is no keyword.
use Rattle.std.proofs.Common.{◌≡◌, ◌≢◌, ℕ, Bool, true, false, cond, List, [], ◌∷◌, Option, Some, None, MatchOption, find, refl, sym, ◌∙◌, subst}
use Rattle.std.specs.List.{AllByRecursion}
use Rattle.std.specs.Option.{option_map}
use Rattle.std.specs.Str.{bytes_eq}
use Rattle.std.proofs.lemmas.Bool.{both_ways}
use Rattle.std.proofs.lemmas.Slice.Eq.{bytes_eq-Decides}
use Rattle.sp_text.specs.declared.token.Keyword.{Keyword}
use Rattle.sp_text.specs.declared.token.Keyword.TheVariants as word
use Rattle.sp_lexer.specs.Spelling.{keyword_text}
use Rattle.sp_lexer.specs.declared.spelling.TheConstants.{KEYWORDS}

-- what is found passes the test, and where nothing is found nothing passes it
abbrev Found : {X : Type 0} → (X → Bool) → List X → Option X → Type 0
Found p xs r = MatchOption r (AllByRecursion (λ x. p x ≡ false) xs) (λ x. p x ≡ true)

find_step : {X : Type 0} (p : X → Bool) (x : X) (xs : List X) (b : Bool) (r : Option X) → p x ≡ b → Found p xs r → Found p (x ∷ xs) (cond b (Some x) r)
find_step p x xs true r e h = e
find_step p x xs false None e h = (e, h)
find_step p x xs false (Some y) e h = h

find_found : {X : Type 0} (p : X → Bool) (xs : List X) → Found p xs (find p xs)
find_found p [] = tt
find_found p (x ∷ xs) = find_step p x xs (p x) (find p xs) refl (find_found p xs)

-- every keyword is in the list
keyword_among : (P : Keyword → Type 0) → AllByRecursion P KEYWORDS → (k : Keyword) → P k
keyword_among P all k = elim k as (λ k. P k) [ word.Module ↦ all.0 | _ ↦ assumption all ]

keyword_cases : (bytes : List ℕ) (r : Option Keyword) → Found (λ k. bytes_eq (keyword_text k) bytes) KEYWORDS r
    → MatchOption r ((k : Keyword) → bytes ≢ keyword_text k) (λ k. bytes ≡ keyword_text k)
keyword_cases bytes None none = λ k e. both_ways (bytes_eq (keyword_text k) bytes) (keyword_among (λ k. bytes_eq (keyword_text k) bytes ≡ false) none k) ((bytes_eq-Decides (keyword_text k) bytes).1 (sym e))
keyword_cases bytes (Some k) t = sym ((bytes_eq-Decides (keyword_text k) bytes).0 t)

same_option : {X : Type 0} (r : Option X) → option_map (λ x. x) r ≡ r
same_option None = refl
same_option (Some x) = refl

pub keyword_found : (bytes : List ℕ) (r : Option Keyword) → option_map (λ k. k) r ≡ find (λ k. bytes_eq (keyword_text k) bytes) KEYWORDS
    → MatchOption r ((k : Keyword) → bytes ≢ keyword_text k) (λ k. bytes ≡ keyword_text k)
keyword_found bytes r e =
    let p : Keyword → Bool = λ k. bytes_eq (keyword_text k) bytes in
    keyword_cases bytes r (subst (Found p KEYWORDS) (sym e ∙ same_option r) (find_found p KEYWORDS))
