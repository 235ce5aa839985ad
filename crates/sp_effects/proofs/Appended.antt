-- Lists that are appended to.
use Rattle.std.proofs.Common.{◌≡◌, refl, sym, ◌∙◌, ap, List, [], ◌++◌, append_assoc, Option, None, Some}
use Rattle.std.proofs.lemmas.List.{append-nil}
use Rattle.std.specs.Prelude.{if◌then◌else◌, Bool, true, false, ℕ}
use Rattle.std.specs.Str.{bytes_eq}
use Rattle.sp_plain.specs.Text.{Text}
use Rattle.sp_scopes.specs.declared.heads.Local.{Local}
use Rattle.sp_judge.specs.Visible.{Visible}
use Rattle.sp_effects.specs.EffectRules.{form_change, form_quotes}
use Rattle.sp_effects.specs.Forms.{Answer, Neither, result_form}

-- nothing is appended
pub nothing : {X : Type 0} (xs : List X) → xs ≡ xs ++ []
nothing xs = sym (append-nil xs)

-- two lists are, one after the other
pub twice : {X : Type 0} (out one two as' bs : List X) → one ≡ out ++ as' → two ≡ one ++ bs → two ≡ out ++ (as' ++ bs)
twice out one two as' bs e f = f ∙ ap (λ xs. xs ++ bs) e ∙ append_assoc out as' bs

-- a result changes nothing
pub result_quotes : (s : Visible) (n b : ℕ) (l : List Local) (r : Option Local) (x : List ℕ) (v : Text) → form_quotes s n b l (result_form r x v) ≡ []
result_quotes s n b l None x v = refl
result_quotes s n b l (Some r) x v = by (bytes_eq r.name x)
  where
    by : (c : Bool) → form_quotes s n b l (if c then Answer r.ty v else Neither) ≡ []
    by true = refl
    by false = refl

pub result_change : (e : Text) (r : Option Local) (x : List ℕ) (v : Text) → form_change e (result_form r x v) ≡ []
result_change e None x v = refl
result_change e (Some r) x v = by (bytes_eq r.name x)
  where
    by : (c : Bool) → form_change e (if c then Answer r.ty v else Neither) ≡ []
    by true = refl
    by false = refl
