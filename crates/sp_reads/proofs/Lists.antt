-- Lists of arguments: the firsts of what they read.
use Rattle.std.proofs.Common.{◌≡◌, refl, sym, ◌∙◌, ap, ℕ, zero, suc, ◌+◌, ◌<◌, Bool, List, [], ◌∷◌, ◌++◌, Option, Some, None, map, length, take, get_or}
use Rattle.std.proofs.lemmas.List.{take_more}
use Rattle.sp_text.specs.declared.fault.Rule.{Rule}
use Rattle.sp_text.specs.declared.violation.Violation.{Violation}
use Rattle.sp_text.specs.Violations.{first}
use Rattle.sp_tree.specs.declared.expr.ExprTree.{ExprTree}
use Rattle.sp_plain.specs.Text.{text, texts_of}
use Rattle.sp_scopes.specs.declared.heads.Local.{Local}
use Rattle.sp_judge.specs.Visible.{Visible}
use Rattle.sp_reads.specs.Reads.{AreFirsts}
use Rattle.sp_reads.specs.ReadTexts.{reads, read_lists}

pub firsts_are : (as' : List (List Violation)) → AreFirsts as' (map first as')
firsts_are [] k = refl
firsts_are (a ∷ as') zero = refl
firsts_are (a ∷ as') (suc k) = firsts_are as' k

module _ (s : Visible) (flags : List Bool) (r : Rule) (l : List Local) where
  lists-append : (ds : List ExprTree) (d : ExprTree) → map first (read_lists s flags r l (texts_of (map text (ds ++ d ∷ [])))) ≡ map first (read_lists s flags r l (texts_of (map text ds))) ++ first (reads s flags r l (text d)) ∷ []
  lists-append [] d = refl
  lists-append (a ∷ ds) d = ap (λ xs. first (reads s flags r l (text a)) ∷ xs) (lists-append ds d)

  pub lists-next : (ds : List ExprTree) (k : ℕ) (d : ExprTree) → k < length ds → d ≡ get_or ds k d → map first (read_lists s flags r l (texts_of (map text (take (k + 1) ds)))) ≡ map first (read_lists s flags r l (texts_of (map text (take k ds)))) ++ first (reads s flags r l (text d)) ∷ []
  lists-next ds k d h e = ap (λ z. map first (read_lists s flags r l (texts_of (map text z)))) (take_more ds k d h ∙ ap (λ x. take k ds ++ x ∷ []) (sym e)) ∙ lists-append (take k ds) d
