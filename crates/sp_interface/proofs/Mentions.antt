-- The mentions of a row, and the limit at a mention that is over.
use Rattle.std.proofs.Common.{◌≡◌, ℕ, suc, ◌+◌, ◌<◌, List, ◌∷◌, Option, Some, length, get_or, drop, sym, ap, ◌∙◌, add-one, drop-cons}
use Rattle.sp_text.specs.declared.fault.Limit.{Limit}
use Rattle.sp_text.specs.declared.fault.Quantity.TheVariants.{Interfaces}
use Rattle.sp_text.specs.declared.fault.Span.{Span}
use Rattle.sp_tree.specs.declared.names.Ident.{Ident}
use Rattle.sp_grammar.specs.Texts.{limit_at}
use Rattle.sp_interface.specs.Counts.{mentioned}

-- the mentions from a row on
pub mentions_here : (rows : List (Ident × Ident × Ident)) (i : ℕ) (row : Ident × Ident × Ident) → i < length rows → row ≡ get_or rows i row
    → mentioned (drop i rows) ≡ row.0 ∷ row.1 ∷ mentioned (drop (i + 1) rows)
mentions_here rows i row below e =
    ap mentioned (drop-cons rows i row below) ∙ (ap (λ r. r.0 ∷ r.1 ∷ mentioned (drop (suc i) rows)) (sym e) ∙ ap (λ k. row.0 ∷ row.1 ∷ mentioned (drop k rows)) (sym (add-one i)))

pub limit_here : (o : Option Span) (s : Span) (l : Limit) → o ≡ Some s → l ≡ record { span = s; quantity = Interfaces } → Some l ≡ limit_at Interfaces o
limit_here o s l e q = ap Some q ∙ ap (limit_at Interfaces) (sym e)
