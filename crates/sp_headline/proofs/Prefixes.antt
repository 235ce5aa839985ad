-- A line of a prefix of a text is a line of the text.
use Rattle.std.proofs.Common.{◌∙◌, ℕ, List, ◌++◌, ap, drop, subst, take}
use Rattle.std.proofs.lemmas.List.{take-append-drop}
use Rattle.sp_headline.specs.Lines.{HoldsLine}
use Rattle.sp_headline.proofs.Texts.{append_assoc}

pub longer_holds : (word text more : List ℕ) → HoldsLine word text → HoldsLine word (text ++ more)
longer_holds word text more h = record {
  front = h.front;
  rest = h.rest ++ more;
  is = ap (λ t. t ++ more) h.is ∙ (append_assoc h.front (word ++ h.rest) more ∙ ap (λ t. h.front ++ t) (append_assoc word h.rest more));
  start = h.start;
}

pub prefix_holds : (word text : List ℕ) (n : ℕ) → HoldsLine word (take n text) → HoldsLine word text
prefix_holds word text n h = subst (HoldsLine word) (take-append-drop n text) (longer_holds word (take n text) (drop n text) h)
