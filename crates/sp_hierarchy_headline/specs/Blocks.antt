-- What stands under a heading of a report: the lines below it, up to the next heading. For whoever reads a report of `hierarchy` by its bytes.
use Rattle.std.specs.Prelude.{◌≡◌, ℕ, true, List, ◌++◌, codes}
use Rattle.sp_cert.specs.Answers.{feed_free}
use Rattle.sp_headline.specs.Lines.{HoldsLine, IsLineStart}

-- the line above what is told of an interface, and the one above what is told of a mapping
abbrev pub interface_heading : List ℕ → List ℕ
interface_heading name = codes "INTERFACE " ++ name

abbrev pub mapping_heading : List ℕ → List ℕ
mapping_heading name = codes "MAPPING " ++ name

-- no line of the text begins with INTERFACE, and none with MAPPING
pub record HasNoHeading (text : List ℕ) : Type 0 where
  pub interface : ¬ HoldsLine (codes "INTERFACE") text
  pub mapping : ¬ HoldsLine (codes "MAPPING") text

-- The text holds the heading as a line of its own, and below it a line that begins with ACCEPTED; between the two no line is a heading. Nothing is
-- asked of what stands before and after.
pub record AcceptedUnder (heading text : List ℕ) : Type 0 where
  pub before : List ℕ
  pub between : List ℕ
  pub after : List ℕ
  pub is : text ≡ before ++ (heading ++ (codes "\n" ++ (between ++ (codes "ACCEPTED" ++ after))))
  pub start : IsLineStart before
  pub line : feed_free heading ≡ true
  pub below : IsLineStart between
  pub block : HasNoHeading between
