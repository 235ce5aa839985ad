use Rattle.sp_lexer.specs.Faults.{open_comment}
use Rattle.sp_lexer.proofs.piece.scan_comment.Goals as goal

pub returns-in-None-clause-scanned : goal.returns-in-None-clause-scanned
returns-in-None-clause-scanned c = λ count. rw c.span.ensures (open_comment (record { opens = c.requires.opens; unclosed = c.in-None.ensures }))
