use Rattle.sp_lexer.proofs.Unique.{same_division, same_tokens, same_first_fault, no_fault_with_tokens}
use Rattle.sp_lexer.proofs.laws.reading_is_unique.Goals as goal

pub returns-clause-division : goal.returns-clause-division
returns-clause-division c = same_division

pub returns-clause-tokens : goal.returns-clause-tokens
returns-clause-tokens c = same_tokens

pub returns-clause-fault : goal.returns-clause-fault
returns-clause-fault c = same_first_fault

pub returns-clause-apart : goal.returns-clause-apart
returns-clause-apart c = no_fault_with_tokens
