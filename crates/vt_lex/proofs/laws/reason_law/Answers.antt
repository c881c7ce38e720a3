use Rattle.vt_lex.specs.declared.fault.LexKind.TheVariants.{Byte, Text, Number, Long}
use Rattle.vt_lex.proofs.Taken.{by_reason}
use Rattle.vt_lex.proofs.laws.reason_law.Goals as goal

pub returns-clause-text : goal.returns-clause-text
returns-clause-text c = by_reason Text

pub returns-clause-long : goal.returns-clause-long
returns-clause-long c = by_reason Long

pub returns-clause-number : goal.returns-clause-number
returns-clause-number c = by_reason Number

pub returns-clause-byte : goal.returns-clause-byte
returns-clause-byte c = by_reason Byte
