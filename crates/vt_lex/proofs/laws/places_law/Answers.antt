use Rattle.vt_lex.proofs.Placing.{tokens_stand_at, tokens_in_order}
use Rattle.vt_lex.proofs.laws.places_law.Goals as goal

pub returns-clause-stands : goal.returns-clause-stands
returns-clause-stands c = tokens_stand_at

pub returns-clause-order : goal.returns-clause-order
returns-clause-order c = tokens_in_order
