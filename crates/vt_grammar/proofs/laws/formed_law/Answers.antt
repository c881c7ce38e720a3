use Rattle.vt_grammar.proofs.FormedTexts.{formed_where_lexed, formed_where_read}
use Rattle.vt_grammar.proofs.laws.formed_law.Goals as goal

pub returns-clause-read : goal.returns-clause-read
returns-clause-read c = formed_where_read

pub returns-clause-lexed : goal.returns-clause-lexed
returns-clause-lexed c = formed_where_lexed
