use Rattle.vt_parse.proofs.Lexed.{lexed_are_few, lexed_are_tokens}
use Rattle.vt_parse.proofs.laws.lexed_law.Goals as goal

pub returns-clause-tokens : goal.returns-clause-tokens
returns-clause-tokens c = lexed_are_tokens

pub returns-clause-few : goal.returns-clause-few
returns-clause-few c = lexed_are_few
