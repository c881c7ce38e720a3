use Rattle.vt_grammar.proofs.TextLaws.{prefixes_begin}
use Rattle.vt_grammar.proofs.laws.prefix_law.Goals as goal

pub returns : goal.returns
returns c = prefixes_begin
