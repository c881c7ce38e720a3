use Rattle.vt_path.proofs.LiteralTextLemmas.{byte_step, no_byte}
use Rattle.vt_path.proofs.literal_text.write_bytes.Goals as goal

pub returns-in-None-clause-text : goal.returns-in-None-clause-text
returns-in-None-clause-text c = no_byte c.args.parts.now c.loop-i.i c.index-parts-i.result c.loop-i-test.true c.index-parts-i.is c.in-None.ensures
