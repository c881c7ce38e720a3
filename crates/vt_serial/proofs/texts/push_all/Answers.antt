use Rattle.vt_serial.proofs.TextLemmas.{one-more, rest-within}
use Rattle.vt_serial.proofs.texts.push_all.Goals as goal

pub parts-preserved : goal.parts-preserved
parts-preserved c = (
  one-more c.parts.texts c.push_text.new.texts _ c.in-Some.part.now c.parts.left.now c.in-Some.rest.now c.in-Some.ensures.cases.0 c.in_ok-push_text.ensures c.parts.invariant.0,
  rest-within c.in-Some.part.now c.parts.left.now c.in-Some.rest.now c.in-Some.ensures.cases.0 c.parts.invariant.1,
)
