use Rattle.vt_ring.specs.Building.{knit_of}
use Rattle.vt_ring.specs.private.Knitting.{knitted}
use Rattle.vt_ring.specs.Limits.{within_limits}
use Rattle.vt_ring.proofs.AnswerLemmas.{gives_same}
use Rattle.vt_ring.proofs.KnitLemmas.{knit_good}
use Rattle.vt_ring.proofs.knitting.knit.Goals as goal

pub returns-in-Ok : goal.returns-in-Ok
returns-in-Ok c =
    let args = c.args.args.now in
    gives_same (knit_of args) (within_limits (knitted args)) c.knitted_within.result (knit_good args c.if-args-ne0.false c.in-Ok.ensures) c.knitted_within.ensures
