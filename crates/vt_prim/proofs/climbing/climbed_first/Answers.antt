use Rattle.std.proofs.Common.{◌∙◌, refl, rules}
use Rattle.vt_prim.specs.private.Adding.{value_of}
use Rattle.vt_prim.proofs.ClimbLemmas.{first_err, first_ok}
use Rattle.vt_prim.proofs.climbing.climbed_first.Goals as goal

pub returns-in_err-top : goal.returns-in_err-top
returns-in_err-top c =
    let e = first_err (value_of c.args.note) c.in_err-top.field-0.0 c.args.count c.rounds.result c.args.steps.now c.requires c.rounds.ensures c.in_err-top.ensures in
    rw (← e) (search rules)

pub returns : goal.returns
returns c =
    c.climbed.ensures ∙ first_ok (value_of c.args.note) (value_of c.in_ok-top.top) c.args.count c.rounds.result c.args.steps.now _ c.requires c.rounds.ensures refl c.in_ok-top.ensures
