use Rattle.std.proofs.Common.{◌<◌, length, rules}
use Rattle.vt_ring.specs.NoteCalls.{inverted}
use Rattle.vt_ring.proofs.AnswerLemmas.{gives_same}
use Rattle.vt_prim.specs.private.Inverting.{moved_behind}
use Rattle.vt_prim.proofs.InvertLemmas.{inverted_by}
use Rattle.vt_prim.proofs.inverting.inverted.Goals as goal

pub returns : goal.returns
returns c =
    let some : 0 < length c.args.items.now = search rules in
    let same = inverted_by c.args.count c.rounds-octaves.result c.args.items.now c.prefix_of.result.now c.rest_of.result.now some c.requires.numbers c.rounds-octaves.ensures c.prefix_of.ensures c.rest_of.ensures in
    gives_same (inverted c.args.count c.args.items.now) (moved_behind c.rounds-octaves.result c.prefix_of.result.now c.rest_of.result.now) c.moved_behind.result same c.moved_behind.ensures
