use Rattle.std.proofs.Common.{sym, subst}
use Rattle.vt_reach.specs.private.Search.{Adds}
use Rattle.vt_reach.proofs.SearchLemmas.{adds_is}
use Rattle.vt_reach.proofs.search.add.Goals as goal

pub returns : goal.returns
returns c =
    adds_is c.args.place c.args.marks.now.items c.args.found.now.items c.push.new.self.items c.requires.within c.requires.marked c.index.result.now c.index.ensures c.if-index.false c.in_ok-push.ensures.items
