use Rattle.std.proofs.Common.{arith}
use Rattle.vt_reach.specs.private.Bodies.{list_at}
use Rattle.vt_reach.proofs.Places.{at_item}
use Rattle.vt_reach.proofs.SearchLemmas.{search_begins, search_smaller, searches_done, searches_next}
use Rattle.vt_reach.proofs.search.reached.Goals as goal

pub search-init : goal.search-init
search-init c =
    search_begins c.args.graph.now c.args.from c.in_ok-marks.marks.items c.push.new.self.items c.new-found.result.items c.requires.within (c.in_ok-marks.ensures.items_if_clones_equal (λ y h. h)) c.in_ok-push.ensures.items c.new-found.ensures.items

pub add_next-requires-clause-same : goal.add_next-requires-clause-same
add_next-requires-clause-same c =
    c.search.invariant.same

pub add_next-requires-clause-marked : goal.add_next-requires-clause-marked
add_next-requires-clause-marked c =
    c.search.invariant.marked

pub search-preserved : goal.search-preserved
search-preserved c =
    let t = c.search-test.true in let l = c.len.ensures in let o = c.search.found.ok in searches_next c.args.graph.now c.args.from c.index.result.now c.search.next c.search.marks.items c.add_next.new.marks.items c.search.found.items c.add_next.new.found.items c.search.invariant (at_item c.search.found.items c.search.next c.index.result.now (omega (arith, t, l, o)) c.index.ensures) (omega (arith, t, l, o)) c.in_ok-add_next.ensures

pub search-smaller : goal.search-smaller
search-smaller c =
    let t = c.search-test.true in let l = c.len.ensures in let o = c.search.found.ok in search_smaller (list_at c.args.graph.now c.index.result.now) c.search.marks.items c.add_next.new.marks.items c.search.found.items c.add_next.new.found.items c.search.next c.in_ok-add_next.ensures (omega (arith, t, l, o))

pub returns : goal.returns
returns c =
    let t = c.search-test.false in let l = c.len.ensures in let o = c.search.found.ok in searches_done c.args.graph.now c.args.from c.search.next c.search.marks.items c.search.found.items c.search.invariant (omega (arith, t, l, o))
