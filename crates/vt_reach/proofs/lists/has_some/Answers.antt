use Rattle.std.proofs.Common.{◌≡◌, [], Bool, true, false, not, refl, sym, ◌∙◌, subst, true≢false}
use Rattle.std.specs.Bool.{MatchBool}
use Rattle.vt_reach.specs.private.Lists.{HasSome}
use Rattle.vt_reach.specs.private.Bodies.{list_at}
use Rattle.vt_reach.proofs.ReachLemmas.{list_is, list_past, some_match, some_none}
use Rattle.vt_reach.proofs.lists.has_some.Goals as goal

pub returns-in-None : goal.returns-in-None
returns-in-None c =
    some_none (list_at c.args.lists.now c.args.place) (list_past c.args.lists.now c.args.place (sym c.in-None.ensures))

pub returns-in-Some : goal.returns-in-Some
returns-in-Some c =
    some_match (list_at c.args.lists.now c.args.place) c.in-Some.list.now c.is_empty.result (list_is c.args.lists.now c.args.place c.in-Some.list.now (sym c.in-Some.ensures)) c.is_empty.ensures
