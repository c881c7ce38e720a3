use Rattle.std.proofs.Common.{◌≡◌, ◌↔◌, ◌+◌, ◌<◌, ◌≤◌, false, true, length, refl, sym, ◌∙◌, subst}
use Rattle.vt_reach.specs.Reach.{HasBlock, HasNoText, MayWrite}
use Rattle.vt_reach.specs.private.Bodies.{IsWritingGraph, list_at}
use Rattle.vt_reach.specs.private.Lists.{MeetsList}
use Rattle.vt_reach.specs.private.Order.{BeginsAt, BeginsNowhere, IsBlockAt}
use Rattle.vt_reach.proofs.ReachLemmas.{no_text_there, text_there}
use Rattle.vt_reach.proofs.reach.Reach.has_text.Goals as goal

pub returns-in-None : goal.returns-in-None
returns-in-None c =
    subst (λ rs. HasNoText rs c.args.text) c.self.view_is (no_text_there c.self.inside.rows.items c.args.text c.self.invariant.0 (subst (λ rs. BeginsNowhere rs c.args.text) c.as_slice.ensures.value c.in-None.ensures))

pub returns-in-Some : goal.returns-in-Some
returns-in-Some c =
    subst (λ rs. HasBlock rs c.args.text 0) c.self.view_is (text_there c.self.inside.rows.items c.args.text c.in-Some.field-0 (subst (λ rs. BeginsAt rs c.args.text c.in-Some.field-0) c.as_slice.ensures.value c.in-Some.ensures))
