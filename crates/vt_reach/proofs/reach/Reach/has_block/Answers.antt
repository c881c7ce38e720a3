use Rattle.std.proofs.Common.{◌≡◌, ◌↔◌, ◌+◌, ◌<◌, ◌≤◌, false, true, length, refl, sym, ◌∙◌, subst}
use Rattle.vt_reach.specs.Reach.{HasBlock, HasNoText, MayWrite}
use Rattle.vt_reach.specs.private.Bodies.{IsWritingGraph, list_at}
use Rattle.vt_reach.specs.private.Lists.{MeetsList}
use Rattle.vt_reach.specs.private.Order.{BeginsAt, BeginsNowhere, IsBlockAt}
use Rattle.vt_reach.proofs.ReachLemmas.{begins_within, block_there, meets_nothing, no_block_there}
use Rattle.vt_reach.proofs.reach.Reach.has_block.Goals as goal

pub is_block-requires : goal.is_block-requires
is_block-requires c =
    subst (λ rs. c.in-Some.start ≤ length rs) (sym c.as_slice-in-Some.ensures.value) (begins_within c.self.inside.rows.items c.args.text c.in-Some.start (subst (λ rs. BeginsAt rs c.args.text c.in-Some.start) c.as_slice.ensures.value c.in-Some.ensures))

pub returns-in-None : goal.returns-in-None
returns-in-None c =
    meets_nothing (HasBlock c.args.self.now c.args.text c.args.block) (λ has. no_block_there c.self.inside.rows.items c.args.text c.args.block c.self.invariant.0 (subst (λ rs. BeginsNowhere rs c.args.text) c.as_slice.ensures.value c.in-None.ensures) (subst (λ rs. HasBlock rs c.args.text c.args.block) (sym c.self.view_is) has))

pub returns-in-Some : goal.returns-in-Some
returns-in-Some c =
    subst (λ rs. (c.is_block.result ≡ true) ↔ HasBlock rs c.args.text c.args.block) c.self.view_is (block_there c.self.inside.rows.items c.args.text c.args.block c.in-Some.start (c.in-Some.start + c.args.block) c.is_block.result c.self.invariant.0 (subst (λ rs. BeginsAt rs c.args.text c.in-Some.start) c.as_slice.ensures.value c.in-Some.ensures) refl (subst (λ rs. (c.is_block.result ≡ true) ↔ IsBlockAt rs c.args.text c.args.block (c.in-Some.start + c.args.block)) c.as_slice-in-Some.ensures.value c.is_block.ensures))
