use Rattle.std.proofs.Common.{List, [], ◌∷◌, subst, MatchOption}
use Rattle.vt_event.specs.Event.{EventView}
use Rattle.vt_event.specs.Order.{place_of}
use Rattle.vt_state.specs.LookUps.{IsFirstAbove, NoneAbove}
use Rattle.vt_index.specs.declared.side.Side.TheVariants.{Above}
use Rattle.vt_index.specs.private.Nearest.{FitsPattern, NearestOf}
use Rattle.vt_index.proofs.LookUpLemmas.{wait_found}
use Rattle.vt_index.proofs.indexed.IndexedTimeState.next.Goals as goal

pub returns : goal.returns
returns c =
    subst (λ (events : List EventView). MatchOption c.nearest.result (NoneAbove events (place_of c.args.after) (c.args.pattern.now ∷ [])) (λ event. IsFirstAbove events (place_of c.args.after) (c.args.pattern.now ∷ []) event.now))
    c.self.view_is
    (wait_found c.self.inside.events.items c.args.pattern.now (place_of c.args.after) c.nearest.result c.self.invariant.apart
    (subst (λ (events : List EventView). NearestOf (FitsPattern events c.args.pattern.now) Above (place_of c.args.after) c.nearest.result) c.as_slice.ensures.value c.nearest.ensures))
