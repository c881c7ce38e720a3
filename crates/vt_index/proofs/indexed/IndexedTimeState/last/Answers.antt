use Rattle.std.proofs.Common.{List, subst, MatchOption}
use Rattle.vt_event.specs.Event.{EventView}
use Rattle.vt_event.specs.Order.{place_of}
use Rattle.vt_state.specs.LookUps.{IsLastBelow, NoneBelow}
use Rattle.vt_index.specs.declared.side.Side.TheVariants.{Below}
use Rattle.vt_index.specs.private.Nearest.{FitsPattern, NearestOf}
use Rattle.vt_index.proofs.LookUpLemmas.{read_found}
use Rattle.vt_index.proofs.indexed.IndexedTimeState.last.Goals as goal

pub returns : goal.returns
returns c =
    subst (λ (events : List EventView). MatchOption c.nearest.result (NoneBelow events (place_of c.args.before) c.args.pattern.now) (λ event. IsLastBelow events (place_of c.args.before) c.args.pattern.now event.now))
    c.self.view_is
    (read_found c.self.inside.events.items c.args.pattern.now (place_of c.args.before) c.nearest.result c.self.invariant.apart
    (subst (λ (events : List EventView). NearestOf (FitsPattern events c.args.pattern.now) Below (place_of c.args.before) c.nearest.result) c.as_slice.ensures.value c.nearest.ensures))
