use Rattle.std.proofs.Common.{sym}
use Rattle.vt_state.proofs.OwnPlaces.{put_keeps}
use Rattle.vt_state.proofs.plain.PlainTimeState.put.Goals as goal

pub invariant_of-self-2 : goal.invariant_of-self-2
invariant_of-self-2 c =
    put_keeps c.self.inside.events.items c.args.self.now c.into_vec-added.result.items c.args.events c.append.new.self.items (sym c.self.view_is) c.into_vec-added.ensures
    c.in_ok-append.ensures.items c.self.invariant c.requires.apart c.requires.new
