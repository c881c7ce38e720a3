use Rattle.std.proofs.Common.{refl, subst}
use Rattle.vt_eval_steps.specs.private.Beginning.{TakesNumber}
use Rattle.vt_eval_steps.specs.declared.turns.Turns.TheVariants.{Density, Each, Loop, Map, Times}
use Rattle.vt_eval_steps.proofs.Counted.{begins_at, density_begins, each_begins, loop_begins, map_begins, times_begins}
use Rattle.vt_eval_steps.proofs.Ways.{if_ok}
use Rattle.vt_eval_steps.proofs.turns.Turns.begin.Goals as goal

pub returns-in-Loop : goal.returns-in-Loop
returns-in-Loop c = if_ok c.begin_turn.result c.begin_turn.ensures (λ values h.
    begins_at values c.args.self.now (Loop c.in-Loop.left) (Loop c.begin_turn.new.left) c.args.run.now.state c.begin_turn.new.run.state c.begin_turn.new.run.state c.args.run.now.notes c.begin_turn.new.run.notes c.in-Loop.is refl
    (loop_begins values c.in-Loop.left c.begin_turn.new.left c.args.run.now.state c.begin_turn.new.run.state c.args.run.now.notes c.begin_turn.new.run.notes h))

pub returns-in-Times : goal.returns-in-Times
returns-in-Times c = if_ok c.begin_number.result c.begin_number.ensures.number (λ values h.
    begins_at values c.args.self.now (Times c.in-Times.next c.in-Times.number) (Times c.begin_number.new.next c.in-Times.number) c.args.run.now.state c.begin_number.new.run.state c.args.run.now.state c.args.run.now.notes c.begin_number.new.run.notes
    c.in-Times.is c.begin_number.ensures.state
    (times_begins values c.in-Times.next c.begin_number.new.next c.in-Times.number c.args.run.now.state c.args.run.now.notes c.begin_number.new.run.notes
    (subst (λ n. TakesNumber values c.in-Times.next n c.args.run.now.notes c.begin_number.new.next c.begin_number.new.run.notes) c.count_of.ensures.value h)))

pub returns-in-Density : goal.returns-in-Density
returns-in-Density c = if_ok c.begin_number-in-Density.result c.begin_number-in-Density.ensures.number (λ values h.
    begins_at values c.args.self.now (Density c.in-Density.next c.in-Density.end c.in-Density.bpm) (Density c.begin_number-in-Density.new.next c.in-Density.end c.in-Density.bpm) c.args.run.now.state c.begin_number-in-Density.new.run.state c.args.run.now.state c.args.run.now.notes c.begin_number-in-Density.new.run.notes
    c.in-Density.is c.begin_number-in-Density.ensures.state
    (density_begins values c.in-Density.next c.begin_number-in-Density.new.next c.in-Density.end c.in-Density.bpm c.args.run.now.state c.args.run.now.notes c.begin_number-in-Density.new.run.notes
    (subst (λ n. TakesNumber values c.in-Density.next n c.args.run.now.notes c.begin_number-in-Density.new.next c.begin_number-in-Density.new.run.notes) c.from.ensures h)))

pub returns-in-Each : goal.returns-in-Each
returns-in-Each c = if_ok c.begin_item.result c.begin_item.ensures.item (λ values h.
    begins_at values c.args.self.now (Each c.in-Each.items c.in-Each.ring) (Each c.begin_item.new.items c.in-Each.ring) c.args.run.now.state c.begin_item.new.run.state c.args.run.now.state c.args.run.now.notes c.begin_item.new.run.notes
    c.in-Each.is c.begin_item.ensures.state
    (each_begins values _ _ c.in-Each.items c.begin_item.new.items c.in-Each.ring c.args.run.now.state c.args.run.now.notes c.begin_item.new.run.notes refl refl h))

pub returns-in-Map : goal.returns-in-Map
returns-in-Map c = if_ok c.begin_item-in-Map.result c.begin_item-in-Map.ensures.item (λ values h.
    begins_at values c.args.self.now (Map c.in-Map.items c.in-Map.values) (Map c.begin_item-in-Map.new.items c.in-Map.values) c.args.run.now.state c.begin_item-in-Map.new.run.state c.args.run.now.state c.args.run.now.notes c.begin_item-in-Map.new.run.notes
    c.in-Map.is c.begin_item-in-Map.ensures.state
    (map_begins values _ _ c.in-Map.items c.begin_item-in-Map.new.items c.in-Map.values c.args.run.now.state c.args.run.now.notes c.begin_item-in-Map.new.run.notes refl refl h))
