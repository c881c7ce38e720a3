use Rattle.std.proofs.Common.{List, length, sym, subst, ◌∙◌}
use Rattle.vt_event.specs.Event.{EventView}
use Rattle.vt_state.specs.LookUps.{HaveOwnPlaces}
use Rattle.vt_state.proofs.OwnPlaces.{put_keeps}
use Rattle.vt_index.specs.private.Rows.{AreRows}
use Rattle.vt_index.proofs.EntryLemmas.{indexed_again, rows_of_first}
use Rattle.vt_index.proofs.indexed.IndexedTimeState.put.Goals as goal

pub add_events-requires-clause-apart : goal.add_events-requires-clause-apart
add_events-requires-clause-apart c =
    subst HaveOwnPlaces (sym c.as_slice.ensures.value)
    (put_keeps c.self.inside.events.items c.args.self.now c.into_vec-added.result.items c.args.events c.append.new.self.items (sym c.self.view_is) c.into_vec-added.ensures
    c.in_ok-append.ensures.items c.self.invariant.apart c.requires.apart c.requires.new)

pub add_events-requires-clause-rows : goal.add_events-requires-clause-rows
add_events-requires-clause-rows c =
    rows_of_first c.self.inside.events.items c.as_slice-from.result.now c.into_vec-added.result.items c.as_slice.result.now c.self.inside.rows.entries c.as_slice-from.ensures.value
    (c.as_slice.ensures.value ∙ c.in_ok-append.ensures.items) c.self.invariant.rows

pub invariant_of-self-in-Ok : goal.invariant_of-self-in-Ok
invariant_of-self-in-Ok c = record {
  apart = put_keeps c.self.inside.events.items c.args.self.now c.into_vec-added.result.items c.args.events c.append.new.self.items (sym c.self.view_is) c.into_vec-added.ensures
      c.in_ok-append.ensures.items c.self.invariant.apart c.requires.apart c.requires.new;
  rows = subst (λ (events : List EventView). AreRows events (length events) c.add_events.new.rows.entries) c.as_slice.ensures.value c.in-Ok.ensures.ok;
}

pub invariant_of-self-in-Err : goal.invariant_of-self-in-Err
invariant_of-self-in-Err c =
    let partly = c.in-Err.ensures.err in
    indexed_again c.self.inside.events.items c.as_slice-from.result.now c.into_vec-added.result.items c.append.new.self.items c.truncate.new.self.items c.cut_rows.new.rows.entries
    c.as_slice-from.ensures.value c.in_ok-append.ensures.items c.truncate.ensures.items c.self.invariant.apart
    (subst (λ (events : List EventView). AreRows events (length c.as_slice-from.result.now) c.cut_rows.new.rows.entries) c.as_slice.ensures.value
    (c.cut_rows.ensures c.as_slice.result.now partly.count partly.enough partly.rows))
