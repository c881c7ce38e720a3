use Rattle.vt_index.proofs.EntryLemmas.{rows_skipped}
use Rattle.vt_index.proofs.grow.add_event.Goals as goal

pub add_at_path-requires-clause-stands : goal.add_at_path-requires-clause-stands
add_at_path-requires-clause-stands c = record { event = c.standing.result.now; stands = c.standing.ensures; goes = c.in-Some.ensures }

pub returns-in-None-clause-ok : goal.returns-in-None-clause-ok
returns-in-None-clause-ok c = rows_skipped c.args.events.now c.args.position c.standing.result.now c.args.rows.now.entries c.standing.ensures c.in-None.ensures c.requires.rows
