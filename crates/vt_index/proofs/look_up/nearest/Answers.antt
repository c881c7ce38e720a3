use Rattle.std.proofs.Common.{List, subst, ◌∙◌}
use Rattle.std.specs.List.{Contains}
use Rattle.vt_event.specs.Order.{place_of}
use Rattle.vt_index.specs.declared.row.Row.{Row}
use Rattle.vt_index.specs.private.Nearest.{FitsRows, NearestOf}
use Rattle.vt_index.proofs.LookUpLemmas.{among_rows, at_text, value_from}
use Rattle.vt_index.proofs.look_up.nearest.Goals as goal

pub nearest_among-requires : goal.nearest_among-requires
nearest_among-requires c = λ row listed.
    let k = value_from c.args.rows.now.entries row (subst (λ (rows : List Row). Contains rows row) (c.as_slice.ensures ∙ c.values.ensures.rest) listed) in
    c.requires.rows k.0 row k.1

pub returns-in-Some : goal.returns-in-Some
returns-in-Some c =
    at_text c.args.events.now c.args.rows.now.entries c.args.pattern.now c.requires _ c.args.side (place_of c.args.place.now) c.nearest_at.result c.in-Some.ensures.text c.nearest_at.ensures

pub returns-in-None : goal.returns-in-None
returns-in-None c =
    among_rows c.args.events.now c.args.rows.now.entries c.args.pattern.now c.requires c.args.side (place_of c.args.place.now) c.nearest_among.result
    (subst (λ (rows : List Row). NearestOf (FitsRows c.args.events.now rows c.args.pattern.now) c.args.side (place_of c.args.place.now) c.nearest_among.result)
    (c.as_slice.ensures ∙ c.values.ensures.rest) c.nearest_among.ensures)
