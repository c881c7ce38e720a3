use Rattle.std.proofs.Common.{get_or}
use Rattle.std.proofs.lemmas.List.Elements.{Contains-get_or}
use Rattle.std.proofs.lemmas.Option.{slice_get-get_or}
use Rattle.vt_index.proofs.row.event_at.Goals as goal

pub standing-requires : goal.standing-requires
standing-requires c = c.requires.within (get_or c.args.at.now c.args.k 0) (Contains-get_or c.args.at.now c.args.k 0 c.requires.some)

pub returns : goal.returns
returns c = record { position = get_or c.args.at.now c.args.k 0; leads = slice_get-get_or c.args.at.now c.args.k 0 c.requires.some; stands = c.standing.ensures }
