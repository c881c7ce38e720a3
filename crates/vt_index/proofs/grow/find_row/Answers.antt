use Rattle.std.specs.Cmp.Lexicographic.{bytes_decides}
use Rattle.vt_index.proofs.EntryLemmas.{found_row}
use Rattle.vt_index.proofs.grow.find_row.Goals as goal

pub returns : goal.returns
returns c =
    found_row c.args.rows.now.entries c.args.text.now _ _ c.get_index_of.result c.get_index_of.ensures.index c.get_index_of.ensures.found c.get_index_of.ensures.unique
    (λ key. bytes_decides c.args.text.now key.items) (λ key other same. (bytes_decides key.items other.items).1 same)
