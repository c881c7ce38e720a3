use Rattle.std.specs.Cmp.Lexicographic.{bytes_decides}
use Rattle.vt_index.proofs.EntryLemmas.{row_inserted}
use Rattle.vt_index.proofs.grow.add_row.Goals as goal

pub returns-clause-ok : goal.returns-clause-ok
returns-clause-ok c =
    row_inserted c.args.rows.now.entries c.insert.new.self.entries c.len-index.result c.args.text c.args.path.now _ _ c.in_ok-insert.ensures.entries c.requires
    (λ a b same. (bytes_decides a.items b.items).0 same) c.in_ok-copy.ensures c.new.ensures.items c.len-index.ensures.len
