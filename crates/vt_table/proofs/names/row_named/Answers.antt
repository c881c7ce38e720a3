use Rattle.std.proofs.Common.{◌≡◌, map, Ok, Err, Some, None, rules, of_calls}
use Rattle.std.proofs.lemmas.Fn.{always_returns_same}
use Rattle.std.specs.Ordering.{nat_cmp}
use Rattle.std.specs.Cmp.Lexicographic.{slice_cmp}
use Rattle.vt_table.specs.Names.{row_of}
use Rattle.vt_table.proofs.Search.{searched, none_at}
use Rattle.vt_table.proofs.names.row_named.Goals as goal

missed : (g : _) (c : goal.In_default g) → None ≡ row_of (map g.T.Named.name_of c.args.rows.now) c.args.name.now
missed g c =
    searched g.T.Named.name_of c.args.rows.now c.requires.rising c.args.name.now (Err c.in_default.field-0) c.in_default.ensures.bound
    (c.in_default.ensures.position (λ x. slice_cmp nat_cmp (g.T.Named.name_of x) c.args.name.now) (always_returns_same _ _ _ (λ a r f called. search (rules, of_calls))))

pub returns-in-Ok : goal.returns-in-Ok
returns-in-Ok g c =
    let found : Some c.in-Ok.row ≡ row_of (map g.T.Named.name_of c.args.rows.now) c.args.name.now =
    searched g.T.Named.name_of c.args.rows.now c.requires.rising c.args.name.now (Ok c.in-Ok.row) c.in-Ok.ensures.bound
    (c.in-Ok.ensures.position (λ x. slice_cmp nat_cmp (g.T.Named.name_of x) c.args.name.now) (always_returns_same _ _ _ (λ a r f called. search (rules, of_calls)))) in
    record {
      row = found;
      bound = c.in-Ok.ensures.bound;
      none = none_at (map g.T.Named.name_of c.args.rows.now) c.args.name.now (Some c.in-Ok.row) found;
    }

pub returns-in_default : goal.returns-in_default
returns-in_default g c = record {
  row = missed g c;
  bound = tt;
  none = none_at (map g.T.Named.name_of c.args.rows.now) c.args.name.now None (missed g c);
}
