use Rattle.std.proofs.Common.{◌∙◌, refl}
use Rattle.vt_table.specs.Calls.{calls, names_of}
use Rattle.vt_table.proofs.CallLemmas.{call_found, call_is_named, call_missed}
use Rattle.vt_table.proofs.calls.call_of.Goals as goal

pub entry_at-entry-requires : goal.entry_at-entry-requires
entry_at-entry-requires c = c.in_ok-number.ensures.bound

pub returns-in_err-number : goal.returns-in_err-number
returns-in_err-number c = record {
  row = c.from_residual.ensures ∙ call_missed (names_of calls) refl c.args.name.now c.in_err-number.ensures.row;
  bound = rw c.from_residual.ensures tt;
  call = rw c.from_residual.ensures tt;
  none = rw c.from_residual.ensures c.in_err-number.ensures.none;
}

pub returns : goal.returns
returns c = record {
  row = call_found (names_of calls) refl c.args.name.now c.in_ok-number.number _ c.in_ok-number.ensures.row c.entry_at-entry.ensures;
  bound = c.in_ok-number.ensures.bound;
  call = call_is_named (names_of calls) refl c.args.name.now c.in_ok-number.number c.in_ok-number.ensures.row;
  none = c.in_ok-number.ensures.none;
}
