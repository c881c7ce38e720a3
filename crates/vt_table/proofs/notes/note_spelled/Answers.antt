use Rattle.std.proofs.Common.{Some, sym, ap, arith}
use Rattle.std.proofs.lemmas.Int.{ints}
use Rattle.vt_table.proofs.notes.note_spelled.Goals as goal

pub returns : goal.returns
returns c =
    rw (sym c.in_ok-pitch.ensures.value, sym c.in_ok-shift.ensures.value, sym c.in_ok-octave.ensures.value)
    (ap Some (omega (arith, ints, c.in_ok-pitch.ensures.bound, c.in_ok-shift.ensures.bound, c.in_ok-octave.ensures.bound)))
