use Rattle.std.proofs.Common.{◌≡◌}
use Rattle.vt_gen.specs.Session.{session_text_of}
use Rattle.vt_gen.proofs.sessions.session_text.Given as goal

abbrev pub invariant-loop-i : goal.invariant-loop-i
invariant-loop-i l = record {
  so_far : l.text.items ≡ session_text_of l.seed l.i l.beats;
  seed : l.stream.seed ≡ l.seed;
  drawn : l.stream.drawn ≡ l.i;
}
