-- Line by line: what is read of bytes, and what is left.
use Rattle.std.proofs.Common.{◌≡◌, ℕ, ◌+◌, ◌<◌, ◌≤◌, List, [], ◌∷◌, ◌++◌, length, Ok, Err, refl, sym, ap, ◌∙◌, subst, arith, append_assoc, append-nil, length-append}
use Rattle.std.specs.List.{concat}
use Rattle.vt_session.specs.declared.fault.SessionFault.{SessionFault}
use Rattle.vt_session.specs.declared.fault.SessionFault.TheVariants.{BadSession, NoMemory}
use Rattle.vt_session.specs.Directives.{Line}
use Rattle.vt_session.specs.Lines.{lines_of}
use Rattle.vt_session.specs.Rules.{AreRead, FirstBadLine, Stands}
use Rattle.vt_session.specs.Sessions.{IsRefusal, IsSession, SessionView, session_of}
use Rattle.vt_session.specs.private.Standing.{Holds, IsLineRead, IsWhole, Standing}
use Rattle.vt_session.proofs.LineLemmas.{lines_count, nothing_lost}
use Rattle.vt_session.proofs.StandingLemmas.{follow_length, follow_more_lines, inputs_below}

-- these lines are read, and these bytes are left
pub record Reads (bytes left : List ℕ) (s : Standing) : Type 0 where
  pub front : List (List ℕ)
  pub what : List Line
  pub split : lines_of bytes ≡ front ++ lines_of left
  pub read : AreRead front what
  pub holds : Holds what s
  pub few : s.number + length left ≤ length bytes

pub reads_none : (bytes : List ℕ) (s : Standing) → Holds [] s → Reads bytes bytes s
reads_none bytes s h = record { front = []; what = []; split = refl; read = tt; holds = h; few = omega (arith, h.number) }

pub reads_more : (bytes left line rest : List ℕ) (s t : Standing) (r : Reads bytes left s) → lines_of left ≡ line ∷ lines_of rest → length left ≡ length line + length rest → 0 < length line → (what : Line) → Stands r.what line what → Holds (r.what ++ what ∷ []) t → Reads bytes rest t
reads_more bytes left line rest s t r cut size some what stands h = record {
  front = r.front ++ line ∷ [];
  what = r.what ++ what ∷ [];
  split = r.split ∙ (ap (λ (ls : List (List ℕ)). r.front ++ ls) cut ∙ sym (append_assoc r.front (line ∷ []) (lines_of rest)));
  read = follow_more_lines [] r.front r.what line what r.read stands;
  holds = h;
  few = omega (arith, r.few, h.number, r.holds.number, length-append r.what (what ∷ []), size, some);
}

pub reads_bad : (bytes left line rest : List ℕ) (s : Standing) (r : Reads bytes left s) → lines_of left ≡ line ∷ lines_of rest → (number : ℕ) → number ≡ length r.what + 1 → ((what : Line) → Stands r.what line what → ⊥) → FirstBadLine (lines_of bytes) number
reads_bad bytes left line rest s r cut number place breaks = record {
  front = r.front;
  bad = line;
  rest = lines_of rest;
  whole = r.split ∙ ap (λ (ls : List (List ℕ)). r.front ++ ls) cut;
  place = omega (arith, place, follow_length [] r.front r.what r.read);
  before = r.what;
  good = r.read;
  breaks = breaks;
}

pub reads_refused : (bytes left line rest : List ℕ) (s t : Standing) (r : Reads bytes left s) → lines_of left ≡ line ∷ lines_of rest → (fault : SessionFault) → IsLineRead r.what line (Err fault) t → IsRefusal (lines_of bytes) fault
reads_refused bytes left line rest s t r cut (BadSession number) h = reads_bad bytes left line rest s r cut number h.0 h.1
reads_refused bytes left line rest s t r cut NoMemory h = tt

pub reads_taken : (bytes left line rest : List ℕ) (s t : Standing) (r : Reads bytes left s) → lines_of left ≡ line ∷ lines_of rest → length left ≡ length line + length rest → 0 < length line → (done : Unit) → IsLineRead r.what line (Ok done) t → Reads bytes rest t
reads_taken bytes left line rest s t r cut size some done h = reads_more bytes left line rest s t r cut size some h.0 h.1 h.2

pub reads_inputs : (bytes left : List ℕ) (s : Standing) → Reads bytes left s → length s.inputs ≤ s.number
reads_inputs bytes left s r = inputs_below r.what s r.holds

-- at the end
all_lines : (bytes left : List ℕ) (s : Standing) (r : Reads bytes left s) → left ≡ [] → r.front ≡ lines_of bytes
unfolding lines_of
all_lines bytes left s r e = sym (append-nil r.front) ∙ sym (r.split ∙ ap (λ (xs : List ℕ). r.front ++ lines_of xs) e)

pub reads_whole : (bytes left : List ℕ) (s : Standing) → Reads bytes left s → left ≡ [] → length bytes ≤ 1048576 → IsWhole s
reads_whole bytes left s r e short =
    let all = all_lines bytes left s r e in
    record {
      lines = r.front;
      what = r.what;
      read = r.read;
      holds = r.holds;
      few = omega (arith, ap length all, lines_count bytes);
      short = omega (arith, ap (λ (ls : List (List ℕ)). length (concat ls)) all, ap length (nothing_lost bytes));
    }

pub reads_session : (bytes left : List ℕ) (s : Standing) (r : Reads bytes left s) → left ≡ [] → (session : SessionView) → ((what : List Line) → Holds what s → session ≡ session_of what) → IsSession (lines_of bytes) session
reads_session bytes left s r e session h = record {
  what = r.what;
  read = subst (λ (ls : List (List ℕ)). AreRead ls r.what) (all_lines bytes left s r e) r.read;
  whole_session = h r.what r.holds;
}
