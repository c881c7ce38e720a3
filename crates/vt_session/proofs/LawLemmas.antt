-- No lines are two sessions, or a session and refused, or refused for two lines.
use Rattle.std.proofs.Common.{◌≡◌, ℕ, ◌+◌, ◌<◌, Bool, true, false, pos, List, [], ◌∷◌, ◌++◌, length, All, refl, sym, ap, ◌∙◌, subst, arith, append_assoc, append-nil, length-append}
use Rattle.std.specs.List.{concat}
use Rattle.std.proofs.lemmas.List.Elements.{All-cons, All-nil}
use Rattle.vt_frac.specs.Fraction.{whole}
use Rattle.vt_frac.specs.Names.{begins}
use Rattle.vt_session.specs.Directives.{Line, PlainLine, VersionLine, AtLine, CueLine, SetLine, StopLine, HasForm, IsPlainLine, is_percent}
use Rattle.vt_session.specs.Laws.{EndsText, IsOtherDirective, IsTextOne, NotBoth, OneBadLine, OneSession, TextOneIsFirst}
use Rattle.vt_session.specs.Rules.{AreRead, FirstBadLine, Follow, Stands}
use Rattle.vt_session.specs.Sessions.{IsSession, SessionView, first_text, later_texts, session_of, text_before_directive}
use Rattle.vt_session.proofs.FormLemmas.{form_one, plain_or_percent}

one_reading : (before : List Line) (lines : List (List ℕ)) (a b : List Line) → Follow before lines a → Follow before lines b → a ≡ b
one_reading before [] [] [] f g = refl
one_reading before [] [] (y ∷ b) f g = absurd g
one_reading before [] (x ∷ a) b f g = absurd f
one_reading before (line ∷ lines) [] b f g = absurd f
one_reading before (line ∷ lines) (x ∷ a) [] f g = absurd g
one_reading before (line ∷ lines) (x ∷ a) (y ∷ b) f g =
    let same : y ≡ x = form_one y x line g.0.form f.0.form in
    let more = one_reading (before ++ x ∷ []) lines a b f.1 (subst (λ (z : Line). Follow (before ++ z ∷ []) lines b) same g.1) in
    ap (λ (xs : List Line). x ∷ xs) more ∙ ap (λ (z : Line). z ∷ b) (sym same)

pub one_session : OneSession
one_session lines a b f g = f.whole_session ∙ (ap session_of (one_reading [] lines f.what g.what f.read g.read) ∙ sym g.whole_session)

-- The lines behind the front, in a reading of all: the first of them stands somehow
record Goes (before : List Line) (front : List (List ℕ)) (line : List ℕ) (rest : List (List ℕ)) (read : List Line) : Type 0 where
  what : Line
  stands : Stands (before ++ read) line what

goes : (before : List Line) (front : List (List ℕ)) (line : List ℕ) (rest : List (List ℕ)) (read all : List Line) → Follow before front read → Follow before (front ++ line ∷ rest) all → Goes before front line rest read
goes before [] line rest [] [] f g = absurd g
goes before [] line rest [] (y ∷ all) f g = record { what = y; stands = subst (λ (b : List Line). Stands b line y) (sym (append-nil before)) g.0 }
goes before [] line rest (x ∷ read) all f g = absurd f
goes before (first ∷ front) line rest [] all f g = absurd f
goes before (first ∷ front) line rest (x ∷ read) [] f g = absurd g
goes before (first ∷ front) line rest (x ∷ read) (y ∷ all) f g =
    let same : y ≡ x = form_one y x first g.0.form f.0.form in
    let more = goes (before ++ x ∷ []) front line rest read all f.1 (subst (λ (z : Line). Follow (before ++ z ∷ []) (front ++ line ∷ rest) all) same g.1) in
    record { what = more.what; stands = subst (λ (b : List Line). Stands b line more.what) (append_assoc before (x ∷ []) read) more.stands }

pub not_both : NotBoth
not_both lines session number s b =
    let g = goes [] b.front b.bad b.rest b.before s.what b.good (subst (λ (ls : List (List ℕ)). AreRead ls s.what) b.whole s.read) in
    b.breaks g.what g.stands

-- of two bad lines the later one does not stand behind the earlier one
not_later : (before : List Line) (front : List (List ℕ)) (line : List ℕ) (rest other : List (List ℕ)) (later : List ℕ) (more : List (List ℕ)) (read all : List Line) → front ++ line ∷ rest ≡ other ++ later ∷ more → length front < length other → Follow before front read → Follow before other all → Goes before front line rest read
not_later before front line rest [] later more read all e short f g = absurd (omega arith)
not_later before [] line rest (o ∷ other) later more [] [] e short f g = absurd g
not_later before [] line rest (o ∷ other) later more [] (y ∷ all) e short f g =
    let z : ◌≡◌ {A = List (List ℕ)} (line ∷ rest) (o ∷ (other ++ later ∷ more)) = e in
    let same : o ≡ line = cc in
    record { what = y; stands = subst (λ (b : List Line). Stands b line y) (sym (append-nil before)) (subst (λ (l : List ℕ). Stands before l y) same g.0) }
not_later before [] line rest (o ∷ other) later more (x ∷ read) all e short f g = absurd f
not_later before (first ∷ front) line rest (o ∷ other) later more [] all e short f g = absurd f
not_later before (first ∷ front) line rest (o ∷ other) later more (x ∷ read) [] e short f g = absurd g
not_later before (first ∷ front) line rest (o ∷ other) later more (x ∷ read) (y ∷ all) e short f g =
    let z : ◌≡◌ {A = List (List ℕ)} (first ∷ (front ++ line ∷ rest)) (o ∷ (other ++ later ∷ more)) = e in
    let first_same : o ≡ first = cc in
    let rest_same : front ++ line ∷ rest ≡ other ++ later ∷ more = cc in
    let stands : Stands before first y = subst (λ (l : List ℕ). Stands before l y) first_same g.0 in
    let same : y ≡ x = form_one y x first stands.form f.0.form in
    let next = not_later (before ++ x ∷ []) front line rest other later more read all rest_same (omega arith) f.1 (subst (λ (z : Line). Follow (before ++ z ∷ []) other all) same g.1) in
    record { what = next.what; stands = subst (λ (b : List Line). Stands b line next.what) (append_assoc before (x ∷ []) read) next.stands }

no_earlier : (lines : List (List ℕ)) (m n : ℕ) (a : FirstBadLine lines m) (b : FirstBadLine lines n) → length a.front < length b.front → ⊥
no_earlier lines m n a b short =
    let g = not_later [] a.front a.bad a.rest b.front b.bad b.rest a.before b.before (sym a.whole ∙ b.whole) short a.good b.good in
    a.breaks g.what g.stands

pub one_bad_line : OneBadLine
one_bad_line lines m n a b = go (no_earlier lines m n a b) (no_earlier lines n m b a) where
  go : (length a.front < length b.front → ⊥) → (length b.front < length a.front → ⊥) → m ≡ n
  go f g = omega (arith, a.place, b.place)

-- Text 1

abbrev IsPlain : List ℕ → Type 0
IsPlain line = begins is_percent line ≡ false

-- a line that is no plain one begins with `%`
percent_of : (x : Line) (line : List ℕ) → HasForm x line → (x ≡ PlainLine line → ⊥) → begins is_percent line ≡ true
percent_of x line f differs = go (begins is_percent line) refl where
  go : (t : Bool) → begins is_percent line ≡ t → t ≡ true
  go true e = refl
  go false e = absurd (differs (plain_or_percent x line e f))

other_directive : (x : Line) (line : List ℕ) → HasForm x line → (x ≡ PlainLine line → ⊥) → (VersionLine ≡ x → ⊥) → IsOtherDirective line
other_directive x line f differs other = record {
  percent = percent_of x line f differs;
  other = λ h. other (form_one VersionLine x line h f);
}

-- the plain lines at the head, and what follows them
record HasText (lines : List (List ℕ)) (text : List ℕ) : Type 0 where
  own : List (List ℕ)
  rest : List (List ℕ)
  both : lines ≡ own ++ rest
  plain : All IsPlain own
  ends : EndsText rest
  bytes : text ≡ concat own

ended : (line : List ℕ) (lines : List (List ℕ)) → IsOtherDirective line → HasText (line ∷ lines) []
ended line lines d = record { own = []; rest = line ∷ lines; both = refl; plain = All-nil IsPlain; ends = d; bytes = refl }

with_plain : (line bytes text : List ℕ) (lines : List (List ℕ)) → IsPlainLine bytes line → HasText lines text → HasText (line ∷ lines) (bytes ++ text)
with_plain line bytes text lines p h = record {
  own = line ∷ h.own;
  rest = h.rest;
  both = ap (λ (ls : List (List ℕ)). line ∷ ls) h.both;
  plain = All-cons IsPlain line h.own p.plain h.plain;
  ends = h.ends;
  bytes = ap (λ (b : List ℕ). b ++ text) p.same ∙ ap (λ (t : List ℕ). line ++ t) h.bytes;
}

has_text : (before : List Line) (lines : List (List ℕ)) (what : List Line) → 0 < length before → Follow before lines what → HasText lines (text_before_directive what)
has_text before [] [] some f = record { own = []; rest = []; both = refl; plain = All-nil IsPlain; ends = tt; bytes = refl }
has_text before [] (x ∷ what) some f = absurd f
has_text before (line ∷ lines) [] some f = absurd f
has_text before (line ∷ lines) (PlainLine bytes ∷ what) some f =
    with_plain line bytes (text_before_directive what) lines f.0.form (has_text (before ++ PlainLine bytes ∷ []) lines what (omega (arith, length-append before (PlainLine bytes ∷ []))) f.1)
has_text before (line ∷ lines) (VersionLine ∷ what) some f = absurd (let none : before ≡ [] = f.0.version in omega (arith, ap length none))
has_text before (line ∷ lines) (AtLine time ∷ what) some f = ended line lines (other_directive (AtLine time) line f.0.form (λ e. cc) (λ e. cc))
has_text before (line ∷ lines) (CueLine time path values ∷ what) some f = ended line lines (other_directive (CueLine time path values) line f.0.form (λ e. cc) (λ e. cc))
has_text before (line ∷ lines) (SetLine time path value ∷ what) some f = ended line lines (other_directive (SetLine time path value) line f.0.form (λ e. cc) (λ e. cc))
has_text before (line ∷ lines) (StopLine time name ∷ what) some f = ended line lines (other_directive (StopLine time name) line f.0.form (λ e. cc) (λ e. cc))

text_one_at : (lines : List (List ℕ)) (text : List ℕ) → HasText lines text → IsTextOne lines (record { time = whole (pos 0); first_line = 1; text = text })
text_one_at lines text h = record {
  head = [];
  own = h.own;
  rest = h.rest;
  all_lines = h.both;
  head_form = tt;
  plain = h.plain;
  ends = h.ends;
  time = refl;
  first_line = refl;
  text = h.bytes;
}

text_one : (lines : List (List ℕ)) (what : List Line) → AreRead lines what → IsTextOne lines (first_text what)
text_one [] [] f = text_one_at [] [] (record { own = []; rest = []; both = refl; plain = All-nil IsPlain; ends = tt; bytes = refl })
text_one [] (x ∷ what) f = absurd f
text_one (line ∷ lines) [] f = absurd f
text_one (line ∷ lines) (PlainLine bytes ∷ what) f =
    text_one_at (line ∷ lines) (bytes ++ text_before_directive what) (with_plain line bytes (text_before_directive what) lines f.0.form (has_text (PlainLine bytes ∷ []) lines what (omega arith) f.1))
text_one (line ∷ lines) (VersionLine ∷ what) f =
    let h = has_text (VersionLine ∷ []) lines what (omega arith) f.1 in
    record {
      head = line ∷ [];
      own = h.own;
      rest = h.rest;
      all_lines = ap (λ (ls : List (List ℕ)). line ∷ ls) h.both;
      head_form = f.0.form;
      plain = h.plain;
      ends = h.ends;
      time = refl;
      first_line = refl;
      text = h.bytes;
    }
text_one (line ∷ lines) (AtLine time ∷ what) f = text_one_at (line ∷ lines) [] (ended line lines (other_directive (AtLine time) line f.0.form (λ e. cc) (λ e. cc)))
text_one (line ∷ lines) (CueLine time path values ∷ what) f = text_one_at (line ∷ lines) [] (ended line lines (other_directive (CueLine time path values) line f.0.form (λ e. cc) (λ e. cc)))
text_one (line ∷ lines) (SetLine time path value ∷ what) f = text_one_at (line ∷ lines) [] (ended line lines (other_directive (SetLine time path value) line f.0.form (λ e. cc) (λ e. cc)))
text_one (line ∷ lines) (StopLine time name ∷ what) f = text_one_at (line ∷ lines) [] (ended line lines (other_directive (StopLine time name) line f.0.form (λ e. cc) (λ e. cc)))

pub text_one_is_first : TextOneIsFirst
text_one_is_first lines session s = record {
  part = first_text s.what;
  others = later_texts 1 s.what;
  all_texts = ap (λ (v : SessionView). v.texts) s.whole_session;
  text_one = text_one lines s.what s.read;
}
